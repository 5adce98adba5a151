use Rattle.std.proofs.Common.{[], ◌∷◌, subst}
use Rattle.pure_grammar.specs.Terms.RawTree.{RawTree, RawTypTree}
use Rattle.pure_elab.specs.Drafts.{draft, raw_typ_place}
use Rattle.pure_elab.specs.Written.{written_typ}
use Rattle.pure_elab.specs.Scope.{binders_of}
use Rattle.pure_elab.specs.Table.{sort_among}
use Rattle.pure_elab.specs.Drafted.{IsDrafted, AreAdded}
use Rattle.pure_elab.proofs.DraftedLaws.{constrained_drafted}
use Rattle.pure_elab.proofs.draft.+draft.Goals as goal

pub returns-in_ok-constrain_to_written-in-Typed-clause-draft : goal.returns-in_ok-constrain_to_written-in-Typed-clause-draft
returns-in_ok-constrain_to_written-in-Typed-clause-draft g t c =
    let V = g.L.Language.vocabulary c.args.language.now in
    let sorts = sort_among c.args.sorts.now in
    let bs = binders_of c.args.scope.now in
    let term = c.in_ok-drafted-in-Typed.drafted.term.value in
    let typ = c.in_ok-drafted-in-Typed.drafted.typ in
    let inside : IsDrafted (draft V sorts bs c.in-Typed.term.value c.args.constraints.now.next) c.args.constraints.now c.draft-in-Typed.new.constraints term typ =
    subst (λ (r : RawTree). IsDrafted (draft V sorts bs r c.args.constraints.now.next) c.args.constraints.now c.draft-in-Typed.new.constraints term typ) c.deref-in-Typed.ensures c.in_ok-drafted-in-Typed.ensures.draft in
    let added : AreAdded (record { at = raw_typ_place c.in-Typed.typ.value; left = typ; right = written_typ V sorts c.in-Typed.typ.value } ∷ []) c.draft-in-Typed.new.constraints.next c.draft-in-Typed.new.constraints c.constrain_to_written.new.constraints =
    subst (λ (r : RawTypTree). AreAdded (record { at = raw_typ_place r; left = typ; right = written_typ V sorts r } ∷ []) c.draft-in-Typed.new.constraints.next c.draft-in-Typed.new.constraints c.constrain_to_written.new.constraints) c.deref-in-Typed-2.ensures c.in_ok-constrain_to_written-in-Typed.ensures.added in
    rw (← c.raw.view_is, c.in-Typed.is) (constrained_drafted (draft V sorts bs c.in-Typed.term.value c.args.constraints.now.next) (raw_typ_place c.in-Typed.typ.value) (written_typ V sorts c.in-Typed.typ.value)
    c.args.constraints.now c.draft-in-Typed.new.constraints c.constrain_to_written.new.constraints term typ inside added)
