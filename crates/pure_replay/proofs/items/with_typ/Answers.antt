use Rattle.std.proofs.Common.{◌∙◌, List, [], ◌∷◌, ◌++◌, refl, ap, subst}
use Rattle.pure_definitions.specs.Declarations.Decl.{Decl, ConDecl}
use Rattle.pure_replay.specs.Added.{IsAddable}
use Rattle.pure_replay.proofs.ItemLaws.{typ-taken, typ-free, classless-more}
use Rattle.pure_replay.proofs.items.with_typ.Goals as goal

pub returns-in-Some : goal.returns-in-Some
returns-in-Some c =
    subst (λ (ds : List Decl). ¬ IsAddable ds (ConDecl c.args.name c.args.params)) c.declared.view_is
    (typ-taken c.declared.inside.list c.args.name c.args.params c.in-Some.field-0 ((c.in-Some.ensures c.in-Some.field-0).1 refl))

pub of-requires : goal.of-requires
of-requires c = classless-more c.declared.inside.list c.in_ok-list.list (ConDecl c.args.name c.args.params) tt c.declared.invariant.1 c.in_ok-list.ensures

pub returns : goal.returns
returns c = (
  c.of.ensures ∙ (c.in_ok-list.ensures ∙ ap (λ (ds : List Decl). ds ++ ConDecl c.args.name c.args.params ∷ []) c.declared.view_is),
  subst (λ (ds : List Decl). IsAddable ds (ConDecl c.args.name c.args.params)) c.declared.view_is (typ-free c.declared.inside.list c.args.name c.args.params c.in_default.ensures),
)
