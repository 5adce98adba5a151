use Rattle.std.proofs.Common.{◌∙◌, List, [], ◌∷◌, ◌++◌, refl, subst}
use Rattle.pure_definitions.specs.Declarations.Decl.{Decl, ConstDecl}
use Rattle.pure_replay.specs.Added.{IsAddable}
use Rattle.pure_replay.proofs.ItemLaws.{const-taken, const-free, classless-more}
use Rattle.pure_replay.proofs.items.with_const.Goals as goal

pub returns-in-Some : goal.returns-in-Some
returns-in-Some c =
    subst (λ (ds : List Decl). ¬ IsAddable ds (ConstDecl c.args.name c.args.typ.now)) c.declared.view_is
    (const-taken c.declared.inside.list c.args.name c.args.typ.now c.in-Some.field-0.now ((c.in-Some.ensures c.in-Some.field-0.now).1 refl))

pub of-requires : goal.of-requires
of-requires c = classless-more c.declared.inside.list c.in_ok-list.list (ConstDecl c.args.name c.in_ok-pointer.pointer.value) tt c.declared.invariant.1 c.in_ok-list.ensures

pub returns : goal.returns
returns c = (
  c.of.ensures ∙ (c.in_ok-list.ensures ∙ (λ i. c.declared.view_is i ++ ConstDecl c.args.name (c.in_ok-pointer.ensures i) ∷ [])),
  subst (λ (ds : List Decl). IsAddable ds (ConstDecl c.args.name c.args.typ.now)) c.declared.view_is
      (const-free c.declared.inside.list c.args.name c.args.typ.now c.in_default.ensures (c.is_schematic_typ.ensures.0 c.if-not-is_schematic_typ.false)),
)
