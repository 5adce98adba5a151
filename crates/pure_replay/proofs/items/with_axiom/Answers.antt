use Rattle.std.proofs.Common.{◌∙◌, List, [], ◌∷◌, ◌++◌, refl, ap, subst}
use Rattle.std.specs.Prelude.{IfOk}
use Rattle.pure_definitions.specs.Terms.Term.{Term}
use Rattle.pure_definitions.specs.Declarations.Decl.{Decl, AxiomDecl}
use Rattle.pure_replay.specs.Added.{IsAddable, IsAdded}
use Rattle.pure_replay.proofs.ItemLaws.{axiom-taken, axiom-answer, classless-more}
use Rattle.pure_replay.proofs.items.with_axiom.Goals as goal

pub returns-in-Some : goal.returns-in-Some
returns-in-Some c =
    subst (λ (ds : List Decl). ¬ IsAddable ds (AxiomDecl c.args.name c.args.prop.now)) c.declared.view_is
    (axiom-taken c.declared.inside.list c.args.name c.args.prop.now c.in-Some.field-0.now ((c.in-Some.ensures c.in-Some.field-0.now).1 refl))

pub of-requires : goal.of-requires
of-requires c = classless-more c.declared.inside.list c.in_ok-list.list (AxiomDecl c.args.name c.in_ok-pointer.pointer.value) tt c.declared.invariant.1 c.in_ok-list.ensures

pub returns : goal.returns
returns c =
    subst (λ (ds : List Decl). IfOk c.stating.result (λ more. IsAdded ds (AxiomDecl c.args.name c.args.prop.now) more)) c.declared.view_is
    (axiom-answer c.declared.inside.list c.of.result c.args.name c.args.prop.now c.in_default.ensures
    (c.of.ensures ∙ (c.in_ok-list.ensures ∙ ap (λ (A : Term). c.declared.inside.list ++ AxiomDecl c.args.name A ∷ []) c.in_ok-pointer.ensures)) c.stating.result c.stating.ensures)
