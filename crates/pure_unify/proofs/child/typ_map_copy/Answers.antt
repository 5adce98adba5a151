use Rattle.std.proofs.Common.{List, ◌∙◌, sym, subst}
use Rattle.std.proofs.lemmas.List.{take_all}
use Rattle.pure_definitions.specs.Terms.Subst.{TypBind, IsTypMap}
use Rattle.pure_unify.proofs.child.typ_map_copy.Goals as goal

pub make-requires : goal.make-requires
make-requires c =
    subst (λ (bs : List TypBind). IsTypMap bs) (sym (c.loop-bind.invariant ∙ (take_all c.loop-bind.bind-index c.binds-given.result.now c.loop-bind-test.false ∙ c.binds-given.ensures.are))) c.binds-given.ensures.distinct
