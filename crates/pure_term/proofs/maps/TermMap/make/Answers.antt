use Rattle.std.proofs.Common.{◌∙◌, ◌++◌, sym, ap, subst}
use Rattle.std.specs.Vec.Iter.{into_iter_items}
use Rattle.pure_definitions.specs.Terms.Subst.{IsTermMap, term_variable}
use Rattle.pure_typ.proofs.KeyLemmas.{key-new}
use Rattle.pure_term.proofs.maps.TermMap.make.Goals as goal

pub push-requires : goal.push-requires
push-requires c =
    key-new term_variable c.loop-bind.made (into_iter_items c.next.new.self) c.in-Some.bind
    (subst (λ bs. IsTermMap bs) (sym c.loop-bind.invariant ∙ ap (λ rest. c.loop-bind.made ++ rest) c.in-Some.ensures.steps.0) c.requires)
