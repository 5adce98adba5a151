use Rattle.std.proofs.Common.{◌≡◌, sym, ◌∙◌, ap, refl, append_assoc, ◌++◌, ◌∷◌, []}
use Rattle.std.proofs.lemmas.List.{append-nil}
use Rattle.pure_graph.proofs.ListingLemmas.{HasTheories-none, HasTheories-step, HasTheories-all, HasTheories-other, HasTheories-more, AreTheories-from_set}
use Rattle.pure_graph.proofs.listing.theories_of.Goals.{in-Some+in_ok-make+in_ok-insert, in_default}
use Rattle.pure_graph.proofs.listing.theories_of.Goals as goal

pub loop-name-init : goal.loop-name-init
loop-name-init c = HasTheories-none _ c.new-found.ensures.empty

pub loop-name-preserved : goal.loop-name-preserved
loop-name-preserved c = HasTheories-step _ _ _ _ c.loop-name-test.true c.name-item.is (elim c.match-theory_of.branch [
  | in-Some+in_ok-make+in_ok-insert w ↦
      rw w.found-is (HasTheories-more _ _ _ _ _ _ c.loop-name.invariant w.in-Some.ensures.0 (sym c.bytes.ensures ∙ w.in-Some.ensures.1) w.in_ok-make.ensures w.in_ok-insert.ensures.updates)
  | in_default w ↦ rw w.found-is (HasTheories-other _ _ _ c.loop-name.invariant (rw c.bytes.ensures at w.in_default.ensures))
])

pub loop-theory-init : goal.loop-theory-init
loop-theory-init c = rw c.new-theories.ensures.items refl

pub loop-theory-preserved : goal.loop-theory-preserved
loop-theory-preserved c =
    rw (c.in_ok-push.ensures.items, c.in_ok-copy.ensures)
    (append_assoc c.loop-theory.theories.items (c.in-Some-theory.theory.now ∷ []) c.next.new.self
    ∙ ap (λ rest. c.loop-theory.theories.items ++ rest) (sym c.in-Some-theory.ensures.steps) ∙ c.loop-theory.invariant)

pub returns : goal.returns
returns c =
    let all : c.loop-theory.theories.items ≡ c.loop-name.found.keys =
    sym (append-nil c.loop-theory.theories.items) ∙ ap (λ rest. c.loop-theory.theories.items ++ rest) (sym c.in-None.ensures.steps.0)
    ∙ c.loop-theory.invariant ∙ c.into_iter-theory-iterator.ensures.into_iter_gives ∙ c.iter-theory-items.ensures.rest in
    AreTheories-from_set _ _ _ (HasTheories-all _ _ _ c.loop-name-test.false c.loop-name.invariant) c.iter-theory-items.ensures.ordered all
