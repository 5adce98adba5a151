use Rattle.std.proofs.Common.{refl, arith}
use Rattle.std.specs.Vec.Iter.{into_iter_items}
use Rattle.pure_graph.specs.Seen.{seen_outcome}
use Rattle.pure_graph.proofs.DraftLemmas.{counted-none, counted-turn, counted-end}
use Rattle.pure_graph.proofs.files.counted_files.Goals as goal

pub loop-draft-init : goal.loop-draft-init
loop-draft-init c = record {
  so_far = counted-none c.args.before c.args.drafts.items _ _ _ refl refl c.into_iter-draft-iterator.ensures.into_iter_gives.0;
  few = c.requires;
}

pub loop-draft-preserved : goal.loop-draft-preserved
loop-draft-preserved c = record {
  so_far = counted-turn c.args.before c.args.drafts.items (into_iter_items c.loop-draft.draft-iterator) (into_iter_items c.next.new.self) c.in-Some.draft c.loop-draft.files.items c.push.new.self.items _
      (seen_outcome c.in_ok-theory.field-0.outcome) c.loop-draft.parts c.counted-outcome.new.before
      c.in-Some.ensures.steps.0 c.in_ok-theory.ensures.theory c.in_ok-theory.ensures.own c.counted-outcome.ensures.said c.counted-outcome.ensures.sum c.in_ok-push.ensures.items c.loop-draft.invariant.so_far;
  few = c.counted-outcome.ensures.few;
}

pub returns-clause-behind : goal.returns-clause-behind
returns-clause-behind c = counted-end c.args.before c.args.drafts.items (into_iter_items c.loop-draft.draft-iterator) c.loop-draft.files.items c.loop-draft.parts
    (omega (arith, c.loop-draft.draft-iterator.rest.ok.0, c.in-None.ensures.steps.0)) c.loop-draft.invariant.so_far
