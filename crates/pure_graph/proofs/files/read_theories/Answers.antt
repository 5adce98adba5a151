use Rattle.std.proofs.Common.{refl, subst, arith, take_all, ◌∙◌}
use Rattle.pure_graph.specs.Drafts.{IsReadTo}
use Rattle.pure_graph.proofs.DraftLemmas.{read-none, read-turn}
use Rattle.pure_graph.proofs.files.read_theories.Goals as goal

pub loop-place-init : goal.loop-place-init
loop-place-init g c = record {
  so_far = read-none (g.L.Library.files c.args.library.now) c.args.theories.now _ c.new.ensures.items;
  few = omega arith;
  within = omega arith;
  same = refl;
  later = omega arith;
}

pub loop-place-preserved : goal.loop-place-preserved
loop-place-preserved g c = record {
  so_far = read-turn (g.L.Library.files c.args.library.now) (g.L.Library.files c.loop-place.library) c.args.theories.now _ c.loop-place.place _ c.loop-place.read c.in_ok-more.more
      c.loop-place.invariant.same (omega arith) (omega arith) refl c.in_ok-more.ensures.told c.loop-place.invariant.so_far;
  few = c.in_ok-more.ensures.few;
  within = omega arith;
  same = c.in_ok-more.ensures.files ∙ c.loop-place.invariant.same;
  later = omega arith;
}

pub returns-clause-told : goal.returns-clause-told
returns-clause-told g c = subst (λ ts. IsReadTo (g.L.Library.files c.args.library.now) ts c.loop-place.read) (take_all c.loop-place.place c.args.theories.now (omega arith)) c.loop-place.invariant.so_far
