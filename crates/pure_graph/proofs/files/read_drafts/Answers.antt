use Rattle.std.proofs.Common.{refl, subst, sym, arith, ◌∙◌, []}
use Rattle.pure_graph.specs.Drafts.{AreDraftsFrom}
use Rattle.pure_graph.proofs.DraftLemmas.{drafts-turn, drafts-end, long-none, long-turn}
use Rattle.pure_graph.proofs.files.read_drafts.Goals as goal

pub loop-theory-init : goal.loop-theory-init
loop-theory-init g c = record {
  so_far = subst (AreDraftsFrom (g.L.Library.files c.args.library.now) c.args.place []) (sym c.new-drafts.ensures.items) tt;
  many = long-none _ c.new-drafts.ensures.items;
  same = refl;
  later = omega arith;
}

pub loop-theory-preserved : goal.loop-theory-preserved
loop-theory-preserved g c = record {
  so_far = drafts-turn (g.L.Library.files c.args.library.now) (g.L.Library.files c.loop-theory.library) c.args.place c.args.theories.now c.loop-theory.theory-index _
      c.loop-theory.drafts.items c.push.new.self.items _ _
      c.loop-theory.invariant.same c.loop-theory-test.true c.theory-item.is (omega (arith, c.len.ensures, c.loop-theory.drafts.ok)) c.loop-theory.invariant.so_far c.in_ok-known.ensures.told
      c.in_ok-theory.ensures c.in_ok-push.ensures.items;
  many = long-turn c.loop-theory.drafts.items _ c.push.new.self.items c.loop-theory.theory-index c.loop-theory.invariant.many c.in_ok-push.ensures.items;
  same = c.in_ok-known.ensures.files ∙ c.loop-theory.invariant.same;
  later = omega arith;
}

pub returns-clause-told : goal.returns-clause-told
returns-clause-told g c = drafts-end (g.L.Library.files c.args.library.now) c.args.place c.args.theories.now c.loop-theory.theory-index c.loop-theory.drafts.items c.loop-theory-test.false c.loop-theory.invariant.so_far
