use Rattle.std.proofs.Common.{refl, arith, ◌∙◌}
use Rattle.pure_row_places.specs.Headers.{IsLookedAtAs}
use Rattle.pure_row_places.proofs.LoopLaws.{two-more, two-all, told-moved}
use Rattle.pure_row_places.proofs.headers.refused_scans.Goals as goal

pub loop-file-init : goal.loop-file-init
loop-file-init g c = record {
  so_far = rw c.new-found.ensures.items tt;
  same = refl;
  later = omega arith;
}

pub loop-file-preserved : goal.loop-file-preserved
loop-file-preserved g c = record {
  so_far = two-more (IsLookedAtAs (g.L.Library.files c.args.library.now)) c.args.refused.now c.loop-file.file-index _ c.loop-file.found.items _ _ c.loop-file-test.true c.file-item.is c.loop-file.invariant.so_far
      (told-moved _ _ c.loop-file.invariant.same _ _ c.in_ok-scan.ensures.told) c.in_ok-put.ensures;
  same = c.in_ok-scan.ensures.files ∙ c.loop-file.invariant.same;
  later = omega arith;
}

pub returns-clause-told : goal.returns-clause-told
returns-clause-told g c = two-all (IsLookedAtAs (g.L.Library.files c.args.library.now)) c.args.refused.now c.loop-file.file-index c.loop-file.found.items c.loop-file-test.false c.loop-file.invariant.so_far
