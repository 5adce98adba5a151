use Rattle.std.proofs.Common.{◌∙◌}
use Rattle.pure_tunify.proofs.WrittenLaws.{image_same, image_old}
use Rattle.pure_tunify.proofs.settings.Settings.head.Goals as goal

pub loop-preserved : goal.loop-preserved
loop-preserved c = record {
  same = image_same c.args.self.now c.loop.top.now c.in-Some.image.now c.in-Some.ensures.tidy c.in-Some.ensures.image.0 c.in-Some.ensures.image.1 ∙ c.loop.invariant.same;
  old = λ h. image_old c.args.self.now c.loop.top.now c.in-Some.image.now c.in-Some.ensures.tidy c.in-Some.ensures.image.1 (c.loop.invariant.old h);
}
