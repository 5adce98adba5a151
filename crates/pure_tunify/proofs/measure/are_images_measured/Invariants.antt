use Rattle.std.proofs.Common.{drop, length, ◌≤◌}
use Rattle.pure_text.specs.Lists.{Each}
use Rattle.pure_definitions.specs.Terms.Limits.{IsWithinTyp}
use Rattle.pure_definitions.specs.Terms.Subst.{typ_instance}
use Rattle.pure_tunify.specs.Settings.{composed}
use Rattle.pure_tunify.specs.Measures.{AreMeasures}
use Rattle.pure_tunify.proofs.measure.are_images_measured.Given as goal

abbrev pub invariant-loop-left : goal.invariant-loop-left
invariant-loop-left l = record {
  known : AreMeasures l.settings.sets l.known;
  within : Each (λ b. IsWithinTyp (typ_instance (composed l.settings.sets) b.image)) (drop l.left l.settings.sets);
  short : l.left ≤ length l.settings.sets;
}

abbrev pub decreases-loop-left : goal.decreases-loop-left
decreases-loop-left l = l.left
