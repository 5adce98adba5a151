use Rattle.std.proofs.Common.{ℕ, sym, subst}
use Rattle.pure_text.specs.Lists.{Each}
use Rattle.pure_inst.specs.Renaming.{IsRaisable, IsPairRaisable}
use Rattle.pure_inst.proofs.RenamingLaws.{raisable-none, raisable-none_pairs}
use Rattle.pure_inst.proofs.schematic.renamed_conclusion.Goals as goal

pub renamed_pairs-requires : goal.renamed_pairs-requires
renamed_pairs-requires c = subst (λ (n : ℕ). Each (IsPairRaisable n) c.deref-2.result.now) (sym c.requires) (raisable-none_pairs c.deref-2.result.now)

pub renamed-requires : goal.renamed-requires
renamed-requires c = subst (λ (n : ℕ). IsRaisable n c.th.inside.prop) (sym c.requires) (raisable-none c.th.inside.prop)
