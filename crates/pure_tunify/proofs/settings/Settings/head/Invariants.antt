use Rattle.std.proofs.Common.{◌≡◌}
use Rattle.pure_definitions.specs.Terms.Subst.{typ_instance}
use Rattle.pure_tunify.specs.Unifiers.{IsOld}
use Rattle.pure_tunify.specs.Settings.{composed}
use Rattle.pure_tunify.proofs.settings.Settings.head.Given as goal

abbrev pub invariant-loop : goal.invariant-loop
invariant-loop l = record {
  same : typ_instance (composed l.self.sets) l.top ≡ typ_instance (composed l.self.sets) l.initial.top;
  old : IsOld l.self.index l.self.next l.initial.top → IsOld l.self.index l.self.next l.top;
}
