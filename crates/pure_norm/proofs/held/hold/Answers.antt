use Rattle.std.proofs.Common.{◌≡◌, sym}
use Rattle.pure_definitions.specs.Terms.Term.{Bound}
use Rattle.pure_definitions.specs.Terms.Bounds.{lift_term}
use Rattle.pure_term_laws.proofs.BoundLaws.{lift-zero}
use Rattle.pure_norm.specs.Env.{meant}
use Rattle.pure_norm.proofs.FoundLemmas.{held-same}
use Rattle.pure_norm.proofs.held.hold.Goals as goal

pub returns-in-Kept : goal.returns-in-Kept
returns-in-Kept c =
    let b : c.args.arg.now.term.now ≡ Bound c.in-Some.place = c.in-Some.ensures in
    let same : meant c.args.scope.now.value c.args.arg.now.term.now ≡ lift_term 0 0 (meant c.deref.result.now (Bound c.in-Some.place)) =
    rw (b, c.deref.ensures) (sym (lift-zero 0 (meant c.args.scope.now.value (Bound c.in-Some.place)))) in
    let found = rw c.in-Kept.is at c.in_ok-held.ensures in
    held-same (meant c.args.scope.now.value c.args.arg.now.term.now) (lift_term 0 0 (meant c.deref.result.now (Bound c.in-Some.place))) c.in-Kept.held same found.0
