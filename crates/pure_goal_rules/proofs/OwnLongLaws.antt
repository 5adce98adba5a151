-- Terms that are their own long forms.
use Rattle.std.proofs.Common.{[], refl, arith}
use Rattle.pure_definitions.specs.Terms.Term.{Term, IsWithin}
use Rattle.pure_definitions.specs.Reduction.Eta.{IsLongForm}
use Rattle.pure_unify_definitions.specs.LongSides.{Long, ComesTo, is_long}

pub long-comes : (t : Term) → IsLongForm t t → IsWithin t → ComesTo t (Long t)
long-comes t f w = is_long (record { before = []; last = t; sequence = refl; undecided = tt; in_time = omega arith; decided = (w, f.normal, refl) }) f w
