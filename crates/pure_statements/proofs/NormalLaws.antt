-- A term in normal form and within the limits is its own normal form.
use Rattle.std.proofs.Common.{[], refl, arith}
use Rattle.pure_definitions.specs.Terms.Term.{Term, IsWithin}
use Rattle.pure_definitions.specs.Reduction.Beta.{IsBetaNormal, IsBetaAnswer, NormalForm}

pub own-normal_form : (t : Term) → IsBetaNormal t → IsWithin t → IsBetaAnswer t (NormalForm t)
own-normal_form t normal within = record { before = []; last = t; sequence = refl; undecided = tt; in_time = omega arith; decided = (within, normal, refl) }
