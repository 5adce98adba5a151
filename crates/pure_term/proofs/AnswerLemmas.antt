-- What a call for a term's type answers, from what it answers for the parts of the term.
use Rattle.std.proofs.Common.{◌≡◌, ℕ, ◌+◌, List, ◌∷◌, refl, arith, inl, inr, subst}
use Rattle.std.specs.Prelude.{Result, Ok, Err}
use Rattle.pure_definitions.specs.Types.Typ.{Typ}
use Rattle.pure_definitions.specs.Terms.Term.{Term, Abs, App}
use Rattle.pure_definitions.specs.Terms.Typing.{HasType, Takes, node_count}
use Rattle.pure_definitions.specs.Terms.Limits.{cut_off}
use Rattle.pure_term.specs.TypeAnswer.{IsTypeAnswer, IsFoundAnswer, found_typ, deeper_fault}
use Rattle.pure_term.specs.declared.typing.Found.{Found}
use Rattle.pure_term.specs.declared.typing.TypeFault.{TypeFault}
use Rattle.pure_term.specs.declared.typing.TypeFault.TheVariants.{NotTyped, Memory}

body_fault : (bs : List Typ) (T : Typ) (b : Term) (fault : TypeFault) → IsTypeAnswer (T ∷ bs) b (Err fault) → IsTypeAnswer bs (Abs T b) (Err (deeper_fault 1 fault))
body_fault bs T b (NotTyped cut) (place, at, e) = (1 + place, (place, at, refl), omega arith)
body_fault bs T b Memory h = tt

function_fault : (bs : List Typ) (f a : Term) (fault : TypeFault) → IsTypeAnswer bs f (Err fault) → IsTypeAnswer bs (App f a) (Err (deeper_fault 1 fault))
function_fault bs f a (NotTyped cut) (place, at, e) = (1 + place, inl (place, at, refl), omega arith)
function_fault bs f a Memory h = tt

argument_fault : (bs : List Typ) (f a : Term) (T : Typ) (by : ℕ) (fault : TypeFault) → HasType bs f T → by ≡ cut_off (node_count f + 1) → IsTypeAnswer bs a (Err fault)
    → IsTypeAnswer bs (App f a) (Err (deeper_fault by fault))
argument_fault bs f a T by (NotTyped cut) typed count (place, at, e) = (1 + (node_count f + place), inr (inl (T, place, typed, at, refl)), omega arith)
argument_fault bs f a T by Memory typed count h = tt

-- The same of answers that are known by equations.
pub fault-body : (bs : List Typ) (T : Typ) (b : Term) (body : Result Found TypeFault) (fault outer : TypeFault) → body ≡ Err fault → outer ≡ deeper_fault 1 fault
    → IsFoundAnswer (T ∷ bs) b body → IsTypeAnswer bs (Abs T b) (Err outer)
fault-body bs T b body fault outer e o h = rw o (body_fault bs T b fault (subst (IsFoundAnswer (T ∷ bs) b) e h))

pub fault-function : (bs : List Typ) (f a : Term) (function : Result Found TypeFault) (fault outer : TypeFault) → function ≡ Err fault → outer ≡ deeper_fault 1 fault
    → IsFoundAnswer bs f function → IsTypeAnswer bs (App f a) (Err outer)
fault-function bs f a function fault outer e o h = rw o (function_fault bs f a fault (subst (IsFoundAnswer bs f) e h))

pub fault-argument : (bs : List Typ) (f a : Term) (function argument : Result Found TypeFault) (found : Found) (by : ℕ) (fault outer : TypeFault) → function ≡ Ok found → argument ≡ Err fault
    → by ≡ cut_off (node_count f + 1) → outer ≡ deeper_fault by fault → IsFoundAnswer bs f function → IsFoundAnswer bs a argument → IsTypeAnswer bs (App f a) (Err outer)
fault-argument bs f a function argument found by fault outer e d count o h k =
    rw o (argument_fault bs f a (found_typ found) by fault (subst (IsFoundAnswer bs f) e h) count (subst (IsFoundAnswer bs a) d k))

pub fault-application : (bs : List Typ) (f a : Term) (function argument : Result Found TypeFault) (found other : Found) → function ≡ Ok found → argument ≡ Ok other
    → ¬ Takes (found_typ found) (found_typ other) → IsFoundAnswer bs f function → IsFoundAnswer bs a argument → IsTypeAnswer bs (App f a) (Err (NotTyped 0))
fault-application bs f a function argument found other e d none h k =
    (0, inr (inr (found_typ found, found_typ other, subst (IsFoundAnswer bs f) e h, subst (IsFoundAnswer bs a) d k, none, refl)), refl)
