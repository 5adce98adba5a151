-- The first method that proves a lemma: from the least number that wins, and that it is one.
use Rattle.std.proofs.Common.{◌≡◌, ℕ, zero, suc, Bool, true, false, List, [], ◌∷◌, map, length, refl, sym, ap, subst, arith, true≢false, Option, Some, None, Ok, Err}
use Rattle.std.specs.Prelude.{slice_get, option_and_then}
use Rattle.std.proofs.lemmas.Option.{same_Some}
use Rattle.pure_definitions.specs.Declarations.Decl.{algebra_of}
use Rattle.pure_logic.specs.Content.{IsContent}
use Rattle.pure_lookup.specs.Laws.{IsInSession}
use Rattle.pure_order_tables.specs.Classes.{IsAntisymmetric}
use Rattle.pure_race.specs.Least.{IsLeastWin}
use Rattle.pure_check_work.specs.Declare.Notes.{Fork}
use Rattle.pure_check_work.specs.Method.Laws.{ProofInOnce}
use Rattle.pure_check_work.specs.Method.Proof.{ProofOutcome, IsProofIn}
use Rattle.pure_try.specs.declared.method.Method.{Method}
use Rattle.pure_try.specs.Methods.{methods_of, script_of}
use Rattle.pure_try.specs.First.{IsFirst, nothing, proves, fails, Tells, TriedOnce}
use Rattle.pure_try.specs.Proofs.{Wins, by_method}

-- from the least number that wins
first-of : (texts : List (List ℕ)) (f : Fork) (ms : List Method) (Win : ℕ → Bool → Type 0) → ((n : ℕ) (m : Method) (b : Bool) → slice_get ms n ≡ Some m → Win n b → Tells texts f (script_of m) b)
    → (o : Option ℕ) → IsLeastWin Win (length ms) o → IsFirst texts f ms (option_and_then (slice_get ms) o)
first-of texts f [] Win tells None least = nothing
first-of texts f [] Win tells (Some n) least = absurd (omega (arith, least.0))
first-of texts f (m ∷ ms) Win tells None least =
    fails (tells 0 m false refl (least 0 (omega arith))) (first-of texts f ms (λ n. Win (suc n)) (λ n. tells (suc n)) None (λ n less. least (suc n) (omega (arith, less))))
first-of texts f (m ∷ ms) Win tells (Some zero) least = proves (tells 0 m true refl least.1)
first-of texts f (m ∷ ms) Win tells (Some (suc n)) least =
    fails (tells 0 m false refl (least.2 0 (omega arith)))
    (first-of texts f ms (λ k. Win (suc k)) (λ k. tells (suc k)) (Some n) (omega (arith, least.0), least.1, λ k less. least.2 (suc k) (omega (arith, less))))

-- what is told of the lemma with the proof by a method
-- what is told of the lemma with the proof by a method
tells-here : (texts : List (List ℕ)) (f g : Fork) (k m : Method) (b : Bool) → k ≡ m → by_method f k ≡ g → Tells texts g g.script b → Tells texts f (script_of m) b
tells-here texts f g k m true is of (labels, proof) = (labels, at-method k m is (subst (λ (h : Fork). IsProofIn texts h.content h.lemma h.fixed h.script (Ok labels)) (sym of) proof))
  where
    at-method : (k m : Method) → k ≡ m → IsProofIn texts f.content f.lemma f.fixed (script_of k) (Ok labels) → IsProofIn texts f.content f.lemma f.fixed (script_of m) (Ok labels)
    at-method k m is p = subst (λ n. IsProofIn texts f.content f.lemma f.fixed (script_of n) (Ok labels)) is p
tells-here texts f g k m false is of (fault, proof) = (fault, at-method k m is (subst (λ (h : Fork). IsProofIn texts h.content h.lemma h.fixed h.script (Err fault)) (sym of) proof))
  where
    at-method : (k m : Method) → k ≡ m → IsProofIn texts f.content f.lemma f.fixed (script_of k) (Err fault) → IsProofIn texts f.content f.lemma f.fixed (script_of m) (Err fault)
    at-method k m is p = subst (λ n. IsProofIn texts f.content f.lemma f.fixed (script_of n) (Err fault)) is p

tells-by : (texts : List (List ℕ)) (f : Fork) (ms : List Method) (n : ℕ) (m : Method) (b : Bool) → slice_get ms n ≡ Some m → Wins (record { texts = texts; forks = map (by_method f) ms }) n b → Tells texts f (script_of m) b
tells-by texts f [] n m b at win = absurd (cc)
tells-by texts f (k ∷ ms) zero m b at (g, of, tells) = tells-here texts f g k m b (same_Some k m at) (same_Some (by_method f k) g of) tells
tells-by texts f (k ∷ ms) (suc n) m b at win = tells-by texts f ms n m b at win

pub first-won : (texts : List (List ℕ)) (f : Fork) (ms : List Method) (o : Option ℕ) → IsLeastWin (Wins (record { texts = texts; forks = map (by_method f) ms })) (length ms) o → IsFirst texts f ms (option_and_then (slice_get ms) o)
first-won texts f ms o least = first-of texts f ms (Wins (record { texts = texts; forks = map (by_method f) ms })) (tells-by texts f ms) o least

-- of two outcomes of which one is a fault
abbrev ok-not_err : (o : ProofOutcome) → Bool
ok-not_err (Ok labels) = true
ok-not_err (Err fault) = false

-- a lemma isn't both proved and not proved by the same steps
apart : ProofInOnce → (texts : List (List ℕ)) (f : Fork) → IsInSession texts f.content → IsContent f.content → IsAntisymmetric (algebra_of f.content.declarations)
    → (m : Method) → Tells texts f (script_of m) true → Tells texts f (script_of m) false → ⊥
apart once texts f session content order m (labels, is) (fault, other) =
    true≢false (ap ok-not_err (once texts f.content session content order f.lemma f.fixed (script_of m) (Ok labels) (Err fault) is other))

first-once : ProofInOnce → (texts : List (List ℕ)) (f : Fork) → IsInSession texts f.content → IsContent f.content → IsAntisymmetric (algebra_of f.content.declarations)
    → (ms : List Method) (one other : Option Method) → IsFirst texts f ms one → IsFirst texts f ms other → one ≡ other
first-once once texts f session content order [] one other nothing nothing = refl
first-once once texts f session content order (m ∷ ms) one other (proves p) (proves q) = refl
first-once once texts f session content order (m ∷ ms) one other (proves p) (fails q rest) = absurd (apart once texts f session content order m p q)
first-once once texts f session content order (m ∷ ms) one other (fails p rest) (proves q) = absurd (apart once texts f session content order m q p)
first-once once texts f session content order (m ∷ ms) one other (fails p rest) (fails q more) = first-once once texts f session content order ms one other rest more

pub tried_once : ProofInOnce → TriedOnce
tried_once once texts f session content order one other first second = first-once once texts f session content order (methods_of texts f.content) one other first second
