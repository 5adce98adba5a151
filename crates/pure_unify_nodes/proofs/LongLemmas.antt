-- What sides and pairs come to, by the answers of the calls for normal and long forms.
use Rattle.std.proofs.Common.{◌≡◌, ◌⊎◌, ℕ, zero, suc, ◌+◌, ◌<◌, ◌≤◌, List, [], ◌∷◌, ◌++◌, length, get_or, take, drop, drop-cons, arith, inl, inr, refl, ap, sym, subst, ◌∙◌, append_assoc}
use Rattle.std.specs.Prelude.{Result, Ok, Err}
use Rattle.std.proofs.lemmas.List.{append-nil}
use Rattle.pure_text.specs.Lists.{IsIn, Each}
use Rattle.pure_text.proofs.ListLaws.{split_at, each_read}
use Rattle.pure_definitions.specs.Types.Typ.{Typ}
use Rattle.pure_definitions.specs.Terms.Term.{Term, IsWithin}
use Rattle.pure_definitions.specs.Terms.Bounds.{IsClosed}
use Rattle.pure_definitions.specs.Terms.Typing.{HasType}
use Rattle.pure_definitions.specs.Reduction.Beta.{IsBetaNormal, IsBetaAnswer, NormalForm}
use Rattle.pure_definitions.specs.Reduction.Eta.{IsLongForm}
use Rattle.pure_logic.specs.Derivable.{Pair}
use Rattle.pure_norm.specs.NormAnswer.{IsNormAnswer}
use Rattle.pure_norm.specs.declared.fault.NormFault.{NormFault}
use Rattle.pure_norm.specs.declared.fault.NormFault.TheVariants.{Steps, Big, Memory}
use Rattle.pure_norm.proofs.BetaLaws.{normal_form-keeps_type, normal_form-is_normal}
use Rattle.pure_unify_definitions.specs.Fronts.{pair}
use Rattle.pure_unify_definitions.specs.LongSides as sides
use Rattle.pure_unify_definitions.specs.LongSides.{Long, Ends, ComesTo, is_long, has_steps, is_large, is_wide, Sides, AllLong, Stopped, AreLong, no_more, left_stops, right_stops, later_stops, both_long}
use Rattle.pure_unify_nodes.specs.Long.{IsLongSide}
use Rattle.pure_unify_nodes.specs.SideAnswer.{IsTyped, AreSidesTyped, IsLengthened, IsSideAnswer, IsPairStopped, IsPairAnswer, IsSidesFault}

pub normal_typed : (t n : Term) → IsTyped t → IsBetaAnswer t (NormalForm n) → IsTyped n
normal_typed t n h b = (h.0, normal_form-keeps_type [] t n h.0 b h.1)

pub side_of_normal : (t n : Term) (r : Result Term NormFault) → IsBetaAnswer t (NormalForm n) → IsLengthened n r → IsSideAnswer t r
side_of_normal t n (Ok u) b h = is_long b h.0 h.1
side_of_normal t n (Err Big) b h = is_wide b h.1 h.2
side_of_normal t n (Err Steps) b h = absurd h
side_of_normal t n (Err Memory) b h = tt

pub side_of_fault : (t : Term) (fault : NormFault) → IsNormAnswer t (Err fault) → IsSideAnswer t (Err fault)
side_of_fault t Big h = is_large h
side_of_fault t Steps h = has_steps h
side_of_fault t Memory h = tt

-- A side in long form comes to itself.
pub comes_itself : (t : Term) → IsLongSide t → ComesTo t (Long t)
comes_itself t h = is_long (record { before = []; last = t; sequence = refl; undecided = tt; in_time = omega arith; decided = (h.within, h.form.normal, refl) }) h.form h.within

pub own_answer : (t copy : Term) → copy ≡ t → IsLongSide t → ComesTo t (Long copy)
own_answer t copy e h = subst (λ (u : Term). ComesTo t (Long u)) (sym e) (comes_itself t h)

pub pair_of_left : (p : Pair) (fault : NormFault) → IsSideAnswer p.left (Err fault) → IsPairAnswer p (Err fault)
pair_of_left p Big h = inl h
pair_of_left p Steps h = inl h
pair_of_left p Memory h = tt

pub pair_of_right : (p : Pair) (l : Term) (fault : NormFault) → ComesTo p.left (Long l) → IsSideAnswer p.right (Err fault) → IsPairAnswer p (Err fault)
pair_of_right p l Big f h = inr (l, f, h)
pair_of_right p l Steps f h = inr (l, f, h)
pair_of_right p l Memory f h = tt

-- What the pairs from a place on come to, all pairs come to, with those before it in long form.
pub record HasBrought (ps : List Pair) (i : ℕ) (made : List Pair) : Type 0 where
  pub goes : (qs : List Pair) → AreLong (drop i ps) (AllLong qs) → AreLong ps (AllLong (made ++ qs))
  pub stops : (s : sides.Stop) → AreLong (drop i ps) (Stopped s) → AreLong ps (Stopped s)

pub brought_none : (ps : List Pair) → HasBrought ps 0 []
brought_none ps = record { goes = λ qs l. l; stops = λ s l. l }

pub pair_stops : (p : Pair) (ps : List Pair) (s : sides.Stop) → IsPairStopped p s → AreLong (p ∷ ps) (Stopped s)
pair_stops p ps s (inl f) = left_stops f
pair_stops p ps s (inr (l, f, g)) = right_stops f g

pub brought_fault : (ps : List Pair) (i : ℕ) (made : List Pair) (p : Pair) (fault : NormFault) → HasBrought ps i made → drop i ps ≡ p ∷ drop (i + 1) ps → IsPairAnswer p (Err fault) → IsSidesFault ps fault
brought_fault ps i made p Big h e a = h.stops sides.Big (rw e (pair_stops p (drop (i + 1) ps) sides.Big a))
brought_fault ps i made p Steps h e a = h.stops sides.Steps (rw e (pair_stops p (drop (i + 1) ps) sides.Steps a))
brought_fault ps i made p Memory h e a = tt

pub brought_more : (ps : List Pair) (i : ℕ) (made : List Pair) (p q : Pair) → HasBrought ps i made → drop i ps ≡ p ∷ drop (i + 1) ps → IsPairAnswer p (Ok q) → HasBrought ps (i + 1) (made ++ q ∷ [])
brought_more ps i made p q h e a = record {
  goes = λ qs l. subst (λ (os : List Pair). AreLong ps (AllLong os)) (sym (append_assoc made (q ∷ []) qs)) (h.goes (q ∷ qs) (rw e (both_long a.0 a.1 l)));
  stops = λ s l. h.stops s (rw e (later_stops a.0 a.1 l));
}

pub brought_all : (ps : List Pair) (i : ℕ) (made : List Pair) → HasBrought ps i made → drop i ps ≡ [] → AreLong ps (AllLong made)
brought_all ps i made h e = subst (λ (os : List Pair). AreLong ps (AllLong os)) (append-nil made) (h.goes [] (rw e no_more))

-- What a loop has still to read.
pub drop_here : (ps : List Pair) (i : ℕ) (r : Pair) → i < length ps → r ≡ get_or ps i r → drop i ps ≡ r ∷ drop (i + 1) ps
drop_here ps i r within read =
    let same : suc i ≡ i + 1 = omega arith in
    drop-cons ps i r within ∙ (λ j. sym read j ∷ drop (same j) ps)

pub drop_all : (ps : List Pair) (i : ℕ) → length ps ≤ i → drop i ps ≡ []
drop_all [] zero over = refl
drop_all [] (suc i) over = refl
drop_all (p ∷ ps) zero over = absurd (omega arith)
drop_all (p ∷ ps) (suc i) over = drop_all ps i (omega arith)

-- Where the left side has a long form, what stops the right one stops the pair.
pub stopped_behind : (p : Pair) (l : Term) (f : NormFault) → ComesTo p.left (Long l) → IsSideAnswer p.right (Err f) → IsPairAnswer p (Err f)
stopped_behind p l Big left right = inr (l, left, right)
stopped_behind p l Steps left right = inr (l, left, right)
stopped_behind p l Memory left right = right
