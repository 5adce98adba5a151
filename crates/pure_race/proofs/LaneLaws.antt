-- Laws of lanes and of bounds.
use Rattle.std.proofs.Common.{◌≡◌, ◌<◌, ◌≤◌, ◌+◌, ◌*◌, ◌%◌, ◌/◌, ◌⊎◌, inl, inr, ℕ, zero, suc, Bool, false, arith, sym, subst, refl, ap}
use Rattle.std.proofs.Math.Nat.{mul-le-mul_left, mod-lt, mod-add-div'}
use Rattle.std.proofs.lemmas.Bool.{cases_order}
use Rattle.std.specs.Prelude.{Option, None, Some, IfSome}
use Rattle.pure_race.specs.Least.{AllLose, IsLeastWin, LeastWinOnce}
use Rattle.std.proofs.Common.{List, [], ◌∷◌, ◌++◌, length, map, get_or, length-append, ◌∙◌}
use Rattle.std.proofs.lemmas.List.{length-map}
use Rattle.pure_text.specs.Lists.{EachTwo}
use Rattle.pure_text.proofs.ListLaws.{two_long}
use Rattle.pure_race.specs.Lanes.{LaneLoses, IsInLane, IsBound, IsEnd, AreEnds, AreLanesFrom, IsEnded}
use Rattle.pure_race.specs.declared.lanes.End.{End}
use Rattle.pure_race.specs.declared.lanes.End.TheVariants.{Lacking}
use Rattle.pure_race.specs.declared.lanes.Lane.{Lane}

-- the first attempt of a lane is in it, and none is below
pub first-in_lane : (width lane : ℕ) → IsInLane width lane lane
first-in_lane width lane = (0, omega arith)

pub none-below : (Wins : ℕ → Bool → Type 0) (width lane : ℕ) → LaneLoses Wins width lane lane
none-below Wins width lane k less = absurd (omega (arith, less))

-- the next attempt of a lane
pub next-in_lane : (width lane n : ℕ) → IsInLane width lane n → IsInLane width lane (n + width)
next-in_lane width lane n (k, is) = (k + 1, omega (arith, is))

-- what loses below a number and at it loses below the next
pub next-loses : (Wins : ℕ → Bool → Type 0) (width lane n : ℕ) → 0 < width → IsInLane width lane n → Wins n false → LaneLoses Wins width lane n → LaneLoses Wins width lane (n + width)
next-loses Wins width lane n some (j, is) loses before k less = elim (cases_order k j) [
  | inl same ↦ subst (λ i. Wins (lane + i * width) false) (sym same) (subst (λ m. Wins m false) is loses)
  | inr apart ↦ elim apart [
    | inl lower ↦ before k (omega (arith, is, some, mul-le-mul_left {m = suc k} {n = j} width lower))
    | inr higher ↦ absurd (omega (arith, is, less, mul-le-mul_left {m = suc j} {n = k} width higher))
  ]
]

-- what loses below a number loses below a lesser one
pub lesser-loses : (Wins : ℕ → Bool → Type 0) (width lane below lower : ℕ) → lower ≤ below → LaneLoses Wins width lane below → LaneLoses Wins width lane lower
lesser-loses Wins width lane below lower le loses k less = loses k (omega (arith, le, less))

-- where all lanes lose below a number, all attempts below it lose
pub all-lose : (Wins : ℕ → Bool → Type 0) (width below : ℕ) → 0 < width → ((lane : ℕ) → lane < width → LaneLoses Wins width lane below) → AllLose Wins below
all-lose Wins width below some lanes n less =
    let parts = mod-add-div' n width in
    subst (λ m. Wins m false) parts (lanes (n % width) (mod-lt n some) (n / width) (subst (λ m. m < below) (sym parts) less))

-- a bound is count at most
pub bound-le : (Wins : ℕ → Bool → Type 0) (count n : ℕ) → IsBound Wins count n → n ≤ count
bound-le Wins count n (inl same) = omega (arith, same)
bound-le Wins count n (inr found) = omega (arith, found.0)

-- one of two bounds is a bound
pub one-bound : (Wins : ℕ → Bool → Type 0) (count m n r : ℕ) → (r ≡ m) ⊎ (r ≡ n) → IsBound Wins count m → IsBound Wins count n → IsBound Wins count r
one-bound Wins count m n r (inl first) one two = subst (IsBound Wins count) (sym first) one
one-bound Wins count m n r (inr second) one two = subst (IsBound Wins count) (sym second) two

-- a bound below count is the least that wins, and count itself says that none does
pub least-some : (Wins : ℕ → Bool → Type 0) (count n : ℕ) → n < count → IsBound Wins count n → AllLose Wins n → IsLeastWin Wins count (Some n)
least-some Wins count n less (inl same) lose = absurd (omega (arith, less, same))
least-some Wins count n less (inr found) lose = (less, found.1, lose)

pub least-none : (Wins : ℕ → Bool → Type 0) (count n : ℕ) → count ≤ n → IsBound Wins count n → AllLose Wins n → IsLeastWin Wins count None
least-none Wins count n more (inl same) lose = subst (AllLose Wins) same lose
least-none Wins count n more (inr found) lose = absurd (omega (arith, more, found.0))

-- an attempt that told that it doesn't win loses
pub told-loses : (Wins : Bool → Type 0) (told : Option Bool) (b : Bool) → told ≡ Some b → b ≡ false → IfSome told Wins → Wins false
told-loses Wins told b is lost h = subst Wins lost (subst (λ o. IfSome o Wins) is h)

pub won-loses : (Wins : Bool → Type 0) (b : Bool) → Wins b → b ≡ false → Wins false
won-loses Wins b is lost = subst Wins lost is

-- where no attempt both Wins and loses, the answer is one
pub least-once : (Wins : ℕ → Bool → Type 0) → LeastWinOnce Wins
least-once Wins apart count None None one other = refl
least-once Wins apart count None (Some m) one other = absurd (apart m other.1 (one m other.0))
least-once Wins apart count (Some n) None one other = absurd (apart n one.1 (other n one.0))
least-once Wins apart count (Some n) (Some m) one other = elim (cases_order n m) [
  | inl same ↦ ap Some same
  | inr differ ↦ elim differ [
    | inl lower ↦ absurd (apart n one.1 (other.2 n lower))
    | inr higher ↦ absurd (apart m other.1 (one.2 m higher))
  ]
]

-- one lane more
lanes-snoc : (n : ℕ) (lanes : List Lane) (lane : Lane) → AreLanesFrom n lanes → lane.first ≡ n + length lanes → AreLanesFrom n (lanes ++ lane ∷ [])
lanes-snoc n [] lane all is = (omega (arith, is), tt)
lanes-snoc n (l ∷ lanes) lane all is = (all.0, lanes-snoc (n + 1) lanes lane all.1 (omega (arith, is)))

pub lanes-turn : (lanes lanes' : List Lane) (lane : Lane) (i : ℕ) → lane.first ≡ i → lanes' ≡ lanes ++ lane ∷ [] → (length lanes ≡ i) × AreLanesFrom 0 lanes → (length lanes' ≡ i + 1) × AreLanesFrom 0 lanes'
lanes-turn lanes lanes' lane i first longer held = (
  ap length longer ∙ length-append lanes (lane ∷ []) ∙ ap (λ n. n + 1) held.0,
  subst (AreLanesFrom 0) (sym longer) (lanes-snoc 0 lanes lane held.1 (omega (arith, first, held.0))),
)

-- the ends of lanes that were tried, each at its place
ended-at : (Wins : ℕ → Bool → Type 0) (count width n : ℕ) (old new : List Lane) (d : End) → AreLanesFrom n old → EachTwo (IsEnded Wins count width) old new
    → (i : ℕ) → i < length new → IsEnd Wins count width (n + i) (get_or (map (λ (lane : Lane). lane.end) new) i d)
ended-at Wins count width n [] [] d lanes two i within = absurd (omega (arith, within))
ended-at Wins count width n [] (y ∷ new) d lanes two i within = absurd two
ended-at Wins count width n (x ∷ old) [] d lanes two i within = absurd two
ended-at Wins count width n (x ∷ old) (y ∷ new) d lanes two zero within =
    let here : x.first ≡ n + 0 = omega (arith, lanes.0) in
    subst (λ m. IsEnd Wins count width m y.end) here two.0.1
ended-at Wins count width n (x ∷ old) (y ∷ new) d lanes two (suc i) within =
    let further : (n + 1) + i ≡ n + suc i = omega arith in
    subst (λ m. IsEnd Wins count width m (get_or (map (λ (lane : Lane). lane.end) new) i d)) further (ended-at Wins count width (n + 1) old new d lanes.1 two.1 i (omega (arith, within)))

pub all-ended : (Wins : ℕ → Bool → Type 0) (count width : ℕ) (old new : List Lane) (ends : List End) → (length old ≡ width) × AreLanesFrom 0 old → EachTwo (IsEnded Wins count width) old new
    → ends ≡ map (λ (lane : Lane). lane.end) new → (length ends ≡ width) × AreEnds Wins count width ends
all-ended Wins count width old new ends lanes two is =
    let long : length ends ≡ length new = ap length is ∙ length-map new (λ (lane : Lane). lane.end) in
    let same : length old ≡ length new = two_long (IsEnded Wins count width) old new two in (
      omega (arith, long, same, lanes.0),
      λ i within.
          (let found = ended-at Wins count width 0 old new Lacking lanes.1 two i (omega (arith, within, long)) in
          let plain : 0 + i ≡ i = omega arith in
          subst (λ (all : List End). IsEnd Wins count width i (get_or all i Lacking)) (sym is) (subst (λ m. IsEnd Wins count width m (get_or (map (λ (lane : Lane). lane.end) new) i Lacking)) plain found)),
    )
