-- The choice, as far as a loop has come.
use Rattle.std.proofs.Common.{◌≡◌, ℕ, ◌+◌, ◌<◌, ◌≤◌, List, [], ◌∷◌, ◌++◌, length, get_or, take, drop, Bool, true, false, ◌||◌, ap, sym, subst, ◌∙◌, true≢false}
use Rattle.std.proofs.lemmas.List.{take-append-drop, take_all}
use Rattle.pure_text.specs.Lists.{Each}
use Rattle.pure_text.proofs.ListLaws.{each-append, each-right}
use Rattle.pure_definitions.specs.Terms.Term.{Term}
use Rattle.pure_logic.specs.Derivable.{Pair}
use Rattle.pure_unify_definitions.specs.Fronts.{is_flexible, head}
use Rattle.pure_unify_definitions.specs.Children.{IsFlexFlex, on_left, on_right, IsChoice}
use Rattle.pure_unify.specs.Images.{HasFlexibleSide}
use Rattle.pure_unify.proofs.ListLaws.{take_one}

pub choice_none : (ps : List Pair) → Each IsFlexFlex (take 0 ps)
choice_none [] = tt
choice_none (p ∷ ps) = tt

stands-at : (ps : List Pair) (i : ℕ) (p : Pair) → drop i ps ≡ p ∷ drop (i + 1) ps → ps ≡ take i ps ++ p ∷ drop (i + 1) ps
stands-at ps i p e = sym (take-append-drop i ps) ∙ ap (λ (qs : List Pair). take i ps ++ qs) e

other_flexible : (b c : Bool) → (b || c) ≡ true → b ≡ false → c ≡ true
other_flexible true c h e = absurd (true≢false e)
other_flexible false c h e = h

-- The right side of the pair is flexible, and the left isn't.
pub choice_right : (ps : List Pair) (i : ℕ) (p : Pair) (f h : Term) → Each HasFlexibleSide ps → Each IsFlexFlex (take i ps) → drop i ps ≡ p ∷ drop (i + 1) ps → is_flexible p.left ≡ false → f ≡ head p.right → h ≡ head p.left → IsChoice ps f h
choice_right ps i p f h each before e rigid a b =
    let here = subst (λ (qs : List Pair). Each HasFlexibleSide qs) (stands-at ps i p e) each in
    let side = (each-right HasFlexibleSide (take i ps) (p ∷ drop (i + 1) ps) here).0 in
    record {
      front = take i ps;
      pair = p;
      rest = drop (i + 1) ps;
      stands = stands-at ps i p e;
      before = before;
      heads = on_right rigid (other_flexible (is_flexible p.left) (is_flexible p.right) side rigid) a b;
    }

-- The left side is, and the right isn't.
pub choice_left : (ps : List Pair) (i : ℕ) (p : Pair) (f h : Term) → Each IsFlexFlex (take i ps) → drop i ps ≡ p ∷ drop (i + 1) ps → is_flexible p.left ≡ true → is_flexible p.right ≡ false → f ≡ head p.left → h ≡ head p.right → IsChoice ps f h
choice_left ps i p f h before e flexible rigid a b = record {
  front = take i ps;
  pair = p;
  rest = drop (i + 1) ps;
  stands = stands-at ps i p e;
  before = before;
  heads = on_left flexible rigid a b;
}

-- Both are: one pair more is passed.
pub choice_more : (ps : List Pair) (i : ℕ) (p : Pair) → Each IsFlexFlex (take i ps) → i < length ps → p ≡ get_or ps i p → is_flexible p.left ≡ true → is_flexible p.right ≡ true → Each IsFlexFlex (take (i + 1) ps)
choice_more ps i p before h e left right =
    rw (take_one ps i p h e) (each-append IsFlexFlex (take i ps) (p ∷ []) before (record { left = left; right = right }, tt))

pub choice_all : (ps : List Pair) (i : ℕ) → Each IsFlexFlex (take i ps) → length ps ≤ i → Each IsFlexFlex ps
choice_all ps i before h = subst (λ (qs : List Pair). Each IsFlexFlex qs) (take_all i ps h) before
