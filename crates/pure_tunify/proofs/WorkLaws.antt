-- The list of pairs that are left, whose last is the first to be looked at.
use Rattle.std.proofs.Common.{◌≡◌, ℕ, ◌-◌, ◌<◌, ◌≤◌, List, [], ◌∷◌, ◌++◌, length, get_or, take, drop, drop-cons, suc, refl, ap, sym, subst, ◌∙◌, arith, Bool, true, false}
use Rattle.std.specs.Prelude.{reverse, MatchBool}
use Rattle.std.proofs.lemmas.List.{append-nil, reverse-append, drop_all}
use Rattle.pure_text.specs.Lists.{Each}
use Rattle.pure_definitions.specs.Types.Typ.{Typ}
use Rattle.pure_definitions.specs.Types.Order.{Algebra}
use Rattle.pure_tunify.specs.declared.pair.TypPair.{TypPair}
use Rattle.pure_tunify.specs.Unifiers.{IsOldPair}
use Rattle.pure_tunify.specs.Steps.{pair, instance_pair}
use Rattle.pure_tunify.specs.Settings.{composed, Progress}
use Rattle.pure_tunify.specs.Procedure.{Blocks}
use Rattle.pure_tunify.specs.Working.{pairs_along, Pursues}
use Rattle.pure_tunify.specs.Meeting.{GoesOn, Stops}
use Rattle.pure_tunify.specs.Answers.{IsEqualised}
use Rattle.pure_tunify.proofs.PursueLaws.{pursuit_starts, goes_then, goes_stops}
use Rattle.pure_tunify.proofs.UnifyLaws.{equalised_at_end}

pub last_first : (old new : List TypPair) (p : TypPair) → old ≡ new ++ p ∷ [] → reverse old ≡ p ∷ reverse new
last_first old new p e = ap reverse e ∙ reverse-append new (p ∷ [])

-- The pairs of the last arguments stand on top: at first of none, then of one more each time, and at last of all.
pub pushed_start : (ts us : List Typ) (rest : ℕ) (before : List TypPair) → rest ≡ length ts → length ts ≡ length us → reverse before ≡ pairs_along (drop rest ts) (drop rest us) ++ reverse before
pushed_start ts us rest before whole same =
    let none : drop rest ts ≡ [] = drop_all rest ts (omega arith) in
    rw none refl

pub pushed_next : (ts us : List Typ) (rest : ℕ) (t u : Typ) (before work more : List TypPair) → 0 < rest → rest ≤ length ts → length ts ≡ length us → t ≡ get_or ts (rest - 1) t → u ≡ get_or us (rest - 1) u → reverse more ≡ pair t u ∷ reverse work
    → reverse work ≡ pairs_along (drop rest ts) (drop rest us) ++ reverse before → reverse more ≡ pairs_along (drop (rest - 1) ts) (drop (rest - 1) us) ++ reverse before
pushed_next ts us rest t u before work more some short same first second put so_far =
    put ∙ (ap (λ ps. pair t u ∷ ps) so_far ∙ (λ l. pairs_along (sym (from ts t (omega arith) first) l) (sym (from us u (omega arith) second) l) ++ reverse before))
  where
    next : suc (rest - 1) ≡ rest
    next = omega arith

    from : (xs : List Typ) (x : Typ) → rest - 1 < length xs → x ≡ get_or xs (rest - 1) x → drop (rest - 1) xs ≡ x ∷ drop rest xs
    from xs x inside e = drop-cons xs (rest - 1) x inside ∙ rw (← e, next) refl

pub pushed_end : (ts us : List Typ) (rest : ℕ) (before work : List TypPair) → rest ≤ 0 → reverse work ≡ pairs_along (drop rest ts) (drop rest us) ++ reverse before → reverse work ≡ pairs_along ts us ++ reverse before
pushed_end ts us rest before work none h =
    let zero : rest ≡ 0 = omega arith in
    rw zero at h

-- What is left, turn by turn.
module _ (A : Algebra) (first : Progress) (before : List TypPair) where
  here_goes : (now : Progress) (work rest : List TypPair) (q : TypPair) → work ≡ rest ++ q ∷ [] → GoesOn A first now before (reverse work) → GoesOn A first now before (q ∷ reverse rest)
  here_goes now work rest q e goes = subst (GoesOn A first now before) (last_first work rest q e) goes

  pub turn_old : (now : Progress) (work rest : List TypPair) (q : TypPair) → work ≡ rest ++ q ∷ [] → GoesOn A first now before (reverse work) → Each (IsOldPair first.index first.next) before → IsOldPair now.index now.next q
  turn_old now work rest q e goes old = let both = (here_goes now work rest q e goes).kept old in both.0

  pub goes_further : (now new : Progress) (work rest after : List TypPair) (q : TypPair) → work ≡ rest ++ q ∷ [] → GoesOn A first now before (reverse work) → GoesOn A now new (q ∷ reverse rest) after → GoesOn A first new before after
  goes_further now new work rest after q e goes h = goes_then A first now new before (q ∷ reverse rest) after (here_goes now work rest q e goes) h

  pub goes_never : (now : Progress) (work rest : List TypPair) (q : TypPair) → work ≡ rest ++ q ∷ [] → GoesOn A first now before (reverse work) → Stops A now (q ∷ reverse rest) → Stops A first before
  goes_never now work rest q e goes h = goes_stops A first now before (q ∷ reverse rest) (here_goes now work rest q e goes) h

  pub goes_end : (now : Progress) (work : List TypPair) → work ≡ [] → GoesOn A first now before (reverse work) → GoesOn A first now before []
  goes_end now work e goes = subst (λ (xs : List TypPair). GoesOn A first now before (reverse xs)) e goes

-- One pair alone.
module _ (A : Algebra) (p : TypPair) (first new : Progress) where
  pub one_equalised : (work : List TypPair) → work ≡ p ∷ [] → GoesOn A first new (reverse work) [] → IsEqualised A first new p
  one_equalised work e goes = equalised_at_end A p first new (goes.pursued p first (subst (λ (xs : List TypPair). Pursues A p first first (reverse xs)) (sym e) (pursuit_starts A p first)))

  pub one_blocked : (work : List TypPair) → work ≡ p ∷ [] → Stops A first (reverse work) → Blocks A first.index first.next (instance_pair (composed first.sets) p)
  one_blocked work e stops = stops p first (subst (λ (xs : List TypPair). Pursues A p first first (reverse xs)) (sym e) (pursuit_starts A p first))

  pub one_old : (work : List TypPair) → work ≡ p ∷ [] → IsOldPair first.index first.next p → Each (IsOldPair first.index first.next) (reverse work)
  one_old work e old = subst (λ (xs : List TypPair). Each (IsOldPair first.index first.next) (reverse xs)) (sym e) (old, tt)

-- The clause of a Boolean that is true, or false.
pub when_true : (P Q : Type 0) (b : Bool) → MatchBool b P Q → b ≡ true → P
when_true P Q b h e = subst (λ (c : Bool). MatchBool c P Q) e h

pub when_false : (P Q : Type 0) (b : Bool) → MatchBool b P Q → b ≡ false → Q
when_false P Q b h e = subst (λ (c : Bool). MatchBool c P Q) e h

-- Where nothing is there to be taken off, the list is empty.
pub nothing_popped : (old new : List TypPair) (n : ℕ) → n ≡ 0 → new ≡ take (n - 1) old → old ≡ new ++ [] → old ≡ []
nothing_popped old new n e f g = g ∙ (append-nil new ∙ (f ∙ ap (λ m. take (m - 1) old) e))
