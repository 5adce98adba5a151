-- What goes into a list of texts.
use Rattle.std.proofs.Common.{◌≡◌, ◌⊎◌, ◌↔◌, inl, inr, arith, ℕ, zero, suc, ◌+◌, ◌<◌, ◌≤◌, true, List, [], ◌∷◌, ◌++◌, length, map, get_or, take, take_all, refl, sym, ◌∙◌, ap, subst, Option, Some, None, slice_get}
use Rattle.std.specs.Cmp.Lexicographic.{same_text, pointwise}
use Rattle.std.specs.Prelude.{nat_eq, Bool}
use Rattle.std.proofs.lemmas.Option.{same_Some}
use Rattle.pure_text.specs.Lists.{IsIn, Each, AnyOf}
use Rattle.pure_text.proofs.ListLaws.{any-map, in_split, in-append_left, in-append_right}
use Rattle.pure_text.proofs.LoopLaws.{any_turn}
use Rattle.pure_grammar.specs.Tokens.Spelling.{AreSlices, IsSlice}
use Rattle.pure_grammar.specs.declared.token.Token.{Token}
use Rattle.pure_session.specs.NameSets.{Gains}

-- What stands at a place is among the others.
got-in : {A : Type 0} (xs : List A) (i : ℕ) (x : A) → slice_get xs i ≡ Some x → IsIn x xs
got-in [] i x h = absurd (cc)
got-in (y ∷ ys) zero x h = inl (sym (same_Some y x h))
got-in (y ∷ ys) (suc i) x h = inr (got-in ys i x h)

-- A text that is the same as the one at a place is among the others.
pub same-in : (texts : List (List ℕ)) (i : ℕ) (own text : List ℕ) (b : Bool) → slice_get texts i ≡ Some own → b ≡ pointwise nat_eq own text → b ≡ true → IsIn text texts
same-in texts i own text b at is told = subst (λ t. IsIn t texts) (same_text own text (sym told ∙ is)) (got-in texts i own at)

-- A text that goes behind the others, and one that is among them.
pub gains-behind : (old new : List (List ℕ)) (text : List ℕ) → new ≡ old ++ text ∷ [] → Gains old new (λ t. t ≡ text)
gains-behind old new text longer = record {
  texts = λ t. rw longer (
    λ m. elim (in_split t old (text ∷ []) m) [ inl o ↦ inl o | inr n ↦ elim n [ inl e ↦ inr e | inr none ↦ absurd none ] ],
    λ w. elim w [ inl o ↦ in-append_left t old (text ∷ []) o | inr e ↦ in-append_right t old (text ∷ []) (inl e) ],
  );
}

pub gains-there : (texts : List (List ℕ)) (text : List ℕ) → IsIn text texts → Gains texts texts (λ t. t ≡ text)
gains-there texts text m = record { texts = λ t. (λ h. inl h, λ w. elim w [ inl h ↦ h | inr e ↦ subst (λ u. IsIn u texts) (sym e) m ]) }

pub gains-nothing : (texts : List (List ℕ)) (P : List ℕ → Type 0) → ((t : List ℕ) → P t → ⊥) → Gains texts texts P
gains-nothing texts P none_has = record { texts = λ t. (λ h. inl h, λ v. elim v [ inl h ↦ h | inr p ↦ absurd (none_has t p) ]) }

pub gains-as : (old new : List (List ℕ)) (P Q : List ℕ → Type 0) → Gains old new P → ((t : List ℕ) → P t ↔ Q t) → Gains old new Q
gains-as old new P Q gains same = record {
  texts = λ t. (
    λ h. elim ((gains.texts t).0 h) [ inl o ↦ inl o | inr p ↦ inr ((same t).0 p) ],
    λ v. elim v [ inl o ↦ (gains.texts t).1 (inl o) | inr q ↦ (gains.texts t).1 (inr ((same t).1 q)) ],
  );
}

pub gains-then : (old now new : List (List ℕ)) (P Q : List ℕ → Type 0) → Gains old now P → Gains now new Q → Gains old new (λ t. P t ⊎ Q t)
gains-then old now new P Q first second = record {
  texts = λ t. (
    λ h. elim ((second.texts t).0 h) [
      | inl n ↦ elim ((first.texts t).0 n) [ inl o ↦ inl o | inr p ↦ inr (inl p) ]
      | inr q ↦ inr (inr q)
    ],
    λ v. elim v [
      | inl o ↦ (second.texts t).1 (inl ((first.texts t).1 (inl o)))
      | inr w ↦ elim w [ inl p ↦ (second.texts t).1 (inl ((first.texts t).1 (inr p))) | inr q ↦ (second.texts t).1 (inr q) ]
    ],
  );
}

pub gains-turn : {A : Type 0} (old now new : List (List ℕ)) (Q : List ℕ → A → Type 0) (xs : List A) (i : ℕ) (r : A) → i < length xs → r ≡ get_or xs i r
    → Gains old now (λ t. AnyOf (Q t) (take i xs)) → Gains now new (λ t. Q t r) → Gains old new (λ t. AnyOf (Q t) (take (i + 1) xs))
gains-turn old now new Q xs i r within read first second =
    gains-as old new (λ t. AnyOf (Q t) (take i xs) ⊎ Q t r) (λ t. AnyOf (Q t) (take (i + 1) xs))
    (gains-then old now new (λ t. AnyOf (Q t) (take i xs)) (λ t. Q t r) first second)
    (λ t. let turn = any_turn (Q t) xs i r within read in (λ p. turn.1 p, λ p. turn.0 p))

pub gains-end : {A : Type 0} (old new : List (List ℕ)) (Q : List ℕ → A → Type 0) (xs : List A) (i : ℕ) → length xs ≤ i → Gains old new (λ t. AnyOf (Q t) (take i xs)) → Gains old new (λ t. AnyOf (Q t) xs)
gains-end old new Q xs i past gains = subst (λ ys. Gains old new (λ t. AnyOf (Q t) ys)) (take_all i xs past) gains

pub gains-mapped : {A B : Type 0} (old new : List (List ℕ)) (Q : List ℕ → B → Type 0) (f : A → B) (xs : List A) → Gains old new (λ t. AnyOf (λ x. Q t (f x)) xs) → Gains old new (λ t. AnyOf (Q t) (map f xs))
gains-mapped old new Q f xs gains =
    gains-as old new (λ t. AnyOf (λ x. Q t (f x)) xs) (λ t. AnyOf (Q t) (map f xs)) gains (λ t. let m = any-map f (Q t) xs in (λ p. m.1 p, λ p. m.0 p))

-- the list that began empty has the texts with the property
pub gains-all : (old new : List (List ℕ)) (P : List ℕ → Type 0) → old ≡ [] → Gains old new P → (t : List ℕ) → IsIn t new ↔ P t
gains-all old new P empty gains t = (
  λ m. elim ((gains.texts t).0 m) [ inl o ↦ absurd (subst (IsIn t) empty o) | inr p ↦ p ],
  λ p. (gains.texts t).1 (inr p),
)

-- what an answer gives
pub given-one : (given : Option (List ℕ)) (s t : List ℕ) → Some s ≡ given → (t ≡ s) ↔ (given ≡ Some t)
given-one given s t e = (λ h. sym e ∙ ap (λ x. Some x) (sym h), λ h. let both : Some s ≡ Some t = e ∙ h in cc)

pub given-none : (given : Option (List ℕ)) (t : List ℕ) → None ≡ given → given ≡ Some t → ⊥
given-none given t e h = let both : None ≡ Some t = e ∙ h in cc

-- one text, and two
pub gains-one : (old new : List (List ℕ)) (text : List ℕ) → Gains old new (λ t. t ≡ text) → Gains old new (λ t. IsIn t (text ∷ []))
gains-one old new text gains = gains-as old new (λ t. t ≡ text) (λ t. IsIn t (text ∷ [])) gains (λ t. (λ e. inl e, λ m. elim m [ inl e ↦ e | inr n ↦ absurd n ]))

pub gains-two : (old now new : List (List ℕ)) (a b : List ℕ) → Gains old now (λ t. IsIn t (a ∷ [])) → Gains now new (λ t. IsIn t (b ∷ [])) → Gains old new (λ t. IsIn t (a ∷ b ∷ []))
gains-two old now new a b first second =
    gains-as old new (λ t. IsIn t (a ∷ []) ⊎ IsIn t (b ∷ [])) (λ t. IsIn t (a ∷ b ∷ [])) (gains-then old now new (λ t. IsIn t (a ∷ [])) (λ t. IsIn t (b ∷ [])) first second)
    (λ t. (
      λ w. elim w [ inl m ↦ elim m [ inl e ↦ inl e | inr n ↦ absurd n ] | inr m ↦ inr m ],
      λ m. elim m [ inl e ↦ inl (inl e) | inr n ↦ inr n ],
    ))

-- the texts of a list, each put in by itself
any-text : {A B : Type 0} (f : B → List ℕ) (g : A → B) (t : List ℕ) (xs : List A) → AnyOf (λ x. IsIn t (f (g x) ∷ [])) xs ↔ IsIn t (map f (map g xs))
any-text f g t [] = (λ m. m, λ m. m)
any-text f g t (x ∷ xs) = let more = any-text f g t xs in (
  λ a. elim a [ inl one ↦ elim one [ inl e ↦ inl e | inr n ↦ absurd n ] | inr m ↦ inr (more.0 m) ],
  λ m. elim m [ inl e ↦ inl (inl e) | inr n ↦ inr (more.1 n) ],
)

pub gains-texts : {A B : Type 0} (old new : List (List ℕ)) (f : B → List ℕ) (g : A → B) (xs : List A) → Gains old new (λ t. AnyOf (λ x. IsIn t (f (g x) ∷ [])) xs) → Gains old new (λ t. IsIn t (map f (map g xs)))
gains-texts old new f g xs gains = gains-as old new (λ t. AnyOf (λ x. IsIn t (f (g x) ∷ [])) xs) (λ t. IsIn t (map f (map g xs))) gains (λ t. any-text f g t xs)

-- what is read at a place, whatever is read behind the end
pub read-any : {A : Type 0} (xs : List A) (i : ℕ) (a b : A) → i < length xs → get_or xs i a ≡ get_or xs i b
read-any [] i a b h = absurd (omega arith)
read-any (x ∷ xs) zero a b h = refl
read-any (x ∷ xs) (suc i) a b h = read-any xs i a b (omega arith)

pub item-is : {A : Type 0} (xs : List A) (i : ℕ) (d : A) → i < length xs → get_or xs i d ≡ get_or xs i (get_or xs i d)
item-is xs i d h = read-any xs i d (get_or xs i d) h

-- each token of a source is a slice of it
pub each-slice : (source : List ℕ) (from to : ℕ) (tokens : List Token) → AreSlices source from to tokens → Each (IsSlice source) tokens
each-slice source from to [] are = tt
each-slice source from to (t ∷ ts) are = (are.1, each-slice source t.to to ts are.2)
