-- Tables of names.
use Rattle.std.proofs.Common.{◌≡◌, ◌↔◌, ◌⊎◌, inl, inr, ℕ, zero, suc, ◌<◌, List, [], ◌∷◌, ◌++◌, length, get_or, map, sym, ◌∙◌, ap, subst, arith, Bool, Option, Some, None}
use Rattle.std.specs.declared.cmp.Ordering.TheVariants.{Less}
use Rattle.std.specs.Prelude.{IsTrue, is_some}
use Rattle.std.specs.List.{AllByRecursion, slice_get}
use Rattle.std.specs.List.Sorted.{IsStrictlySortedBy}
use Rattle.std.proofs.lemmas.List.{append-nil, map-append}
use Rattle.std.proofs.lemmas.Map.Keys.{sorted_head, sorted_tail}
use Rattle.pure_text.specs.Lists.{IsIn}
use Rattle.pure_text.proofs.AnswerLaws.{yes_as, no_as}
use Rattle.pure_text.proofs.AscendingTexts.{byte_order}
use Rattle.pure_text.proofs.ListLaws.{in-append_left, in-append_right, in_split}
use Rattle.pure_typ.specs.NameTexts.{builtin_texts, name_texts, AreSessionTexts, IsFound}
use Rattle.pure_kernel.specs.NameTable.{AreNamesOf}

got-in : {A : Type 0} (xs : List A) (n : ℕ) (x : A) → slice_get xs n ≡ Some x → IsIn x xs
got-in [] n x h = absurd (cc)
got-in (y ∷ ys) zero x h = inl (let e : y ≡ x = cc in sym e)
got-in (y ∷ ys) (suc n) x h = inr (got-in ys n x h)

in-at : {A : Type 0} (x : A) (xs : List A) → IsIn x xs → (n : ℕ) × (slice_get xs n ≡ Some x)
in-at x [] at = absurd at
in-at x (y ∷ ys) (inl same) = (0, ap Some (sym same))
in-at x (y ∷ ys) (inr there) = let rest = in-at x ys there in (suc rest.0, rest.1)

builtin-alone : (own : List (List ℕ)) → own ≡ [] → name_texts own ≡ builtin_texts
builtin-alone own e = ap (λ (o : List (List ℕ)). builtin_texts ++ o) e ∙ append-nil builtin_texts

-- The answer of a look-up among Pure's names alone tells whether the text is one of theirs.
pub told-builtin : (own : List (List ℕ)) (t : List ℕ) (found : Option ℕ) (b : Bool) → own ≡ [] → IsFound (name_texts own) t found → b ≡ is_some found → IsTrue b ↔ IsIn t builtin_texts
told-builtin own t (Some n) b e h is = rw is (yes_as _ (got-in builtin_texts n t (subst (λ (xs : List (List ℕ)). slice_get xs n ≡ Some t) (builtin-alone own e) h)))
told-builtin own t None b e h is = rw is (no_as _ (λ m. let at = in-at t builtin_texts m in h at.0 (subst (λ (xs : List (List ℕ)). slice_get xs at.0 ≡ Some t) (sym (builtin-alone own e)) at.1)))

-- ---- ascending lists
pub none-ascend : (texts : List (List ℕ)) → texts ≡ [] → IsStrictlySortedBy byte_order texts
unfolding IsStrictlySortedBy
none-ascend texts e = rw e tt

pub one-ascends : (t : List ℕ) (none texts : List (List ℕ)) → none ≡ [] → texts ≡ none ++ t ∷ [] → IsStrictlySortedBy byte_order texts
unfolding IsStrictlySortedBy
one-ascends t none texts e f = rw (f, e) (tt, tt)

below-at : (x : List ℕ) (xs : List (List ℕ)) (k : ℕ) (d : List ℕ) → AllByRecursion (λ y. byte_order x y ≡ Less) xs → k < length xs → byte_order x (get_or xs k d) ≡ Less
below-at x [] k d below h = absurd (omega arith)
below-at x (y ∷ ys) zero d below h = below.0
below-at x (y ∷ ys) (suc k) d below h = below-at x ys k d below.1 (omega arith)

pairs_ascend : (xs : List (List ℕ)) (i j : ℕ) (d : List ℕ) → IsStrictlySortedBy byte_order xs → i < j → j < length xs → byte_order (get_or xs i d) (get_or xs j d) ≡ Less
pairs_ascend [] i j d sorted less h = absurd (omega arith)
pairs_ascend (x ∷ xs) i zero d sorted less h = absurd (omega arith)
pairs_ascend (x ∷ xs) zero (suc j) d sorted less h = below-at x xs j d (sorted_head byte_order x xs sorted) (omega arith)
pairs_ascend (x ∷ xs) (suc i) (suc j) d sorted less h = pairs_ascend xs i j d (sorted_tail byte_order x xs sorted) (omega arith) (omega arith)

pub session-texts : (texts : List (List ℕ)) → IsStrictlySortedBy byte_order texts → ((t : List ℕ) → IsIn t texts → ¬ IsIn t builtin_texts) → length texts < 2147483648 → AreSessionTexts texts
session-texts texts ascend others few = record {
  ascend = λ i j d less within. pairs_ascend texts i j d ascend less within;
  others = λ m n t own given. others t (got-in texts n t given) (got-in builtin_texts m t own);
  few = few;
}

pub no-session_texts : (texts : List (List ℕ)) → texts ≡ [] → AreSessionTexts texts
no-session_texts texts e = session-texts texts (none-ascend texts e) (λ t m. absurd (subst (IsIn t) e m)) (rw e (omega arith))

-- ---- names of texts
pub names-none : {A : Type 0} (f : A → List ℕ) (texts : List A) (names : List (List ℕ)) → length texts ≡ 0 → names ≡ [] → AreNamesOf (map f texts) names
names-none f [] names none e = rw e (λ t. (λ m. absurd m, λ m. absurd m.0))
names-none f (x ∷ xs) names none e = absurd (omega (arith, none))

pub names-builtin : (t : List ℕ) (names : List (List ℕ)) → IsIn t builtin_texts → names ≡ [] → AreNamesOf (t ∷ []) names
names-builtin t names own e = rw e (λ u. (λ m. absurd m, λ m. elim m.0 [ inl same ↦ m.1 (subst (λ (v : List ℕ). IsIn v builtin_texts) (sym same) own) | inr n ↦ n ]))

pub names-one : (t : List ℕ) (none names : List (List ℕ)) → (¬ IsIn t builtin_texts) → none ≡ [] → names ≡ none ++ t ∷ [] → AreNamesOf (t ∷ []) names
names-one t none names other e f = rw (f, e) (λ u. (λ m. (m, elim m [ inl same ↦ subst (λ (v : List ℕ). ¬ IsIn v builtin_texts) (sym same) other | inr n ↦ absurd n ]), λ m. m.0))

pub names-single : {A : Type 0} (f : A → List ℕ) (texts : List A) (d : A) (names : List (List ℕ)) → length texts ≡ 1 → AreNamesOf (f (get_or texts 0 d) ∷ []) names → AreNamesOf (map f texts) names
names-single f [] d names alone h = absurd (omega (arith, alone))
names-single f (x ∷ []) d names alone h = h
names-single f (x ∷ y ∷ xs) d names alone h = absurd (omega (arith, alone))

both : (left right texts first second : List (List ℕ)) → AreNamesOf left first → AreNamesOf right second → ((t : List ℕ) → IsIn t texts ↔ (IsIn t first ⊎ IsIn t second)) → AreNamesOf (left ++ right) texts
both left right texts first second a b members t = (
  λ m. elim ((members t).0 m) [
    | inl h ↦ (in-append_left t left right ((a t).0 h).0, ((a t).0 h).1)
    | inr h ↦ (in-append_right t left right ((b t).0 h).0, ((b t).0 h).1)
  ],
  λ g. (members t).1 (elim (in_split t left right g.0) [ inl h ↦ inl ((a t).1 (h, g.1)) | inr h ↦ inr ((b t).1 (h, g.1)) ]),
)

pub names-united : {A : Type 0} (f : A → List ℕ) (all front back : List A) (texts first second : List (List ℕ)) → all ≡ front ++ back → AreNamesOf (map f front) first → AreNamesOf (map f back) second
    → ((t : List ℕ) → IsIn t texts ↔ (IsIn t first ⊎ IsIn t second)) → AreNamesOf (map f all) texts
names-united f all front back texts first second parts a b members =
    subst (λ (xs : List (List ℕ)). AreNamesOf xs texts) (sym (ap (map f) parts ∙ map-append f front back)) (both (map f front) (map f back) texts first second a b members)
