-- The names of a session: what its theories give are finitely many texts, which can be put in order.
use Rattle.std.proofs.Common.{◌≡◌, ◌⊎◌, ◌↔◌, ◌∙◌, inl, inr, ℕ, ◌+◌, ◌-◌, ◌≤◌, Bool, true, false, List, [], ◌∷◌, ◌++◌, length, take, drop, Option, Some, None, refl, sym, ap, arith, true≢false, length-take, Ordering}
use Rattle.std.specs.Prelude.{slice_range}
use Rattle.std.specs.declared.cmp.Ordering.TheVariants.{Less, Equal, Greater}
use Rattle.std.specs.List.{AllByRecursion}
use Rattle.std.specs.List.Sorted.{IsStrictlySortedBy}
use Rattle.std.specs.Ordering.{ordering_reverse}
use Rattle.std.specs.Cmp.Lexicographic.{nat_list_cmp_total}
use Rattle.std.proofs.lemmas.Map.Keys.{sorted_head, sorted_tail}
use Rattle.pure_text.specs.Lists.{IsIn, AnyOf}
use Rattle.pure_text.proofs.ListLaws.{in_split, in-append_left, in-append_right}
use Rattle.pure_text.proofs.AscendingTexts.{byte_order, equal_texts}
use Rattle.pure_grammar.specs.declared.token.Token.{Token}
use Rattle.pure_grammar.specs.declared.token.TokenKind.{TokenKind}
use Rattle.pure_grammar.specs.declared.token.TokenKind.TheVariants as kind
use Rattle.pure_grammar.specs.Tokens.Spelling.{Spells, HasFault}
use Rattle.pure_lex.proofs.Existence.{some_reading}
use Rattle.pure_graph.specs.Order.{Loaded}
use Rattle.pure_graph.specs.SessionNames.{spelling_of, Gives, GivesInside, IsSpelled, full_names, IsGiven, AreNames}
use Rattle.pure_session.proofs.TokenLemmas.{inside-given, inside-fault, spelled-given, spelled-fault}

-- ---- texts in order
abbrev IsBelowAll : List ℕ → List (List ℕ) → Type 0
IsBelowAll x ys = AllByRecursion (λ y. byte_order x y ≡ Less) ys

sorted-none : IsStrictlySortedBy byte_order []
unfolding IsStrictlySortedBy
sorted-none = tt

sorted-cons : (x : List ℕ) (xs : List (List ℕ)) → IsBelowAll x xs → IsStrictlySortedBy byte_order xs → IsStrictlySortedBy byte_order (x ∷ xs)
unfolding IsStrictlySortedBy
sorted-cons x xs below sorted = (below, sorted)

below-further : (x y : List ℕ) (zs : List (List ℕ)) → byte_order x y ≡ Less → IsBelowAll y zs → IsBelowAll x zs
below-further x y [] less below = tt
below-further x y (z ∷ zs) less below = (nat_list_cmp_total.trans x y z less below.0, below-further x y zs less below.1)

abbrev placed : Ordering → (t x : List ℕ) → (xs more : List (List ℕ)) → List (List ℕ)
placed Less t x xs more = t ∷ x ∷ xs
placed Equal t x xs more = x ∷ xs
placed Greater t x xs more = x ∷ more

abbrev put : List ℕ → List (List ℕ) → List (List ℕ)
put t [] = t ∷ []
put t (x ∷ xs) = placed (byte_order t x) t x xs (put t xs)

put-below : (z t : List ℕ) (xs : List (List ℕ)) → byte_order z t ≡ Less → IsBelowAll z xs → IsBelowAll z (put t xs)
put-below z t [] less below = (less, tt)
put-below z t (x ∷ xs) less below = by (byte_order t x) (put-below z t xs less below.1)
  where
    by : (o : Ordering) → IsBelowAll z (put t xs) → IsBelowAll z (placed o t x xs (put t xs))
    by Less more = (less, below)
    by Equal more = below
    by Greater more = (below.0, more)

put-sorted : (t : List ℕ) (xs : List (List ℕ)) → IsStrictlySortedBy byte_order xs → IsStrictlySortedBy byte_order (put t xs)
put-sorted t [] sorted = sorted-cons t [] tt sorted
put-sorted t (x ∷ xs) sorted = by (byte_order t x) refl (put-sorted t xs (sorted_tail byte_order x xs sorted))
  where
    by : (o : Ordering) → byte_order t x ≡ o → IsStrictlySortedBy byte_order (put t xs) → IsStrictlySortedBy byte_order (placed o t x xs (put t xs))
    by Less e more = sorted-cons t (x ∷ xs) (e, below-further t x xs e (sorted_head byte_order x xs sorted)) sorted
    by Equal e more = sorted
    by Greater e more = sorted-cons x (put t xs) (put-below x t xs (nat_list_cmp_total.antisymm x t ∙ ap ordering_reverse e) (sorted_head byte_order x xs sorted)) more

put-has : (u t : List ℕ) (xs : List (List ℕ)) → IsIn u (put t xs) ↔ ((u ≡ t) ⊎ IsIn u xs)
put-has u t [] = (λ m. m, λ m. m)
put-has u t (x ∷ xs) = by (byte_order t x) refl (put-has u t xs)
  where
    by : (o : Ordering) → byte_order t x ≡ o → IsIn u (put t xs) ↔ ((u ≡ t) ⊎ IsIn u xs) → IsIn u (placed o t x xs (put t xs)) ↔ ((u ≡ t) ⊎ IsIn u (x ∷ xs))
    by Less e more = (λ m. m, λ m. m)
    by Equal e more = (λ m. inr m, λ w. elim w [ inl q ↦ inl (q ∙ equal_texts t x e) | inr m ↦ m ])
    by Greater e more = (
      λ m. elim m [ inl q ↦ inr (inl q) | inr k ↦ elim (more.0 k) [ inl q ↦ inl q | inr n ↦ inr (inr n) ] ],
      λ w. elim w [ inl q ↦ inr (more.1 (inl q)) | inr m ↦ elim m [ inl q ↦ inl q | inr n ↦ inr (more.1 (inr n)) ] ],
    )

abbrev in_order : List (List ℕ) → List (List ℕ)
in_order [] = []
in_order (t ∷ ts) = put t (in_order ts)

order-sorted : (ts : List (List ℕ)) → IsStrictlySortedBy byte_order (in_order ts)
order-sorted [] = sorted-none
order-sorted (t ∷ ts) = put-sorted t (in_order ts) (order-sorted ts)

order-has : (u : List ℕ) (ts : List (List ℕ)) → IsIn u (in_order ts) ↔ IsIn u ts
order-has u [] = (λ m. m, λ m. m)
order-has u (t ∷ ts) =
    let one = put-has u t (in_order ts) in
    let more = order-has u ts in
    (λ m. elim (one.0 m) [ inl q ↦ inl q | inr k ↦ inr (more.0 k) ], λ m. elim m [ inl q ↦ one.1 (inl q) | inr k ↦ one.1 (inr (more.1 k)) ])

-- ---- finitely many texts
pub record IsFinite (P : List ℕ → Type 0) : Type 0 where
  pub texts : List (List ℕ)
  pub are : (t : List ℕ) → IsIn t texts ↔ P t

pub finite-none : (P : List ℕ → Type 0) → ((t : List ℕ) → P t → ⊥) → IsFinite P
finite-none P never = record { texts = []; are = λ t. (λ m. absurd m, λ p. never t p) }

finite-or : (P Q : List ℕ → Type 0) → IsFinite P → IsFinite Q → IsFinite (λ t. P t ⊎ Q t)
finite-or P Q f g = record {
  texts = f.texts ++ g.texts;
  are = λ t. (
    λ m. elim (in_split t f.texts g.texts m) [ inl k ↦ inl ((f.are t).0 k) | inr k ↦ inr ((g.are t).0 k) ],
    λ w. elim w [ inl p ↦ in-append_left t f.texts g.texts ((f.are t).1 p) | inr q ↦ in-append_right t f.texts g.texts ((g.are t).1 q) ],
  );
}

pub finite-any : {A : Type 0} (P : A → List ℕ → Type 0) → ((x : A) → IsFinite (P x)) → (xs : List A) → IsFinite (λ t. AnyOf (λ x. P x t) xs)
finite-any P each [] = finite-none (λ t. ⊥) (λ t h. h)
finite-any P each (x ∷ xs) = finite-or (P x) (λ t. AnyOf (λ y. P y t) xs) (each x) (finite-any P each xs)

finite-as : (P Q : List ℕ → Type 0) → IsFinite P → ((t : List ℕ) → P t ↔ Q t) → IsFinite Q
finite-as P Q f same = record { texts = f.texts; are = λ t. (λ m. (same t).0 ((f.are t).0 m), λ q. (f.are t).1 ((same t).1 q)) }

some-same : (x y : List ℕ) → Some x ≡ Some y → x ≡ y
some-same x y e = cc e

none-some : (y : List ℕ) → None ≡ Some y → ⊥
none-some y e = absurd (cc e)

finite-option : (o : Option (List ℕ)) → IsFinite (λ t. o ≡ Some t)
finite-option None = finite-none (λ t. None ≡ Some t) (λ t e. none-some t e)
finite-option (Some x) = record { texts = x ∷ []; are = λ t. (λ m. elim m [ inl e ↦ ap Some (sym e) | inr n ↦ absurd n ], λ e. inl (sym (some-same x t e))) }

finite-list : (ts : List (List ℕ)) → IsFinite (λ t. IsIn t ts)
finite-list ts = record { texts = ts; are = λ t. (λ m. m, λ m. m) }

-- finitely many texts, in order
pub in-order : (P : List ℕ → Type 0) → IsFinite P → (texts : List (List ℕ)) × IsStrictlySortedBy byte_order texts × ((t : List ℕ) → IsIn t texts ↔ P t)
in-order P f = (in_order f.texts, order-sorted f.texts, λ t. (λ m. (f.are t).0 ((order-has t f.texts).0 m), λ p. (order-has t f.texts).1 ((f.are t).1 p)))

-- ---- the texts of a source
taken-short : (n : ℕ) (xs : List ℕ) → length (take n xs) ≤ n
taken-short n xs = let cut = length-take n xs in omega arith

range-short : (source : List ℕ) (from to : ℕ) → length (slice_range source from to) ≤ to
range-short source from to = let short : length (slice_range source from to) ≤ to - from = taken-short (to - from) (drop from source) in omega arith

abbrev is_quote : TokenKind → Bool
is_quote kind.Quote = true
is_quote _ = false

quote_or_not : (k : TokenKind) → (k ≡ kind.Quote) ⊎ ¬ (k ≡ kind.Quote)
quote_or_not kind.Quote = inl refl
quote_or_not kind.Word = inr (λ e. true≢false (sym (ap is_quote e)))
quote_or_not kind.Ident = inr (λ e. true≢false (sym (ap is_quote e)))
quote_or_not kind.Qualified = inr (λ e. true≢false (sym (ap is_quote e)))
quote_or_not kind.TypeVar = inr (λ e. true≢false (sym (ap is_quote e)))
quote_or_not kind.Schem = inr (λ e. true≢false (sym (ap is_quote e)))
quote_or_not kind.BoundName = inr (λ e. true≢false (sym (ap is_quote e)))
quote_or_not kind.Number = inr (λ e. true≢false (sym (ap is_quote e)))
quote_or_not kind.Symbol = inr (λ e. true≢false (sym (ap is_quote e)))
quote_or_not kind.End = inr (λ e. true≢false (sym (ap is_quote e)))

gives : (source : List ℕ) (is_quoted : Bool) (token : Token) → IsFinite (λ t. Gives source is_quoted token t)
gives source is_quoted token = finite-option (spelling_of is_quoted token.kind (slice_range source token.from token.to))

inside : (source : List ℕ) (quote : Token) → IsFinite (λ t. GivesInside source quote t)
inside source quote = by (quote_or_not quote.kind) (some_reading (quote.to - 1) (slice_range source (quote.from + 1) (quote.to - 1)) (range-short source (quote.from + 1) (quote.to - 1)))
  where
    by : (quote.kind ≡ kind.Quote) ⊎ ¬ (quote.kind ≡ kind.Quote)
        → ((ts : List Token) × Spells (quote.to - 1) ts (slice_range source (quote.from + 1) (quote.to - 1))) ⊎ ((place : ℕ) × HasFault (quote.to - 1) (slice_range source (quote.from + 1) (quote.to - 1)) place)
        → IsFinite (λ t. GivesInside source quote t)
    by (inr never) d = finite-none (λ t. GivesInside source quote t) (λ t g. never g.0)
    by (inl q) (inr w) = finite-none (λ t. GivesInside source quote t) (λ t g. inside-fault source quote w.0 t w.1 g)
    by (inl q) (inl w) = finite-as (λ t. AnyOf (λ token. Gives source true token t) w.0) (λ t. GivesInside source quote t)
        (finite-any (λ token t. Gives source true token t) (λ token. gives source true token) w.0) (λ t. inside-given source quote w.0 q w.1 t)

spelled : (source : List ℕ) → IsFinite (λ t. IsSpelled source t)
spelled source = by (some_reading (length source) (slice_range source 0 (length source)) (range-short source 0 (length source)))
  where
    by : ((ts : List Token) × Spells (length source) ts (slice_range source 0 (length source))) ⊎ ((place : ℕ) × HasFault (length source) (slice_range source 0 (length source)) place) → IsFinite (λ t. IsSpelled source t)
    by (inr w) = finite-none (λ t. IsSpelled source t) (λ t g. spelled-fault source w.0 t w.1 g)
    by (inl w) = finite-as (λ t. AnyOf (λ token. Gives source false token t ⊎ GivesInside source token t) w.0) (λ t. IsSpelled source t)
        (finite-any (λ token t. Gives source false token t ⊎ GivesInside source token t)
        (λ token. finite-or (λ t. Gives source false token t) (λ t. GivesInside source token t) (gives source false token) (inside source token)) w.0)
        (λ t. spelled-given source w.0 w.1 t)

given : (l : Loaded) → IsFinite (λ t. IsGiven l t)
given l = finite-or (λ t. IsSpelled l.source t) (λ t. AnyOf (λ command. IsIn t (full_names l.name command)) l.text.commands)
    (spelled l.source) (finite-any (λ command t. IsIn t (full_names l.name command)) (λ command. finite-list (full_names l.name command)) l.text.commands)

-- the names of loaded theories
pub names-there : (theories : List Loaded) → (texts : List (List ℕ)) × AreNames theories texts
names-there theories =
    let w = in-order (λ t. AnyOf (λ l. IsGiven l t) theories) (finite-any (λ l t. IsGiven l t) given theories) in
    (w.0, record { ascend = w.1; given = w.2 })
