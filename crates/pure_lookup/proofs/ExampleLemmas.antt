-- The examples of look-ups.
use Rattle.std.proofs.Common.{◌≡◌, ◌≢◌, ℕ, ◌+◌, ◌≤◌, List, [], ◌++◌, refl, ap, sym, ◌∙◌, inl, inr, arith, true≢false, false}
use Rattle.std.specs.Prelude.{codes, Some, slice_get}
use Rattle.pure_text.specs.Lists.{IsIn}
use Rattle.pure_text.proofs.ListLaws.{is_in, in-is_in, is_in-in}
use Rattle.pure_definitions.specs.Names.{protect_name}
use Rattle.pure_definitions.specs.Types.Typ.{prop}
use Rattle.pure_typ.specs.NameTexts.{builtin_texts}
use Rattle.pure_logic.specs.PureContent.{pure_content}
use Rattle.pure_lookup.specs.Meaning.{Space, facts, constants, constructors, IsWritable, IsDeclaredIn, pure_text, built_texts, full_text, Meaning, Declared, Built, IsVisible}
use Rattle.pure_lookup.specs.Examples.{example_texts, over_two, LastExample, FullExample, PureExample, ProtectExample}
use Rattle.pure_lookup.proofs.TextLemmas.{builtin-not_built}

-- whether a dot is in a text, tested
pub no_dot : (w : List ℕ) → is_in 46 w ≡ false → ¬ IsIn 46 w
no_dot w h m = true≢false (sym (in-is_in 46 w m) ∙ h)

-- No ancestor of the example's theory that declares x comes after this place.
module _ (first second place : ℕ) (a : first + 1 ≤ place) (b : second + 1 ≤ place) where
  x-last : (other : ℕ) (theory : List ℕ) (m : Meaning) → IsVisible example_texts (over_two first second) constants other theory (codes "x") m → other ≤ place
  x-last other theory m (inl h) = let zero_place = h.0 in omega arith
  x-last other theory m (inr (t, inl e, p, text, h)) = let index : t.index ≡ first = cc in omega arith
  x-last other theory m (inr (t, inr (inl e), p, text, h)) = let index : t.index ≡ second = cc in omega arith
  x-last other theory m (inr (t, inr (inr i), p, text, h)) = absurd i

texts-of : slice_get (builtin_texts ++ example_texts) 7 ≡ Some (full_text (codes "A") (codes "x"))
unfolding builtin_texts example_texts
texts-of = refl

pub text-A : slice_get (builtin_texts ++ example_texts) 6 ≡ Some (codes "A")
unfolding builtin_texts example_texts
text-A = refl

pub text-B : slice_get (builtin_texts ++ example_texts) 8 ≡ Some (codes "B")
unfolding builtin_texts example_texts
text-B = refl

text-Bx : slice_get (builtin_texts ++ example_texts) 9 ≡ Some (full_text (codes "B") (codes "x"))
unfolding builtin_texts example_texts
text-Bx = refl

-- a number that isn't that of the mark
two_numbers : (m n : ℕ) → n + 1 ≤ m → m ≢ n
two_numbers m n h e = absurd (omega arith)

module _ (first second : ℕ) where
  x-of_A : IsVisible example_texts (over_two first second) constants (1 + first) (codes "A") (codes "x") (Declared 7)
  x-of_A = inr (record { name = 6; index = first }, inl refl, refl, text-A, (record { declared = (prop, inr (inr (inr (inr (inr (inr (inr (inl refl)))))))); other = two_numbers 7 protect_name (omega arith) }, texts-of))

  x-of_B : IsVisible example_texts (over_two first second) constants (1 + second) (codes "B") (codes "x") (Declared 9)
  x-of_B = inr (record { name = 8; index = second }, inr (inl refl), refl, text-B, (record { declared = (prop, inr (inr (inr (inr (inr (inr (inr (inr (inl refl))))))))); other = two_numbers 9 protect_name (omega arith) }, text-Bx))

pub last_example : LastExample
last_example = (
  inr (no_dot (codes "x") refl, record { place = 3; theory = codes "B"; visible = x-of_B 1 2; last = x-last 1 2 3 (omega arith) (omega arith) }),
  inr (no_dot (codes "x") refl, record { place = 3; theory = codes "A"; visible = x-of_A 2 1; last = x-last 2 1 3 (omega arith) (omega arith) }),
)

pub full_example : FullExample
full_example = inl (is_in-in 46 (codes "A.x") refl, record { place = 2; theory = codes "A"; base = codes "x"; full = refl; clean = no_dot (codes "x") refl; visible = x-of_A 1 2 })

pure-fun : slice_get builtin_texts 0 ≡ Some (full_text pure_text (codes "fun"))
unfolding builtin_texts pure_text
pure-fun = refl

pure-refl : slice_get built_texts 0 ≡ Some (full_text pure_text (codes "refl"))
unfolding built_texts pure_text
pure-refl = refl

pure-refl_text : codes "Pure.refl" ≡ full_text pure_text (codes "refl")
unfolding pure_text
pure-refl_text = refl

pure-protect : slice_get builtin_texts 5 ≡ Some (full_text pure_text (codes "protect"))
unfolding builtin_texts pure_text
pure-protect = refl

pure-protect_text : codes "Pure.protect" ≡ full_text pure_text (codes "protect")
unfolding pure_text
pure-protect_text = refl

-- Pure's content is in no theory, so that what is visible is Pure's own.
in_pure : (space : Space) (base : List ℕ) (other : ℕ) (theory : List ℕ) (m : Meaning) → IsVisible [] pure_content space other theory base m → other ≤ 0
in_pure space base other theory m (inl h) = let zero_place = h.0 in omega arith
in_pure space base other theory m (inr (t, i, p, text, h)) = absurd i

pub pure_example : PureExample
pure_example = (
  inr (
    no_dot (codes "fun") refl,
    record {
      place = 0;
      theory = pure_text;
      visible = inl (refl, refl, (record { declared = (2, inl refl); other = λ e. two_numbers protect_name 0 (omega arith) (sym e) }, pure-fun));
      last = in_pure constructors (codes "fun");
    },
  ),
  inr (no_dot (codes "refl") refl, record { place = 0; theory = pure_text; visible = inl (refl, refl, (refl, pure-refl)); last = in_pure facts (codes "refl") }),
  inl (is_in-in 46 (codes "Pure.refl") refl, record { place = 0; theory = pure_text; base = codes "refl"; full = pure-refl_text; clean = no_dot (codes "refl") refl; visible = inl (refl, refl, (refl, pure-refl)) }),
)

-- The only fact that Pure's content declares is the axiom of the mark.
not-declared : (n : ℕ) → IsWritable pure_content facts n → ⊥
not-declared n h = by h.declared
  where
    by : IsDeclaredIn facts pure_content.declarations n → ⊥
    by (inl (A, inr (inr (inr (inr (inr (inr (inl e)))))))) = h.other (cc)
    by (inl (A, inl e)) = absurd (cc)
    by (inl (A, inr (inl e))) = absurd (cc)
    by (inl (A, inr (inr (inl e)))) = absurd (cc)
    by (inl (A, inr (inr (inr (inl e))))) = absurd (cc)
    by (inl (A, inr (inr (inr (inr (inl e)))))) = absurd (cc)
    by (inl (A, inr (inr (inr (inr (inr (inl e))))))) = absurd (cc)
    by (inl (A, inr (inr (inr (inr (inr (inr (inr i)))))))) = absurd i
    by (inr (l, A, inl e)) = absurd (cc)
    by (inr (l, A, inr (inl e))) = absurd (cc)
    by (inr (l, A, inr (inr (inl e)))) = absurd (cc)
    by (inr (l, A, inr (inr (inr (inl e))))) = absurd (cc)
    by (inr (l, A, inr (inr (inr (inr (inl e)))))) = absurd (cc)
    by (inr (l, A, inr (inr (inr (inr (inr (inl e))))))) = absurd (cc)
    by (inr (l, A, inr (inr (inr (inr (inr (inr (inl e)))))))) = absurd (cc)
    by (inr (l, A, inr (inr (inr (inr (inr (inr (inr i)))))))) = absurd i

not-visible : (place : ℕ) (theory base : List ℕ) (m : Meaning) → (theory ≡ pure_text → full_text theory base ≡ full_text pure_text (codes "protect")) → ¬ IsVisible [] pure_content facts place theory base m
not-visible place theory base (Declared n) e (inl h) = not-declared n h.2.0
not-visible place theory base (Built p) e (inl h) = builtin-not_built 5 p (full_text pure_text (codes "protect")) pure-protect (rw (← (e h.1)) h.2.1)
not-visible place theory base m e (inr (t, i, before, text, h)) = absurd i

pub protect_example : ProtectExample
protect_example m = (
  λ h. elim h [
    | inl k ↦ no_dot (codes "protect") refl k.0
    | inr k ↦ not-visible k.1.place k.1.theory (codes "protect") m (λ e. ap (λ t. full_text t (codes "protect")) e) k.1.visible
  ],
  λ h. elim h [
    | inl k ↦ not-visible k.1.place k.1.theory k.1.base m (λ e. sym k.1.full ∙ pure-protect_text) k.1.visible
    | inr k ↦ absurd (k.0 (is_in-in 46 (codes "Pure.protect") refl))
  ],
)
