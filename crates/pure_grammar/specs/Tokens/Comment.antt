-- Comments, and what stands between tokens.
use Rattle.std.specs.Prelude.{◌≡◌, ℕ, zero, suc, ◌==◌, Bool, false, ◌&&◌, List, [], ◌∷◌, ◌++◌, if◌then◌else◌, IsTrue}
use Rattle.pure_grammar.specs.Tokens.Bytes.{is_empty, is_blank, head_is, marked}

-- `(*`
abbrev pub is_opening : ℕ → ℕ → Bool
is_opening b c = (b == 40) && (c == 42)

-- `*)`
abbrev pub is_closing : ℕ → ℕ → Bool
is_closing b c = (b == 42) && (c == 41)

-- The bytes close just so many comments that are open before them, the last one at their end. Comments nest, and any
-- bytes may stand in them.
abbrev pub closes : ℕ → List ℕ → Bool
closes zero bs = is_empty bs
closes (suc depth) [] = false
closes (suc depth) (b ∷ []) = false
closes (suc depth) (b ∷ c ∷ bs) =
    if is_opening b c then closes (suc (suc depth)) bs
    else (if is_closing b c then closes depth bs
    else closes (suc depth) (c ∷ bs))

-- a comment runs from `(*` to its `*)`
abbrev pub is_comment : List ℕ → Bool
is_comment bs = marked 40 (marked 42 (closes 1)) bs

-- the text begins with `(*`
abbrev pub opens_comment : List ℕ → Bool
opens_comment bs = marked 40 (head_is (λ b. b == 42)) bs

-- Blanks and comments, one after another.
pub data Gap : List ℕ → Type 0 where
  nothing : Gap []
  blank : {b : ℕ} {bs : List ℕ} → IsTrue (is_blank b) → Gap bs → Gap (b ∷ bs)
  comment : (item bs : List ℕ) → IsTrue (is_comment item) → Gap bs → Gap (item ++ bs)

-- neither a blank nor a comment begins here
pub record IsSettled (bytes : List ℕ) : Type 0 where
  pub no_blank : head_is is_blank bytes ≡ false
  pub no_comment : (comment rest : List ℕ) → bytes ≡ comment ++ rest → is_comment comment ≡ false
