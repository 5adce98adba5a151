-- The theories of a session that have ended, by their last contents.
use Rattle.std.specs.Prelude.{◌≡◌, ◌≢◌, ◌⊎◌, ◌<◌, ℕ, List, []}
use Rattle.pure_text.specs.Lists.{IsIn, Each}
use Rattle.pure_typ.specs.NameTexts.{HasText}
use Rattle.pure_logic.specs.Content.{TheoryId, Content, IsContent}
use Rattle.pure_logic.specs.PureContent.{pure_content}
use Rattle.pure_lookup.specs.Meaning.{pure_text}
use Rattle.pure_session_laws.specs.Owned.{IsLast, IsOwned}

-- The text of the theory's name has no dot (46) and isn't Pure's.
abbrev pub HasPlainName : (texts : List (List ℕ)) → TheoryId → Type 0
HasPlainName texts t = (text : List ℕ) → HasText texts t.name text → (¬ IsIn 46 text) × (text ≢ pure_text)

-- These are the last contents of theories of a session: each is a content, whose declarations are owned and whose ancestors have ended too; two of them have neither one name nor one index; and the names are plain.
pub record AreEnded (texts : List (List ℕ)) (ended : List Content) : Type 0 where
  pub contents : Each IsContent ended
  pub owned : Each (IsOwned texts ended) ended
  pub known : (P : Content) → IsIn P ended → (t : TheoryId) → IsIn t P.ancestors → (R : Content) × IsLast ended t R
  pub apart : (t u : TheoryId) (P R : Content) → IsLast ended t P → IsLast ended u R → (t.name ≡ u.name) ⊎ (t.index ≡ u.index) → P ≡ R
  pub plain : (t : TheoryId) (P : Content) → IsLast ended t P → HasPlainName texts t

-- The theory comes after those that have ended, and has another name than each.
abbrev pub IsNext : (ended : List Content) → TheoryId → Type 0
IsNext ended theory = (t : TheoryId) (P : Content) → IsLast ended t P → (t.index < theory.index) × (t.name ≢ theory.name)

-- The content is Pure's, or the last one of a theory that has ended.
abbrev pub IsParent : (ended : List Content) → Content → Type 0
IsParent ended P = (P ≡ pure_content) ⊎ ((t : TheoryId) × IsLast ended t P)

-- What a theory that begins is given: it is the next one, with a plain name, and has a parent at least, each of which has ended or is Pure.
pub record IsGivenParents (texts : List (List ℕ)) (ended : List Content) (theory : TheoryId) (parents : List Content) : Type 0 where
  pub next : IsNext ended theory
  pub plain : HasPlainName texts theory
  pub some : ¬ (parents ≡ [])
  pub each : Each (IsParent ended) parents
