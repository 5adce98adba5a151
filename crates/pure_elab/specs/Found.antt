-- The vocabulary of a content, computed from what is declared and the texts of names.
use Rattle.std.specs.Prelude.{ℕ, Bool, false, ◌&&◌, not, List, [], ◌∷◌, length, Option, Some, None, nat_eq, nat_lt, nat_le, bytes_eq, slice_get, if◌then◌else◌}
use Rattle.std.specs.List.{list_any}
use Rattle.pure_definitions.specs.Names.{builtin_count, protect_name}
use Rattle.pure_definitions.specs.Types.Typ.{Typ}
use Rattle.pure_definitions.specs.Declarations.Decl.{Decl, ClassDecl, ConDecl, ConstDecl, AxiomDecl, PromiseDecl, algebra_of}
use Rattle.pure_typ.specs.NameTexts.{name_texts}
use Rattle.pure_typ.specs.NameBases.{name_base, names_with_base}
use Rattle.pure_logic.specs.Content.{TheoryId, Content}
use Rattle.pure_logic.specs.Beginning.{theories_of}
use Rattle.pure_lookup.specs.Meaning.{Space, classes, constructors, constants, facts}
use Rattle.pure_elab.specs.Vocabulary.{Vocabulary}
use Rattle.pure_elab.specs.Meant.{outward}

-- the byte before the text, where there is one
abbrev pub longer : ℕ → Option (List ℕ) → Option (List ℕ)
longer b None = None
longer b (Some t) = Some (b ∷ t)

-- what stands in front of the text's first dot (46)
abbrev pub front_of : List ℕ → Option (List ℕ)
front_of [] = None
front_of (b ∷ bs) = if nat_eq b 46 then Some [] else longer b (front_of bs)

-- the number of the text among the texts
abbrev pub number_among : List (List ℕ) → (text : List ℕ) → Option ℕ
number_among [] text = None
number_among (x ∷ xs) text = if bytes_eq x text then Some 0 else outward (number_among xs text)

-- the index of the theory of this name
abbrev pub index_among : List TheoryId → (name : ℕ) → Option ℕ
index_among [] n = None
index_among (t ∷ ts) n = if nat_eq t.name n then Some t.index else index_among ts n

-- whether the declaration gives the name a meaning in the name space
abbrev pub declares : Space → Decl → (name : ℕ) → Bool
declares classes (ClassDecl k) n = nat_eq k.name n
declares constructors (ConDecl k count) n = nat_eq k n
declares constants (ConstDecl c T) n = nat_eq c n
declares facts (AxiomDecl x A) n = nat_eq x n
declares facts (PromiseDecl x l A) n = nat_eq x n
declares _ _ n = false

abbrev pub is_declared_in : Space → List Decl → (name : ℕ) → Bool
is_declared_in space ds n = list_any (λ d. declares space d n) ds

-- the place in load order of a theory by its name's number
abbrev pub place_by_number : Content → Option ℕ → Option ℕ
place_by_number Q None = None
place_by_number Q (Some k) = outward (index_among (theories_of Q) k)

abbrev pub place_by_front : (texts : List (List ℕ)) → Content → Option (List ℕ) → Option ℕ
place_by_front texts Q None = None
place_by_front texts Q (Some theory) = place_by_number Q (number_among (name_texts texts) theory)

abbrev pub place_by_text : (texts : List (List ℕ)) → Content → Option (List ℕ) → Option ℕ
place_by_text texts Q None = None
place_by_text texts Q (Some text) = place_by_front texts Q (front_of text)

-- the place in load order at which the name is visible
abbrev pub place_at : (texts : List (List ℕ)) → Content → Space → (name : ℕ) → Option ℕ
place_at texts Q space n =
    if not (nat_eq n protect_name) && is_declared_in space Q.declarations n
    then (if nat_lt n builtin_count then Some 0 else place_by_text texts Q (slice_get (name_texts texts) n))
    else None

-- the best of some names, and its place
pub record Best : Type 0 where
  pub name : Option ℕ
  pub last : ℕ

-- of the best so far and a name with its place the one with the later place
abbrev pub with_candidate : Best → (name : ℕ) → Option ℕ → Best
with_candidate b n None = b
with_candidate b n (Some place) = if nat_le b.last place then record { name = Some n; last = place } else b

abbrev pub best_of : (texts : List (List ℕ)) → Content → Space → Best → List ℕ → Best
best_of texts Q space b [] = b
best_of texts Q space b (n ∷ ns) = best_of texts Q space (with_candidate b n (place_at texts Q space n)) ns

-- the name, where it is visible
abbrev pub if_visible : (name : ℕ) → Option ℕ → Option ℕ
if_visible n None = None
if_visible n (Some place) = Some n

-- what is found, where the base has no dot (46)
abbrev pub if_clean : (front : Option (List ℕ)) → Option ℕ → Option ℕ
if_clean None o = o
if_clean (Some t) o = None

abbrev pub if_based : (base : Option (List ℕ)) → Option ℕ → Option ℕ
if_based None o = None
if_based (Some base) o = if_clean (front_of base) o

abbrev pub found_in_full : (texts : List (List ℕ)) → Content → Space → Option ℕ → Option ℕ
found_in_full texts Q space None = None
found_in_full texts Q space (Some n) = if_based (name_base texts n) (if_visible n (place_at texts Q space n))

abbrev pub found_by_front : (texts : List (List ℕ)) → Content → Space → (written : List ℕ) → Option (List ℕ) → Option ℕ
found_by_front texts Q space written None = (best_of texts Q space (record { name = None; last = 0 }) (names_with_base texts written)).name
found_by_front texts Q space written (Some theory) = found_in_full texts Q space (number_among (name_texts texts) written)

-- the name that is written so
abbrev pub found : (texts : List (List ℕ)) → Content → Space → (written : List ℕ) → Option ℕ
found texts Q space written = found_by_front texts Q space written (front_of written)

-- the count of the first declaration of the constructor, and the type of the first one of the constant
abbrev pub params_among : List Decl → (name : ℕ) → Option ℕ
params_among [] k = None
params_among (ConDecl l count ∷ ds) k = if nat_eq l k then Some count else params_among ds k
params_among (_ ∷ ds) k = params_among ds k

abbrev pub typ_declared_among : List Decl → (name : ℕ) → Option Typ
typ_declared_among [] c = None
typ_declared_among (ConstDecl d T ∷ ds) c = if nat_eq d c then Some T else typ_declared_among ds c
typ_declared_among (_ ∷ ds) c = typ_declared_among ds c

-- the vocabulary of the content
abbrev pub vocabulary_of : (texts : List (List ℕ)) → Content → Vocabulary
vocabulary_of texts Q = record {
  class_written = found texts Q classes;
  constructor_written = found texts Q constructors;
  constant_written = found texts Q constants;
  name_written = number_among (name_texts texts);
  params = params_among Q.declarations;
  typ_declared = typ_declared_among Q.declarations;
  algebra = algebra_of Q.declarations;
  fresh = length (name_texts texts);
}
