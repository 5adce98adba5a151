-- Tables of type variables that have numbers, as entries; and types and terms in which numbered variables are replaced.
use Rattle.std.specs.Prelude.{◌≡◌, ℕ, ◌+◌, true, false, List, [], ◌∷◌, ◌++◌, map, Option, Some, None}
use Rattle.pure_definitions.specs.Types.Typ.{Typ, TVar}
use Rattle.pure_definitions.specs.Terms.Term.{Term}
use Rattle.pure_definitions.specs.Terms.Subst.{TypBind, typ_image, typ_instance, inst_typ}
use Rattle.pure_tunify.specs.Settings.{bind}
use Rattle.pure_elab.specs.declared.numbers.Variable.{Variable}
use Rattle.pure_elab.specs.declared.numbers.Numbers.{Numbers}
use Rattle.pure_elab.specs.Numbered.{has_entry, with_entry, numbered, term_variables}

-- the entries of variables that have the numbers from this one on
abbrev pub entries_from : (image : ℕ → List ℕ → Typ) → (number : ℕ) → List Variable → List TypBind
entries_from image n [] = []
entries_from image n (v ∷ vs) = bind v.name v.index v.sort (image n v.sort) ∷ entries_from image (n + 1) vs

-- the entries of a table
abbrev pub entries : (image : ℕ → List ℕ → Typ) → (first : ℕ) → Numbers → List TypBind
entries image first numbers = entries_from image first numbers.few.items ++ numbers.many

-- The variable stands at the place, or isn't among these.
abbrev pub IsPlaceAmong : (image : ℕ → List ℕ → Typ) → (first : ℕ) → List Variable → (name index : ℕ) → (sort : List ℕ) → Option ℕ → Type 0
IsPlaceAmong image first vs x i s None = has_entry (entries_from image first vs) (TVar x i s) ≡ false
IsPlaceAmong image first vs x i s (Some k) = (has_entry (entries_from image first vs) (TVar x i s) ≡ true) × (typ_image (entries_from image first vs) (TVar x i s) ≡ image (first + k) s)

-- What a table has of a variable behind a call: its entry was added if it had none, it has one now, and this is its image.
pub record IsImageIn (image : ℕ → List ℕ → Typ) (first : ℕ) (old new : List TypBind) (v t : Typ) : Type 0 where
  pub added : new ≡ with_entry image first old v
  pub image_is : t ≡ typ_image new v
  pub has : has_entry new v ≡ true

-- Each variable has its image in its place, whichever further ones are numbered.
abbrev pub IsNumberedTyp : (image : ℕ → List ℕ → Typ) → (first : ℕ) → List TypBind → (old new : Typ) → Type 0
IsNumberedTyp image first binds old new = (more : List Typ) → new ≡ typ_instance (typ_image (numbered image first binds more)) old

abbrev pub AreNumberedTyps : (image : ℕ → List ℕ → Typ) → (first : ℕ) → List TypBind → (old new : List Typ) → Type 0
AreNumberedTyps image first binds old new = (more : List Typ) → new ≡ map (typ_instance (typ_image (numbered image first binds more))) old

abbrev pub IsNumberedTerm : (image : ℕ → List ℕ → Typ) → (first : ℕ) → List TypBind → (old new : Term) → Type 0
IsNumberedTerm image first binds old new = (more : List Typ) → new ≡ inst_typ (typ_image (numbered image first binds more)) old

-- The term's variables are numbered, and replaced.
pub record IsTermNumbered (image : ℕ → List ℕ → Typ) (first : ℕ) (old new : List TypBind) (t u : Term) : Type 0 where
  pub added : new ≡ numbered image first old (term_variables t)
  pub replaced : IsNumberedTerm image first new t u
