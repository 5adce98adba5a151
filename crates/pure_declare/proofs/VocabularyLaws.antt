-- A promise more changes nothing of a content's vocabulary.
use Rattle.std.proofs.Common.{◌≡◌, ◌∙◌, ℕ, List, [], ◌∷◌, ◌++◌, length, Bool, false, ◌&&◌, ◌||◌, not, nat_eq, nat_lt, if◌then◌else◌, refl, ap}
use Rattle.std.specs.Prelude.{Option, Some, None, slice_get}
use Rattle.std.specs.List.{list_any}
use Rattle.pure_definitions.specs.Names.{Label, builtin_count, protect_name}
use Rattle.pure_definitions.specs.Types.Typ.{Typ}
use Rattle.pure_definitions.specs.Terms.Term.{Term}
use Rattle.pure_definitions.specs.Declarations.Decl.{Decl, ClassDecl, ConDecl, ArityDecl, ConstDecl, AxiomDecl, PromiseDecl, algebra_of}
use Rattle.pure_theory_tables.proofs.AlgebraLaws.{plain_algebra}
use Rattle.pure_typ.specs.NameTexts.{name_texts}
use Rattle.pure_typ.specs.NameBases.{name_base, names_with_base}
use Rattle.pure_logic.specs.Content.{Content}
use Rattle.pure_lookup.specs.Meaning.{Space, classes, constructors, constants, facts}
use Rattle.pure_theory.specs.Stage.{with_decl}
use Rattle.pure_elab.specs.Found.{front_of, number_among, declares, is_declared_in, place_by_number, place_by_front, place_by_text, place_at, Best, with_candidate, best_of, if_visible, if_based, found_in_full, found_by_front, found, params_among, typ_declared_among, vocabulary_of}

-- The name space isn't that of facts.
abbrev IsOther : Space → Type 0
IsOther facts = ⊥
IsOther _ = Unit {0}

module _ (x : ℕ) (l : Label) (A : Term) where
  undeclared : (space : Space) → IsOther space → (n : ℕ) → declares space (PromiseDecl x l A) n ≡ false
  undeclared classes h n = refl
  undeclared constructors h n = refl
  undeclared constants h n = refl
  undeclared facts h n = absurd h

  declared-same : (space : Space) → IsOther space → (n : ℕ) (ds : List Decl) → is_declared_in space (ds ++ PromiseDecl x l A ∷ []) n ≡ is_declared_in space ds n
  declared-same space h n [] = ap (λ (b : Bool). b || false) (undeclared space h n)
  declared-same space h n (d ∷ ds) = ap (λ (b : Bool). declares space d n || b) (declared-same space h n ds)

  params-same : (k : ℕ) (ds : List Decl) → params_among (ds ++ PromiseDecl x l A ∷ []) k ≡ params_among ds k
  params-same k [] = refl
  params-same k (ConDecl c count ∷ ds) = ap (λ (o : Option ℕ). if nat_eq c k then Some count else o) (params-same k ds)
  params-same k (ClassDecl c ∷ ds) = params-same k ds
  params-same k (ArityDecl a ∷ ds) = params-same k ds
  params-same k (ConstDecl c T ∷ ds) = params-same k ds
  params-same k (AxiomDecl y B ∷ ds) = params-same k ds
  params-same k (PromiseDecl y m B ∷ ds) = params-same k ds

  typs-same : (c : ℕ) (ds : List Decl) → typ_declared_among (ds ++ PromiseDecl x l A ∷ []) c ≡ typ_declared_among ds c
  typs-same c [] = refl
  typs-same c (ConstDecl d T ∷ ds) = ap (λ (o : Option Typ). if nat_eq d c then Some T else o) (typs-same c ds)
  typs-same c (ClassDecl k ∷ ds) = typs-same c ds
  typs-same c (ConDecl k count ∷ ds) = typs-same c ds
  typs-same c (ArityDecl a ∷ ds) = typs-same c ds
  typs-same c (AxiomDecl y B ∷ ds) = typs-same c ds
  typs-same c (PromiseDecl y m B ∷ ds) = typs-same c ds

  module _ (texts : List (List ℕ)) (Q : Content) where
    abbrev more : Content
    more = with_decl Q (PromiseDecl x l A)

    number-same : (o : Option ℕ) → place_by_number more o ≡ place_by_number Q o
    number-same None = refl
    number-same (Some k) = refl

    front-same : (o : Option (List ℕ)) → place_by_front texts more o ≡ place_by_front texts Q o
    front-same None = refl
    front-same (Some theory) = number-same (number_among (name_texts texts) theory)

    text-same : (o : Option (List ℕ)) → place_by_text texts more o ≡ place_by_text texts Q o
    text-same None = refl
    text-same (Some text) = front-same (front_of text)

    module _ (space : Space) (other : IsOther space) where
      place-same : (n : ℕ) → place_at texts more space n ≡ place_at texts Q space n
      place-same n =
          ap (λ (b : Bool). if not (nat_eq n protect_name) && b then (if nat_lt n builtin_count then Some 0 else place_by_text texts more (slice_get (name_texts texts) n)) else None) (declared-same space other n Q.declarations)
          ∙ ap (λ (o : Option ℕ). if not (nat_eq n protect_name) && is_declared_in space Q.declarations n then (if nat_lt n builtin_count then Some 0 else o) else None) (text-same (slice_get (name_texts texts) n))

      best-same : (b : Best) (ns : List ℕ) → best_of texts more space b ns ≡ best_of texts Q space b ns
      best-same b [] = refl
      best-same b (n ∷ ns) =
          ap (λ (o : Option ℕ). best_of texts more space (with_candidate b n o) ns) (place-same n)
          ∙ best-same (with_candidate b n (place_at texts Q space n)) ns

      full-same : (o : Option ℕ) → found_in_full texts more space o ≡ found_in_full texts Q space o
      full-same None = refl
      full-same (Some n) = ap (λ (o : Option ℕ). if_based (name_base texts n) (if_visible n o)) (place-same n)

      by-same : (written : List ℕ) (o : Option (List ℕ)) → found_by_front texts more space written o ≡ found_by_front texts Q space written o
      by-same written None = ap (λ (b : Best). b.name) (best-same (record { name = None; last = 0 }) (names_with_base texts written))
      by-same written (Some theory) = full-same (number_among (name_texts texts) written)

      found-same : (written : List ℕ) → found texts more space written ≡ found texts Q space written
      found-same written = by-same written (front_of written)

    pub promise-keeps : vocabulary_of texts more ≡ vocabulary_of texts Q
    promise-keeps = λ i. record {
      class_written = λ w. found-same classes tt w i;
      constructor_written = λ w. found-same constructors tt w i;
      constant_written = λ w. found-same constants tt w i;
      name_written = number_among (name_texts texts);
      params = λ k. params-same k Q.declarations i;
      typ_declared = λ c. typs-same c Q.declarations i;
      algebra = plain_algebra Q.declarations (PromiseDecl x l A) tt i;
      fresh = length (name_texts texts);
    }
