-- The facts of a content, declaration by declaration.
use Rattle.std.proofs.Common.{◌≡◌, ◌∙◌, ℕ, ◌+◌, true, List, [], ◌∷◌, ◌++◌, take, refl, sym, ap, subst, append_assoc, append-nil, add-one, Option, Some, None}
use Rattle.std.specs.Prelude.{◌↔◌, slice_get, option_map, if◌then◌else◌, Result, Ok, Err, OnOk}
use Rattle.std.specs.List.{flat_map}
use Rattle.std.proofs.lemmas.Grind.{flat_map-append}
use Rattle.std.proofs.lemmas.Option.{same_Some}
use Rattle.pure_text.specs.Lists.{IsIn}
use Rattle.pure_definitions.specs.Declarations.Decl.{Decl, ClassDecl, ConDecl, ArityDecl, ConstDecl, AxiomDecl, PromiseDecl}
use Rattle.pure_definitions.specs.Names.{Label}
use Rattle.pure_definitions.specs.Terms.Term.{Term}
use Rattle.pure_logic.specs.Content.{Content}
use Rattle.pure_print.specs.NameText.{text_of_name}
use Rattle.pure_theory_tables.specs.Facts.{Stated, fact_decl}
use Rattle.pure_theory_tables.specs.View.{outline}
use Rattle.pure_theory_tables.specs.declared.decl.Decl as outlined
use Rattle.pure_theory_tables.specs.declared.decl.Decl.TheVariants.{Axiom, Promise}
use Rattle.pure_theory_tables.proofs.GetLaws.{get_in, take_next, all_taken}
use Rattle.pure_theory_run.specs.Named.{is_written}
use Rattle.pure_find.specs.declared.finding.Finding.{Finding}
use Rattle.pure_find.specs.Facts.{Fact, fact, built, declared, facts_of, written}
use Rattle.pure_find.specs.Findings.{IsFinding, GoesOn, IsOutlineIn, IsLongFound}

-- ---- names

-- a fact that is found by its full name
pub written-fact : (texts : List (List ℕ)) (name : ℕ) (A : Term) → is_written texts name ≡ true → written texts name A ≡ fact (text_of_name texts name) A ∷ []
written-fact texts name A so = ap (λ b. if b then (fact (text_of_name texts name) A ∷ []) else []) so

-- ---- declarations and their outlines

-- the axiom, or the promise, that is so declared
pub axiom-stated : (Q : Content) (name : ℕ) → IsOutlineIn Q (Axiom name) → (s : Stated) × IsIn (fact_decl name s) Q.declarations
axiom-stated Q name (ClassDecl k, there, e) = absurd (cc)
axiom-stated Q name (ConDecl k n, there, e) = absurd (cc)
axiom-stated Q name (ArityDecl a, there, e) = absurd (cc)
axiom-stated Q name (ConstDecl x T, there, e) = absurd (cc)
axiom-stated Q name (AxiomDecl x A, there, e) = let same : x ≡ name = cc in (record { label = None; prop = A }, subst (λ n. IsIn (AxiomDecl n A) Q.declarations) same there)
axiom-stated Q name (PromiseDecl x l A, there, e) = absurd (cc)

pub promise-stated : (Q : Content) (name : ℕ) (label : Label) → IsOutlineIn Q (Promise name label) → (s : Stated) × IsIn (fact_decl name s) Q.declarations
promise-stated Q name label (ClassDecl k, there, e) = absurd (cc)
promise-stated Q name label (ConDecl k n, there, e) = absurd (cc)
promise-stated Q name label (ArityDecl a, there, e) = absurd (cc)
promise-stated Q name label (ConstDecl x T, there, e) = absurd (cc)
promise-stated Q name label (AxiomDecl x A, there, e) = absurd (cc)
promise-stated Q name label (PromiseDecl x l A, there, e) = let same : x ≡ name = cc in (record { label = Some l; prop = A }, subst (λ n. IsIn (PromiseDecl n l A) Q.declarations) same there)

-- from what stands under a name to the declaration
abbrev pub GoesOnStated : (texts : List (List ℕ)) → Content → (long : Option Term) → (name : ℕ) → (old new : Finding) → Type 0
GoesOnStated texts Q long name old new = (s : Stated) → IsIn (fact_decl name s) Q.declarations → (fs : List Fact) → GoesOn long fs (fs ++ written texts name s.prop) old new

abbrev pub GoesOnDeclared : (texts : List (List ℕ)) → Content → (long : Option Term) → outlined.Decl → (old new : Finding) → Type 0
GoesOnDeclared texts Q long decl old new = (d : Decl) → IsIn d Q.declarations → outline d ≡ decl → (fs : List Fact) → GoesOn long fs (fs ++ declared texts d) old new

axiom-goes_on : (texts : List (List ℕ)) (Q : Content) (long : Option Term) (name : ℕ) (old new : Finding) → GoesOnStated texts Q long name old new → GoesOnDeclared texts Q long (Axiom name) old new
axiom-goes_on texts Q long name old new h (ClassDecl k) there e fs = absurd (cc)
axiom-goes_on texts Q long name old new h (ConDecl k n) there e fs = absurd (cc)
axiom-goes_on texts Q long name old new h (ArityDecl a) there e fs = absurd (cc)
axiom-goes_on texts Q long name old new h (ConstDecl x T) there e fs = absurd (cc)
axiom-goes_on texts Q long name old new h (AxiomDecl x A) there e fs =
    let same : x ≡ name = cc in
    subst (λ n. GoesOn long fs (fs ++ written texts n A) old new) (sym same) (h (record { label = None; prop = A }) (subst (λ n. IsIn (AxiomDecl n A) Q.declarations) same there) fs)
axiom-goes_on texts Q long name old new h (PromiseDecl x l A) there e fs = absurd (cc)

promise-goes_on : (texts : List (List ℕ)) (Q : Content) (long : Option Term) (name : ℕ) (label : Label) (old new : Finding) → GoesOnStated texts Q long name old new → GoesOnDeclared texts Q long (Promise name label) old new
promise-goes_on texts Q long name label old new h (ClassDecl k) there e fs = absurd (cc)
promise-goes_on texts Q long name label old new h (ConDecl k n) there e fs = absurd (cc)
promise-goes_on texts Q long name label old new h (ArityDecl a) there e fs = absurd (cc)
promise-goes_on texts Q long name label old new h (ConstDecl x T) there e fs = absurd (cc)
promise-goes_on texts Q long name label old new h (AxiomDecl x A) there e fs = absurd (cc)
promise-goes_on texts Q long name label old new h (PromiseDecl x l A) there e fs =
    let same : x ≡ name = cc in
    subst (λ n. GoesOn long fs (fs ++ written texts n A) old new) (sym same) (h (record { label = Some l; prop = A }) (subst (λ n. IsIn (PromiseDecl n l A) Q.declarations) same there) fs)

-- the same of answers
pub stated-goes_on : {T E : Type 0} (texts : List (List ℕ)) (Q : Content) (long : Option Term) (name : ℕ) → is_written texts name ≡ true → (st : Stated) → ((t : Stated) → IsIn (fact_decl name t) Q.declarations ↔ (t ≡ st))
    → (text : List ℕ) → text ≡ text_of_name texts name → (A : Term) → A ≡ st.prop → (old new : Finding) (r : Result T E) → OnOk r ((fs : List Fact) → GoesOn long fs (fs ++ fact text A ∷ []) old new) → OnOk r (GoesOnStated texts Q long name old new)
stated-goes_on texts Q long name so st only text is A prop_is old new (Ok x) h = by
  where
    by : GoesOnStated texts Q long name old new
    by s there fs =
        let same : s ≡ st = (only s).0 there in
        let stated : A ≡ s.prop = prop_is ∙ ap Stated.prop (sym same) in
        subst (λ gs. GoesOn long fs (fs ++ gs) old new) ((λ i. fact (is i) (stated i) ∷ []) ∙ sym (written-fact texts name s.prop so)) (h fs)
stated-goes_on texts Q long name so st only text is A prop_is old new (Err fault) h = tt

pub axiom-declared : {T E : Type 0} (texts : List (List ℕ)) (Q : Content) (long : Option Term) (name : ℕ) (decl : outlined.Decl) → decl ≡ Axiom name → (old new : Finding) (r : Result T E)
    → OnOk r (GoesOnStated texts Q long name old new) → OnOk r (GoesOnDeclared texts Q long decl old new)
axiom-declared texts Q long name decl is old new (Ok x) h = λ d there e. axiom-goes_on texts Q long name old new h d there (e ∙ is)
axiom-declared texts Q long name decl is old new (Err fault) h = tt

pub promise-declared : {T E : Type 0} (texts : List (List ℕ)) (Q : Content) (long : Option Term) (name : ℕ) (label : Label) (decl : outlined.Decl) → decl ≡ Promise name label → (old new : Finding) (r : Result T E)
    → OnOk r (GoesOnStated texts Q long name old new) → OnOk r (GoesOnDeclared texts Q long decl old new)
promise-declared texts Q long name label decl is old new (Ok x) h = λ d there e. promise-goes_on texts Q long name label old new h d there (e ∙ is)
promise-declared texts Q long name label decl is old new (Err fault) h = tt

-- ---- the loop

-- what is declared at a place is declared
pub outline-in : (Q : Content) (place : ℕ) (decl : outlined.Decl) → Some decl ≡ option_map outline (slice_get Q.declarations place) → IsOutlineIn Q decl
outline-in Q place decl is = by (slice_get Q.declarations place) refl is
  where
    by : (o : Option Decl) → slice_get Q.declarations place ≡ o → Some decl ≡ option_map outline o → IsOutlineIn Q decl
    by None at e = absurd (cc)
    by (Some d) at e = (d, get_in Q.declarations place d at, sym (same_Some decl (outline d) e))

-- the facts of the declarations up to a place
abbrev pub facts_to : (texts : List (List ℕ)) → List Decl → (place : ℕ) → List Fact
facts_to texts ds place = built ++ flat_map (declared texts) (take place ds)

abbrev pub IsFoundTo : (texts : List (List ℕ)) → Content → (long : Option Term) → (place : ℕ) → Finding → Type 0
IsFoundTo texts Q long place finding = (C : Term) → IsLongFound C long → IsFinding C (facts_to texts Q.declarations place) finding

facts-next : (texts : List (List ℕ)) (ds : List Decl) (place : ℕ) (d : Decl) → slice_get ds place ≡ Some d → facts_to texts ds place ++ declared texts d ≡ facts_to texts ds (place + 1)
facts-next texts ds place d at =
    let first = flat_map (declared texts) (take place ds) in
    let next : take (place + 1) ds ≡ take place ds ++ d ∷ [] = subst (λ n. take n ds ≡ take place ds ++ d ∷ []) (sym (add-one place)) (take_next ds place d at) in
    append_assoc built first (declared texts d)
    ∙ (ap (λ l. built ++ (first ++ l)) (sym (append-nil (declared texts d)))
    ∙ (ap (λ l. built ++ l) (sym (flat_map-append (declared texts) (take place ds) (d ∷ []))) ∙ ap (λ l. built ++ flat_map (declared texts) l) (sym next)))

pub goes-next : (texts : List (List ℕ)) (Q : Content) (long : Option Term) (place : ℕ) (decl : outlined.Decl) → Some decl ≡ option_map outline (slice_get Q.declarations place) → (old new : Finding)
    → GoesOnDeclared texts Q long decl old new → IsFoundTo texts Q long place old → IsFoundTo texts Q long (place + 1) new
goes-next texts Q long place decl is old new goes h C found = by (slice_get Q.declarations place) refl is
  where
    by : (o : Option Decl) → slice_get Q.declarations place ≡ o → Some decl ≡ option_map outline o → IsFinding C (facts_to texts Q.declarations (place + 1)) new
    by None at e = absurd (cc)
    by (Some d) at e =
        subst (λ fs. IsFinding C fs new) (facts-next texts Q.declarations place d at)
        (goes d (get_in Q.declarations place d at) (sym (same_Some decl (outline d) e)) (facts_to texts Q.declarations place) C found (h C found))

-- at the end these are all facts
pub found-all : (texts : List (List ℕ)) (Q : Content) (long : Option Term) (place : ℕ) → None ≡ option_map outline (slice_get Q.declarations place) → (now : Finding) → IsFoundTo texts Q long place now
    → (C : Term) → IsLongFound C long → IsFinding C (facts_of texts Q) now
found-all texts Q long place is now h C found = by (slice_get Q.declarations place) refl is
  where
    by : (o : Option Decl) → slice_get Q.declarations place ≡ o → None ≡ option_map outline o → IsFinding C (facts_of texts Q) now
    by None at e = subst (λ ds. IsFinding C (built ++ flat_map (declared texts) ds) now) (all_taken Q.declarations place at) (h C found)
    by (Some d) at e = absurd (cc)
