-- The methods of a content, collected declaration by declaration.
use Rattle.std.proofs.Common.{◌≡◌, ◌∙◌, ℕ, zero, suc, ◌+◌, List, [], ◌∷◌, ◌++◌, map, drop, refl, sym, ap, append_assoc, append-nil, Option, Some, None}
use Rattle.std.specs.Prelude.{slice_get, option_map}
use Rattle.std.proofs.lemmas.List.{map-append}
use Rattle.std.proofs.lemmas.Option.{same_Some}
use Rattle.pure_text.proofs.MergeLaws.{drop_at}
use Rattle.pure_definitions.specs.Declarations.Decl.{Decl, ClassDecl, ConDecl, ArityDecl, ConstDecl, AxiomDecl, PromiseDecl}
use Rattle.pure_logic.specs.Content.{Content}
use Rattle.pure_lookup.specs.Meaning.{built_texts}
use Rattle.pure_theory_tables.specs.View.{outline}
use Rattle.pure_theory_tables.specs.declared.decl.Decl as outlined
use Rattle.pure_try.specs.declared.method.Method.{Method}
use Rattle.pure_try.specs.declared.method.Method.TheVariants.{Assumption, Rule}
use Rattle.pure_try.specs.Methods.{declared_facts, fact_name, methods_of}
use Rattle.pure_try.specs.Proofs.{outlined_fact}

-- a declaration and its outline are the same fact
fact-outlined : (texts : List (List ℕ)) (d : Decl) → fact_name texts d ≡ outlined_fact texts (outline d)
fact-outlined texts (ClassDecl k) = refl
fact-outlined texts (ConDecl k n) = refl
fact-outlined texts (ArityDecl a) = refl
fact-outlined texts (ConstDecl c T) = refl
fact-outlined texts (AxiomDecl x A) = refl
fact-outlined texts (PromiseDecl x l A) = refl

-- one declaration more
added : (texts : List (List ℕ)) (d : Decl) (ds rest : List Decl) (decl : outlined.Decl) → outline d ≡ decl → rest ≡ d ∷ ds → (old new whole : List Method) → new ≡ old ++ map Rule (outlined_fact texts decl)
    → old ++ map Rule (declared_facts texts rest) ≡ whole → new ++ map Rule (declared_facts texts ds) ≡ whole
added texts d ds rest decl is cut old new whole more so_far =
    let here : new ≡ old ++ map Rule (fact_name texts d) = more ∙ ap (λ xs. old ++ map Rule xs) (ap (outlined_fact texts) (sym is) ∙ sym (fact-outlined texts d)) in
    ap (λ ms. ms ++ map Rule (declared_facts texts ds)) here ∙ append_assoc old (map Rule (fact_name texts d)) (map Rule (declared_facts texts ds))
    ∙ ap (λ ms. old ++ ms) (sym (map-append Rule (fact_name texts d) (declared_facts texts ds)))
    ∙ ap (λ es. old ++ map Rule (declared_facts texts es)) (sym cut) ∙ so_far

pub declared-goes_on : (texts : List (List ℕ)) (ds : List Decl) (place : ℕ) (decl : outlined.Decl) → Some decl ≡ option_map outline (slice_get ds place) → (old new whole : List Method) → new ≡ old ++ map Rule (outlined_fact texts decl)
    → old ++ map Rule (declared_facts texts (drop place ds)) ≡ whole → new ++ map Rule (declared_facts texts (drop (place + 1) ds)) ≡ whole
declared-goes_on texts ds place decl is old new whole more so_far = by (slice_get ds place) refl is
  where
    by : (o : Option Decl) → slice_get ds place ≡ o → Some decl ≡ option_map outline o → new ++ map Rule (declared_facts texts (drop (place + 1) ds)) ≡ whole
    by None at e = absurd (cc)
    by (Some d) at e = added texts d (drop (place + 1) ds) (drop place ds) decl (sym (same_Some decl (outline d) e)) (drop_at ds place d at) old new whole more so_far

-- none is left
none-left : (ds : List Decl) (place : ℕ) → slice_get ds place ≡ None → drop place ds ≡ []
none-left [] zero e = refl
none-left [] (suc place) e = refl
none-left (d ∷ ds) zero e = absurd (cc)
none-left (d ∷ ds) (suc place) e = none-left ds place e

pub declared-ends : (texts : List (List ℕ)) (ds : List Decl) (place : ℕ) → None ≡ option_map outline (slice_get ds place) → (old whole : List Method) → old ++ map Rule (declared_facts texts (drop place ds)) ≡ whole → old ≡ whole
declared-ends texts ds place is old whole so_far = by (slice_get ds place) refl is
  where
    by : (o : Option Decl) → slice_get ds place ≡ o → None ≡ option_map outline o → old ≡ whole
    by None at e = sym (append-nil old) ∙ ap (λ es. old ++ map Rule (declared_facts texts es)) (sym (none-left ds place at)) ∙ so_far
    by (Some d) at e = absurd (cc)

-- the first ones, before any declaration
pub declared-begin : (texts : List (List ℕ)) (Q : Content) (first : List Method) → first ≡ Assumption ∷ map Rule built_texts → first ++ map Rule (declared_facts texts Q.declarations) ≡ methods_of texts Q
declared-begin texts Q first is = ap (λ ms. ms ++ map Rule (declared_facts texts Q.declarations)) is ∙ ap (λ ms. Assumption ∷ ms) (sym (map-append Rule built_texts (declared_facts texts Q.declarations)))
