-- The search through tokens is that through what they are to the grammar, each at its place.
use Rattle.std.proofs.Common.{◌≡◌, ℕ, suc, ◌+◌, ◌-◌, Bool, true, false, List, [], ◌∷◌, ◌++◌, length, map, refl, sym, ◌∙◌, ap, arith, Option, Some, None, if◌then◌else◌}
use Rattle.std.proofs.lemmas.List.{map-append}
use Rattle.std.specs.Prelude.{option_map}
use Rattle.pure_grammar.specs.declared.token.Token.{Token}
use Rattle.pure_grammar.specs.Theories.Lexeme.{Lexeme, lexeme, lexemes, ident_in}
use Rattle.pure_grammar.specs.Theories.Outer.{place_of}
use Rattle.pure_places.specs.Parts.{CommandParts, Import, placed_part, placed_parts, placed_import}
use Rattle.pure_places.specs.Proofs.{is_have, is_behind_proof, is_ident, begins_step, Proofs, no_proofs, Stage, Within, Naming, Ended, own_proof, listed, with_step, closed, named_at, behind_done, Search, step_begun, begun, met_within, proofs_in}
use Rattle.pure_places.specs.Marks.{mark_of, first_mark, is_name, behind, is_begin, proofs_of, command_of, commands_in, import_at, imports_in}
use Rattle.pure_places.specs.Found.{token_mark, token_ident, token_place, found_proofs, found_commands, found_imports}
use Rattle.pure_places.specs.declared.mark.Mark.{Mark}
use Rattle.pure_places.specs.declared.mark.Mark.TheVariants as mark
use Rattle.pure_places.specs.declared.mark.Before.{Before}
use Rattle.pure_places.specs.declared.mark.Before.TheVariants as before

-- the text from a lexeme on
abbrev pub text_from : Lexeme → List Lexeme → List Lexeme
text_from l ls = l ∷ ls

abbrev pub text_proofs : Stage (List Lexeme) → Proofs (List Lexeme) → List Lexeme → Proofs (List Lexeme)
text_proofs = proofs_in mark_of text_from

abbrev pub text_commands : Before → List Lexeme → List (CommandParts (List Lexeme))
text_commands = commands_in mark_of text_from

abbrev pub text_imports : List Lexeme → List (Import (List Lexeme))
text_imports = imports_in mark_of ident_in text_from

-- each text that begins with a token is placed where the token stands
abbrev pub EachAt : (source : List ℕ) → (List Lexeme → ℕ) → List Token → Type 0
EachAt source place [] = Unit {0}
EachAt source place (t ∷ ts) = (place (lexeme source t ∷ lexemes source ts) ≡ t.from) × EachAt source place ts

pub places-all : (source : List ℕ) (len whole : ℕ) (all : List Token) (n : ℕ) (ts : List Token) → n + length (lexemes source ts) ≡ whole → ((k : ℕ) → place_of all len (n + k) ≡ place_of ts len k)
    → EachAt source (λ s. place_of all len (whole - length s)) ts
places-all source len whole all n [] e same = tt
places-all source len whole all n (t ∷ ts) e same =
    let here : n + suc (length (lexemes source ts)) ≡ whole = e in
    let at : whole - suc (length (lexemes source ts)) ≡ n + 0 = omega (arith, here) in (
      ap (place_of all len) at ∙ same 0,
      places-all source len whole all (n + 1) ts (omega (arith, here)) (λ k. ap (place_of all len) (omega arith) ∙ same (suc k)),
    )

if-map : {A B : Type 0} (f : A → B) (b : Bool) (u v : List B) (x y : List A) → u ≡ map f x → v ≡ map f y → (if b then u else v) ≡ map f (if b then x else y)
if-map f true u v x y e g = e
if-map f false u v x y e g = g

-- ---- the search in a lemma
abbrev placed_stage : {A B : Type 0} → (A → B) → Stage A → Stage B
placed_stage place (Within have by called) = Within (option_map place have) (option_map place by) called
placed_stage place Naming = Naming
placed_stage place Ended = Ended

abbrev placed_proofs : {A B : Type 0} → (A → B) → Proofs A → Proofs B
placed_proofs place found = record { haves = map (placed_part place) found.haves; steps = map place found.steps }

abbrev placed_search : {A B : Type 0} → (A → B) → Search A → Search B
placed_search place s = record { stage = placed_stage place s.stage; found = placed_proofs place s.found }

step-map : {A B : Type 0} (place : A → B) (found : Proofs A) (at : A) → with_step (placed_proofs place found) (place at) ≡ placed_proofs place (with_step found at)
step-map place found at = ap (λ z. record { haves = map (placed_part place) found.haves; steps = z }) (sym (map-append place found.steps (at ∷ [])))

listed-map : {A B : Type 0} (place : A → B) (steps : List A) (by : Option A) → map place steps ++ listed (option_map place by) ≡ map place (steps ++ listed by)
listed-map place steps None = sym (map-append place steps [])
listed-map place steps (Some at) = sym (map-append place steps (at ∷ []))

closed-map : {A B : Type 0} (place : A → B) (have by : Option A) (found : Proofs A) → closed (option_map place have) (option_map place by) (placed_proofs place found) ≡ placed_proofs place (closed have by found)
closed-map place None by found = ap (λ z. record { haves = map (placed_part place) found.haves; steps = z }) (listed-map place found.steps by)
closed-map place (Some name) by found =
    ap (λ z. record { haves = map (placed_part place) found.haves ++ (record { name = place name; steps = z }) ∷ []; steps = [] }) (listed-map place found.steps by)
    ∙ ap (λ z. record { haves = z; steps = [] }) (sym (map-append (placed_part place) found.haves ((record { name = name; steps = found.steps ++ listed by }) ∷ [])))

done-map : {A B : Type 0} (place : A → B) (have : Option A) → behind_done (option_map place have) ≡ placed_stage place (behind_done have)
done-map place None = refl
done-map place (Some name) = refl

ended-map : {A B : Type 0} (place : A → B) (have : Option A) (found : Proofs A) (at : A)
    → record { stage = behind_done (option_map place have); found = closed (option_map place have) None (with_step (placed_proofs place found) (place at)) }
    ≡ placed_search place (record { stage = behind_done have; found = closed have None (with_step found at) })
ended-map place have found at =
    ap (λ z. record { stage = z; found = closed (option_map place have) None (with_step (placed_proofs place found) (place at)) }) (done-map place have)
    ∙ ap (λ z. record { stage = placed_stage place (behind_done have); found = z }) (ap (closed (option_map place have) None) (step-map place found at) ∙ closed-map place have None (with_step found at))

step_begun-map : {A B : Type 0} (place : A → B) (have : Option A) (found : Proofs A) (m : Mark) (at : A)
    → step_begun (option_map place have) (placed_proofs place found) m (place at) ≡ placed_search place (step_begun have found m at)
step_begun-map place have found mark.Apply at = refl
step_begun-map place have found mark.By at = refl
step_begun-map place have found mark.Move at = ap (λ z. record { stage = Within (option_map place have) None false; found = z }) (step-map place found at)
step_begun-map place have found m at = ended-map place have found at

begun-map : {A B : Type 0} (place : A → B) (have by : Option A) (found : Proofs A) (m : Mark) (at : A)
    → begun (option_map place have) (option_map place by) (placed_proofs place found) m (place at) ≡ placed_search place (begun have by found m at)
begun-map place have None found m at = step_begun-map place have found m at
begun-map place have (Some by) found m at =
    ap (λ z. step_begun None z m (place at)) (closed-map place have (Some by) found) ∙ step_begun-map place None (closed have (Some by) found) m at

if-same : {A B : Type 0} (f : A → B) (b : Bool) (u v : B) (x y : A) → u ≡ f x → v ≡ f y → (if b then u else v) ≡ f (if b then x else y)
if-same f true u v x y e g = e
if-same f false u v x y e g = g

met-map : {A B : Type 0} (place : A → B) (have by : Option A) (called : Bool) (found : Proofs A) (m : Mark) (at : A)
    → met_within (option_map place have) (option_map place by) called (placed_proofs place found) m (place at) ≡ placed_search place (met_within have by called found m at)
met-map place have by called found m at =
    if-same (placed_search place) (is_have m) _ _ _ _ (ap (λ z. record { stage = Naming; found = z }) (closed-map place have by found))
    (if-same (placed_search place) (is_behind_proof m) _ _ _ _ (ap (λ z. record { stage = Ended; found = z }) (closed-map place have by found))
    (if-same (placed_search place) (begins_step m) _ _ _ _ (begun-map place have by found m at)
    (if-same (placed_search place) (is_ident m) _ _ _ _
    (ap (λ z. record { stage = Within (option_map place have) (option_map place by) false; found = z }) (if-same (placed_proofs place) called _ _ _ _ (step-map place found at) refl))
    refl)))

named-map : {A B : Type 0} (place : A → B) (b : Bool) (at : A) → named_at b (place at) ≡ placed_stage place (named_at b at)
named-map place true at = refl
named-map place false at = refl

proofs-link : (source : List ℕ) (place : List Lexeme → ℕ) (ts : List Token) → EachAt source place ts → (stage : Stage (List Lexeme)) (found : Proofs (List Lexeme))
    → found_proofs source (placed_stage place stage) (placed_proofs place found) ts ≡ placed_proofs place (text_proofs stage found (lexemes source ts))
proofs-link source place ts is Ended found = refl
proofs-link source place [] is Naming found = refl
proofs-link source place (t ∷ ts) is Naming found =
    let text : List Lexeme = lexeme source t ∷ lexemes source ts in
    let b : Bool = is_ident (token_mark source t) in
    ap (λ z. found_proofs source (named_at b z) (placed_proofs place found) ts) (sym is.0)
    ∙ ap (λ z. found_proofs source z (placed_proofs place found) ts) (named-map place b text)
    ∙ proofs-link source place ts is.1 (named_at b text) found
proofs-link source place [] is (Within have by called) found = closed-map place have by found
proofs-link source place (t ∷ ts) is (Within have by called) found =
    let text : List Lexeme = lexeme source t ∷ lexemes source ts in
    let m : Mark = token_mark source t in
    let next : Search (List Lexeme) = met_within have by called found m text in
    ap (λ (z : Search ℕ). found_proofs source z.stage z.found ts)
    (ap (met_within (option_map place have) (option_map place by) called (placed_proofs place found) m) (sym is.0) ∙ met-map place have by called found m text)
    ∙ proofs-link source place ts is.1 next.stage next.found

behind-link : (source : List ℕ) (place : List Lexeme → ℕ) (ts : List Token) → EachAt source place ts → (b : Before) → proofs_of (token_mark source) token_place b ts ≡ placed_proofs place (proofs_of mark_of text_from b (lexemes source ts))
behind-link source place [] is before.Lemma = refl
behind-link source place (t ∷ []) is before.Lemma = refl
behind-link source place (t ∷ u ∷ ts) is before.Lemma = proofs-link source place ts is.1.1 own_proof no_proofs
behind-link source place ts is before.Kind = refl
behind-link source place ts is before.Have = refl
behind-link source place ts is before.Other = refl

pub first-link : (source : List ℕ) (ts : List Token) → first_mark (token_mark source) ts ≡ first_mark mark_of (lexemes source ts)
first-link source [] = refl
first-link source (t ∷ ts) = refl

pub commands-link : (source : List ℕ) (place : List Lexeme → ℕ) (ts : List Token) → EachAt source place ts → (b : Before) → found_commands source b ts ≡ map (placed_parts place) (text_commands b (lexemes source ts))
commands-link source place [] is before.Kind = refl
commands-link source place [] is before.Lemma = refl
commands-link source place [] is before.Have = refl
commands-link source place [] is before.Other = refl
commands-link source place (t ∷ ts) is b =
    let m = token_mark source t in
    let found : Proofs ℕ = proofs_of (token_mark source) token_place b ts in
    let at : List Lexeme = lexeme source t ∷ lexemes source ts in
    ap (λ z. if is_name b m z then command_of t.from found ∷ found_commands source before.Other ts else found_commands source (behind b m) ts) (first-link source ts)
    ∙ if-map (placed_parts place) (is_name b m (first_mark mark_of (lexemes source ts))) _ _ _ _
    (ap (λ z. command_of z found ∷ found_commands source before.Other ts) (sym is.0)
    ∙ ap (λ z. command_of (place at) z ∷ found_commands source before.Other ts) (behind-link source place ts is.1 b)
    ∙ ap (λ z. command_of (place at) (placed_proofs place (proofs_of mark_of text_from b (lexemes source ts))) ∷ z) (commands-link source place ts is.1 before.Other))
    (commands-link source place ts is.1 (behind b m))

import-map : (place : List Lexeme → ℕ) (o : Option (List ℕ)) (at : ℕ) (text : List Lexeme) (xs : List (Import ℕ)) (ys : List (Import (List Lexeme))) → place text ≡ at → xs ≡ map (placed_import place) ys → import_at o at ++ xs ≡ map (placed_import place) (import_at o text ++ ys)
import-map place None at text xs ys e g = g
import-map place (Some theory) at text xs ys e g = ap (λ z. record { theory = theory; at = z } ∷ xs) (sym e) ∙ ap (λ z. record { theory = theory; at = place text } ∷ z) g

pub imports-link : (source : List ℕ) (place : List Lexeme → ℕ) (ts : List Token) → EachAt source place ts → found_imports source ts ≡ map (placed_import place) (text_imports (lexemes source ts))
imports-link source place [] is = refl
imports-link source place (t ∷ ts) is =
    if-map (placed_import place) (is_begin (token_mark source t)) _ _ _ _ refl (import-map place (token_ident source t) t.from (lexeme source t ∷ lexemes source ts) _ _ is.0 (imports-link source place ts is.1))
