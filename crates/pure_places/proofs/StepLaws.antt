-- In the text of a lemma its haves are found, and the words of the steps of its proofs.
use Rattle.std.proofs.Common.{◌≡◌, Bool, true, false, List, [], ◌∷◌, ◌++◌, drop, refl, sym, ◌∙◌, ap, Option, Some, None}
use Rattle.std.proofs.lemmas.List.{append_assoc, append-nil}
use Rattle.pure_grammar.specs.declared.lexeme.Keyword.TheVariants as keyword
use Rattle.pure_grammar.specs.declared.lexeme.Sign.TheVariants as sign
use Rattle.pure_grammar.specs.Theories.Lexeme.{Lexeme, Reserved, Signed, Ends}
use Rattle.pure_grammar.specs.Theories.Phrase.{Name, Simple, Full, BasicPhrase, ByAssumption, ByRule, ByErule, ByDrule, ByUnfold, MethodPhrase, Alone, Together, StepPhrase, ApplyStep, PreferStep, DeferStep, EndPhrase, DoneEnd, ByEnd, ProofPhrase, HavePhrase, LemmaWritten, TheoremWritten, CommandPhrase, ClassCommand, TypedeclCommand, AritiesCommand, ConstsCommand, AxiomsCommand, DefinitionCommand, LemmaCommand}
use Rattle.pure_grammar.specs.Theories.PhraseText.{each, each_comma, name_text, basic_text, method_text, step_text, end_text, proof_text, have_text, command_text}
use Rattle.pure_places.specs.Parts.{Part, from_each, more_methods, method_words, step_words, end_words, proof_words, have_part}
use Rattle.pure_places.specs.Proofs.{Proofs, no_proofs, Within, own_proof, with_step, closed}
use Rattle.pure_places.proofs.LinkLaws.{text_proofs}

-- what is found by texts, and a name that may stand open
abbrev Texts : Type 0
Texts = Proofs (List Lexeme)

abbrev Open : Type 0
Open = Option (List Lexeme)

-- A proof doesn't go on in the text.
abbrev pub IsBehind : List Lexeme → Type 0
IsBehind r = (have by : Open) (called : Bool) (found : Texts) → text_proofs (Within have by called) found r ≡ closed have by found

pub behind-commands : (cs : List CommandPhrase) → IsBehind (each command_text cs (Reserved keyword.End ∷ Ends ∷ []))
behind-commands [] have by called found = refl
behind-commands (ClassCommand x above ∷ cs) have by called found = refl
behind-commands (TypedeclCommand params x ∷ cs) have by called found = refl
behind-commands (AritiesCommand con doms class ∷ cs) have by called found = refl
behind-commands (ConstsCommand i is ∷ cs) have by called found = refl
behind-commands (AxiomsCommand a more ∷ cs) have by called found = refl
behind-commands (DefinitionCommand i prop ∷ cs) have by called found = refl
behind-commands (LemmaCommand LemmaWritten a haves p ∷ cs) have by called found = refl
behind-commands (LemmaCommand TheoremWritten a haves p ∷ cs) have by called found = refl

-- ---- steps
abbrev with_steps : Texts → List (List Lexeme) → Texts
with_steps found words = record { haves = found.haves; steps = found.steps ++ words }

steps-none : (found : Texts) → with_steps found [] ≡ found
steps-none found = ap (λ z. record { haves = found.haves; steps = z }) (append-nil found.steps)

steps-more : (found : Texts) (us vs : List (List Lexeme)) → with_steps (with_steps found us) vs ≡ with_steps found (us ++ vs)
steps-more found us vs = ap (λ z. record { haves = found.haves; steps = z }) (append_assoc found.steps us vs)

name-passed : (have by : Open) (found : Texts) (n : Name) (r : List Lexeme) → text_proofs (Within have by false) found (name_text n r) ≡ text_proofs (Within have by false) found r
name-passed have by found (Simple text at) r = refl
name-passed have by found (Full text at) r = refl

names-passed : (have by : Open) (found : Texts) (ns : List Name) (r : List Lexeme) → text_proofs (Within have by false) found (each name_text ns r) ≡ text_proofs (Within have by false) found r
names-passed have by found [] r = refl
names-passed have by found (n ∷ ns) r = name-passed have by found n (each name_text ns r) ∙ names-passed have by found ns r

basic-found : (have by : Open) (found : Texts) (b : BasicPhrase) (r : List Lexeme)
    → text_proofs (Within have by true) found (basic_text b r) ≡ text_proofs (Within have by false) (with_step found (basic_text b r)) r
basic-found have by found (ByAssumption at) r = refl
basic-found have by found (ByRule at fact) r = name-passed have by (with_step found (basic_text (ByRule at fact) r)) fact r
basic-found have by found (ByErule at fact) r = name-passed have by (with_step found (basic_text (ByErule at fact) r)) fact r
basic-found have by found (ByDrule at fact) r = name-passed have by (with_step found (basic_text (ByDrule at fact) r)) fact r
basic-found have by found (ByUnfold at fact facts) r =
    let now : Texts = with_step found (basic_text (ByUnfold at fact facts) r) in
    name-passed have by now fact (each name_text facts r) ∙ names-passed have by now facts r

more-found : (have by : Open) (found : Texts) (bs : List BasicPhrase) (r : List Lexeme)
    → text_proofs (Within have by false) found (each_comma basic_text bs r) ≡ text_proofs (Within have by false) (with_steps found (more_methods bs r)) r
more-found have by found [] r = ap (λ z. text_proofs (Within have by false) z r) (sym (steps-none found))
more-found have by found (b ∷ bs) r =
    let word : List Lexeme = basic_text b (each_comma basic_text bs r) in
    basic-found have by found b (each_comma basic_text bs r) ∙ more-found have by (with_step found word) bs r
    ∙ ap (λ z. text_proofs (Within have by false) z r) (steps-more found (word ∷ []) (more_methods bs r))

method-found : (have by : Open) (found : Texts) (m : MethodPhrase) (r : List Lexeme)
    → text_proofs (Within have by true) found (method_text m r) ≡ text_proofs (Within have by false) (with_steps found (method_words m r)) r
method-found have by found (Alone at) r = refl
method-found have by found (Together b bs) r =
    let close : List Lexeme = Signed sign.CloseParenthesis ∷ r in
    let word : List Lexeme = basic_text b (each_comma basic_text bs close) in
    basic-found have by found b (each_comma basic_text bs close) ∙ more-found have by (with_step found word) bs close
    ∙ ap (λ z. text_proofs (Within have by false) z r) (steps-more found (word ∷ []) (more_methods bs close))

step-found : (have : Open) (found : Texts) (s : StepPhrase) (r : List Lexeme)
    → text_proofs (Within have None false) found (step_text s r) ≡ text_proofs (Within have None false) (with_steps found (step_words s r)) r
step-found have found (ApplyStep m) r = method-found have None found m r
step-found have found (PreferStep n) r = refl
step-found have found DeferStep r = refl

steps-found : (have : Open) (found : Texts) (ss : List StepPhrase) (r : List Lexeme)
    → text_proofs (Within have None false) found (each step_text ss r) ≡ text_proofs (Within have None false) (with_steps found (from_each step_words step_text ss r)) r
steps-found have found [] r = ap (λ z. text_proofs (Within have None false) z r) (sym (steps-none found))
steps-found have found (s ∷ ss) r =
    let words : List (List Lexeme) = step_words s (each step_text ss r) in
    step-found have found s (each step_text ss r) ∙ steps-found have (with_steps found words) ss r
    ∙ ap (λ z. text_proofs (Within have None false) z r) (steps-more found words (from_each step_words step_text ss r))

-- ---- the lemma's own proof
own-end : (found : Texts) (e : EndPhrase) (r : List Lexeme) → IsBehind r → text_proofs own_proof found (end_text e r) ≡ with_steps found (end_words e r)
own-end found DoneEnd r behind = steps-none (with_step found (end_text DoneEnd r))
own-end found (ByEnd m) r behind =
    method-found None (Some (end_text (ByEnd m) r)) found m r ∙ behind None (Some (end_text (ByEnd m) r)) false (with_steps found (method_words m r))
    ∙ steps-more found (method_words m r) (end_text (ByEnd m) r ∷ [])

own-found : (found : Texts) (p : ProofPhrase) (r : List Lexeme) → IsBehind r → text_proofs own_proof found (proof_text p r) ≡ with_steps found (proof_words p r)
own-found found p r behind =
    let words : List (List Lexeme) = from_each step_words step_text p.steps (end_text p.ending r) in
    steps-found None found p.steps (end_text p.ending r) ∙ own-end (with_steps found words) p.ending r behind ∙ steps-more found words (end_words p.ending r)

-- ---- haves
-- Behind the method of `by` another proof begins in the text.
abbrev GoesOn : List Lexeme → Type 0
GoesOn r = (name by : List Lexeme) (found : Texts) → text_proofs (Within (Some name) (Some by) false) found r ≡ text_proofs own_proof (closed (Some name) (Some by) found) r

goes-proof : (ss : List StepPhrase) (e : EndPhrase) (r : List Lexeme) → GoesOn (each step_text ss (end_text e r))
goes-proof [] DoneEnd r name by found = refl
goes-proof [] (ByEnd m) r name by found = refl
goes-proof (ApplyStep m ∷ ss) e r name by found = refl
goes-proof (PreferStep n ∷ ss) e r name by found = refl
goes-proof (DeferStep ∷ ss) e r name by found = refl

goes-on : (haves : List HavePhrase) (p : ProofPhrase) (r : List Lexeme) → GoesOn (each have_text haves (proof_text p r))
goes-on [] p r name by found = goes-proof p.steps p.ending r name by found
goes-on (h ∷ haves) p r name by found = refl

-- behind these haves
abbrev behind_haves : List (Part (List Lexeme)) → Texts
behind_haves haves = record { haves = haves; steps = [] }

have-end : (before : List (Part (List Lexeme))) (name : List Lexeme) (steps : List (List Lexeme)) (e : EndPhrase) (r : List Lexeme) → GoesOn r
    → text_proofs (Within (Some name) None false) (record { haves = before; steps = steps }) (end_text e r)
    ≡ text_proofs own_proof (behind_haves (before ++ (record { name = name; steps = steps ++ end_words e r }) ∷ [])) r
have-end before name steps DoneEnd r goes =
    ap (λ z. text_proofs own_proof (behind_haves (before ++ (record { name = name; steps = z }) ∷ [])) r) (append-nil (steps ++ end_text DoneEnd r ∷ []))
have-end before name steps (ByEnd m) r goes =
    let by : List Lexeme = end_text (ByEnd m) r in
    let found : Texts = record { haves = before; steps = steps } in
    method-found (Some name) (Some by) found m r ∙ goes name by (with_steps found (method_words m r))
    ∙ ap (λ z. text_proofs own_proof (behind_haves (before ++ (record { name = name; steps = z }) ∷ [])) r) (append_assoc steps (method_words m r) (by ∷ []))

have-found : (before : List (Part (List Lexeme))) (h : HavePhrase) (r : List Lexeme) → GoesOn r
    → text_proofs own_proof (behind_haves before) (have_text h r) ≡ text_proofs own_proof (behind_haves (before ++ have_part h r)) r
have-found before h r goes =
    let name : List Lexeme = drop 1 (have_text h r) in
    let words : List (List Lexeme) = from_each step_words step_text h.proof.steps (end_text h.proof.ending r) in
    steps-found (Some name) (behind_haves before) h.proof.steps (end_text h.proof.ending r) ∙ have-end before name words h.proof.ending r goes

haves-found : (before : List (Part (List Lexeme))) (haves : List HavePhrase) (p : ProofPhrase) (r : List Lexeme)
    → text_proofs own_proof (behind_haves before) (each have_text haves (proof_text p r))
    ≡ text_proofs own_proof (behind_haves (before ++ from_each have_part have_text haves (proof_text p r))) (proof_text p r)
haves-found before [] p r = ap (λ z. text_proofs own_proof (behind_haves z) (proof_text p r)) (sym (append-nil before))
haves-found before (h ∷ haves) p r =
    let behind : List Lexeme = each have_text haves (proof_text p r) in
    have-found before h behind (goes-on haves p r) ∙ haves-found (before ++ have_part h behind) haves p r
    ∙ ap (λ z. text_proofs own_proof (behind_haves z) (proof_text p r)) (append_assoc before (have_part h behind) (from_each have_part have_text haves (proof_text p r)))

pub proofs-found : (haves : List HavePhrase) (p : ProofPhrase) (r : List Lexeme) → IsBehind r
    → text_proofs own_proof no_proofs (each have_text haves (proof_text p r)) ≡ record { haves = from_each have_part have_text haves (proof_text p r); steps = proof_words p r }
proofs-found haves p r behind = haves-found [] haves p r ∙ own-found (behind_haves (from_each have_part have_text haves (proof_text p r))) p r behind
