-- The reader reads each phrase.
use Rattle.std.proofs.Common.{◌≡◌, ℕ, ◌==◌, List, [], ◌∷◌, ◌++◌, length, refl, sym, ◌∙◌, ap, append_assoc, ne_eqb}
use Rattle.std.proofs.lemmas.List.{append-nil}
use Rattle.std.specs.Prelude.{Bool, true, false, Some, map}
use Rattle.std.specs.List.{list_any, AllByRecursion}
use Rattle.pure_grammar.specs.declared.lexeme.Keyword.{Keyword}
use Rattle.pure_grammar.specs.declared.lexeme.Keyword.TheVariants as keyword
use Rattle.pure_grammar.specs.declared.lexeme.Sign.TheVariants as sign
use Rattle.pure_grammar.specs.Theories.TheoryText.{Span, Step, Have, Command}
use Rattle.pure_grammar.specs.Theories.TheoryText as tree
use Rattle.pure_grammar.specs.Theories.Lexeme.{Lexeme, Reserved, Signed, Quoted, Ends, same, is_word}
use Rattle.pure_grammar.specs.Theories.Phrase.{Ident, Name, Simple, Full, TypeVariable, TypePhrase, QuotedType, NamedType, VariableType, SortPhrase, OneClass, NoClass, Classes, BasicPhrase, ByAssumption, ByRule, ByErule, ByDrule, ByUnfold, MethodPhrase, Alone, Together, StepPhrase, ApplyStep, PreferStep, DeferStep, EndPhrase, DoneEnd, ByEnd, ProofPhrase, AbovePhrase, NoneAbove, Above, ParamsPhrase, NoParam, OneParam, Params, DomainsPhrase, NoDomain, Domains, ItemPhrase, AxiomPhrase, LemmaWritten, TheoremWritten, HavePhrase, CommandPhrase, ClassCommand, TypedeclCommand, AritiesCommand, ConstsCommand, AxiomsCommand, DefinitionCommand, LemmaCommand, ImportsPhrase, NoImport, Imports, VersionPhrase, NoVersion, WrittenVersion, FilePhrase}
use Rattle.pure_grammar.specs.Theories.PhraseText.{each, each_comma, name_text, ident_text, variable_text, type_text, sort_text, basic_text, method_text, step_text, end_text, proof_text, above_text, params_text, domains_text, item_text, axiom_text, and_axiom_text, have_text, command_text, imports_text, version_text, file_text}
use Rattle.pure_grammar.specs.Theories.PhraseTree.{all_of, name_of, names_of, type_span, sort_of, basic_step, method_steps, step_steps, end_steps, steps_of, proof_steps, above_of, params_of, domains_of, item_command, axiom_command, have_of, phrase_commands, commands_of, with_text, mentions, imports_of, version_of, file_tree, IsCommandPhrase}
use Rattle.pure_grammar.proofs.Distinct.{AreNew, distinct-new}
use Rattle.pure_grammar.specs.Theories.Reader.{Header, State, InBody, AtStart, AtTheoryName, AfterImport, AtLast, Through, FactMethod, OfRule, OfErule, OfDrule, fact_step, AtStep, AtMethod, AtBasic, AfterBasic, AtFact, AtUnfolded, AfterUnfolded, Place, AtCommand, AfterClassName, AtAbove, AfterAbove, AtParams, AtParam, AfterParam, AtConstructor, AtDomains, AtSort, AfterSort, AtFirstClass, AfterClass, AtArityClass, AtItem, AtItemType, AfterItemType, AfterAxiomText, AtDefinitionType, AfterDefinitionType, OpenLemma, with_have, Goal, OfLemma, OfHave, AtLemma, AtProof, InProof, command_begun, run}

-- ---- lists of phrases
pub run-each : {A B : Type 0} (text : A → List Lexeme → List Lexeme) (given : A → B) (s : List B → State)
    → ((before : List B) (x : A) (r : List Lexeme) → run (s before) (text x r) ≡ run (s (before ++ given x ∷ [])) r)
    → (before : List B) (xs : List A) (r : List Lexeme) → run (s before) (each text xs r) ≡ run (s (before ++ map given xs)) r
run-each text given s one before [] r = ap (λ z. run (s z) r) (sym (append-nil before))
run-each text given s one before (x ∷ xs) r =
    one before x (each text xs r) ∙ run-each text given s one (before ++ given x ∷ []) xs r
    ∙ ap (λ z. run (s z) r) (append_assoc before (given x ∷ []) (map given xs))

pub run-each_all : {A B : Type 0} (text : A → List Lexeme → List Lexeme) (given : A → List B) (s : List B → State)
    → ((before : List B) (x : A) (r : List Lexeme) → run (s before) (text x r) ≡ run (s (before ++ given x)) r)
    → (before : List B) (xs : List A) (r : List Lexeme) → run (s before) (each text xs r) ≡ run (s (before ++ all_of given xs)) r
run-each_all text given s one before [] r = ap (λ z. run (s z) r) (sym (append-nil before))
run-each_all text given s one before (x ∷ xs) r =
    one before x (each text xs r) ∙ run-each_all text given s one (before ++ given x) xs r
    ∙ ap (λ z. run (s z) r) (append_assoc before (given x) (all_of given xs))

-- ---- names behind one another
run-above : (h : Header) (cs : List Command) (x : List ℕ) (above : List (List ℕ)) (n : Name) (r : List Lexeme)
    → run (InBody h cs (AfterAbove x above)) (name_text n r) ≡ run (InBody h cs (AfterAbove x (above ++ name_of n ∷ []))) r
run-above h cs x above (Simple text at) r = refl
run-above h cs x above (Full text at) r = refl

run-first_above : (h : Header) (cs : List Command) (x : List ℕ) (n : Name) (r : List Lexeme)
    → run (InBody h cs (AtAbove x)) (name_text n r) ≡ run (InBody h cs (AfterAbove x (name_of n ∷ []))) r
run-first_above h cs x (Simple text at) r = refl
run-first_above h cs x (Full text at) r = refl

-- ---- sorts
run-class : (h : Header) (cs : List Command) (k : List ℕ) (doms : List (List (List ℕ))) (sort : List (List ℕ)) (n : Name) (r : List Lexeme)
    → run (InBody h cs (AfterClass k doms sort)) (Signed sign.Comma ∷ name_text n r) ≡ run (InBody h cs (AfterClass k doms (sort ++ name_of n ∷ []))) r
run-class h cs k doms sort (Simple text at) r = refl
run-class h cs k doms sort (Full text at) r = refl

run-first_class : (h : Header) (cs : List Command) (k : List ℕ) (doms : List (List (List ℕ))) (n : Name) (r : List Lexeme)
    → run (InBody h cs (AtFirstClass k doms)) (name_text n r) ≡ run (InBody h cs (AfterClass k doms (name_of n ∷ []))) r
run-first_class h cs k doms (Simple text at) r = refl
run-first_class h cs k doms (Full text at) r = refl

run-sort : (h : Header) (cs : List Command) (k : List ℕ) (doms : List (List (List ℕ))) (s : SortPhrase) (r : List Lexeme)
    → run (InBody h cs (AtSort k doms)) (sort_text s r) ≡ run (InBody h cs (AfterSort k (doms ++ sort_of s ∷ []))) r
run-sort h cs k doms (OneClass (Simple text at)) r = refl
run-sort h cs k doms (OneClass (Full text at)) r = refl
run-sort h cs k doms NoClass r = refl
run-sort h cs k doms (Classes c more) r =
    run-first_class h cs k doms c (each_comma name_text more (Signed sign.CloseBrace ∷ r))
    ∙ run-each (λ x r. Signed sign.Comma ∷ name_text x r) name_of (λ z. InBody h cs (AfterClass k doms z)) (run-class h cs k doms) (name_of c ∷ []) more (Signed sign.CloseBrace ∷ r)

-- ---- the domains of an arity
run-arity_class : (h : Header) (cs : List Command) (k : List ℕ) (doms : List (List (List ℕ))) (n : Name) (r : List Lexeme)
    → run (InBody h cs (AtArityClass k doms)) (name_text n r) ≡ run (InBody h (cs ++ tree.Arity k doms (name_of n) ∷ []) AtCommand) r
run-arity_class h cs k doms (Simple text at) r = refl
run-arity_class h cs k doms (Full text at) r = refl

run-domains : (h : Header) (cs : List Command) (k : List ℕ) (d : DomainsPhrase) (n : Name) (r : List Lexeme)
    → run (InBody h cs (AtDomains k)) (domains_text d (name_text n r)) ≡ run (InBody h (cs ++ tree.Arity k (domains_of d) (name_of n) ∷ []) AtCommand) r
run-domains h cs k NoDomain (Simple text at) r = refl
run-domains h cs k NoDomain (Full text at) r = refl
run-domains h cs k (Domains s more) n r =
    run-sort h cs k [] s (each_comma sort_text more (Signed sign.CloseParenthesis ∷ name_text n r))
    ∙ run-each (λ x r. Signed sign.Comma ∷ sort_text x r) sort_of (λ z. InBody h cs (AfterSort k z)) (run-sort h cs k) (sort_of s ∷ []) more (Signed sign.CloseParenthesis ∷ name_text n r)
    ∙ run-arity_class h cs k (sort_of s ∷ map sort_of more) n r

run-arity : (h : Header) (cs : List Command) (k : Name) (d : DomainsPhrase) (n : Name) (r : List Lexeme)
    → run (InBody h cs AtConstructor) (name_text k (Signed sign.DoubleColon ∷ domains_text d (name_text n r))) ≡ run (InBody h (cs ++ tree.Arity (name_of k) (domains_of d) (name_of n) ∷ []) AtCommand) r
run-arity h cs (Simple text at) d n r = run-domains h cs text d n r
run-arity h cs (Full text at) d n r = run-domains h cs text d n r

-- ---- the parameters of a type
run-param : (h : Header) (cs : List Command) (known : List (List ℕ)) (x : TypeVariable) (r : List Lexeme) → list_any (same x.text) known ≡ false
    → run (InBody h cs (AtParam known)) (variable_text x r) ≡ run (InBody h cs (AfterParam (known ++ x.text ∷ []))) r
run-param h cs known x r new = rw new refl

run-params : (h : Header) (cs : List Command) (known : List (List ℕ)) (xs : List TypeVariable) (r : List Lexeme) → AreNew known (map (λ (y : TypeVariable). y.text) xs)
    → run (InBody h cs (AfterParam known)) (each_comma variable_text xs r) ≡ run (InBody h cs (AfterParam (known ++ map (λ (y : TypeVariable). y.text) xs))) r
run-params h cs known [] r new = ap (λ z. run (InBody h cs (AfterParam z)) r) (sym (append-nil known))
run-params h cs known (x ∷ xs) r new =
    run-param h cs known x (each_comma variable_text xs r) new.0 ∙ run-params h cs (known ++ x.text ∷ []) xs r new.1
    ∙ ap (λ z. run (InBody h cs (AfterParam z)) r) (append_assoc known (x.text ∷ []) (map (λ (y : TypeVariable). y.text) xs))

run-typedecl : (h : Header) (cs : List Command) (p : ParamsPhrase) (x : Ident) (r : List Lexeme) → AreNew [] (params_of p)
    → run (InBody h cs AtParams) (params_text p (ident_text x r)) ≡ run (InBody h (cs ++ tree.TypeDecl x.text (length (params_of p)) ∷ []) AtCommand) r
run-typedecl h cs NoParam x r new = refl
run-typedecl h cs (OneParam y) x r new = refl
run-typedecl h cs (Params y ys) x r new =
    run-params h cs (y.text ∷ []) ys (Signed sign.CloseParenthesis ∷ ident_text x r) new.1

-- ---- constants and axioms
run-type : (h : Header) (cs : List Command) (x : List ℕ) (t : TypePhrase) (r : List Lexeme)
    → run (InBody h cs (AtItemType x)) (type_text t r) ≡ run (InBody h (cs ++ tree.Const x (type_span t) ∷ []) AfterItemType) r
run-type h cs x (QuotedType at) r = refl
run-type h cs x (NamedType (Simple text at)) r = refl
run-type h cs x (NamedType (Full text at)) r = refl
run-type h cs x (VariableType y) r = refl

run-first_item : (h : Header) (cs : List Command) (i : ItemPhrase) (r : List Lexeme)
    → run (InBody h cs AtItem) (item_text i r) ≡ run (InBody h (cs ++ item_command i ∷ []) AfterItemType) r
run-first_item h cs i r = run-type h cs i.name.text i.typ r

run-item : (h : Header) (cs : List Command) (i : ItemPhrase) (r : List Lexeme)
    → run (InBody h cs AfterItemType) (item_text i r) ≡ run (InBody h (cs ++ item_command i ∷ []) AfterItemType) r
run-item h cs i r = run-type h cs i.name.text i.typ r

run-axiom : (h : Header) (cs : List Command) (a : AxiomPhrase) (r : List Lexeme)
    → run (InBody h cs AfterAxiomText) (and_axiom_text a r) ≡ run (InBody h (cs ++ axiom_command a ∷ []) AfterAxiomText) r
run-axiom h cs a r = refl

-- ---- definitions
run-definition_type : (h : Header) (cs : List Command) (x : List ℕ) (t : TypePhrase) (r : List Lexeme)
    → run (InBody h cs (AtDefinitionType x)) (type_text t r) ≡ run (InBody h cs (AfterDefinitionType x (type_span t))) r
run-definition_type h cs x (QuotedType at) r = refl
run-definition_type h cs x (NamedType (Simple text at)) r = refl
run-definition_type h cs x (NamedType (Full text at)) r = refl
run-definition_type h cs x (VariableType y) r = refl

-- ---- proofs
run-fact : (h : Header) (cs : List Command) (goal : Goal) (script : List Step) (last : Bool) (m : FactMethod) (n : Name) (r : List Lexeme)
    → run (InBody h cs (InProof goal script (AtFact last m))) (name_text n r) ≡ run (InBody h cs (InProof goal (script ++ fact_step m (name_of n) ∷ []) (AfterBasic last))) r
run-fact h cs goal script last m (Simple text at) r = refl
run-fact h cs goal script last m (Full text at) r = refl

run-unfolded : (h : Header) (cs : List Command) (goal : Goal) (script : List Step) (last : Bool) (facts : List (List ℕ)) (n : Name) (r : List Lexeme)
    → run (InBody h cs (InProof goal script (AfterUnfolded last facts))) (name_text n r) ≡ run (InBody h cs (InProof goal script (AfterUnfolded last (facts ++ name_of n ∷ [])))) r
run-unfolded h cs goal script last facts (Simple text at) r = refl
run-unfolded h cs goal script last facts (Full text at) r = refl

run-unfold : (h : Header) (cs : List Command) (goal : Goal) (script : List Step) (last : Bool) (n : Name) (more : List Name) (r : List Lexeme)
    → run (InBody h cs (InProof goal script (AtUnfolded last))) (name_text n (each name_text more r)) ≡ run (InBody h cs (InProof goal script (AfterUnfolded last (name_of n ∷ names_of more)))) r
run-unfold h cs goal script last (Simple text at) more r = run-each name_text name_of (λ z. InBody h cs (InProof goal script (AfterUnfolded last z))) (run-unfolded h cs goal script last) (text ∷ []) more r
run-unfold h cs goal script last (Full text at) more r = run-each name_text name_of (λ z. InBody h cs (InProof goal script (AfterUnfolded last z))) (run-unfolded h cs goal script last) (text ∷ []) more r

-- a basic method, with the sign behind it
data EndsBasic : List Lexeme → Type 0 where
  comma : (r : List Lexeme) → EndsBasic (Signed sign.Comma ∷ r)
  close : (r : List Lexeme) → EndsBasic (Signed sign.CloseParenthesis ∷ r)

run-unfold_end : (h : Header) (cs : List Command) (goal : Goal) (script : List Step) (last : Bool) (facts : List (List ℕ)) (r : List Lexeme) → EndsBasic r
    → run (InBody h cs (InProof goal script (AfterUnfolded last facts))) r ≡ run (InBody h cs (InProof goal (script ++ tree.Unfold facts ∷ []) (AfterBasic last))) r
run-unfold_end h cs goal script last facts r (comma r') = refl
run-unfold_end h cs (OfLemma m) script true facts r (close r') = refl
run-unfold_end h cs (OfHave m x p) script true facts r (close r') = refl
run-unfold_end h cs goal script false facts r (close r') = refl

run-basic : (h : Header) (cs : List Command) (goal : Goal) (script : List Step) (last : Bool) (b : BasicPhrase) (r : List Lexeme) → EndsBasic r
    → run (InBody h cs (InProof goal script (AtBasic last))) (basic_text b r) ≡ run (InBody h cs (InProof goal (script ++ basic_step b ∷ []) (AfterBasic last))) r
run-basic h cs goal script last (ByAssumption at) r e = refl
run-basic h cs goal script last (ByRule at n) r e = run-fact h cs goal script last OfRule n r
run-basic h cs goal script last (ByErule at n) r e = run-fact h cs goal script last OfErule n r
run-basic h cs goal script last (ByDrule at n) r e = run-fact h cs goal script last OfDrule n r
run-basic h cs goal script last (ByUnfold at n more) r e = run-unfold h cs goal script last n more r ∙ run-unfold_end h cs goal script last (name_of n ∷ names_of more) r e

-- behind a proof
abbrev pub ended : Header → List Command → Goal → List Step → State
ended h cs (OfLemma m) script = InBody h (cs ++ tree.Lemma m.name m.prop m.haves script ∷ []) AtCommand
ended h cs (OfHave m x p) script = InBody h cs (AtProof (with_have m x p script))

-- behind the method
abbrev pub after : Header → List Command → Goal → Bool → List Step → State
after h cs goal true script = ended h cs goal (script ++ (tree.Close ∷ tree.Done ∷ []))
after h cs goal false script = InBody h cs (InProof goal script AtStep)

run-basics : (h : Header) (cs : List Command) (goal : Goal) (script : List Step) (last : Bool) (b : BasicPhrase) (bs : List BasicPhrase) (r : List Lexeme)
    → run (InBody h cs (InProof goal script (AtBasic last))) (basic_text b (each_comma basic_text bs (Signed sign.CloseParenthesis ∷ r))) ≡ run (after h cs goal last (script ++ basic_step b ∷ map basic_step bs)) r
run-basics h cs (OfLemma m) script true b [] r = run-basic h cs (OfLemma m) script true b (Signed sign.CloseParenthesis ∷ r) (close r)
run-basics h cs (OfHave m x p) script true b [] r = run-basic h cs (OfHave m x p) script true b (Signed sign.CloseParenthesis ∷ r) (close r)
run-basics h cs goal script false b [] r = run-basic h cs goal script false b (Signed sign.CloseParenthesis ∷ r) (close r)
run-basics h cs goal script last b (c ∷ bs) r =
    run-basic h cs goal script last b (Signed sign.Comma ∷ basic_text c (each_comma basic_text bs (Signed sign.CloseParenthesis ∷ r))) (comma (basic_text c (each_comma basic_text bs (Signed sign.CloseParenthesis ∷ r))))
    ∙ run-basics h cs goal (script ++ basic_step b ∷ []) last c bs r
    ∙ ap (λ z. run (after h cs goal last z) r) (append_assoc script (basic_step b ∷ []) (basic_step c ∷ map basic_step bs))

run-method : (h : Header) (cs : List Command) (goal : Goal) (script : List Step) (last : Bool) (m : MethodPhrase) (r : List Lexeme)
    → run (InBody h cs (InProof goal script (AtMethod last))) (method_text m r) ≡ run (after h cs goal last (script ++ method_steps m)) r
run-method h cs (OfLemma m) script true (Alone at) r = refl
run-method h cs (OfHave m x p) script true (Alone at) r = refl
run-method h cs goal script false (Alone at) r = refl
run-method h cs goal script last (Together b bs) r = run-basics h cs goal script last b bs r

run-step : (h : Header) (cs : List Command) (goal : Goal) (script : List Step) (s : StepPhrase) (r : List Lexeme)
    → run (InBody h cs (InProof goal script AtStep)) (step_text s r) ≡ run (InBody h cs (InProof goal (script ++ step_steps s) AtStep)) r
run-step h cs goal script (ApplyStep m) r = run-method h cs goal script false m r
run-step h cs goal script (PreferStep n) r = refl
run-step h cs goal script DeferStep r = refl

run-ending : (h : Header) (cs : List Command) (goal : Goal) (script : List Step) (e : EndPhrase) (r : List Lexeme)
    → run (InBody h cs (InProof goal script AtStep)) (end_text e r) ≡ run (ended h cs goal (script ++ end_steps e)) r
run-ending h cs (OfLemma m) script DoneEnd r = refl
run-ending h cs (OfHave m x p) script DoneEnd r = refl
run-ending h cs goal script (ByEnd m) r =
    run-method h cs goal script true m r
    ∙ ap (λ z. run (ended h cs goal z) r) (append_assoc script (method_steps m) (tree.Close ∷ tree.Done ∷ []))

run-proof : (h : Header) (cs : List Command) (goal : Goal) (proof : ProofPhrase) (r : List Lexeme)
    → run (InBody h cs (InProof goal [] AtStep)) (proof_text proof r) ≡ run (ended h cs goal (proof_steps proof)) r
run-proof h cs goal proof r =
    run-each_all step_text step_steps (λ z. InBody h cs (InProof goal z AtStep)) (run-step h cs goal) [] proof.steps (end_text proof.ending r)
    ∙ run-ending h cs goal (steps_of proof.steps) proof.ending r

-- ---- lemmas
-- the proof of a lemma begins where a have could
run-own_proof : (h : Header) (cs : List Command) (m : OpenLemma) (steps : List StepPhrase) (e : EndPhrase) (r : List Lexeme)
    → run (InBody h cs (AtProof m)) (each step_text steps (end_text e r)) ≡ run (InBody h cs (InProof (OfLemma m) [] AtStep)) (each step_text steps (end_text e r))
run-own_proof h cs m [] DoneEnd r = refl
run-own_proof h cs m [] (ByEnd y) r = refl
run-own_proof h cs m (ApplyStep y ∷ steps) e r = refl
run-own_proof h cs m (PreferStep n ∷ steps) e r = refl
run-own_proof h cs m (DeferStep ∷ steps) e r = refl

-- behind the statement of a lemma and these haves
abbrev pub open_lemma : List ℕ → Span → List Have → OpenLemma
open_lemma x p haves = record { name = x; prop = p; haves = haves }

run-have : (h : Header) (cs : List Command) (x : List ℕ) (p : Span) → h.version == 1 ≡ false → (before : List Have) (y : HavePhrase) (r : List Lexeme)
    → run (InBody h cs (AtProof (open_lemma x p before))) (have_text y r) ≡ run (InBody h cs (AtProof (open_lemma x p (before ++ have_of y ∷ [])))) r
run-have h cs x p later before y r = rw later (run-proof h cs (OfHave (open_lemma x p before) y.statement.name.text y.statement.prop) y.proof r)

not-empty : {A : Type 0} (x : A) (xs : List A) → x ∷ xs ≡ [] → ⊥
not-empty x xs e = cc

run-haves : (h : Header) (cs : List Command) (x : List ℕ) (p : Span) (haves : List HavePhrase) (r : List Lexeme) → (h.version ≡ 1 → haves ≡ [])
    → run (InBody h cs (AtProof (open_lemma x p []))) (each have_text haves r) ≡ run (InBody h cs (AtProof (open_lemma x p (map have_of haves)))) r
run-haves h cs x p [] r w = refl
run-haves h cs x p (y ∷ ys) r w =
    let later : h.version == 1 ≡ false = ne_eqb h.version 1 (λ e. not-empty y ys (w e)) in
    run-each have_text have_of (λ z. InBody h cs (AtProof (open_lemma x p z))) (run-have h cs x p later) [] (y ∷ ys) r

run-lemma : (h : Header) (cs : List Command) (a : AxiomPhrase) (haves : List HavePhrase) (proof : ProofPhrase) (r : List Lexeme) → (h.version ≡ 1 → haves ≡ [])
    → run (InBody h cs AtLemma) (axiom_text a (each have_text haves (proof_text proof r))) ≡ run (InBody h (cs ++ tree.Lemma a.name.text a.prop (map have_of haves) (proof_steps proof) ∷ []) AtCommand) r
run-lemma h cs a haves proof r w =
    let m : OpenLemma = open_lemma a.name.text a.prop (map have_of haves) in
    run-haves h cs a.name.text a.prop haves (proof_text proof r) w
    ∙ run-own_proof h cs m proof.steps proof.ending r
    ∙ run-proof h cs (OfLemma m) proof r

-- ---- commands
-- a command begins, or the end
pub record IsBegun (r : List Lexeme) : Type 0 where
  pub word : Keyword
  pub behind : List Lexeme
  pub place : Place
  pub is : r ≡ Reserved word ∷ behind
  pub begun : command_begun (Reserved word) ≡ Some place
  pub no_and : is_word keyword.And (Reserved word) ≡ false

leave-class : (h : Header) (cs : List Command) (x : List ℕ) (r : List Lexeme) → IsBegun r
    → run (InBody h cs (AfterClassName x)) r ≡ run (InBody h (cs ++ tree.Class x [] ∷ []) AtCommand) r
leave-class h cs x r b = rw (b.is, b.begun) refl

leave-above : (h : Header) (cs : List Command) (x : List ℕ) (above : List (List ℕ)) (r : List Lexeme) → IsBegun r
    → run (InBody h cs (AfterAbove x above)) r ≡ run (InBody h (cs ++ tree.Class x above ∷ []) AtCommand) r
leave-above h cs x above r b = rw (b.is, b.begun) refl

leave-items : (h : Header) (cs : List Command) (r : List Lexeme) → IsBegun r → run (InBody h cs AfterItemType) r ≡ run (InBody h cs AtCommand) r
leave-items h cs r b = rw (b.is, b.begun) refl

leave-axioms : (h : Header) (cs : List Command) (r : List Lexeme) → IsBegun r → run (InBody h cs AfterAxiomText) r ≡ run (InBody h cs AtCommand) r
leave-axioms h cs r b = rw (b.is, b.no_and, b.begun) refl

run-class_above : (h : Header) (cs : List Command) (x : List ℕ) (above : AbovePhrase) (r : List Lexeme) → IsBegun r
    → run (InBody h cs (AfterClassName x)) (above_text above r) ≡ run (InBody h (cs ++ tree.Class x (above_of above) ∷ []) AtCommand) r
run-class_above h cs x NoneAbove r b = leave-class h cs x r b
run-class_above h cs x (Above c more) r b =
    run-first_above h cs x c (each name_text more r)
    ∙ run-each name_text name_of (λ z. InBody h cs (AfterAbove x z)) (run-above h cs x) (name_of c ∷ []) more r
    ∙ leave-above h cs x (name_of c ∷ names_of more) r b

pub run-command : (h : Header) (cs : List Command) (c : CommandPhrase) (r : List Lexeme) → IsCommandPhrase h.version c → IsBegun r
    → run (InBody h cs AtCommand) (command_text c r) ≡ run (InBody h (cs ++ phrase_commands c) AtCommand) r
run-command h cs (ClassCommand x above) r w b = run-class_above h cs x.text above r b
run-command h cs (TypedeclCommand params x) r w b = run-typedecl h cs params x r (distinct-new (params_of params) w)
run-command h cs (AritiesCommand con doms class) r w b = run-arity h cs con doms class r
run-command h cs (ConstsCommand i is) r w b =
    run-first_item h cs i (each item_text is r)
    ∙ run-each item_text item_command (λ z. InBody h z AfterItemType) (run-item h) (cs ++ item_command i ∷ []) is r
    ∙ leave-items h ((cs ++ item_command i ∷ []) ++ map item_command is) r b
    ∙ ap (λ z. run (InBody h z AtCommand) r) (append_assoc cs (item_command i ∷ []) (map item_command is))
run-command h cs (AxiomsCommand a more) r w b =
    run-each and_axiom_text axiom_command (λ z. InBody h z AfterAxiomText) (run-axiom h) (cs ++ axiom_command a ∷ []) more r
    ∙ leave-axioms h ((cs ++ axiom_command a ∷ []) ++ map axiom_command more) r b
    ∙ ap (λ z. run (InBody h z AtCommand) r) (append_assoc cs (axiom_command a ∷ []) (map axiom_command more))
run-command h cs (DefinitionCommand i prop) r w b = run-definition_type h cs i.name.text i.typ (Reserved keyword.Where ∷ Quoted prop ∷ r)
run-command h cs (LemmaCommand LemmaWritten a haves p) r w b = run-lemma h cs a haves p r w
run-command h cs (LemmaCommand TheoremWritten a haves p) r w b = run-lemma h cs a haves p r w

begun : (cs : List CommandPhrase) → IsBegun (each command_text cs (Reserved keyword.End ∷ Ends ∷ []))
begun [] = record { word = keyword.End; behind = _; place = _; is = refl; begun = refl; no_and = refl }
begun (ClassCommand x above ∷ cs) = record { word = keyword.Class; behind = _; place = _; is = refl; begun = refl; no_and = refl }
begun (TypedeclCommand params x ∷ cs) = record { word = keyword.Typedecl; behind = _; place = _; is = refl; begun = refl; no_and = refl }
begun (AritiesCommand con doms class ∷ cs) = record { word = keyword.Arities; behind = _; place = _; is = refl; begun = refl; no_and = refl }
begun (ConstsCommand i is ∷ cs) = record { word = keyword.Consts; behind = _; place = _; is = refl; begun = refl; no_and = refl }
begun (AxiomsCommand a more ∷ cs) = record { word = keyword.Axiomatization; behind = _; place = _; is = refl; begun = refl; no_and = refl }
begun (DefinitionCommand i prop ∷ cs) = record { word = keyword.Definition; behind = _; place = _; is = refl; begun = refl; no_and = refl }
begun (LemmaCommand LemmaWritten a haves p ∷ cs) = record { word = keyword.Lemma; behind = _; place = _; is = refl; begun = refl; no_and = refl }
begun (LemmaCommand TheoremWritten a haves p ∷ cs) = record { word = keyword.Theorem; behind = _; place = _; is = refl; begun = refl; no_and = refl }

run-commands : (h : Header) (before : List Command) (cs : List CommandPhrase) → AllByRecursion (IsCommandPhrase h.version) cs
    → run (InBody h before AtCommand) (each command_text cs (Reserved keyword.End ∷ Ends ∷ []))
    ≡ Through (AtLast (record { version = h.version; name = h.name; imports = h.imports; commands = before ++ commands_of cs }))
run-commands h before [] w = ap (λ z. Through (AtLast (record { version = h.version; name = h.name; imports = h.imports; commands = z }))) (sym (append-nil before))
run-commands h before (c ∷ cs) w =
    run-command h before c (each command_text cs (Reserved keyword.End ∷ Ends ∷ [])) w.0 (begun cs)
    ∙ run-commands h (before ++ phrase_commands c) cs w.1
    ∙ ap (λ z. Through (AtLast (record { version = h.version; name = h.name; imports = h.imports; commands = z }))) (append_assoc before (phrase_commands c) (commands_of cs))

-- ---- files
run-imports : (v : ℕ) (x : List ℕ) (known : List (List ℕ)) (xs : List Ident) (r : List Lexeme)
    → run (AfterImport (record { version = v; name = x; imports = known })) (each ident_text xs r) ≡ run (AfterImport (record { version = v; name = x; imports = mentions known xs })) r
run-imports v x known [] r = refl
run-imports v x known (y ∷ ys) r = run-imports v x (with_text known y.text) ys r

run-theory : (v : ℕ) (x : Ident) (imports : ImportsPhrase) (cs : List CommandPhrase) → AllByRecursion (IsCommandPhrase v) cs
    → run (AtTheoryName v) (ident_text x (imports_text imports (Reserved keyword.Begin ∷ each command_text cs (Reserved keyword.End ∷ Ends ∷ []))))
    ≡ Through (AtLast (record { version = v; name = x.text; imports = imports_of imports; commands = commands_of cs }))
run-theory v x NoImport cs w = run-commands (record { version = v; name = x.text; imports = imports_of NoImport }) [] cs w
run-theory v x (Imports i is) cs w =
    run-imports v x.text (i.text ∷ []) is (Reserved keyword.Begin ∷ each command_text cs (Reserved keyword.End ∷ Ends ∷ []))
    ∙ run-commands (record { version = v; name = x.text; imports = mentions (i.text ∷ []) is }) [] cs w

run-version : (v : VersionPhrase) (r : List Lexeme) → run AtStart (version_text v (Reserved keyword.Theory ∷ r)) ≡ run (AtTheoryName (version_of v)) r
run-version NoVersion r = refl
run-version (WrittenVersion n) r = refl

-- the reader reads the text of each file
pub run-file_text : (f : FilePhrase) → AllByRecursion (IsCommandPhrase (version_of f.version)) f.commands → run AtStart (file_text f) ≡ Through (AtLast (file_tree f))
run-file_text f w =
    run-version f.version (ident_text f.name (imports_text f.imports (Reserved keyword.Begin ∷ each command_text f.commands (Reserved keyword.End ∷ Ends ∷ []))))
    ∙ run-theory (version_of f.version) f.name f.imports f.commands w
