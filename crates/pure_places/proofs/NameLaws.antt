-- In the text of a theory the names of its commands are found, and the imports in its header.
use Rattle.std.proofs.Common.{◌≡◌, false, List, [], ◌∷◌, ◌++◌, refl, ◌∙◌, ap, if◌then◌else◌}
use Rattle.pure_grammar.specs.declared.lexeme.Keyword.TheVariants as keyword
use Rattle.pure_grammar.specs.declared.lexeme.Sign.TheVariants as sign
use Rattle.pure_grammar.specs.Theories.Lexeme.{Lexeme, Reserved, Signed, Plain, Dotted, Quoted, Ends}
use Rattle.pure_grammar.specs.Theories.Phrase.{Ident, Name, Simple, Full, TypeVariable, TypePhrase, QuotedType, NamedType, VariableType, SortPhrase, OneClass, NoClass, Classes, BasicPhrase, ByAssumption, ByRule, ByErule, ByDrule, ByUnfold, MethodPhrase, Alone, Together, StepPhrase, ApplyStep, PreferStep, DeferStep, EndPhrase, DoneEnd, ByEnd, ProofPhrase, AbovePhrase, NoneAbove, Above, ParamsPhrase, NoParam, OneParam, Params, DomainsPhrase, NoDomain, Domains, ItemPhrase, AxiomPhrase, LemmaWritten, TheoremWritten, CommandPhrase, ClassCommand, TypedeclCommand, AritiesCommand, ConstsCommand, AxiomsCommand, DefinitionCommand, LemmaCommand, HavePhrase, ImportsPhrase, NoImport, Imports, VersionPhrase, NoVersion, WrittenVersion, FilePhrase}
use Rattle.pure_grammar.specs.Theories.PhraseText.{each, each_comma, ident_text, name_text, variable_text, type_text, sort_text, assumption_word, rule_word, erule_word, drule_word, unfold_word, basic_text, method_text, step_text, end_text, proof_text, above_text, params_text, domains_text, item_text, axiom_text, and_axiom_text, have_text, command_text, imports_text, version_text, file_text}
use Rattle.pure_places.specs.Parts.{CommandParts, from_each, named, item_part, axiom_part, have_part, command_parts, import_part, import_parts, body_text, header_text, proof_words}
use Rattle.pure_places.specs.Proofs.{Proofs}
use Rattle.pure_places.specs.Marks.{mark_of, first_mark, is_name, is_colon, behind, proofs_of, command_of}
use Rattle.pure_places.specs.declared.mark.Before.{Before}
use Rattle.pure_places.specs.declared.mark.Before.TheVariants as before
use Rattle.pure_places.proofs.LinkLaws.{text_commands, text_imports, text_from}
use Rattle.pure_places.proofs.StepLaws.{IsBehind, behind-commands, proofs-found}

-- The text doesn't begin with a colon.
abbrev IsPlain : List Lexeme → Type 0
IsPlain r = is_colon (first_mark mark_of r) ≡ false

-- the search among the commands, behind a word that waits for no name
abbrev rest : List Lexeme → List (CommandParts (List Lexeme))
rest = text_commands before.Other

passed : (b : Before) (l : Lexeme) (r : List Lexeme) → is_name b (mark_of l) (first_mark mark_of r) ≡ false → text_commands b (l ∷ r) ≡ text_commands (behind b (mark_of l)) r
passed b l r e = ap (λ z. if z then command_of (l ∷ r) (proofs_of mark_of text_from b r) ∷ rest r else text_commands (behind b (mark_of l)) r) e

name-passed : (n : Name) (r : List Lexeme) → IsPlain r → rest (name_text n r) ≡ rest r
name-passed (Simple text at) r plain = passed before.Other (Plain text at) r plain
name-passed (Full text at) r plain = passed before.Other (Dotted text at) r plain

plain-name : (n : Name) (r : List Lexeme) → IsPlain (name_text n r)
plain-name (Simple text at) r = refl
plain-name (Full text at) r = refl

plain-names : (ns : List Name) (r : List Lexeme) → IsPlain r → IsPlain (each name_text ns r)
plain-names [] r plain = plain
plain-names (n ∷ ns) r plain = plain-name n (each name_text ns r)

names-passed : (ns : List Name) (r : List Lexeme) → IsPlain r → rest (each name_text ns r) ≡ rest r
names-passed [] r plain = refl
names-passed (n ∷ ns) r plain = name-passed n (each name_text ns r) (plain-names ns r plain) ∙ names-passed ns r plain

plain-comma : {A : Type 0} (text : A → List Lexeme → List Lexeme) (xs : List A) (r : List Lexeme) → IsPlain r → IsPlain (each_comma text xs r)
plain-comma text [] r plain = plain
plain-comma text (x ∷ xs) r plain = refl

comma-passed : {A : Type 0} (text : A → List Lexeme → List Lexeme) → ((x : A) (r : List Lexeme) → IsPlain r → rest (text x r) ≡ rest r) → (xs : List A) (r : List Lexeme) → IsPlain r → rest (each_comma text xs r) ≡ rest r
comma-passed text law [] r plain = refl
comma-passed text law (x ∷ xs) r plain = law x (each_comma text xs r) (plain-comma text xs r plain) ∙ comma-passed text law xs r plain

type-passed : (t : TypePhrase) (r : List Lexeme) → IsPlain r → rest (type_text t r) ≡ rest r
type-passed (QuotedType at) r plain = refl
type-passed (NamedType name) r plain = name-passed name r plain
type-passed (VariableType x) r plain = refl

sort-passed : (s : SortPhrase) (r : List Lexeme) → IsPlain r → rest (sort_text s r) ≡ rest r
sort-passed (OneClass c) r plain = name-passed c r plain
sort-passed NoClass r plain = refl
sort-passed (Classes c cs) r plain =
    let close = Signed sign.CloseBrace ∷ r in
    name-passed c (each_comma name_text cs close) (plain-comma name_text cs close refl) ∙ comma-passed name_text name-passed cs close refl

domains-passed : (d : DomainsPhrase) (r : List Lexeme) → IsPlain r → rest (domains_text d r) ≡ rest r
domains-passed NoDomain r plain = refl
domains-passed (Domains s ss) r plain =
    let close = Signed sign.CloseParenthesis ∷ r in
    sort-passed s (each_comma sort_text ss close) (plain-comma sort_text ss close refl) ∙ comma-passed sort_text sort-passed ss close refl

above-passed : (a : AbovePhrase) (r : List Lexeme) → IsPlain r → rest (above_text a r) ≡ rest r
above-passed NoneAbove r plain = refl
above-passed (Above c cs) r plain = name-passed c (each name_text cs r) (plain-names cs r plain) ∙ names-passed cs r plain

variables-passed : (xs : List TypeVariable) (r : List Lexeme) → text_commands before.Kind (each_comma variable_text xs r) ≡ text_commands before.Kind r
variables-passed [] r = refl
variables-passed (x ∷ xs) r = variables-passed xs r

params-passed : (p : ParamsPhrase) (r : List Lexeme) → text_commands before.Kind (params_text p r) ≡ text_commands before.Kind r
params-passed NoParam r = refl
params-passed (OneParam x) r = refl
params-passed (Params x xs) r = variables-passed xs (Signed sign.CloseParenthesis ∷ r)

-- ---- proofs have no names of commands

basic-passed : (b : BasicPhrase) (r : List Lexeme) → IsPlain r → rest (basic_text b r) ≡ rest r
basic-passed (ByAssumption at) r plain = passed before.Other (Plain assumption_word at) r plain
basic-passed (ByRule at fact) r plain = passed before.Other (Plain rule_word at) (name_text fact r) (plain-name fact r) ∙ name-passed fact r plain
basic-passed (ByErule at fact) r plain = passed before.Other (Plain erule_word at) (name_text fact r) (plain-name fact r) ∙ name-passed fact r plain
basic-passed (ByDrule at fact) r plain = passed before.Other (Plain drule_word at) (name_text fact r) (plain-name fact r) ∙ name-passed fact r plain
basic-passed (ByUnfold at fact facts) r plain =
    passed before.Other (Plain unfold_word at) (name_text fact (each name_text facts r)) (plain-name fact (each name_text facts r))
    ∙ name-passed fact (each name_text facts r) (plain-names facts r plain) ∙ names-passed facts r plain

method-passed : (m : MethodPhrase) (r : List Lexeme) → IsPlain r → rest (method_text m r) ≡ rest r
method-passed (Alone at) r plain = passed before.Other (Plain assumption_word at) r plain
method-passed (Together b bs) r plain =
    let close = Signed sign.CloseParenthesis ∷ r in
    basic-passed b (each_comma basic_text bs close) (plain-comma basic_text bs close refl) ∙ comma-passed basic_text basic-passed bs close refl

step-passed : (s : StepPhrase) (r : List Lexeme) → IsPlain r → rest (step_text s r) ≡ rest r
step-passed (ApplyStep m) r plain = method-passed m r plain
step-passed (PreferStep n) r plain = refl
step-passed DeferStep r plain = refl

plain-end : (e : EndPhrase) (r : List Lexeme) → IsPlain (end_text e r)
plain-end DoneEnd r = refl
plain-end (ByEnd m) r = refl

plain-steps : (ss : List StepPhrase) (r : List Lexeme) → IsPlain r → IsPlain (each step_text ss r)
plain-steps [] r plain = plain
plain-steps (ApplyStep m ∷ ss) r plain = refl
plain-steps (PreferStep n ∷ ss) r plain = refl
plain-steps (DeferStep ∷ ss) r plain = refl

plain-proof : (p : ProofPhrase) (r : List Lexeme) → IsPlain (proof_text p r)
plain-proof p r = plain-steps p.steps (end_text p.ending r) (plain-end p.ending r)

plain-haves : (haves : List HavePhrase) (r : List Lexeme) → IsPlain r → IsPlain (each have_text haves r)
plain-haves [] r plain = plain
plain-haves (h ∷ haves) r plain = refl

steps-passed : (ss : List StepPhrase) (r : List Lexeme) → IsPlain r → rest (each step_text ss r) ≡ rest r
steps-passed [] r plain = refl
steps-passed (s ∷ ss) r plain = step-passed s (each step_text ss r) (plain-steps ss r plain) ∙ steps-passed ss r plain

end-passed : (e : EndPhrase) (r : List Lexeme) → IsPlain r → rest (end_text e r) ≡ rest r
end-passed DoneEnd r plain = refl
end-passed (ByEnd m) r plain = method-passed m r plain

proof-passed : (p : ProofPhrase) (r : List Lexeme) → IsPlain r → rest (proof_text p r) ≡ rest r
proof-passed p r plain = steps-passed p.steps (end_text p.ending r) (plain-end p.ending r) ∙ end-passed p.ending r plain

-- ---- commands

item-found : (i : ItemPhrase) (r : List Lexeme) → IsPlain r → rest (item_text i r) ≡ item_part i r ++ rest r
item-found i r plain = ap (λ z. named (item_text i r) ∷ z) (type-passed i.typ r plain)

plain-items : (is : List ItemPhrase) (r : List Lexeme) → IsPlain r → IsPlain (each item_text is r)
plain-items [] r plain = plain
plain-items (i ∷ is) r plain = refl

items-found : (is : List ItemPhrase) (r : List Lexeme) → IsPlain r → rest (each item_text is r) ≡ from_each item_part item_text is r ++ rest r
items-found [] r plain = refl
items-found (i ∷ is) r plain = item-found i (each item_text is r) (plain-items is r plain) ∙ ap (λ z. named (item_text i (each item_text is r)) ∷ z) (items-found is r plain)

axioms-found : (as_more : List AxiomPhrase) (r : List Lexeme) → rest (each and_axiom_text as_more r) ≡ from_each axiom_part and_axiom_text as_more r ++ rest r
axioms-found [] r = refl
axioms-found (a ∷ more) r = ap (λ z. named (axiom_text a (each and_axiom_text more r)) ∷ z) (axioms-found more r)

haves-passed : (haves : List HavePhrase) (r : List Lexeme) → IsPlain r → rest (each have_text haves r) ≡ rest r
haves-passed [] r plain = refl
haves-passed (h ∷ haves) r plain = proof-passed h.proof (each have_text haves r) (plain-haves haves r plain) ∙ haves-passed haves r plain

lemma-found : (a : AxiomPhrase) (haves : List HavePhrase) (p : ProofPhrase) (r : List Lexeme) → IsPlain r → IsBehind r
    → text_commands before.Lemma (axiom_text a (each have_text haves (proof_text p r))) ≡ command_parts (LemmaCommand LemmaWritten a haves p) r ++ rest r
lemma-found a haves p r plain ends =
    let text : List Lexeme = axiom_text a (each have_text haves (proof_text p r)) in
    let found : Proofs (List Lexeme) = record { haves = from_each have_part have_text haves (proof_text p r); steps = proof_words p r } in
    ap (λ z. command_of text z ∷ rest (each have_text haves (proof_text p r))) (proofs-found haves p r ends)
    ∙ ap (λ z. command_of text found ∷ z) (haves-passed haves (proof_text p r) (plain-proof p r) ∙ proof-passed p r plain)

arity-found : (con : Name) (d : DomainsPhrase) (class : Name) (r : List Lexeme) → IsPlain r
    → rest (name_text con (Signed sign.DoubleColon ∷ domains_text d (name_text class r))) ≡ named (name_text con (Signed sign.DoubleColon ∷ domains_text d (name_text class r))) ∷ rest r
arity-found (Simple text at) d class r plain =
    ap (λ z. named (name_text (Simple text at) (Signed sign.DoubleColon ∷ domains_text d (name_text class r))) ∷ z) (domains-passed d (name_text class r) (plain-name class r) ∙ name-passed class r plain)
arity-found (Full text at) d class r plain =
    ap (λ z. named (name_text (Full text at) (Signed sign.DoubleColon ∷ domains_text d (name_text class r))) ∷ z) (domains-passed d (name_text class r) (plain-name class r) ∙ name-passed class r plain)

command-found : (c : CommandPhrase) (r : List Lexeme) → IsPlain r → IsBehind r → rest (command_text c r) ≡ command_parts c r ++ rest r
command-found (ClassCommand x above) r plain ends = ap (λ z. named (ident_text x (above_text above r)) ∷ z) (above-passed above r plain)
command-found (TypedeclCommand params x) r plain ends = params-passed params (ident_text x r)
command-found (AritiesCommand con doms class) r plain ends = arity-found con doms class r plain
command-found (ConstsCommand i is) r plain ends =
    item-found i (each item_text is r) (plain-items is r plain) ∙ ap (λ z. named (item_text i (each item_text is r)) ∷ z) (items-found is r plain)
command-found (AxiomsCommand a more) r plain ends = ap (λ z. named (axiom_text a (each and_axiom_text more r)) ∷ z) (axioms-found more r)
command-found (DefinitionCommand i prop) r plain ends = item-found i (Reserved keyword.Where ∷ Quoted prop ∷ r) refl
command-found (LemmaCommand LemmaWritten a haves p) r plain ends = lemma-found a haves p r plain ends
command-found (LemmaCommand TheoremWritten a haves p) r plain ends = lemma-found a haves p r plain ends

abbrev last : List Lexeme
last = Reserved keyword.End ∷ Ends ∷ []

plain-commands : (cs : List CommandPhrase) → IsPlain (each command_text cs last)
plain-commands [] = refl
plain-commands (ClassCommand x above ∷ cs) = refl
plain-commands (TypedeclCommand params x ∷ cs) = refl
plain-commands (AritiesCommand con doms class ∷ cs) = refl
plain-commands (ConstsCommand i is ∷ cs) = refl
plain-commands (AxiomsCommand a more ∷ cs) = refl
plain-commands (DefinitionCommand i prop ∷ cs) = refl
plain-commands (LemmaCommand LemmaWritten a haves p ∷ cs) = refl
plain-commands (LemmaCommand TheoremWritten a haves p ∷ cs) = refl

commands-found : (cs : List CommandPhrase) → rest (each command_text cs last) ≡ from_each command_parts command_text cs last
commands-found [] = refl
commands-found (c ∷ cs) =
    command-found c (each command_text cs last) (plain-commands cs) (behind-commands cs) ∙ ap (λ z. command_parts c (each command_text cs last) ++ z) (commands-found cs)

-- ---- the header

plain-imports : (i : ImportsPhrase) (r : List Lexeme) → IsPlain (imports_text i (Reserved keyword.Begin ∷ r))
plain-imports NoImport r = refl
plain-imports (Imports x xs) r = refl

plain-idents : (xs : List Ident) (r : List Lexeme) → IsPlain (each ident_text xs (Reserved keyword.Begin ∷ r))
plain-idents [] r = refl
plain-idents (x ∷ xs) r = refl

idents-passed : (xs : List Ident) (r : List Lexeme) → rest (each ident_text xs (Reserved keyword.Begin ∷ r)) ≡ rest r
idents-passed [] r = refl
idents-passed (x ∷ xs) r = passed before.Other (Plain x.text x.at) (each ident_text xs (Reserved keyword.Begin ∷ r)) (plain-idents xs r) ∙ idents-passed xs r

imports-passed : (i : ImportsPhrase) (r : List Lexeme) → rest (imports_text i (Reserved keyword.Begin ∷ r)) ≡ rest r
imports-passed NoImport r = refl
imports-passed (Imports x xs) r = passed before.Other (Plain x.text x.at) (each ident_text xs (Reserved keyword.Begin ∷ r)) (plain-idents xs r) ∙ idents-passed xs r

version-passed : (v : VersionPhrase) (r : List Lexeme) → rest (version_text v r) ≡ rest r
version-passed NoVersion r = refl
version-passed (WrittenVersion n) r = refl

pub file-commands : (f : FilePhrase) → rest (file_text f) ≡ from_each command_parts command_text f.commands last
file-commands f =
    version-passed f.version (Reserved keyword.Theory ∷ header_text f)
    ∙ passed before.Other (Plain f.name.text f.name.at) (imports_text f.imports (Reserved keyword.Begin ∷ body_text f)) (plain-imports f.imports (body_text f)) ∙ imports-passed f.imports (body_text f) ∙ commands-found f.commands

idents-found : (xs : List Ident) (r : List Lexeme) → text_imports (each ident_text xs (Reserved keyword.Begin ∷ r)) ≡ from_each import_part ident_text xs (Reserved keyword.Begin ∷ r)
idents-found [] r = refl
idents-found (x ∷ xs) r = ap (λ z. record { theory = x.text; at = ident_text x (each ident_text xs (Reserved keyword.Begin ∷ r)) } ∷ z) (idents-found xs r)

pub header-imports : (i : ImportsPhrase) (r : List Lexeme) → text_imports (imports_text i (Reserved keyword.Begin ∷ r)) ≡ import_parts i (Reserved keyword.Begin ∷ r)
header-imports NoImport r = refl
header-imports (Imports x xs) r = ap (λ z. record { theory = x.text; at = ident_text x (each ident_text xs (Reserved keyword.Begin ∷ r)) } ∷ z) (idents-found xs r)
