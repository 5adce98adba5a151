-- What each phrase of the grammar means, as a part of the theory's tree.
use Rattle.std.specs.Prelude.{◌≡◌, ℕ, List, [], ◌∷◌, ◌++◌, map, length, if◌then◌else◌, codes}
use Rattle.std.specs.List.{list_any}
use Rattle.pure_text.specs.Lists.{AreDistinct}
use Rattle.pure_grammar.specs.Theories.TheoryText.{Span, Step, Have, Command, TheoryText}
use Rattle.pure_grammar.specs.Theories.TheoryText as tree
use Rattle.pure_grammar.specs.Theories.Lexeme.{same}
use Rattle.pure_grammar.specs.Theories.Phrase.{Ident, Name, Simple, Full, TypeVariable, TypePhrase, QuotedType, NamedType, VariableType, SortPhrase, OneClass, NoClass, Classes, BasicPhrase, ByAssumption, ByRule, ByErule, ByDrule, ByUnfold, MethodPhrase, Alone, Together, StepPhrase, ApplyStep, PreferStep, DeferStep, EndPhrase, DoneEnd, ByEnd, ProofPhrase, AbovePhrase, NoneAbove, Above, ParamsPhrase, NoParam, OneParam, Params, DomainsPhrase, NoDomain, Domains, ItemPhrase, AxiomPhrase, CommandPhrase, ClassCommand, TypedeclCommand, AritiesCommand, ConstsCommand, AxiomsCommand, DefinitionCommand, LemmaCommand, HavePhrase, ImportsPhrase, NoImport, Imports, VersionPhrase, NoVersion, WrittenVersion, FilePhrase}

-- what each item of a list gives, one after another
abbrev pub all_of : {A B : Type 0} → (A → List B) → List A → List B
all_of given [] = []
all_of given (x ∷ xs) = given x ++ all_of given xs

abbrev pub name_of : Name → List ℕ
name_of (Simple text at) = text
name_of (Full text at) = text

abbrev pub names_of : List Name → List (List ℕ)
names_of = map name_of

abbrev pub name_span : Name → Span
name_span (Simple text at) = at
name_span (Full text at) = at

abbrev pub type_span : TypePhrase → Span
type_span (QuotedType at) = at
type_span (NamedType name) = name_span name
type_span (VariableType x) = x.at

abbrev pub sort_of : SortPhrase → List (List ℕ)
sort_of (OneClass c) = name_of c ∷ []
sort_of NoClass = []
sort_of (Classes c cs) = name_of c ∷ names_of cs

abbrev pub basic_step : BasicPhrase → Step
basic_step (ByAssumption at) = tree.Assumption
basic_step (ByRule at fact) = tree.Rule (name_of fact)
basic_step (ByErule at fact) = tree.Erule (name_of fact)
basic_step (ByDrule at fact) = tree.Drule (name_of fact)
basic_step (ByUnfold at fact facts) = tree.Unfold (name_of fact ∷ names_of facts)

-- each basic method is a step
abbrev pub method_steps : MethodPhrase → List Step
method_steps (Alone at) = tree.Assumption ∷ []
method_steps (Together b bs) = basic_step b ∷ map basic_step bs

abbrev pub step_steps : StepPhrase → List Step
step_steps (ApplyStep m) = method_steps m
step_steps (PreferStep n) = tree.Prefer n ∷ []
step_steps DeferStep = tree.Defer ∷ []

-- `by m` is the steps of m, then Close, then Done
abbrev pub end_steps : EndPhrase → List Step
end_steps DoneEnd = tree.Done ∷ []
end_steps (ByEnd m) = method_steps m ++ (tree.Close ∷ tree.Done ∷ [])

abbrev pub steps_of : List StepPhrase → List Step
steps_of = all_of step_steps

abbrev pub proof_steps : ProofPhrase → List Step
proof_steps p = steps_of p.steps ++ end_steps p.ending

abbrev pub above_of : AbovePhrase → List (List ℕ)
above_of NoneAbove = []
above_of (Above c cs) = name_of c ∷ names_of cs

abbrev pub params_of : ParamsPhrase → List (List ℕ)
params_of NoParam = []
params_of (OneParam x) = x.text ∷ []
params_of (Params x xs) = x.text ∷ map (λ (y : TypeVariable). y.text) xs

abbrev pub domains_of : DomainsPhrase → List (List (List ℕ))
domains_of NoDomain = []
domains_of (Domains s ss) = sort_of s ∷ map sort_of ss

abbrev pub item_command : ItemPhrase → Command
item_command i = tree.Const i.name.text (type_span i.typ)

abbrev pub axiom_command : AxiomPhrase → Command
axiom_command a = tree.Axiom a.name.text a.prop

abbrev pub have_of : HavePhrase → Have
have_of h = record { name = h.statement.name.text; prop = h.statement.prop; script = proof_steps h.proof }

-- each item of `consts` and each part of `axiomatization` is a command
abbrev pub phrase_commands : CommandPhrase → List Command
phrase_commands (ClassCommand x above) = tree.Class x.text (above_of above) ∷ []
phrase_commands (TypedeclCommand params x) = tree.TypeDecl x.text (length (params_of params)) ∷ []
phrase_commands (AritiesCommand con doms class) = tree.Arity (name_of con) (domains_of doms) (name_of class) ∷ []
phrase_commands (ConstsCommand i is) = item_command i ∷ map item_command is
phrase_commands (AxiomsCommand a more) = axiom_command a ∷ map axiom_command more
phrase_commands (DefinitionCommand i prop) = tree.Definition i.name.text (type_span i.typ) prop ∷ []
phrase_commands (LemmaCommand word a haves p) = tree.Lemma a.name.text a.prop (map have_of haves) (proof_steps p) ∷ []

abbrev pub commands_of : List CommandPhrase → List Command
commands_of = all_of phrase_commands

-- the list with one more text, unless it is there
abbrev pub with_text : List (List ℕ) → List ℕ → List (List ℕ)
with_text known x = if list_any (same x) known then known else (known ++ x ∷ [])

-- the texts of the list, and then the others, each where it is first mentioned
abbrev pub mentions : List (List ℕ) → List Ident → List (List ℕ)
mentions known [] = known
mentions known (x ∷ xs) = mentions (with_text known x.text) xs

-- a theory without imports imports Pure
abbrev pub imports_of : ImportsPhrase → List (List ℕ)
imports_of NoImport = codes "Pure" ∷ []
imports_of (Imports x xs) = mentions (x.text ∷ []) xs

-- a theory without a version is of version 1
abbrev pub version_of : VersionPhrase → ℕ
version_of NoVersion = 1
version_of (WrittenVersion n) = n

abbrev pub file_tree : FilePhrase → TheoryText
file_tree f = record { version = version_of f.version; name = f.name.text; imports = imports_of f.imports; commands = commands_of f.commands }

-- The type variables of a typedecl are distinct, and in a file of version 1 no lemma has a have.
abbrev pub IsCommandPhrase : ℕ → CommandPhrase → Type 0
IsCommandPhrase version (TypedeclCommand params x) = AreDistinct (params_of params)
IsCommandPhrase version (LemmaCommand word a haves p) = version ≡ 1 → haves ≡ []
IsCommandPhrase version _ = Unit {0}
