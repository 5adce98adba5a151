-- The text of each phrase of the grammar, with `r` behind it.
use Rattle.std.specs.Prelude.{ℕ, List, [], ◌∷◌, codes}
use Rattle.pure_grammar.specs.declared.lexeme.Keyword.TheVariants as keyword
use Rattle.pure_grammar.specs.declared.lexeme.Sign.TheVariants as sign
use Rattle.pure_grammar.specs.Theories.Lexeme.{Lexeme, Reserved, Signed, Plain, Dotted, Variable, Numeral, Quoted, Ends}
use Rattle.pure_grammar.specs.Theories.Phrase.{Ident, Name, Simple, Full, TypeVariable, TypePhrase, QuotedType, NamedType, VariableType, SortPhrase, OneClass, NoClass, Classes, BasicPhrase, ByAssumption, ByRule, ByErule, ByDrule, ByUnfold, MethodPhrase, Alone, Together, StepPhrase, ApplyStep, PreferStep, DeferStep, EndPhrase, DoneEnd, ByEnd, ProofPhrase, AbovePhrase, NoneAbove, Above, ParamsPhrase, NoParam, OneParam, Params, DomainsPhrase, NoDomain, Domains, ItemPhrase, AxiomPhrase, LemmaWord, LemmaWritten, TheoremWritten, CommandPhrase, ClassCommand, TypedeclCommand, AritiesCommand, ConstsCommand, AxiomsCommand, DefinitionCommand, LemmaCommand, HavePhrase, ImportsPhrase, NoImport, Imports, VersionPhrase, NoVersion, WrittenVersion, FilePhrase}

-- {X}
abbrev pub each : {A : Type 0} → (A → List Lexeme → List Lexeme) → List A → List Lexeme → List Lexeme
each text [] r = r
each text (x ∷ xs) r = text x (each text xs r)

-- {"," X}
abbrev pub each_comma : {A : Type 0} → (A → List Lexeme → List Lexeme) → List A → List Lexeme → List Lexeme
each_comma text = each (λ x r. Signed sign.Comma ∷ text x r)

abbrev pub ident_text : Ident → List Lexeme → List Lexeme
ident_text x r = Plain x.text x.at ∷ r

abbrev pub name_text : Name → List Lexeme → List Lexeme
name_text (Simple text at) r = Plain text at ∷ r
name_text (Full text at) r = Dotted text at ∷ r

abbrev pub variable_text : TypeVariable → List Lexeme → List Lexeme
variable_text x r = Variable x.text x.at ∷ r

abbrev pub type_text : TypePhrase → List Lexeme → List Lexeme
type_text (QuotedType at) r = Quoted at ∷ r
type_text (NamedType name) r = name_text name r
type_text (VariableType x) r = variable_text x r

abbrev pub sort_text : SortPhrase → List Lexeme → List Lexeme
sort_text (OneClass c) r = name_text c r
sort_text NoClass r = Signed sign.OpenBrace ∷ Signed sign.CloseBrace ∷ r
sort_text (Classes c cs) r = Signed sign.OpenBrace ∷ name_text c (each_comma name_text cs (Signed sign.CloseBrace ∷ r))

-- The words of methods are identifiers.
abbrev pub assumption_word : List ℕ
assumption_word = codes "assumption"

abbrev pub rule_word : List ℕ
rule_word = codes "rule"

abbrev pub erule_word : List ℕ
erule_word = codes "erule"

abbrev pub drule_word : List ℕ
drule_word = codes "drule"

abbrev pub unfold_word : List ℕ
unfold_word = codes "unfold"

abbrev pub basic_text : BasicPhrase → List Lexeme → List Lexeme
basic_text (ByAssumption at) r = Plain assumption_word at ∷ r
basic_text (ByRule at fact) r = Plain rule_word at ∷ name_text fact r
basic_text (ByErule at fact) r = Plain erule_word at ∷ name_text fact r
basic_text (ByDrule at fact) r = Plain drule_word at ∷ name_text fact r
basic_text (ByUnfold at fact facts) r = Plain unfold_word at ∷ name_text fact (each name_text facts r)

abbrev pub method_text : MethodPhrase → List Lexeme → List Lexeme
method_text (Alone at) r = Plain assumption_word at ∷ r
method_text (Together b bs) r = Signed sign.OpenParenthesis ∷ basic_text b (each_comma basic_text bs (Signed sign.CloseParenthesis ∷ r))

abbrev pub step_text : StepPhrase → List Lexeme → List Lexeme
step_text (ApplyStep m) r = Reserved keyword.Apply ∷ method_text m r
step_text (PreferStep n) r = Reserved keyword.Prefer ∷ Numeral n ∷ r
step_text DeferStep r = Reserved keyword.Defer ∷ r

abbrev pub end_text : EndPhrase → List Lexeme → List Lexeme
end_text DoneEnd r = Reserved keyword.Done ∷ r
end_text (ByEnd m) r = Reserved keyword.By ∷ method_text m r

abbrev pub proof_text : ProofPhrase → List Lexeme → List Lexeme
proof_text p r = each step_text p.steps (end_text p.ending r)

abbrev pub above_text : AbovePhrase → List Lexeme → List Lexeme
above_text NoneAbove r = r
above_text (Above c cs) r = Signed sign.Less ∷ name_text c (each name_text cs r)

abbrev pub params_text : ParamsPhrase → List Lexeme → List Lexeme
params_text NoParam r = r
params_text (OneParam x) r = variable_text x r
params_text (Params x xs) r = Signed sign.OpenParenthesis ∷ variable_text x (each_comma variable_text xs (Signed sign.CloseParenthesis ∷ r))

abbrev pub domains_text : DomainsPhrase → List Lexeme → List Lexeme
domains_text NoDomain r = r
domains_text (Domains s ss) r = Signed sign.OpenParenthesis ∷ sort_text s (each_comma sort_text ss (Signed sign.CloseParenthesis ∷ r))

abbrev pub item_text : ItemPhrase → List Lexeme → List Lexeme
item_text i r = ident_text i.name (Signed sign.DoubleColon ∷ type_text i.typ r)

abbrev pub axiom_text : AxiomPhrase → List Lexeme → List Lexeme
axiom_text a r = ident_text a.name (Signed sign.Colon ∷ Quoted a.prop ∷ r)

-- {"and" Ident ":" Quote}
abbrev pub and_axiom_text : AxiomPhrase → List Lexeme → List Lexeme
and_axiom_text a r = Reserved keyword.And ∷ axiom_text a r

abbrev pub lemma_word_text : LemmaWord → List Lexeme → List Lexeme
lemma_word_text LemmaWritten r = Reserved keyword.Lemma ∷ r
lemma_word_text TheoremWritten r = Reserved keyword.Theorem ∷ r

abbrev pub have_text : HavePhrase → List Lexeme → List Lexeme
have_text h r = Reserved keyword.Have ∷ axiom_text h.statement (proof_text h.proof r)

abbrev pub command_text : CommandPhrase → List Lexeme → List Lexeme
command_text (ClassCommand x above) r = Reserved keyword.Class ∷ ident_text x (above_text above r)
command_text (TypedeclCommand params x) r = Reserved keyword.Typedecl ∷ params_text params (ident_text x r)
command_text (AritiesCommand con doms class) r = Reserved keyword.Arities ∷ name_text con (Signed sign.DoubleColon ∷ domains_text doms (name_text class r))
command_text (ConstsCommand i is) r = Reserved keyword.Consts ∷ item_text i (each item_text is r)
command_text (AxiomsCommand a as_more) r = Reserved keyword.Axiomatization ∷ Reserved keyword.Where ∷ axiom_text a (each and_axiom_text as_more r)
command_text (DefinitionCommand i prop) r = Reserved keyword.Definition ∷ item_text i (Reserved keyword.Where ∷ Quoted prop ∷ r)
command_text (LemmaCommand word a haves p) r = lemma_word_text word (axiom_text a (each have_text haves (proof_text p r)))

abbrev pub imports_text : ImportsPhrase → List Lexeme → List Lexeme
imports_text NoImport r = r
imports_text (Imports x xs) r = Reserved keyword.Imports ∷ ident_text x (each ident_text xs r)

abbrev pub version_text : VersionPhrase → List Lexeme → List Lexeme
version_text NoVersion r = r
version_text (WrittenVersion n) r = Reserved keyword.Version ∷ Numeral n ∷ r

abbrev pub file_text : FilePhrase → List Lexeme
file_text f =
    version_text f.version (Reserved keyword.Theory ∷ ident_text f.name (imports_text f.imports (Reserved keyword.Begin
    ∷ each command_text f.commands (Reserved keyword.End ∷ Ends ∷ []))))
