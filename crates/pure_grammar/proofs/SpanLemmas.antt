-- The ranges in the tree of a theory are those of its tokens.
use Rattle.std.proofs.Common.{◌≡◌, ◌⊎◌, ℕ, ◌+◌, ◌-◌, ◌≤◌, List, [], ◌∷◌, ◌++◌, map, length, inl, inr, refl, sym, ◌∙◌, ap, subst, arith, append_assoc}
use Rattle.std.proofs.lemmas.List.{append-nil}
use Rattle.std.specs.Prelude.{slice_range, codes, Option, Some, None}
use Rattle.pure_text.specs.Lists.{IsIn, Each, AnyOf}
use Rattle.pure_text.proofs.ListLaws.{any_of}
use Rattle.pure_grammar.specs.declared.token.Token.{Token}
use Rattle.pure_grammar.specs.declared.token.TokenKind.{TokenKind}
use Rattle.pure_grammar.specs.declared.token.TokenKind.TheVariants as kind
use Rattle.pure_grammar.specs.declared.lexeme.Keyword.TheVariants as keyword
use Rattle.pure_grammar.specs.declared.lexeme.Sign.TheVariants as sign
use Rattle.pure_grammar.specs.Tokens.Spelling.{IsSlice, AreSlices}
use Rattle.pure_grammar.specs.Theories.TheoryText.{Span, Have, Command, TheoryText}
use Rattle.pure_grammar.specs.Theories.Lexeme.{Lexeme, Reserved, Signed, Plain, Dotted, Variable, Numeral, Quoted, Other, Ends, proof_lexeme, command_lexeme, word_lexeme, symbol_lexeme, lexeme_of, lexeme, lexemes, quote_in, type_in}
use Rattle.pure_grammar.specs.Theories.Phrase.{Ident, Name, Simple, Full, TypeVariable, TypePhrase, QuotedType, NamedType, VariableType, SortPhrase, OneClass, NoClass, Classes, BasicPhrase, ByAssumption, ByRule, ByErule, ByDrule, ByUnfold, MethodPhrase, Alone, Together, StepPhrase, ApplyStep, PreferStep, DeferStep, EndPhrase, DoneEnd, ByEnd, ProofPhrase, AbovePhrase, NoneAbove, Above, ParamsPhrase, NoParam, OneParam, Params, DomainsPhrase, NoDomain, Domains, ItemPhrase, AxiomPhrase, LemmaWord, LemmaWritten, TheoremWritten, HavePhrase, CommandPhrase, ClassCommand, TypedeclCommand, AritiesCommand, ConstsCommand, AxiomsCommand, DefinitionCommand, LemmaCommand, ImportsPhrase, NoImport, Imports, NoVersion, WrittenVersion, FilePhrase}
use Rattle.pure_grammar.specs.Theories.PhraseText.{each, each_comma, ident_text, name_text, variable_text, type_text, sort_text, basic_text, method_text, step_text, end_text, proof_text, above_text, params_text, domains_text, item_text, axiom_text, and_axiom_text, lemma_word_text, have_text, command_text, imports_text, version_text, file_text}
use Rattle.pure_grammar.specs.Theories.PhraseTree.{all_of, type_span, item_command, axiom_command, have_of, phrase_commands, commands_of}
use Rattle.pure_grammar.specs.Theories.Outer.{SpellsTheory}
use Rattle.pure_grammar.specs.Theories.Spans.{Cited, OfType, OfProp, cited_span, command_spans, theory_spans, IsInside, IsWhole, Cites, CiteEach, LieBetween, SpansInOrder, IsCited, EachSpanIsCited}
use Rattle.pure_grammar.proofs.Beside.{beside, beside-has}
use Rattle.pure_grammar.proofs.Slices.{quote_has_marks}

-- ---- what is cited by a list of lexemes

abbrev Holds : Lexeme → Cited → Type 0
Holds l (OfType at) = type_in l ≡ Some at
Holds l (OfProp at) = quote_in l ≡ Some at

-- each range stands in a lexeme of its own, in their order
abbrev HoldEach : List Lexeme → List Cited → Type 0
HoldEach [] [] = Unit {0}
HoldEach [] (c ∷ cs) = ⊥
HoldEach (l ∷ ls) [] = Unit {0}
HoldEach (l ∷ ls) (c ∷ cs) = (Holds l c × HoldEach ls cs) ⊎ HoldEach ls (c ∷ cs)

record Held (ls : List Lexeme) (cs : List Cited) : Type 0 where
  pub each : HoldEach ls cs

past-each : (l : Lexeme) (ls : List Lexeme) (cs : List Cited) → HoldEach ls cs → HoldEach (l ∷ ls) cs
past-each l ls [] h = tt
past-each l ls (c ∷ cs) h = inr h

past : {l : Lexeme} {ls : List Lexeme} {cs : List Cited} → Held ls cs → Held (l ∷ ls) cs
past {l} {ls} {cs} h = record { each = past-each l ls cs h.each }

here : {l : Lexeme} {ls : List Lexeme} {c : Cited} {cs : List Cited} → Holds l c → Held ls cs → Held (l ∷ ls) (c ∷ cs)
here is h = record { each = inl (is, h.each) }

-- What the text of a phrase without ranges stands in front of holds as much behind it.
abbrev Passes : {A : Type 0} → (A → List Lexeme → List Lexeme) → Type 0
Passes {A} text = (x : A) (r : List Lexeme) (cs : List Cited) → Held r cs → Held (text x r) cs

each-pass : {A : Type 0} (text : A → List Lexeme → List Lexeme) → Passes text → (xs : List A) (r : List Lexeme) (cs : List Cited) → Held r cs → Held (each text xs r) cs
each-pass text passes [] r cs h = h
each-pass text passes (x ∷ xs) r cs h = passes x (each text xs r) cs (each-pass text passes xs r cs h)

comma-pass : {A : Type 0} (text : A → List Lexeme → List Lexeme) → Passes text → (xs : List A) (r : List Lexeme) (cs : List Cited) → Held r cs → Held (each_comma text xs r) cs
comma-pass text passes [] r cs h = h
comma-pass text passes (x ∷ xs) r cs h = past (passes x (each_comma text xs r) cs (comma-pass text passes xs r cs h))

ident-pass : Passes ident_text
ident-pass x r cs h = past h

name-pass : Passes name_text
name-pass (Simple text at) r cs h = past h
name-pass (Full text at) r cs h = past h

variable-pass : Passes variable_text
variable-pass x r cs h = past h

sort-pass : Passes sort_text
sort-pass (OneClass c) r cs h = name-pass c r cs h
sort-pass NoClass r cs h = past (past h)
sort-pass (Classes c more) r cs h = past (name-pass c _ cs (comma-pass name_text name-pass more _ cs (past h)))

basic-pass : Passes basic_text
basic-pass (ByAssumption at) r cs h = past h
basic-pass (ByRule at fact) r cs h = past (name-pass fact r cs h)
basic-pass (ByErule at fact) r cs h = past (name-pass fact r cs h)
basic-pass (ByDrule at fact) r cs h = past (name-pass fact r cs h)
basic-pass (ByUnfold at fact more) r cs h = past (name-pass fact _ cs (each-pass name_text name-pass more r cs h))

method-pass : Passes method_text
method-pass (Alone at) r cs h = past h
method-pass (Together b more) r cs h = past (basic-pass b _ cs (comma-pass basic_text basic-pass more _ cs (past h)))

step-pass : Passes step_text
step-pass (ApplyStep m) r cs h = past (method-pass m r cs h)
step-pass (PreferStep n) r cs h = past (past h)
step-pass DeferStep r cs h = past h

end-pass : Passes end_text
end-pass DoneEnd r cs h = past h
end-pass (ByEnd m) r cs h = past (method-pass m r cs h)

proof-pass : Passes proof_text
proof-pass p r cs h = each-pass step_text step-pass p.steps _ cs (end-pass p.ending r cs h)

above-pass : Passes above_text
above-pass NoneAbove r cs h = h
above-pass (Above c more) r cs h = past (name-pass c _ cs (each-pass name_text name-pass more r cs h))

params-pass : Passes params_text
params-pass NoParam r cs h = h
params-pass (OneParam x) r cs h = variable-pass x r cs h
params-pass (Params x more) r cs h = past (variable-pass x _ cs (comma-pass variable_text variable-pass more _ cs (past h)))

domains-pass : Passes domains_text
domains-pass NoDomain r cs h = h
domains-pass (Domains s more) r cs h = past (sort-pass s _ cs (comma-pass sort_text sort-pass more _ cs (past h)))

imports-pass : Passes imports_text
imports-pass NoImport r cs h = h
imports-pass (Imports x more) r cs h = past (ident-pass x _ cs (each-pass ident_text ident-pass more r cs h))

version-pass : Passes version_text
version-pass NoVersion r cs h = h
version-pass (WrittenVersion n) r cs h = past (past h)

-- ---- the phrases with ranges

type-holds : (t : TypePhrase) (r : List Lexeme) (cs : List Cited) → Held r cs → Held (type_text t r) (OfType (type_span t) ∷ cs)
type-holds (QuotedType at) r cs h = here refl h
type-holds (NamedType (Simple text at)) r cs h = here refl h
type-holds (NamedType (Full text at)) r cs h = here refl h
type-holds (VariableType x) r cs h = here refl h

item-holds : (i : ItemPhrase) (r : List Lexeme) (cs : List Cited) → Held r cs → Held (item_text i r) (OfType (type_span i.typ) ∷ cs)
item-holds i r cs h = past (past (type-holds i.typ r cs h))

items-hold : (is : List ItemPhrase) (r : List Lexeme) (cs : List Cited) → Held r cs → Held (each item_text is r) (all_of command_spans (map item_command is) ++ cs)
items-hold [] r cs h = h
items-hold (i ∷ is) r cs h = item-holds i (each item_text is r) (all_of command_spans (map item_command is) ++ cs) (items-hold is r cs h)

axiom-holds : (a : AxiomPhrase) (r : List Lexeme) (cs : List Cited) → Held r cs → Held (axiom_text a r) (OfProp a.prop ∷ cs)
axiom-holds a r cs h = past (past (here refl h))

axioms-hold : (more : List AxiomPhrase) (r : List Lexeme) (cs : List Cited) → Held r cs → Held (each and_axiom_text more r) (all_of command_spans (map axiom_command more) ++ cs)
axioms-hold [] r cs h = h
axioms-hold (a ∷ more) r cs h = past (axiom-holds a (each and_axiom_text more r) (all_of command_spans (map axiom_command more) ++ cs) (axioms-hold more r cs h))

lemma-holds : (word : LemmaWord) (a : AxiomPhrase) (r : List Lexeme) (cs : List Cited) → Held r cs → Held (lemma_word_text word (axiom_text a r)) (OfProp a.prop ∷ cs)
lemma-holds LemmaWritten a r cs h = past (axiom-holds a r cs h)
lemma-holds TheoremWritten a r cs h = past (axiom-holds a r cs h)

haves-hold : (haves : List HavePhrase) (r : List Lexeme) (cs : List Cited) → Held r cs → Held (each have_text haves r) (map (λ (h : Have). OfProp h.prop) (map have_of haves) ++ cs)
haves-hold [] r cs h = h
haves-hold (y ∷ more) r cs h =
    let behind : List Cited = map (λ (h : Have). OfProp h.prop) (map have_of more) ++ cs in
    past (axiom-holds y.statement (proof_text y.proof (each have_text more r)) behind (proof-pass y.proof (each have_text more r) behind (haves-hold more r cs h)))

-- a list of one list, and what is behind it
one-list : {A : Type 0} (xs ys : List A) → (xs ++ []) ++ ys ≡ xs ++ ys
one-list xs ys = ap (λ z. z ++ ys) (append-nil xs)

command-holds : (p : CommandPhrase) (r : List Lexeme) (cs : List Cited) → Held r cs → Held (command_text p r) (all_of command_spans (phrase_commands p) ++ cs)
command-holds (ClassCommand x above) r cs h = past (ident-pass x _ cs (above-pass above r cs h))
command-holds (TypedeclCommand params x) r cs h = past (params-pass params _ cs (ident-pass x r cs h))
command-holds (AritiesCommand con doms class) r cs h = past (name-pass con _ cs (past (domains-pass doms _ cs (name-pass class r cs h))))
command-holds (ConstsCommand i is) r cs h = past (item-holds i (each item_text is r) (all_of command_spans (map item_command is) ++ cs) (items-hold is r cs h))
command-holds (AxiomsCommand a more) r cs h = past (past (axiom-holds a (each and_axiom_text more r) (all_of command_spans (map axiom_command more) ++ cs) (axioms-hold more r cs h)))
command-holds (DefinitionCommand i prop) r cs h = past (item-holds i (Reserved keyword.Where ∷ Quoted prop ∷ r) (OfProp prop ∷ cs) (past (here refl h)))
command-holds (LemmaCommand word a haves p) r cs h =
    let behind : List Cited = map (λ (h : Have). OfProp h.prop) (map have_of haves) ++ cs in
    subst (Held (lemma_word_text word (axiom_text a (each have_text haves (proof_text p r)))))
    (ap (λ z. OfProp a.prop ∷ z) (sym (one-list (map (λ (h : Have). OfProp h.prop) (map have_of haves)) cs)))
    (lemma-holds word a (each have_text haves (proof_text p r)) behind (haves-hold haves (proof_text p r) cs (proof-pass p r cs h)))

all_of-append : {A B : Type 0} (given : A → List B) (xs ys : List A) → all_of given (xs ++ ys) ≡ all_of given xs ++ all_of given ys
all_of-append given [] ys = refl
all_of-append given (x ∷ xs) ys = ap (λ z. given x ++ z) (all_of-append given xs ys) ∙ sym (append_assoc (given x) (all_of given xs) (all_of given ys))

nothing : (r : List Lexeme) → HoldEach r []
nothing [] = tt
nothing (l ∷ r) = tt

commands-hold : (ps : List CommandPhrase) (r : List Lexeme) → Held (each command_text ps r) (all_of command_spans (commands_of ps))
commands-hold [] r = record { each = nothing r }
commands-hold (p ∷ ps) r =
    subst (Held (command_text p (each command_text ps r))) (sym (all_of-append command_spans (phrase_commands p) (commands_of ps)))
    (command-holds p (each command_text ps r) (all_of command_spans (commands_of ps)) (commands-hold ps r))

file-holds : (f : FilePhrase) → Held (file_text f) (all_of command_spans (commands_of f.commands))
file-holds f =
    let cs : List Cited = all_of command_spans (commands_of f.commands) in
    version-pass f.version _ cs (past (ident-pass f.name _ cs (imports-pass f.imports _ cs (past (commands-hold f.commands (Reserved keyword.End ∷ Ends ∷ []))))))

-- ---- tokens

abbrev HoldsNone : Lexeme → Type 0
HoldsNone l = (type_in l ≡ None) × (quote_in l ≡ None)

abbrev proof_words : List (List ℕ × Lexeme)
proof_words =
    (codes "apply", Reserved keyword.Apply) ∷ (codes "done", Reserved keyword.Done) ∷ (codes "by", Reserved keyword.By)
    ∷ (codes "prefer", Reserved keyword.Prefer) ∷ (codes "defer", Reserved keyword.Defer) ∷ (codes "have", Reserved keyword.Have) ∷ []

abbrev command_words : List (List ℕ × Lexeme)
command_words =
    (codes "class", Reserved keyword.Class) ∷ (codes "typedecl", Reserved keyword.Typedecl) ∷ (codes "arities", Reserved keyword.Arities)
    ∷ (codes "consts", Reserved keyword.Consts) ∷ (codes "axiomatization", Reserved keyword.Axiomatization) ∷ (codes "where", Reserved keyword.Where)
    ∷ (codes "and", Reserved keyword.And) ∷ (codes "definition", Reserved keyword.Definition) ∷ (codes "lemma", Reserved keyword.Lemma)
    ∷ (codes "theorem", Reserved keyword.Theorem) ∷ []

abbrev theory_words : List (List ℕ × Lexeme)
theory_words =
    (codes "theory", Reserved keyword.Theory) ∷ (codes "imports", Reserved keyword.Imports) ∷ (codes "begin", Reserved keyword.Begin)
    ∷ (codes "end", Reserved keyword.End) ∷ (codes "version", Reserved keyword.Version) ∷ []

abbrev signs : List (List ℕ × Lexeme)
signs =
    (codes "<", Signed sign.Less) ∷ (codes ",", Signed sign.Comma) ∷ (codes ":", Signed sign.Colon) ∷ (codes "::", Signed sign.DoubleColon)
    ∷ (codes "(", Signed sign.OpenParenthesis) ∷ (codes ")", Signed sign.CloseParenthesis) ∷ (codes "{", Signed sign.OpenBrace)
    ∷ (codes "}", Signed sign.CloseBrace) ∷ []

abbrev holds_none : HoldsNone Ends
holds_none = (refl, refl)

proof-is : (bytes : List ℕ) → beside bytes proof_words (Other kind.Word) ≡ proof_lexeme bytes
unfolding proof_lexeme
proof-is bytes = refl

command-is : (bytes : List ℕ) → beside bytes command_words (proof_lexeme bytes) ≡ command_lexeme bytes
unfolding command_lexeme
command-is bytes = refl

word-is : (bytes : List ℕ) → beside bytes theory_words (command_lexeme bytes) ≡ word_lexeme bytes
unfolding word_lexeme
word-is bytes = refl

symbol-is : (bytes : List ℕ) → beside bytes signs (Other kind.Symbol) ≡ symbol_lexeme bytes
unfolding symbol_lexeme
symbol-is bytes = refl

word-none : (bytes : List ℕ) → HoldsNone (word_lexeme bytes)
word-none bytes =
    let in_proof : HoldsNone (beside bytes proof_words (Other kind.Word)) =
    beside-has HoldsNone bytes proof_words (Other kind.Word) (holds_none, (holds_none, (holds_none, (holds_none, (holds_none, (holds_none, tt)))))) holds_none in
    let in_command : HoldsNone (beside bytes command_words (proof_lexeme bytes)) =
    beside-has HoldsNone bytes command_words (proof_lexeme bytes) (holds_none, (holds_none, (holds_none, (holds_none, (holds_none, (holds_none, (holds_none, (holds_none, (holds_none, (holds_none, tt)))))))))) (subst HoldsNone (proof-is bytes) in_proof) in
    let in_theory : HoldsNone (beside bytes theory_words (command_lexeme bytes)) =
    beside-has HoldsNone bytes theory_words (command_lexeme bytes) (holds_none, (holds_none, (holds_none, (holds_none, (holds_none, tt))))) (subst HoldsNone (command-is bytes) in_command) in
    subst HoldsNone (word-is bytes) in_theory

symbol-none : (bytes : List ℕ) → HoldsNone (symbol_lexeme bytes)
symbol-none bytes =
    let found : HoldsNone (beside bytes signs (Other kind.Symbol)) =
    beside-has HoldsNone bytes signs (Other kind.Symbol) (holds_none, (holds_none, (holds_none, (holds_none, (holds_none, (holds_none, (holds_none, (holds_none, tt)))))))) holds_none in
    subst HoldsNone (symbol-is bytes) found

not-both : {A : Type 0} (x : Option A) (a : A) → x ≡ None → x ≡ Some a → ⊥
not-both x a n s = cc

none-some : {A B : Type 0} (x : Option A) (a : A) → x ≡ None → x ≡ Some a → B
none-some x a n s = absurd (not-both x a n s)

some-same : {A : Type 0} (a b : A) → Some a ≡ Some b → a ≡ b
some-same a b e = cc

-- the range between the marks of a quoted text
abbrev between : Token → Span
between t = record { from = t.from + 1; to = t.to - 1 }

abbrev range : Token → Span
range t = record { from = t.from; to = t.to }

inside : (t : Token) (at : Span) → t.from + 2 ≤ t.to → t.kind ≡ kind.Quote → between t ≡ at → IsInside t at
inside t at marks quote e =
    let from : t.from + 1 ≡ at.from = ap (λ (s : Span). s.from) e in
    let to : t.to - 1 ≡ at.to = ap (λ (s : Span). s.to) e in
    record { quote = quote; from = sym from; to = omega arith }

whole : (t : Token) (at : Span) → (t.kind ≡ kind.Ident) ⊎ (t.kind ≡ kind.Qualified) ⊎ (t.kind ≡ kind.TypeVar) → range t ≡ at → IsWhole t at
whole t at name e = record { kind = name; from = sym (ap (λ (s : Span). s.from) e); to = sym (ap (λ (s : Span). s.to) e) }

type-cites : (t : Token) (bytes : List ℕ) (k : TokenKind) (at : Span) → (t.kind ≡ kind.Quote → t.from + 2 ≤ t.to) → t.kind ≡ k → type_in (lexeme_of k bytes (range t)) ≡ Some at → Cites t (OfType at)
type-cites t bytes kind.Word at marks e h = none-some (type_in (word_lexeme bytes)) at (word-none bytes).0 h
type-cites t bytes kind.Ident at marks e h = inr (whole t at (inl e) (some-same (range t) at h))
type-cites t bytes kind.Qualified at marks e h = inr (whole t at (inr (inl e)) (some-same (range t) at h))
type-cites t bytes kind.TypeVar at marks e h = inr (whole t at (inr (inr e)) (some-same (range t) at h))
type-cites t bytes kind.Schem at marks e h = none-some None at refl h
type-cites t bytes kind.BoundName at marks e h = none-some None at refl h
type-cites t bytes kind.Number at marks e h = none-some None at refl h
type-cites t bytes kind.Quote at marks e h = inl (inside t at (marks e) e (some-same (between t) at h))
type-cites t bytes kind.Symbol at marks e h = none-some (type_in (symbol_lexeme bytes)) at (symbol-none bytes).0 h
type-cites t bytes kind.End at marks e h = none-some None at refl h

prop-cites : (t : Token) (bytes : List ℕ) (k : TokenKind) (at : Span) → (t.kind ≡ kind.Quote → t.from + 2 ≤ t.to) → t.kind ≡ k → quote_in (lexeme_of k bytes (range t)) ≡ Some at → Cites t (OfProp at)
prop-cites t bytes kind.Word at marks e h = none-some (quote_in (word_lexeme bytes)) at (word-none bytes).1 h
prop-cites t bytes kind.Ident at marks e h = none-some None at refl h
prop-cites t bytes kind.Qualified at marks e h = none-some None at refl h
prop-cites t bytes kind.TypeVar at marks e h = none-some None at refl h
prop-cites t bytes kind.Schem at marks e h = none-some None at refl h
prop-cites t bytes kind.BoundName at marks e h = none-some None at refl h
prop-cites t bytes kind.Number at marks e h = none-some None at refl h
prop-cites t bytes kind.Quote at marks e h = inside t at (marks e) e (some-same (between t) at h)
prop-cites t bytes kind.Symbol at marks e h = none-some (quote_in (symbol_lexeme bytes)) at (symbol-none bytes).1 h
prop-cites t bytes kind.End at marks e h = none-some None at refl h

token-cites : (source : List ℕ) (t : Token) (c : Cited) → IsSlice source t → Holds (lexeme source t) c → Cites t c
token-cites source t (OfType at) slice h = type-cites t (slice_range source t.from t.to) t.kind at (quote_has_marks source t slice) refl h
token-cites source t (OfProp at) slice h = prop-cites t (slice_range source t.from t.to) t.kind at (quote_has_marks source t slice) refl h

tokens-cite : (source : List ℕ) (from to : ℕ) (ts : List Token) (cs : List Cited) → AreSlices source from to ts → HoldEach (lexemes source ts) cs → CiteEach ts cs
tokens-cite source from to [] [] slices h = tt
tokens-cite source from to [] (OfType at ∷ cs) slices h = elim h [ inl held ↦ none-some None at refl held.0 | inr none ↦ none ]
tokens-cite source from to [] (OfProp at ∷ cs) slices h = elim h [ inl held ↦ none-some None at refl held.0 | inr none ↦ none ]
tokens-cite source from to (t ∷ ts) [] slices h = tt
tokens-cite source from to (t ∷ ts) (c ∷ cs) slices h = elim h [
  | inl held ↦ inl (token-cites source t c slices.1 held.0, tokens-cite source t.to to ts cs slices.2 held.1)
  | inr later ↦ inr (tokens-cite source t.to to ts (c ∷ cs) slices.2 later)
]

theory-cites : (source : List ℕ) (tokens : List Token) (theory : TheoryText) → AreSlices source 0 (length source) tokens → SpellsTheory source tokens theory → CiteEach tokens (theory_spans theory)
theory-cites source tokens theory slices spells =
    let held : HoldEach (lexemes source tokens) (all_of command_spans (commands_of spells.file.commands)) =
    subst (λ ls. HoldEach ls (all_of command_spans (commands_of spells.file.commands))) spells.spelled (file-holds spells.file).each in
    tokens-cite source 0 (length source) tokens (theory_spans theory) slices (subst (λ (t : TheoryText). HoldEach (lexemes source tokens) (theory_spans t)) spells.means held)

-- ---- order

-- the range lies in its token's
record LiesIn (t : Token) (at : Span) : Type 0 where
  pub from : t.from ≤ at.from
  pub order : at.from ≤ at.to
  pub to : at.to ≤ t.to

inside-lies : (source : List ℕ) (t : Token) (at : Span) → IsSlice source t → IsInside t at → LiesIn t at
inside-lies source t at slice is =
    let marks = quote_has_marks source t slice is.quote in
    let from = is.from in
    let to = is.to in
    record { from = omega arith; order = omega arith; to = omega arith }

whole-lies : (source : List ℕ) (t : Token) (at : Span) → IsSlice source t → IsWhole t at → LiesIn t at
whole-lies source t at slice is =
    let some = slice.some in
    let from = is.from in
    let to = is.to in
    record { from = omega arith; order = omega arith; to = omega arith }

cited-lies : (source : List ℕ) (t : Token) (c : Cited) → IsSlice source t → Cites t c → LiesIn t (cited_span c)
cited-lies source t (OfType at) slice cites = elim cites [ inl is ↦ inside-lies source t at slice is | inr is ↦ whole-lies source t at slice is ]
cited-lies source t (OfProp at) slice cites = inside-lies source t at slice cites

slices-order : (source : List ℕ) (from to : ℕ) (ts : List Token) → AreSlices source from to ts → from ≤ to
slices-order source from to [] slices = slices
slices-order source from to (t ∷ ts) slices =
    let some = slices.1.some in
    let begin = slices.0 in
    let more = slices-order source t.to to ts slices.2 in
    omega arith

lie-lower : (from behind to : ℕ) (spans : List Span) → from ≤ behind → LieBetween behind to spans → LieBetween from to spans
lie-lower from behind to [] below h = omega (arith, below, h)
lie-lower from behind to (at ∷ more) below h = let begin = h.0 in (omega (arith, below, begin), h.1, h.2)

lie : (source : List ℕ) (from to : ℕ) (ts : List Token) (cs : List Cited) → AreSlices source from to ts → CiteEach ts cs → LieBetween from to (map cited_span cs)
lie source from to [] [] slices h = slices
lie source from to [] (c ∷ cs) slices h = absurd h
lie source from to (t ∷ ts) [] slices h = slices-order source from to (t ∷ ts) slices
lie source from to (t ∷ ts) (c ∷ cs) slices h =
    let begin = slices.0 in
    elim h [
      | inl cites ↦ (let l = cited-lies source t c slices.1 cites.0 in
          let first = l.from in
          (omega (arith, begin, first), l.order, lie-lower (cited_span c).to t.to to (map cited_span cs) l.to (lie source t.to to ts cs slices.2 cites.1)))
      | inr later ↦ (let some = slices.1.some in lie-lower from t.to to (map cited_span (c ∷ cs)) (omega (arith, begin, some)) (lie source t.to to ts (c ∷ cs) slices.2 later))
    ]

pub spans_in_order : SpansInOrder
spans_in_order source tokens theory slices spells =
    let cites = theory-cites source tokens theory slices spells in
    (cites, lie source 0 (length source) tokens (theory_spans theory) slices cites)

-- ---- each range

cited-in : (source : List ℕ) (all : List Token) (t : Token) (c : Cited) → IsIn t all → IsSlice source t → Cites t c → IsCited source all c
cited-in source all t c among slice cites =
    let l = cited-lies source t c slice cites in
    let to = l.to in
    let within = slice.within in
    record { order = l.order; within = omega arith; token = any_of (λ (u : Token). Cites u c) t all among cites }

each-cited : (source : List ℕ) (all : List Token) (from to : ℕ) (ts : List Token) (cs : List Cited) → ((t : Token) → IsIn t ts → IsIn t all) → AreSlices source from to ts → CiteEach ts cs → Each (IsCited source all) cs
each-cited source all from to [] [] among slices h = tt
each-cited source all from to [] (c ∷ cs) among slices h = absurd h
each-cited source all from to (t ∷ ts) [] among slices h = tt
each-cited source all from to (t ∷ ts) (c ∷ cs) among slices h = elim h [
  | inl cites ↦ (cited-in source all t c (among t (inl refl)) slices.1 cites.0, each-cited source all t.to to ts cs (λ u m. among u (inr m)) slices.2 cites.1)
  | inr later ↦ each-cited source all t.to to ts (c ∷ cs) (λ u m. among u (inr m)) slices.2 later
]

each-split : {A : Type 0} (P : A → Type 0) (xs ys : List A) → Each P (xs ++ ys) → Each P xs × Each P ys
each-split P [] ys h = (tt, h)
each-split P (x ∷ xs) ys h = let s = each-split P xs ys h.1 in ((h.0, s.0), s.1)

each-all_of : {A B : Type 0} (P : B → Type 0) (given : A → List B) (xs : List A) → Each P (all_of given xs) → Each (λ x. Each P (given x)) xs
each-all_of P given [] h = tt
each-all_of P given (x ∷ xs) h = let s = each-split P (given x) (all_of given xs) h in (s.0, each-all_of P given xs s.1)

pub each_span_is_cited : EachSpanIsCited
each_span_is_cited source tokens theory slices spells =
    each-all_of (IsCited source tokens) command_spans theory.commands
    (each-cited source tokens 0 (length source) tokens (theory_spans theory) (λ t m. m) slices (theory-cites source tokens theory slices spells))
