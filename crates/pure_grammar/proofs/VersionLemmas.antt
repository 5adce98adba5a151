-- Files without the word `version` are read as those of version 1 are.
use Rattle.std.proofs.Common.{◌≡◌, ℕ, List, [], ◌∷◌, ◌++◌, map, refl, sym, ◌∙◌, ap, subst, true≢false}
use Rattle.std.specs.Prelude.{false, codes}
use Rattle.std.specs.List.{AllByRecursion}
use Rattle.pure_grammar.specs.declared.token.Token.{Token}
use Rattle.pure_grammar.specs.declared.token.TokenKind.{TokenKind}
use Rattle.pure_grammar.specs.declared.token.TokenKind.TheVariants as kind
use Rattle.pure_grammar.specs.declared.lexeme.Keyword.TheVariants as keyword
use Rattle.pure_grammar.specs.Theories.TheoryText.{Span, TheoryText}
use Rattle.pure_grammar.specs.Theories.TheoryText as tree
use Rattle.pure_grammar.specs.Theories.Lexeme.{Lexeme, Reserved, Plain, Ends, kind_of, lexemes, is_word}
use Rattle.pure_grammar.specs.Theories.Phrase.{Ident, CommandPhrase, ClassCommand, TypedeclCommand, AritiesCommand, ConstsCommand, AxiomsCommand, DefinitionCommand, LemmaCommand, ImportsPhrase, NoImport, VersionPhrase, NoVersion, WrittenVersion}
use Rattle.pure_grammar.specs.Theories.PhraseText.{each, ident_text, proof_text, axiom_text, lemma_word_text, have_text, command_text, imports_text, version_text}
use Rattle.pure_grammar.specs.Theories.PhraseTree.{proof_steps, have_of, phrase_commands, commands_of, imports_of, version_of, IsCommandPhrase}
use Rattle.pure_grammar.specs.Theories.Outer.{IsTheory, BeginsTheory, MayFollow, HasSyntaxFault}
use Rattle.pure_grammar.specs.Theories.First as first
use Rattle.pure_grammar.specs.Theories.Versions.{HasNoVersion, ReadAsFirst, FaultsAsFirst}

-- ---- a phrase of version 1 as one of version 2
abbrev later : first.CommandPhrase → CommandPhrase
later (first.ClassCommand x above) = ClassCommand x above
later (first.TypedeclCommand params x) = TypedeclCommand params x
later (first.AritiesCommand con doms class) = AritiesCommand con doms class
later (first.ConstsCommand i is) = ConstsCommand i is
later (first.AxiomsCommand a more) = AxiomsCommand a more
later (first.DefinitionCommand i prop) = DefinitionCommand i prop
later (first.LemmaCommand word a p) = LemmaCommand word a [] p

later-text : (c : first.CommandPhrase) (r : List Lexeme) → command_text (later c) r ≡ first.command_text c r
later-text (first.ClassCommand x above) r = refl
later-text (first.TypedeclCommand params x) r = refl
later-text (first.AritiesCommand con doms class) r = refl
later-text (first.ConstsCommand i is) r = refl
later-text (first.AxiomsCommand a more) r = refl
later-text (first.DefinitionCommand i prop) r = refl
later-text (first.LemmaCommand word a p) r = refl

later-tree : (c : first.CommandPhrase) → phrase_commands (later c) ≡ first.phrase_commands c
later-tree (first.ClassCommand x above) = refl
later-tree (first.TypedeclCommand params x) = refl
later-tree (first.AritiesCommand con doms class) = refl
later-tree (first.ConstsCommand i is) = refl
later-tree (first.AxiomsCommand a more) = refl
later-tree (first.DefinitionCommand i prop) = refl
later-tree (first.LemmaCommand word a p) = refl

later-allowed : (c : first.CommandPhrase) → first.IsCommandPhrase c → IsCommandPhrase 1 (later c)
later-allowed (first.ClassCommand x above) w = tt
later-allowed (first.TypedeclCommand params x) w = w
later-allowed (first.AritiesCommand con doms class) w = tt
later-allowed (first.ConstsCommand i is) w = tt
later-allowed (first.AxiomsCommand a more) w = tt
later-allowed (first.DefinitionCommand i prop) w = tt
later-allowed (first.LemmaCommand word a p) w = λ e. refl

later-texts : (cs : List first.CommandPhrase) (r : List Lexeme) → each command_text (map later cs) r ≡ each first.command_text cs r
later-texts [] r = refl
later-texts (c ∷ cs) r = later-text c (each command_text (map later cs) r) ∙ ap (first.command_text c) (later-texts cs r)

later-trees : (cs : List first.CommandPhrase) → commands_of (map later cs) ≡ first.commands_of cs
later-trees [] = refl
later-trees (c ∷ cs) = ap (λ z. z ++ commands_of (map later cs)) (later-tree c) ∙ ap (λ z. first.phrase_commands c ++ z) (later-trees cs)

later-all : (cs : List first.CommandPhrase) → AllByRecursion first.IsCommandPhrase cs → AllByRecursion (IsCommandPhrase 1) (map later cs)
later-all [] w = tt
later-all (c ∷ cs) w = (later-allowed c w.0, later-all cs w.1)

theory-later : (ls : List Lexeme) (t : TheoryText) → first.IsTheory ls t → IsTheory ls t
theory-later ls t is =
    let f : first.FilePhrase = is.file in
    record {
      file = record { version = NoVersion; name = f.name; imports = f.imports; commands = map later f.commands };
      spelled =
          ap (λ z. Reserved keyword.Theory ∷ ident_text f.name (imports_text f.imports (Reserved keyword.Begin ∷ z))) (later-texts f.commands (Reserved keyword.End ∷ Ends ∷ []))
          ∙ is.spelled;
      means = ap (λ z. record { version = 1; name = f.name.text; imports = imports_of f.imports; commands = z }) (later-trees f.commands) ∙ is.means;
      allowed = later-all f.commands is.distinct;
    }

-- ---- a phrase without haves as one of version 1
abbrev earlier : CommandPhrase → first.CommandPhrase
earlier (ClassCommand x above) = first.ClassCommand x above
earlier (TypedeclCommand params x) = first.TypedeclCommand params x
earlier (AritiesCommand con doms class) = first.AritiesCommand con doms class
earlier (ConstsCommand i is) = first.ConstsCommand i is
earlier (AxiomsCommand a more) = first.AxiomsCommand a more
earlier (DefinitionCommand i prop) = first.DefinitionCommand i prop
earlier (LemmaCommand word a haves p) = first.LemmaCommand word a p

earlier-text : (c : CommandPhrase) (r : List Lexeme) → IsCommandPhrase 1 c → first.command_text (earlier c) r ≡ command_text c r
earlier-text (ClassCommand x above) r w = refl
earlier-text (TypedeclCommand params x) r w = refl
earlier-text (AritiesCommand con doms class) r w = refl
earlier-text (ConstsCommand i is) r w = refl
earlier-text (AxiomsCommand a more) r w = refl
earlier-text (DefinitionCommand i prop) r w = refl
earlier-text (LemmaCommand word a haves p) r w = ap (λ z. lemma_word_text word (axiom_text a (each have_text z (proof_text p r)))) (sym (w refl))

earlier-tree : (c : CommandPhrase) → IsCommandPhrase 1 c → first.phrase_commands (earlier c) ≡ phrase_commands c
earlier-tree (ClassCommand x above) w = refl
earlier-tree (TypedeclCommand params x) w = refl
earlier-tree (AritiesCommand con doms class) w = refl
earlier-tree (ConstsCommand i is) w = refl
earlier-tree (AxiomsCommand a more) w = refl
earlier-tree (DefinitionCommand i prop) w = refl
earlier-tree (LemmaCommand word a haves p) w = ap (λ z. tree.Lemma a.name.text a.prop (map have_of z) (proof_steps p) ∷ []) (sym (w refl))

earlier-allowed : (c : CommandPhrase) → IsCommandPhrase 1 c → first.IsCommandPhrase (earlier c)
earlier-allowed (ClassCommand x above) w = tt
earlier-allowed (TypedeclCommand params x) w = w
earlier-allowed (AritiesCommand con doms class) w = tt
earlier-allowed (ConstsCommand i is) w = tt
earlier-allowed (AxiomsCommand a more) w = tt
earlier-allowed (DefinitionCommand i prop) w = tt
earlier-allowed (LemmaCommand word a haves p) w = tt

earlier-texts : (cs : List CommandPhrase) (r : List Lexeme) → AllByRecursion (IsCommandPhrase 1) cs → each first.command_text (map earlier cs) r ≡ each command_text cs r
earlier-texts [] r w = refl
earlier-texts (c ∷ cs) r w = earlier-text c (each first.command_text (map earlier cs) r) w.0 ∙ ap (command_text c) (earlier-texts cs r w.1)

earlier-trees : (cs : List CommandPhrase) → AllByRecursion (IsCommandPhrase 1) cs → first.commands_of (map earlier cs) ≡ commands_of cs
earlier-trees [] w = refl
earlier-trees (c ∷ cs) w = ap (λ z. z ++ first.commands_of (map earlier cs)) (earlier-tree c w.0) ∙ ap (λ z. phrase_commands c ++ z) (earlier-trees cs w.1)

earlier-all : (cs : List CommandPhrase) → AllByRecursion (IsCommandPhrase 1) cs → AllByRecursion first.IsCommandPhrase (map earlier cs)
earlier-all [] w = tt
earlier-all (c ∷ cs) w = (earlier-allowed c w.0, earlier-all cs w.1)

-- the list doesn't begin with the word `version`
abbrev BeginsOtherwise : List Lexeme → Type 0
BeginsOtherwise [] = Unit {0}
BeginsOtherwise (l ∷ ls) = is_word keyword.Version l ≡ false

begins-otherwise : (ls : List Lexeme) → HasNoVersion ls → BeginsOtherwise ls
begins-otherwise [] w = tt
begins-otherwise (l ∷ ls) w = w.0

file-earlier : (v : VersionPhrase) (x : Ident) (imports : ImportsPhrase) (cs : List CommandPhrase) (ls : List Lexeme) (t : TheoryText) → BeginsOtherwise ls
    → version_text v (Reserved keyword.Theory ∷ ident_text x (imports_text imports (Reserved keyword.Begin ∷ each command_text cs (Reserved keyword.End ∷ Ends ∷ [])))) ≡ ls
    → record { version = version_of v; name = x.text; imports = imports_of imports; commands = commands_of cs } ≡ t
    → AllByRecursion (IsCommandPhrase (version_of v)) cs → first.IsTheory ls t
file-earlier NoVersion x imports cs ls t begins spelled means allowed = record {
  file = record { name = x; imports = imports; commands = map earlier cs };
  spelled =
      ap (λ z. Reserved keyword.Theory ∷ ident_text x (imports_text imports (Reserved keyword.Begin ∷ z))) (earlier-texts cs (Reserved keyword.End ∷ Ends ∷ []) allowed) ∙ spelled;
  means = ap (λ z. record { version = 1; name = x.text; imports = imports_of imports; commands = z }) (earlier-trees cs allowed) ∙ means;
  distinct = earlier-all cs allowed;
}
file-earlier (WrittenVersion n) x imports cs ls t begins spelled means allowed = absurd (true≢false (subst BeginsOtherwise (sym spelled) begins))

theory-earlier : (ls : List Lexeme) (t : TheoryText) → BeginsOtherwise ls → IsTheory ls t → first.IsTheory ls t
theory-earlier ls t begins is = file-earlier is.file.version is.file.name is.file.imports is.file.commands ls t begins is.spelled is.means is.allowed

pub read_as_first : ReadAsFirst
read_as_first source tokens theory w =
    (theory-earlier (lexemes source tokens) theory (begins-otherwise (lexemes source tokens) w), theory-later (lexemes source tokens) theory)

-- ---- the first fault
abbrev nowhere : Span
nowhere = record { from = 0; to = 0 }

abbrev short_rest : List Lexeme
short_rest = Plain (codes "a") nowhere ∷ Reserved keyword.Begin ∷ Reserved keyword.End ∷ Ends ∷ []

abbrev short_theory : TheoryText
short_theory = record { version = 1; name = codes "a"; imports = codes "Pure" ∷ []; commands = [] }

short-theory : first.IsTheory (Reserved keyword.Theory ∷ short_rest) short_theory
short-theory = record { file = record { name = record { text = codes "a"; at = nowhere }; imports = NoImport; commands = [] }; spelled = refl; means = refl; distinct = tt }

begins-later : (ls : List Lexeme) → first.BeginsTheory ls → BeginsTheory ls
begins-later ls b = (b.0, b.1, theory-later (ls ++ b.0) b.1 b.2)

begins-earlier : (ls : List Lexeme) → BeginsOtherwise ls → BeginsTheory ls → first.BeginsTheory ls
begins-earlier [] begins b = (Reserved keyword.Theory ∷ short_rest, short_theory, short-theory)
begins-earlier (l ∷ ls) begins b = (b.0, b.1, theory-earlier ((l ∷ ls) ++ b.0) b.1 begins b.2)

abbrev first_kind : List Lexeme → TokenKind
first_kind [] = kind.End
first_kind (l ∷ ls) = kind_of l

word-first : (v : VersionPhrase) (r : List Lexeme) (l : Lexeme) (ls : List Lexeme) → version_text v (Reserved keyword.Theory ∷ r) ≡ l ∷ ls → kind.Word ≡ kind_of l
word-first NoVersion r l ls e = ap first_kind e
word-first (WrittenVersion n) r l ls e = ap first_kind e

theory-word : (l : Lexeme) (ls : List Lexeme) (t : TheoryText) → IsTheory (l ∷ ls) t → kind.Word ≡ kind_of l
theory-word l ls t is = word-first is.file.version _ l ls is.spelled

follows-later : (ls : List Lexeme) (k : TokenKind) → first.MayFollow ls k → MayFollow ls k
follows-later ls k f = (f.0, f.1, begins-later (ls ++ f.0 ∷ []) f.2)

follows-earlier : (ls : List Lexeme) (k : TokenKind) → BeginsOtherwise ls → MayFollow ls k → first.MayFollow ls k
follows-earlier [] k begins f = (Reserved keyword.Theory, theory-word f.0 f.2.0 f.2.1 f.2.2 ∙ f.1, (short_rest, short_theory, short-theory))
follows-earlier (l ∷ ls) k begins f = (f.0, f.1, begins-earlier ((l ∷ ls) ++ f.0 ∷ []) begins f.2)

otherwise-before : (before : List Lexeme) (found : Lexeme) (rest : List Lexeme) → HasNoVersion (before ++ found ∷ rest) → BeginsOtherwise before
otherwise-before [] found rest w = tt
otherwise-before (l ∷ ls) found rest w = w.0

otherwise-found : (before : List Lexeme) (found : Lexeme) (rest : List Lexeme) → HasNoVersion (before ++ found ∷ rest) → BeginsOtherwise (before ++ found ∷ [])
otherwise-found [] found rest w = w.0
otherwise-found (l ∷ ls) found rest w = w.0

fault-earlier : (source : List ℕ) (tokens : List Token) (at : ℕ) (k : TokenKind) → HasNoVersion (lexemes source tokens) → HasSyntaxFault source tokens at k → first.HasSyntaxFault source tokens at k
fault-earlier source tokens at k w f =
    let begins : BeginsOtherwise f.before = otherwise-before f.before f.found f.rest (subst HasNoVersion f.wrong.parts w) in
    record {
      before = f.before;
      found = f.found;
      rest = f.rest;
      wrong = record {
        parts = f.wrong.parts;
        begins = begins-earlier f.before begins f.wrong.begins;
        stops = λ b. f.wrong.stops (begins-later (f.before ++ f.found ∷ []) b);
      };
      follows = follows-earlier f.before k begins f.follows;
      at_place = f.at_place;
    }

fault-later : (source : List ℕ) (tokens : List Token) (at : ℕ) (k : TokenKind) → HasNoVersion (lexemes source tokens) → first.HasSyntaxFault source tokens at k → HasSyntaxFault source tokens at k
fault-later source tokens at k w f =
    let begins : BeginsOtherwise (f.before ++ f.found ∷ []) = otherwise-found f.before f.found f.rest (subst HasNoVersion f.wrong.parts w) in
    record {
      before = f.before;
      found = f.found;
      rest = f.rest;
      wrong = record {
        parts = f.wrong.parts;
        begins = begins-later f.before f.wrong.begins;
        stops = λ b. f.wrong.stops (begins-earlier (f.before ++ f.found ∷ []) begins b);
      };
      follows = follows-later f.before k f.follows;
      at_place = f.at_place;
    }

pub faults_as_first : FaultsAsFirst
faults_as_first source tokens at k w = (fault-earlier source tokens at k w, fault-later source tokens at k w)
