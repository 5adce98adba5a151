-- Among tokens that spell a theory just its parts are found; there are as many commands as its tree has.
use Rattle.std.proofs.Common.{◌≡◌, ℕ, suc, ◌+◌, ◌-◌, List, [], ◌∷◌, length, map, drop, refl, sym, ◌∙◌, ap, arith, ◌≤◌, if◌then◌else◌}
use Rattle.std.proofs.lemmas.List.{length-append, drop-drop}
use Rattle.pure_grammar.specs.declared.token.Token.{Token}
use Rattle.pure_grammar.specs.declared.lexeme.Keyword.TheVariants as keyword
use Rattle.pure_grammar.specs.Theories.Lexeme.{Lexeme, Reserved, Plain, Numeral, lexemes}
use Rattle.pure_grammar.specs.Theories.Phrase.{Ident, ImportsPhrase, NoImport, Imports, VersionPhrase, NoVersion, WrittenVersion, ItemPhrase, AxiomPhrase, CommandPhrase, ClassCommand, TypedeclCommand, AritiesCommand, ConstsCommand, AxiomsCommand, DefinitionCommand, LemmaCommand}
use Rattle.pure_grammar.specs.Theories.PhraseText.{each, ident_text, item_text, and_axiom_text, command_text, imports_text, version_text}
use Rattle.pure_grammar.specs.Theories.PhraseTree.{phrase_commands, commands_of, item_command, axiom_command}
use Rattle.pure_grammar.specs.Theories.Outer.{place_of}
use Rattle.pure_places.specs.Parts.{from_each, item_part, axiom_part, command_parts, body_text, header_text, file_parts, place_in, placed_parts, placed_import}
use Rattle.pure_places.specs.Found.{tokens_before, found_commands, found_imports}
use Rattle.pure_places.specs.Marks.{mark_of, first_mark, is_version}
use Rattle.pure_places.specs.Laws.{FindsParts, AsManyCommands}
use Rattle.pure_places.specs.declared.mark.Before.TheVariants as before
use Rattle.pure_places.proofs.LinkLaws.{EachAt, places-all, first-link, commands-link, imports-link, text_imports, text_commands}
use Rattle.pure_places.proofs.NameLaws.{file-commands, header-imports}

each-at : (source : List ℕ) (tokens : List Token) → EachAt source (place_in source tokens) tokens
each-at source tokens = places-all source (length source) (length (lexemes source tokens)) tokens 0 tokens (omega arith) (λ k. ap (place_of tokens (length source)) (omega arith))

-- a text that reaches to the end begins behind as many tokens as the whole is longer
behind-front : (source : List ℕ) (tokens : List Token) (count : ℕ) (here whole : List Lexeme) → whole ≡ lexemes source tokens → count + length here ≡ length whole
    → place_of tokens (length source) count ≡ place_in source tokens here
behind-front source tokens count here whole e longer =
    let same : length whole ≡ length (lexemes source tokens) = ap length e in
    let front : count ≡ length (lexemes source tokens) - length here = omega (arith, longer, same) in
    ap (place_of tokens (length source)) front

-- the imports stand behind the header's name
behind-name : (source : List ℕ) (place : List Lexeme → ℕ) (tokens : List Token) → EachAt source place tokens → (word name : Lexeme) (l : Lexeme) (r : List Lexeme) → word ∷ name ∷ l ∷ r ≡ lexemes source tokens
    → found_imports source (drop 2 tokens) ≡ map (placed_import place) (text_imports (l ∷ r))
behind-name source place [] is word name l r e = absurd (cc e)
behind-name source place (t ∷ []) is word name l r e = absurd (cc e)
behind-name source place (t ∷ u ∷ ts) is word name l r e =
    let same : lexemes source ts ≡ l ∷ r = cc in
    imports-link source place ts is.1.1 ∙ ap (λ z. map (placed_import place) (text_imports z)) same

behind-version : (source : List ℕ) (place : List Lexeme → ℕ) (tokens : List Token) → EachAt source place tokens → (word number : Lexeme) (r : List Lexeme) → word ∷ number ∷ r ≡ lexemes source tokens → 3 ≤ length r
    → (EachAt source place (drop 2 tokens)) × (r ≡ lexemes source (drop 2 tokens))
behind-version source place [] is word number r e long = absurd (cc e)
behind-version source place (t ∷ []) is word number r e long = absurd (let none : r ≡ [] = cc in let l : length r ≡ 0 = ap length none in omega (arith, long, l))
behind-version source place (t ∷ u ∷ ts) is word number r e long = (is.1.1, cc)

-- where the header's name and the imports are found
record HeaderFound (source : List ℕ) (tokens : List Token) (x : Ident) (r : List Lexeme) : Type 0 where
  name : place_of tokens (length source) (tokens_before source tokens) ≡ place_in source tokens (ident_text x r)
  imports : found_imports source (drop (tokens_before source tokens + 1) tokens) ≡ map (placed_import (place_in source tokens)) (text_imports r)

header-found : (source : List ℕ) (tokens : List Token) (v : VersionPhrase) (x : Ident) (l : Lexeme) (r : List Lexeme) → version_text v (Reserved keyword.Theory ∷ ident_text x (l ∷ r)) ≡ lexemes source tokens → HeaderFound source tokens x (l ∷ r)
header-found source tokens NoVersion x l r e =
    let count : tokens_before source tokens ≡ 1 = ap (λ z. if is_version z then 3 else 1) (first-link source tokens ∙ ap (first_mark mark_of) (sym e)) in
    record {
      name = ap (place_of tokens (length source)) count ∙ behind-front source tokens 1 (ident_text x (l ∷ r)) _ e (omega arith);
      imports =
          ap (λ n. found_imports source (drop (n + 1) tokens)) count
          ∙ behind-name source (place_in source tokens) tokens (each-at source tokens) (Reserved keyword.Theory) (Plain x.text x.at) l r e;
    }
header-found source tokens (WrittenVersion n) x l r e =
    let count : tokens_before source tokens ≡ 3 = ap (λ z. if is_version z then 3 else 1) (first-link source tokens ∙ ap (first_mark mark_of) (sym e)) in
    let more = behind-version source (place_in source tokens) tokens (each-at source tokens) (Reserved keyword.Version) (Numeral n) (Reserved keyword.Theory ∷ ident_text x (l ∷ r)) e (omega arith) in
    record {
      name = ap (place_of tokens (length source)) count ∙ behind-front source tokens 3 (ident_text x (l ∷ r)) _ e (omega arith);
      imports =
          ap (λ n. found_imports source (drop (n + 1) tokens)) count
          ∙ ap (found_imports source) (sym (drop-drop 2 2 tokens))
          ∙ behind-name source (place_in source tokens) (drop 2 tokens) more.0 (Reserved keyword.Theory) (Plain x.text x.at) l r more.1;
    }

-- something stands behind the name in a header
header-more : (source : List ℕ) (tokens : List Token) (v : VersionPhrase) (x : Ident) (i : ImportsPhrase) (r : List Lexeme)
    → version_text v (Reserved keyword.Theory ∷ ident_text x (imports_text i (Reserved keyword.Begin ∷ r))) ≡ lexemes source tokens → HeaderFound source tokens x (imports_text i (Reserved keyword.Begin ∷ r))
header-more source tokens v x NoImport r e = header-found source tokens v x (Reserved keyword.Begin) r e
header-more source tokens v x (Imports y ys) r e = header-found source tokens v x (Reserved keyword.Imports) (ident_text y (each ident_text ys (Reserved keyword.Begin ∷ r))) e

pub finds_parts : FindsParts
finds_parts source tokens f e =
    let place = place_in source tokens in
    let header = header-more source tokens f.version f.name f.imports (body_text f) e in
    let imports : found_imports source (drop (tokens_before source tokens + 1) tokens) ≡ map (placed_import place) (file_parts f).imports =
    header.imports ∙ ap (map (placed_import place)) (header-imports f.imports (body_text f)) in
    let commands : found_commands source before.Other tokens ≡ map (placed_parts place) (file_parts f).commands =
    commands-link source place tokens (each-at source tokens) before.Other ∙ ap (λ z. map (placed_parts place) (text_commands before.Other z)) (sym e) ∙ ap (map (placed_parts place)) (file-commands f) in
    ap (λ z. record { name = z; imports = found_imports source (drop (tokens_before source tokens + 1) tokens); commands = found_commands source before.Other tokens }) header.name
    ∙ ap (λ z. record { name = place (header_text f); imports = z; commands = found_commands source before.Other tokens }) imports
    ∙ ap (λ z. record { name = place (header_text f); imports = map (placed_import place) (file_parts f).imports; commands = z }) commands

items-count : (is : List ItemPhrase) (r : List Lexeme) → length (from_each item_part item_text is r) ≡ length (map item_command is)
items-count [] r = refl
items-count (i ∷ is) r = ap suc (items-count is r)

axioms-count : (more : List AxiomPhrase) (r : List Lexeme) → length (from_each axiom_part and_axiom_text more r) ≡ length (map axiom_command more)
axioms-count [] r = refl
axioms-count (a ∷ more) r = ap suc (axioms-count more r)

command-count : (c : CommandPhrase) (r : List Lexeme) → length (command_parts c r) ≡ length (phrase_commands c)
command-count (ClassCommand x above) r = refl
command-count (TypedeclCommand params x) r = refl
command-count (AritiesCommand con doms class) r = refl
command-count (ConstsCommand i is) r = ap suc (items-count is r)
command-count (AxiomsCommand a more) r = ap suc (axioms-count more r)
command-count (DefinitionCommand i prop) r = refl
command-count (LemmaCommand word a haves p) r = refl

commands-count : (cs : List CommandPhrase) (r : List Lexeme) → length (from_each command_parts command_text cs r) ≡ length (commands_of cs)
commands-count [] r = refl
commands-count (c ∷ cs) r =
    length-append (command_parts c (each command_text cs r)) (from_each command_parts command_text cs r)
    ∙ ap (λ z. z + length (from_each command_parts command_text cs r)) (command-count c (each command_text cs r))
    ∙ ap (λ z. length (phrase_commands c) + z) (commands-count cs r)
    ∙ sym (length-append (phrase_commands c) (commands_of cs))

pub as_many_commands : AsManyCommands
as_many_commands f = commands-count f.commands _
