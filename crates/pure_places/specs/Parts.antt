-- Where the parts of a theory stand: each by its text from there on, and by its place in the source.
use Rattle.std.specs.Prelude.{ℕ, ◌-◌, ◌==◌, List, [], ◌∷◌, ◌++◌, length, map, get_or, if◌then◌else◌}
use Rattle.pure_grammar.specs.declared.token.Token.{Token}
use Rattle.pure_grammar.specs.declared.lexeme.Keyword.TheVariants as keyword
use Rattle.pure_grammar.specs.declared.lexeme.Sign.TheVariants as sign
use Rattle.pure_grammar.specs.Theories.Lexeme.{Lexeme, Reserved, Signed, Quoted, Ends, lexemes}
use Rattle.pure_grammar.specs.Theories.Phrase.{Ident, BasicPhrase, MethodPhrase, Alone, Together, StepPhrase, ApplyStep, PreferStep, DeferStep, EndPhrase, DoneEnd, ByEnd, ProofPhrase, ItemPhrase, AxiomPhrase, CommandPhrase, ClassCommand, TypedeclCommand, AritiesCommand, ConstsCommand, AxiomsCommand, DefinitionCommand, LemmaCommand, HavePhrase, ImportsPhrase, NoImport, Imports, FilePhrase}
use Rattle.pure_grammar.specs.Theories.PhraseText.{each, each_comma, ident_text, name_text, basic_text, method_text, step_text, end_text, proof_text, above_text, domains_text, item_text, axiom_text, and_axiom_text, have_text, command_text, imports_text}
use Rattle.pure_grammar.specs.Theories.Outer.{place_of}

-- a command or a have: its name, and the words of its proof's numbered steps, each where it stands
pub record Part (Place : Type 0) : Type 0 where
  pub name : Place
  pub steps : List Place

-- a command, and of a lemma its haves
pub record CommandParts (Place : Type 0) : Type 0 where
  pub haves : List (Part Place)
  pub own : Part Place

-- the have with this number, counted from 0, or the command itself, whose number is that of its haves
abbrev pub part_of : {P : Type 0} → CommandParts P → (number : ℕ) → (other : Part P) → Part P
part_of c number other = if number == length c.haves then c.own else get_or c.haves number other

-- the same of the command with this number
abbrev pub part_at : {P : Type 0} → List (CommandParts P) → (command part : ℕ) → (none : CommandParts P) → Part P
part_at commands command part none = part_of (get_or commands command none) part none.own

-- an import, and where it stands
pub record Import (Place : Type 0) : Type 0 where
  pub theory : List ℕ
  pub at : Place

-- the name in a theory's header, its imports and its commands
pub record Parts (Place : Type 0) : Type 0 where
  pub name : Place
  pub imports : List (Import Place)
  pub commands : List (CommandParts Place)

-- what each item of a list gives, by the text from it on
abbrev pub from_each : {A B : Type 0} → (A → List Lexeme → List B) → (A → List Lexeme → List Lexeme) → List A → List Lexeme → List B
from_each given text [] r = []
from_each given text (x ∷ xs) r = given x (each text xs r) ++ from_each given text xs r

-- Each basic method begins with its word.
abbrev pub more_methods : List BasicPhrase → List Lexeme → List (List Lexeme)
more_methods [] r = []
more_methods (b ∷ bs) r = basic_text b (each_comma basic_text bs r) ∷ more_methods bs r

abbrev pub method_words : MethodPhrase → List Lexeme → List (List Lexeme)
method_words (Alone at) r = method_text (Alone at) r ∷ []
method_words (Together b bs) r =
    basic_text b (each_comma basic_text bs (Signed sign.CloseParenthesis ∷ r)) ∷ more_methods bs (Signed sign.CloseParenthesis ∷ r)

-- of `prefer` and `defer` the keyword
abbrev pub step_words : StepPhrase → List Lexeme → List (List Lexeme)
step_words (ApplyStep m) r = method_words m r
step_words (PreferStep n) r = step_text (PreferStep n) r ∷ []
step_words DeferStep r = step_text DeferStep r ∷ []

-- of the end `done`, which `by` makes behind its method, the keyword
abbrev pub end_words : EndPhrase → List Lexeme → List (List Lexeme)
end_words DoneEnd r = end_text DoneEnd r ∷ []
end_words (ByEnd m) r = method_words m r ++ end_text (ByEnd m) r ∷ []

-- the words of a proof's numbered steps, in their order
abbrev pub proof_words : ProofPhrase → List Lexeme → List (List Lexeme)
proof_words p r = from_each step_words step_text p.steps (end_text p.ending r) ++ end_words p.ending r

-- a command without a proof, whose name begins the text
abbrev pub named : List Lexeme → CommandParts (List Lexeme)
named here = record { haves = []; own = record { name = here; steps = [] } }

abbrev pub item_part : ItemPhrase → List Lexeme → List (CommandParts (List Lexeme))
item_part i r = named (item_text i r) ∷ []

abbrev pub axiom_part : AxiomPhrase → List Lexeme → List (CommandParts (List Lexeme))
axiom_part a r = named (axiom_text a r) ∷ []

abbrev pub have_part : HavePhrase → List Lexeme → List (Part (List Lexeme))
have_part h r = record { name = axiom_text h.statement (proof_text h.proof r); steps = proof_words h.proof r } ∷ []

-- The name of an arity is its constructor. Each item of `consts` and each part of `axiomatization` is a command.
abbrev pub command_parts : CommandPhrase → List Lexeme → List (CommandParts (List Lexeme))
command_parts (ClassCommand x above) r = named (ident_text x (above_text above r)) ∷ []
command_parts (TypedeclCommand params x) r = named (ident_text x r) ∷ []
command_parts (AritiesCommand con doms class) r = named (name_text con (Signed sign.DoubleColon ∷ domains_text doms (name_text class r))) ∷ []
command_parts (ConstsCommand i is) r = item_part i (each item_text is r) ++ from_each item_part item_text is r
command_parts (AxiomsCommand a more) r = axiom_part a (each and_axiom_text more r) ++ from_each axiom_part and_axiom_text more r
command_parts (DefinitionCommand i prop) r = item_part i (Reserved keyword.Where ∷ Quoted prop ∷ r)
command_parts (LemmaCommand word a haves p) r = record {
  haves = from_each have_part have_text haves (proof_text p r);
  own = record { name = axiom_text a (each have_text haves (proof_text p r)); steps = proof_words p r };
} ∷ []

abbrev pub import_part : Ident → List Lexeme → List (Import (List Lexeme))
import_part x r = record { theory = x.text; at = ident_text x r } ∷ []

abbrev pub import_parts : ImportsPhrase → List Lexeme → List (Import (List Lexeme))
import_parts NoImport r = []
import_parts (Imports x xs) r = import_part x (each ident_text xs r) ++ from_each import_part ident_text xs r

-- the text of the commands and of what stands behind them
abbrev pub body_text : FilePhrase → List Lexeme
body_text f = each command_text f.commands (Reserved keyword.End ∷ Ends ∷ [])

-- the text of the header from its name on
abbrev pub header_text : FilePhrase → List Lexeme
header_text f = ident_text f.name (imports_text f.imports (Reserved keyword.Begin ∷ body_text f))

abbrev pub file_parts : FilePhrase → Parts (List Lexeme)
file_parts f = record {
  name = header_text f;
  imports = import_parts f.imports (Reserved keyword.Begin ∷ body_text f);
  commands = from_each command_parts command_text f.commands (Reserved keyword.End ∷ Ends ∷ []);
}

-- the place in the source at which a text begins that reaches to the end
abbrev pub place_in : (source : List ℕ) → List Token → List Lexeme → ℕ
place_in source tokens text = place_of tokens (length source) (length (lexemes source tokens) - length text)

abbrev pub placed_part : {A B : Type 0} → (A → B) → Part A → Part B
placed_part place p = record { name = place p.name; steps = map place p.steps }

abbrev pub placed_import : {A B : Type 0} → (A → B) → Import A → Import B
placed_import place i = record { theory = i.theory; at = place i.at }

abbrev pub placed_parts : {A B : Type 0} → (A → B) → CommandParts A → CommandParts B
placed_parts place c = record { haves = map (placed_part place) c.haves; own = placed_part place c.own }

-- the parts, each at its place
abbrev pub placed : {A B : Type 0} → (A → B) → Parts A → Parts B
placed place p = record { name = place p.name; imports = map (placed_import place) p.imports; commands = map (placed_parts place) p.commands }

-- the places of a theory's parts in its source
abbrev pub places_of : (source : List ℕ) → List Token → FilePhrase → Parts ℕ
places_of source tokens f = placed (place_in source tokens) (file_parts f)
