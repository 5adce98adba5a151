-- The laws of these definitions.
use Rattle.std.specs.Prelude.{◌≡◌, ℕ, ◌≤◌, List, length}
use Rattle.pure_grammar.specs.declared.token.Token.{Token}
use Rattle.pure_grammar.specs.Terms.RawTree.{RawTree, RawTypTree}
use Rattle.pure_grammar.specs.Tokens.Spelling.{AreSlices}
use Rattle.pure_grammar.specs.Terms.Inner.{SpellsTerm, SpellsType, HasTermFault, HasTypeFault}

abbrev pub TermOrFault : Type 0
TermOrFault = (source : List ℕ) (tokens : List Token) (term : RawTree) (at : ℕ) → SpellsTerm source tokens term → HasTermFault source tokens at → ⊥

abbrev pub TypeOrFault : Type 0
TypeOrFault = (source : List ℕ) (tokens : List Token) (typ : RawTypTree) (at : ℕ) → SpellsType source tokens typ → HasTypeFault source tokens at → ⊥

abbrev pub OneTermFault : Type 0
OneTermFault = (source : List ℕ) (tokens : List Token) (first second : ℕ) → HasTermFault source tokens first → HasTermFault source tokens second → first ≡ second

abbrev pub OneTypeFault : Type 0
OneTypeFault = (source : List ℕ) (tokens : List Token) (first second : ℕ) → HasTypeFault source tokens first → HasTypeFault source tokens second → first ≡ second

-- The tokens of a part of a source are slices of the source, so that they can be read as they are.
abbrev pub PartsAreSlices : Type 0
PartsAreSlices = (source : List ℕ) (from to : ℕ) (tokens : List Token) → to ≤ length source → AreSlices source from to tokens → AreSlices source 0 (length source) tokens
