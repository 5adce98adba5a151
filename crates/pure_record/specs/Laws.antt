-- Laws of these definitions.
use Rattle.std.specs.Prelude.{◌≡◌, ℕ, List}
use Rattle.pure_grammar.specs.declared.token.Token.{Token}
use Rattle.pure_record.specs.Items.{Item}
use Rattle.pure_record.specs.Lines.{Node}
use Rattle.pure_record.specs.Spelled.{SpellsRecord}

-- No tokens spell two records.
abbrev pub OneRecord : Type 0
OneRecord =
    (source : List ℕ) (tokens : List Token) (texts others : List (List ℕ)) (is js : List Item) (ns ms : List Node)
    → SpellsRecord source tokens texts is ns → SpellsRecord source tokens others js ms → (texts ≡ others) × (is ≡ js) × (ns ≡ ms)
