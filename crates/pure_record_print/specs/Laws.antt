-- Laws of printing.
use Rattle.std.specs.Prelude.{◌≡◌, ℕ, List}
use Rattle.pure_record.specs.Items.{Item}
use Rattle.pure_record.specs.Lines.{Node}
use Rattle.pure_record_print.specs.Printed.{record_text}
use Rattle.pure_record_print.specs.ReadBack.{IsTextOf}

-- A text is that of one record.
abbrev pub OneRecordOfText : Type 0
OneRecordOfText =
    (text : List ℕ) (texts others : List (List ℕ)) (is js : List Item) (ns ms : List Node)
    → IsTextOf text texts is ns → IsTextOf text others js ms → (texts ≡ others) × (is ≡ js) × (ns ≡ ms)

-- What is printed of a record that some text spells spells this record.
abbrev pub ReadsBack : Type 0
ReadsBack =
    (source : List ℕ) (texts : List (List ℕ)) (is : List Item) (ns : List Node)
    → IsTextOf source texts is ns → IsTextOf (record_text texts is ns) texts is ns

-- Records that some texts spell and that print alike are one.
abbrev pub OneText : Type 0
OneText =
    (source other : List ℕ) (texts others : List (List ℕ)) (is js : List Item) (ns ms : List Node)
    → IsTextOf source texts is ns → IsTextOf other others js ms → record_text texts is ns ≡ record_text others js ms → (texts ≡ others) × (is ≡ js) × (ns ≡ ms)
