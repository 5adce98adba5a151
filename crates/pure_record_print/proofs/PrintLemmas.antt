-- A text by its pieces.
use Rattle.std.proofs.Common.{◌≡◌, ◌≢◌, ℕ, List, [], ◌∷◌, ◌++◌, length, get_or, drop, refl, ap, ◌∙◌}
use Rattle.std.specs.Prelude.{codes}
use Rattle.pure_text.proofs.Joins.{joined_4}
use Rattle.pure_definitions.specs.Types.Typ.{Typ, typs_of}
use Rattle.pure_record.specs.Items.{Item}
use Rattle.pure_record.specs.Lines.{Node}
use Rattle.pure_record_print.specs.Printed.{typ_text, arguments_text, more_arguments_text, lines_text, items_text, record_text}

pub arguments-written : (texts : List (List ℕ)) (args : List Typ) (first : Typ) (old text second third next : List ℕ) → length args ≢ 0 → first ≡ get_or args 0 first
    → text ≡ old ++ codes "( " → second ≡ text ++ typ_text texts first → third ≡ second ++ more_arguments_text texts (typs_of (drop 1 args)) → next ≡ third ++ codes ") "
    → next ≡ old ++ arguments_text texts (typs_of args)
arguments-written texts [] first old text second third next some read e f g h = absurd (some refl)
arguments-written texts (t ∷ ts) first old text second third next some read e f g h =
    joined_4 old text second third next (codes "( ") (typ_text texts t) (more_arguments_text texts (typs_of ts)) (codes ") ") e (f ∙ ap (λ z. text ++ typ_text texts z) read) g h

-- a record's text, written behind nothing
pub record-written : (texts : List (List ℕ)) (is : List Item) (ns : List Node) (whole old text second third next : List ℕ) → whole ≡ next → old ≡ []
    → text ≡ old ++ codes "begin\n" → second ≡ text ++ items_text texts is → third ≡ second ++ lines_text texts ns → next ≡ third ++ codes "end\n" → whole ≡ record_text texts is ns
record-written texts is ns whole old text second third next is_next is_old e f g h =
    is_next ∙ (joined_4 old text second third next (codes "begin\n") (items_text texts is) (lines_text texts ns) (codes "end\n") e f g h ∙ ap (λ z. z ++ record_text texts is ns) is_old)
