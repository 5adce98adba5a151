-- Pairs under which theorems stand.
use Rattle.pure_definitions.specs.Types.Typ.{prop}
use Rattle.pure_logic.specs.Connectives.{eq}
use Rattle.pure_logic.specs.Content.{Content, IsProposition}
use Rattle.pure_logic.specs.Derivable.{Pair}

-- The sides are propositions of the content, and their equation too.
abbrev pub MayStand : Content → Pair → Type 0
MayStand Q p = IsProposition Q (eq prop p.left p.right) × IsProposition Q p.left
