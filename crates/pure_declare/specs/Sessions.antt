-- Contents of sessions under commands.
use Rattle.std.specs.Prelude.{ℕ, List}
use Rattle.pure_definitions.specs.Names.{Label}
use Rattle.pure_grammar.specs.Theories.TheoryText.{Command}
use Rattle.pure_logic.specs.Content.{Content}
use Rattle.pure_lookup.specs.Laws.{IsInSession}
use Rattle.pure_declare.specs.Notes.{Note}
use Rattle.pure_declare.specs.First.{Declares}
use Rattle.pure_declare.specs.Parts.{Part, DeclaresPart}

-- A command's next content is one of the session too.
abbrev pub DeclaresInSession : Type 0
DeclaresInSession = (texts : List (List ℕ)) (source : List ℕ) (label : Label) (Q : Content) (command : Command) (note : Note) (next : Content)
    → IsInSession texts Q → Declares texts source label Q command note next → IsInSession texts next

-- So is a part's.
abbrev pub PartsInSession : Type 0
PartsInSession = (texts : List (List ℕ)) (source : List ℕ) (label : Label) (Q : Content) (part : Part) (note : Note) (next : Content)
    → IsInSession texts Q → DeclaresPart texts source label Q part note next → IsInSession texts next
