-- What a step of the replayer answers, and the content of a table of declarations.
use Rattle.std.specs.Prelude.{List, [], None, Result, Ok, Err}
use Rattle.pure_definitions.specs.Terms.Term.{IsWithin}
use Rattle.pure_definitions.specs.Types.Order.{Algebra}
use Rattle.pure_definitions.specs.Declarations.Decl.{Decl}
use Rattle.pure_logic.specs.Content.{Content}
use Rattle.pure_replay.specs.Conclusion.{Conclusion}
use Rattle.pure_replay.specs.declared.fault.NodeFault.{NodeFault}
use Rattle.pure_replay.specs.declared.fault.NodeFault.TheVariants.{Wrong, Big, Memory}

-- the content of the declarations, which no theory has
abbrev pub plain_content : List Decl → Content
plain_content ds = record { declarations = ds; own = None; ancestors = [] }

-- what is declared of classes where nothing is
abbrev pub no_classes : Algebra
no_classes = record { classes = []; arities = [] }

-- The answer of a node: a conclusion that it gives; or `Wrong` where it gives none; or `Big` where it gives one whose proposition isn't within the limits; or `Memory`.
abbrev pub IsStep : (Gives : Conclusion → Type 0) → Result Conclusion NodeFault → Type 0
IsStep Gives (Ok c) = Gives c
IsStep Gives (Err Wrong) = (c : Conclusion) → ¬ Gives c
IsStep Gives (Err Big) = (c : Conclusion) × Gives c × ¬ IsWithin c.prop
IsStep Gives (Err Memory) = Unit {0}
