-- Definitions of constants, and when they are refused.
use Rattle.std.specs.Prelude.{List}
use Rattle.pure_text.specs.Lists.{Each, AnyOf}
use Rattle.pure_definitions.specs.Types.Typ.{Typ}
use Rattle.pure_definitions.specs.Terms.Term.{Term}
use Rattle.pure_definitions.specs.Declarations.Decl.{Decl}
pub use Rattle.pure_certify.specs.Bodies.{HasVariable, HasExtra, HaveExtra, HasExtraTyp}
use Rattle.pure_theory.specs.declared.fault.DeclFault.{DeclFault}
use Rattle.pure_theory.specs.declared.fault.DeclFault.TheVariants.{Duplicate, NotClosed, ExtraType, Memory}
use Rattle.pure_theory.specs.Refusals.{HasNamesake}

-- None of the declarations has a namesake.
abbrev pub AreNew : List Decl → List Decl → Type 0
AreNew ds added = Each (λ d. ¬ HasNamesake ds d) added

-- Of a definition, which adds these declarations: one of them has a namesake; or else the body has a variable; or else a type variable that its type lacks.
abbrev pub IsDefinitionRefusal : List Decl → (added : List Decl) → (typ : Typ) → (body : Term) → DeclFault → Type 0
IsDefinitionRefusal ds added T body Duplicate = AnyOf (HasNamesake ds) added
IsDefinitionRefusal ds added T body NotClosed = AreNew ds added × HasVariable body
IsDefinitionRefusal ds added T body ExtraType = AreNew ds added × (¬ HasVariable body) × HasExtraTyp T body
IsDefinitionRefusal ds added T body Memory = Unit {0}
IsDefinitionRefusal ds added T body _ = ⊥
