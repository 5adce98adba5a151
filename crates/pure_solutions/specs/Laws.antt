-- Laws of maps that solve pairs, and of terms that reduce to one.
use Rattle.std.specs.Prelude.{◌↔◌, []}
use Rattle.pure_definitions.specs.Types.Typ.{Typ}
use Rattle.pure_definitions.specs.Terms.Term.{Term, Abs, App}
use Rattle.pure_definitions.specs.Terms.Typing.{HasType}
use Rattle.pure_definitions.specs.Terms.Conditions.{IsVariable}
use Rattle.pure_definitions.specs.Terms.Bounds.{Occurs}
use Rattle.pure_logic.specs.Derivable.{Pair}
use Rattle.pure_reduction.specs.LongForms.{HasLongForm, HaveOneLongForm}
use Rattle.pure_solutions.specs.Solutions.{IsTermSubstitution, IsLongMap, SolvesPair}
use Rattle.pure_solutions.specs.Ends.{HaveOneEnd, IsStuck}

-- Terms with one long form have one end; and so the other way round, where both are typed under no binders.
abbrev pub LongFormsAreEnds : Type 0
LongFormsAreEnds = (t u : Term) → HaveOneLongForm t u → HaveOneEnd t u

abbrev pub EndsAreLongForms : Type 0
EndsAreLongForms = (t u : Term) (T U : Typ) → HasType [] t T → HasType [] u U → HaveOneEnd t u → HaveOneLongForm t u

-- Bodies have one end exactly where the abstractions have, if these are over one type.
abbrev pub EndsOfBodies : Type 0
EndsOfBodies = (T U : Typ) (b c : Term) → HaveOneEnd (Abs T b) (Abs U c) → HaveOneEnd b c

abbrev pub EndsOfAbstractions : Type 0
EndsOfAbstractions = (T : Typ) (b c : Term) → HaveOneEnd b c → HaveOneEnd (Abs T b) (Abs T c)

-- Where no abstraction is at the front of applications with one end, the functions have one, and the arguments.
abbrev pub EndsOfApplications : Type 0
EndsOfApplications = (f g a b : Term) → IsStuck f → IsStuck g → HaveOneEnd (App f a) (App g b) → HaveOneEnd f g × HaveOneEnd a b

-- A map solves a pair exactly where it solves the pair of the sides' long forms.
abbrev pub SolvedByLongForms : Type 0
SolvedByLongForms = (terms : Term → Term) → IsTermSubstitution terms → (p q : Pair) → HasLongForm p.left q.left → HasLongForm p.right q.right → SolvesPair terms p ↔ SolvesPair terms q

-- Maps that give each variable in a pair images with one long form solve the same, if its sides are typed.
abbrev pub SolvedBySameImages : Type 0
SolvedBySameImages = (terms others : Term → Term) → IsTermSubstitution terms → IsTermSubstitution others → (p : Pair) (T U : Typ) → HasType [] p.left T → HasType [] p.right U
    → ((v : Term) → IsVariable v → Occurs v p.left → HaveOneLongForm (terms v) (others v)) → ((v : Term) → IsVariable v → Occurs v p.right → HaveOneLongForm (terms v) (others v))
    → SolvesPair terms p → SolvesPair others p

-- For each map there is a long one that gives each variable an image with the same long form.
abbrev pub EachMapHasALongMap : Type 0
EachMapHasALongMap = (terms : Term → Term) → IsTermSubstitution terms → (others : Term → Term) × IsLongMap others × ((v : Term) → IsVariable v → HaveOneLongForm (terms v) (others v))
