-- The six built facts of Pure: what its connectives and its equality mean, as propositions with schematic variables (Isabelle/Isar Implementation manual, section 2.3).
-- In each the first variable has the name 0, the next the name 1, and so on in order of first occurrence; so have the type variables; and each index is 0.
use Rattle.std.specs.Prelude.{List, [], ◌∷◌}
use Rattle.pure_definitions.specs.Types.Typ.{Typ, TVar, arrow, prop}
use Rattle.pure_definitions.specs.Terms.Term.{Term, Var, Bound, App}
use Rattle.pure_logic.specs.Connectives.{all, imp, eq}
use Rattle.pure_logic.specs.PureContent.{any_typ, proposition_variable}
use Rattle.pure_logic.specs.Concludes.{extensionality}

-- the schematic type variable `?'b` of the empty sort
abbrev pub other_typ : Typ
other_typ = TVar 1 0 []

-- `?x == ?x`
abbrev pub reflexivity : Term
reflexivity = eq any_typ (Var 0 0 any_typ) (Var 0 0 any_typ)

-- `?x == ?y ==> ?P ?x ==> ?P ?y`
abbrev pub substitutivity : Term
substitutivity =
    let x = Var 0 0 any_typ in
    let y = Var 1 0 any_typ in
    let P = Var 2 0 (arrow any_typ prop) in
    imp (eq any_typ x y) (imp (App P x) (App P y))

-- `(!!x. ?f x == ?g x) ==> ?f == ?g`
abbrev pub function_extensionality : Term
function_extensionality = extensionality any_typ other_typ (Var 0 0 (arrow any_typ other_typ)) (Var 1 0 (arrow any_typ other_typ))

-- `(?A ==> ?B) ==> (?B ==> ?A) ==> ?A == ?B`
abbrev pub propositional_extensionality : Term
propositional_extensionality =
    let A = proposition_variable 0 in
    let B = proposition_variable 1 in
    imp (imp A B) (imp (imp B A) (eq prop A B))

-- `(?A ==> ?B) ==> ?A ==> ?B`
abbrev pub modus_ponens : Term
modus_ponens =
    let A = proposition_variable 0 in
    let B = proposition_variable 1 in
    imp (imp A B) (imp A B)

-- `(!!x. ?P x) ==> ?P ?x`
abbrev pub specialisation : Term
specialisation =
    let P = Var 0 0 (arrow any_typ prop) in
    imp (all any_typ (App P (Bound 0))) (App P (Var 1 0 any_typ))

-- the six, in the order in which they are offered
abbrev pub built_facts : List Term
built_facts = reflexivity ∷ substitutivity ∷ function_extensionality ∷ propositional_extensionality ∷ modus_ponens ∷ specialisation ∷ []
