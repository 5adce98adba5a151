-- The content of Pure itself (Isabelle/Isar Implementation manual, section 2.3).
use Rattle.std.specs.Prelude.{ℕ, List, [], ◌∷◌, None}
use Rattle.pure_definitions.specs.Names.{fun_name, prop_name, all_name, imp_name, eq_name, protect_name}
use Rattle.pure_definitions.specs.Types.Typ.{Typ, TVar, prop}
use Rattle.pure_definitions.specs.Terms.Term.{Term, Var}
use Rattle.pure_definitions.specs.Declarations.Decl.{Decl, ConDecl, ConstDecl, AxiomDecl}
use Rattle.pure_logic.specs.Connectives.{all_typ, imp_typ, eq_typ, protect_typ, eq, protect}
use Rattle.pure_logic.specs.Content.{Content}

-- the schematic type variable `?'a` of the empty sort
abbrev pub any_typ : Typ
any_typ = TVar 0 0 []

-- the schematic variable of type prop that has this name, and the index 0
abbrev pub proposition_variable : (name : ℕ) → Term
proposition_variable name = Var name 0 prop

-- the axiom of Pure, `# ?A == ?A`: the mark of a goal means nothing
abbrev pub protect_axiom : Term
protect_axiom = eq prop (protect (proposition_variable 0)) (proposition_variable 0)

-- the type constructors `fun`, with two arguments, and `prop`, with none; the four constants; and the axiom
abbrev pub pure_declarations : List Decl
pure_declarations = ConDecl fun_name 2 ∷ ConDecl prop_name 0 ∷ ConstDecl all_name (all_typ any_typ) ∷ ConstDecl imp_name imp_typ
    ∷ ConstDecl eq_name (eq_typ any_typ) ∷ ConstDecl protect_name protect_typ ∷ AxiomDecl protect_name protect_axiom ∷ []

abbrev pub pure_content : Content
pure_content = record { declarations = pure_declarations; own = None; ancestors = [] }
