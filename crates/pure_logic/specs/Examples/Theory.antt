-- A content for the examples of the laws.
use Rattle.std.specs.Prelude.{List, [], ◌∷◌, ◌++◌, Some}
use Rattle.pure_definitions.specs.Names.{Label}
use Rattle.pure_definitions.specs.Types.Typ.{Typ, TVar, arrow, prop}
use Rattle.pure_definitions.specs.Terms.Term.{Term, Const, Free, Var, App}
use Rattle.pure_definitions.specs.Types.Order.{Arity}
use Rattle.pure_definitions.specs.Declarations.Decl.{Decl, ClassDecl, ConDecl, ArityDecl, ConstDecl, AxiomDecl, PromiseDecl}
use Rattle.pure_term_laws.specs.LawsExamples.{i, c, any_x, sort_of, class_above}
use Rattle.pure_logic.specs.Content.{Content}
use Rattle.pure_logic.specs.PureContent.{pure_declarations}

-- `t < u`, of two terms of type i
abbrev pub less : Term → Term → Term
less t u = App (App (Const 33 (arrow i (arrow i prop))) t) u

-- `p t`, where p has the type `?'b => prop` for types of class c, at a type
abbrev pub holds : Typ → Term → Term
holds T t = App (Const 34 (arrow T prop)) t

-- the schematic type variable `?'b :: c`, and a schematic variable of this type
abbrev pub any_c : Typ
any_c = TVar 1 0 (sort_of c)

abbrev pub any_z : Term
any_z = Var 2 0 any_c

-- two type variables `?'a` and `?'b` of the empty sort, and a schematic variable `?w` at a type
abbrev pub any_left : Typ
any_left = TVar 0 0 []

abbrev pub any_right : Typ
any_right = TVar 1 0 []

abbrev pub any_w : Typ → Term
any_w T = Var 3 0 T

-- `r t u`, where r has the type `?'a => ?'b => prop`, at two types
abbrev pub related : (T U : Typ) → (t u : Term) → Term
related T U t u = App (App (Const 35 (arrow T (arrow U prop))) t) u

-- fixed variables h of type `i => i` and q of type `i => prop`
abbrev pub h : Term
h = Free 42 (arrow i i)

abbrev pub q : Term
q = Free 43 (arrow i prop)

-- the arity `i :: c`
abbrev pub i_arity : Arity
i_arity = record { con = 10; domains = []; class = c }

abbrev pub promised : Label
promised = record { theory = 1; command = 7; part = 0 }

-- types i and j, where i is of a class c; constants `a :: i` and `f :: i => i`; `<` and p; the axiom `p ?z`; the promise of `?x < ?x`; and r with the axiom `r ?w ?w`, whose two variables have one name and two types
abbrev pub example_declarations : List Decl
example_declarations = ConDecl 10 0 ∷ ConDecl 11 0 ∷ ClassDecl (class_above c []) ∷ ArityDecl i_arity ∷ ConstDecl 30 i ∷ ConstDecl 31 (arrow i i)
    ∷ ConstDecl 33 (arrow i (arrow i prop)) ∷ ConstDecl 34 (arrow any_c prop) ∷ AxiomDecl 50 (holds any_c any_z) ∷ PromiseDecl 51 promised (less any_x any_x)
    ∷ ConstDecl 35 (arrow any_left (arrow any_right prop)) ∷ AxiomDecl 52 (related any_left any_right (any_w any_left) (any_w any_right)) ∷ []

-- these declarations after Pure's, in a theory that imports Pure alone
abbrev pub example : Content
example = record { declarations = pure_declarations ++ example_declarations; own = Some (record { name = 60; index = 1 }); ancestors = [] }
