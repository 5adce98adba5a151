-- The connectives of Pure as terms (Isabelle/Isar Implementation manual, section 2.3): quantification `!!`, implication `==>` and equality `==`; and the mark `#` of a goal.
use Rattle.std.specs.Prelude.{List, [], ◌∷◌}
use Rattle.pure_definitions.specs.Names.{all_name, imp_name, eq_name, protect_name}
use Rattle.pure_definitions.specs.Types.Typ.{Typ, arrow, prop}
use Rattle.pure_definitions.specs.Terms.Term.{Term, Const, Abs, App}

-- the types of the connectives: that of `!!` over a type, of `==>`, of `==` at a type, and of the mark
abbrev pub all_typ : Typ → Typ
all_typ T = arrow (arrow T prop) prop

abbrev pub imp_typ : Typ
imp_typ = arrow prop (arrow prop prop)

abbrev pub eq_typ : Typ → Typ
eq_typ T = arrow T (arrow T prop)

abbrev pub protect_typ : Typ
protect_typ = arrow prop prop

-- `!!x :: T. f x`, for a function f from T to prop
abbrev pub all_of : (typ : Typ) → (function : Term) → Term
all_of T f = App (Const all_name (all_typ T)) f

-- `!!x :: T. B`, where the body B has x as its bound variable 0
abbrev pub all : (typ : Typ) → (body : Term) → Term
all T B = all_of T (Abs T B)

-- `A ==> B`
abbrev pub imp : (premise conclusion : Term) → Term
imp A B = App (App (Const imp_name imp_typ) A) B

-- `t == u`, at the type of both sides
abbrev pub eq : (typ : Typ) → (left right : Term) → Term
eq T t u = App (App (Const eq_name (eq_typ T)) t) u

-- `# A`
abbrev pub protect : Term → Term
protect A = App (Const protect_name protect_typ) A

-- `A1 ==> .. ==> An ==> C`, for the premises in order
abbrev pub chain : (premises : List Term) → (conclusion : Term) → Term
chain [] C = C
chain (A ∷ As) C = imp A (chain As C)
