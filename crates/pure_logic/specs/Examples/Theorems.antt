-- What the laws of theorems, of quantification and of names give, by example.
use Rattle.std.specs.Prelude.{◌≡◌, false, nat_eq, List, [], ◌∷◌}
use Rattle.pure_definitions.specs.Names.{all_name, imp_name, eq_name, protect_name}
use Rattle.pure_definitions.specs.Types.Typ.{Typ, TFree, TVar, arrow, prop}
use Rattle.pure_definitions.specs.Terms.Term.{Term, Const, Free, Var, Bound, Abs, App}
use Rattle.pure_definitions.specs.Terms.Bounds.{IsClosed}
use Rattle.pure_definitions.specs.Terms.Subst.{TypBind, TermBind, typ_image, term_instance}
use Rattle.pure_definitions.specs.Declarations.Certified.{HasCertifiedParts}
use Rattle.pure_term_laws.specs.LawsExamples.{i, j, a, f, x, y, any_x, any_y}
use Rattle.pure_logic.specs.Connectives.{all_of, all, eq}
use Rattle.pure_logic.specs.Content.{IsStatement}
use Rattle.pure_logic.specs.PureContent.{pure_content}
use Rattle.pure_logic.specs.Tree.{joined_terms}
use Rattle.pure_logic.specs.Concludes.{AreRespecting}
use Rattle.pure_logic.specs.Derivable.{IsDerivable, IsDerivableAlone}
use Rattle.pure_logic.specs.Proves.{Proves}
use Rattle.pure_logic.specs.BuiltFacts.{reflexivity}
use Rattle.pure_logic.specs.Laws.Maps.{Generalisation, generalised, HasNoneOf, HasOnlyIndex, everything, raised_typs, raised_terms, instantiated}
use Rattle.pure_logic.specs.Laws.Quantification.{beta_applied}
use Rattle.pure_logic.specs.Examples.Theory.{less, any_right, h, q, promised, example}

-- With i for `?'a` and a for `?x` the built fact `?x == ?x` gives `a == a`. With indexes raised by 3 it is `?x.3 == ?x.3`.
abbrev pub typ_to_i : TypBind
typ_to_i = record { name = 0; index = 0; sort = []; image = i }

abbrev pub variable_to_a : TermBind
variable_to_a = record { name = 0; index = 0; typ = i; image = a }

abbrev pub InstantiatedExample : Type 0
InstantiatedExample = (instantiated (typ_to_i ∷ []) (variable_to_a ∷ []) reflexivity ≡ eq i a a) × IsDerivableAlone example (eq i a a)

abbrev pub raised_reflexivity : Term
raised_reflexivity = eq (TVar 0 3 []) (Var 0 3 (TVar 0 3 [])) (Var 0 3 (TVar 0 3 []))

abbrev pub RaisedExample : Type 0
RaisedExample = (term_instance (raised_typs 3) (raised_terms 3) reflexivity ≡ raised_reflexivity) × IsDerivableAlone pure_content raised_reflexivity

-- An index that isn't 0 is raised from where it stands, that of a variable and that of its type each by itself: by 3, `?x.2 :: ?'a.1` becomes `?x.5 :: ?'a.4`.
abbrev pub RaisedIndexExample : Type 0
RaisedIndexExample = (raised_typs 3 (TVar 0 1 []) ≡ TVar 0 4 []) × (raised_terms 3 (Var 0 2 (TVar 0 1 [])) ≡ Var 0 5 (TVar 0 4 []))

-- the fixed variables of the name of x are made schematic
abbrev pub of_x : Generalisation
of_x = record { typs = λ n. false; terms = nat_eq 40; index = 0 }

-- From `y < y`, under the pair of x and a, stands `x == a`; and with x made schematic, under the pair of `?x` and a, stands `?x == a`. Where x is in a hypothesis it may not be made schematic.
abbrev pub GeneralisedExample : Type 0
GeneralisedExample = IsDerivable example (record { hyps = less y y ∷ []; pairs = record { left = x; right = a } ∷ []; prop = eq i x a; rests = [] })
    × IsDerivable example (record { hyps = less y y ∷ []; pairs = record { left = any_x; right = a } ∷ []; prop = eq i any_x a; rests = [] })
    × (¬ HasNoneOf of_x (less x y))

-- the fixed type variable `'b`, and the generalisation that makes it schematic and leaves all fixed variables
abbrev pub fixed_right : Typ
fixed_right = TFree 1 []

abbrev pub of_typ : Generalisation
of_typ = record { typs = nat_eq 1; terms = λ n. false; index = 0 }

-- fixed variables v and w at a type, and the constant p at the type of propositions of a type
abbrev pub v : Typ → Term
v T = Free 44 T

abbrev pub w : Typ → Term
w T = Free 45 T

abbrev pub p_at : Typ → Term
p_at T = Const 34 (arrow T prop)

-- From `y < y`, under the pair of `v :: 'b` and `w :: 'b`, stands `v == w`; and with `'b` made schematic, under the pair of `v :: ?'b` and `w :: ?'b`, stands `v == w` at this type. In p at the type `'b => prop` the type variable occurs.
abbrev pub GeneralisedTypExample : Type 0
GeneralisedTypExample = IsDerivable example (record { hyps = less y y ∷ []; pairs = record { left = v fixed_right; right = w fixed_right } ∷ []; prop = eq fixed_right (v fixed_right) (w fixed_right); rests = [] })
    × IsDerivable example (record { hyps = less y y ∷ []; pairs = record { left = v any_right; right = w any_right } ∷ []; prop = eq any_right (v any_right) (w any_right); rests = [] })
    × (generalised of_typ (p_at fixed_right) ≡ p_at any_right) × (¬ HasNoneOf of_typ (p_at fixed_right))

-- With all fixed variables made schematic `x < y` becomes `?x < ?y`, which could be an axiom.
abbrev pub StatementExample : Type 0
StatementExample = (generalised (everything 0) (less x y) ≡ less any_x any_y) × IsStatement example (less any_x any_y)

-- With the index 5 it becomes `?x.5 < ?y.5`, which has no other index; and `?x < ?y` has another. `v :: 'b` becomes `?v.5 :: ?'b.5`.
abbrev pub IndexExample : Type 0
IndexExample = (generalised (everything 5) (less x y) ≡ less (Var 40 5 i) (Var 41 5 i)) × HasOnlyIndex 5 (less (Var 40 5 i) (Var 41 5 i)) × (¬ HasOnlyIndex 5 (less any_x any_y))
    × (generalised (everything 5) (v fixed_right) ≡ Var 44 5 (TVar 1 5 []))

-- Nothing is made schematic in `?x < ?y`.
abbrev pub NothingFixedExample : Type 0
NothingFixedExample = (g : Generalisation) → generalised g (less any_x any_y) ≡ less any_x any_y

-- What is derivable from `x < y` is so from more hypotheses, in any order, and resting on a promise.
abbrev pub WeakerExample : Type 0
WeakerExample = IsDerivable example (record { hyps = less y x ∷ less x y ∷ []; pairs = []; prop = less x y; rests = promised ∷ [] })

-- From `Pure.all q`, where q is a variable and no abstraction, stands `q a`; of an abstraction the argument is put into the body.
abbrev pub QuantifiedVariableExample : Type 0
QuantifiedVariableExample = IsDerivable example (record { hyps = all_of i q ∷ []; pairs = []; prop = App q a; rests = [] })
    × (beta_applied (Abs i (less (Bound 0) y)) a ≡ less a y)

-- From `x == a`: `f x == f a`.
abbrev pub ContextExample : Type 0
ContextExample = Proves example (eq i x a ∷ []) [] (eq i (App f x) (App f a))

-- `!!z. f z == h z`
abbrev pub equal_everywhere : Term
equal_everywhere = all i (eq i (App f (Bound 0)) (App h (Bound 0)))

-- From `!!z. f z == h z`, under the pair of y and a, stands `f x == h x`, and abstracted over x, `%x. f x == %x. h x`.
abbrev pub AbstractedExample : Type 0
AbstractedExample = IsDerivable example (record { hyps = equal_everywhere ∷ []; pairs = record { left = y; right = a } ∷ []; prop = eq (arrow i i) (Abs i (App f (Bound 0))) (Abs i (App h (Bound 0))); rests = [] })

-- No constant with the name of implication, of quantification or of the mark of a goal is certified with the type i, and none with the name of equality with sides of two types.
abbrev pub NameExample : Type 0
NameExample = (¬ HasCertifiedParts example.declarations (Const imp_name i)) × (¬ HasCertifiedParts example.declarations (Const all_name i)) × (¬ HasCertifiedParts example.declarations (Const protect_name i))
    × (¬ HasCertifiedParts example.declarations (Const eq_name (arrow i (arrow j prop))))

-- The finite maps of any call leave `x < y` as it is; and each instance of `?x < y` by respecting maps is closed.
abbrev pub KeptExample : Type 0
KeptExample = (typs : List TypBind) (terms : List TermBind) → term_instance (typ_image typs) (joined_terms typs terms) (less x y) ≡ less x y

abbrev pub ClosedExample : Type 0
ClosedExample = (typs : Typ → Typ) (terms : Term → Term) → AreRespecting example typs terms → IsClosed (term_instance typs terms (less any_x y))
