-- Laws of maps on theorems: fixed variables made schematic, indexes raised, and the finite maps of a call. All are instances of the law of substitution.
use Rattle.std.specs.Prelude.{◌≡◌, ℕ, ◌+◌, Bool, true, if◌then◌else◌, List, map}
use Rattle.pure_text.specs.Lists.{Each}
use Rattle.pure_definitions.specs.Names.{Label}
use Rattle.pure_definitions.specs.Types.Typ.{Typ, TFree, TVar}
use Rattle.pure_definitions.specs.Terms.Term.{Term, Free, Var}
use Rattle.pure_definitions.specs.Terms.Bounds.{Occurs}
use Rattle.pure_definitions.specs.Terms.Subst.{TypBind, TermBind, typ_image, term_image, typ_instance, term_instance, inst_typ, inst_term, retyped_variable, AreSortRespecting}
use Rattle.pure_definitions.specs.Declarations.Decl.{algebra_of}
use Rattle.pure_definitions.specs.Declarations.Certified.{IsCertifiedTyp}
use Rattle.pure_term_laws.specs.LawsOccurs.{TypOccurs, HasNoSchematic}
use Rattle.pure_logic.specs.Content.{Content, IsContent, IsCertifiedOf, IsProposition, IsSchematic, IsStatement}
use Rattle.pure_logic.specs.Concludes.{AreRespecting}
use Rattle.pure_logic.specs.Derivable.{Theorem, IsDerivable}
use Rattle.pure_logic.specs.Laws.Substitution.{pair_instance, theorem_instance}
use Rattle.pure_logic.specs.Laws.Inferences.{IsAmong}

-- A derivable theorem is so with more hypotheses, resting on more promises, in whatever order they stand.
abbrev pub WeakerIsDerivable : Type 0
WeakerIsDerivable = (Q : Content) (th : Theorem) (hyps : List Term) (rests : List Label) → IsAmong th hyps rests → IsDerivable Q th → IsDerivable Q (record th { hyps = hyps; rests = rests })

-- Of a derivable theorem whose hypotheses the maps leave as they are, the instance of the pairs and of the proposition is derivable from the same hypotheses.
abbrev pub InstanceFromSameHypotheses : Type 0
InstanceFromSameHypotheses = (Q : Content) → IsContent Q → (typs : Typ → Typ) (terms : Term → Term) → AreRespecting Q typs terms → (th : Theorem) → Each (λ A. term_instance typs terms A ≡ A) th.hyps
    → IsDerivable Q th → IsDerivable Q (record th { pairs = map (pair_instance typs terms) th.pairs; prop = term_instance typs terms th.prop })

-- What is made schematic: the fixed type variables and the fixed variables of some names, whatever their sorts and types; and the index that they are given.
pub record Generalisation : Type 0 where
  pub typs : ℕ → Bool
  pub terms : ℕ → Bool
  pub index : ℕ

-- the maps that make them schematic, with their names, and leave all other variables as they are but for their types
abbrev pub schematic_typs : Generalisation → Typ → Typ
schematic_typs g (TFree x s) = if g.typs x then TVar x g.index s else TFree x s
schematic_typs g T = T

abbrev pub schematic_terms : Generalisation → Term → Term
schematic_terms g (Free x T) = if g.terms x then Var x g.index (typ_instance (schematic_typs g) T) else Free x (typ_instance (schematic_typs g) T)
schematic_terms g t = retyped_variable (schematic_typs g) t

abbrev pub generalised : Generalisation → Term → Term
generalised g t = term_instance (schematic_typs g) (schematic_terms g) t

-- None of them occurs in the term.
pub record HasNoneOf (g : Generalisation) (t : Term) : Type 0 where
  pub typs : (x : ℕ) (s : List ℕ) → g.typs x ≡ true → ¬ TypOccurs (TFree x s) t
  pub terms : (x : ℕ) (T : Typ) → g.terms x ≡ true → ¬ Occurs (Free x T) t

-- Fixed variables and fixed type variables that occur in no hypothesis may be made schematic in the pairs and the proposition. The index may be any: variables that come to be the same are only a special case.
abbrev pub GeneralisedIsDerivable : Type 0
GeneralisedIsDerivable = (Q : Content) → IsContent Q → (g : Generalisation) (th : Theorem) → Each (HasNoneOf g) th.hyps → IsDerivable Q th
    → IsDerivable Q (record th { pairs = map (pair_instance (schematic_typs g) (schematic_terms g)) th.pairs; prop = generalised g th.prop })

-- A proposition of which every fixed variable and every fixed type variable is made schematic could be an axiom.
abbrev pub everything : (index : ℕ) → Generalisation
everything index = record { typs = λ x. true; terms = λ x. true; index = index }

abbrev pub GeneralisedIsStatement : Type 0
GeneralisedIsStatement = (Q : Content) → IsContent Q → (index : ℕ) (A : Term) → IsProposition Q A → IsStatement Q (generalised (everything index) A)

-- Each schematic type variable in the term, and each schematic variable, has this index.
pub record HasOnlyIndex (index : ℕ) (t : Term) : Type 0 where
  pub typs : (x i : ℕ) (s : List ℕ) → TypOccurs (TVar x i s) t → i ≡ index
  pub terms : (x i : ℕ) (T : Typ) → Occurs (Var x i T) t → i ≡ index

-- Where a term has no schematic variables and schematic type variables, those that are made so have the index that they are given, and there are no others.
abbrev pub GeneralisedHasOnlyIndex : Type 0
GeneralisedHasOnlyIndex = (g : Generalisation) (t : Term) → HasNoSchematic t → HasOnlyIndex g.index (generalised g t)

-- The maps move fixed variables alone: schematic type variables stay, and schematic variables but for their types.
pub record MoveFixedAlone (typs : Typ → Typ) (terms : Term → Term) : Type 0 where
  pub on_typs : (x i : ℕ) (s : List ℕ) → typs (TVar x i s) ≡ TVar x i s
  pub on_terms : (x i : ℕ) (T : Typ) → terms (Var x i T) ≡ Var x i (typ_instance typs T)

-- A term without fixed variables and fixed type variables stays as it is under such maps, and so where fixed variables are made schematic.
abbrev pub FixedMapKeeps : Type 0
FixedMapKeeps = (typs : Typ → Typ) (terms : Term → Term) → MoveFixedAlone typs terms → (t : Term) → IsSchematic t → term_instance typs terms t ≡ t

abbrev pub GeneralisationKeeps : Type 0
GeneralisationKeeps = (g : Generalisation) (t : Term) → IsSchematic t → generalised g t ≡ t

-- the maps that raise the indexes of schematic type variables and schematic variables by a number
abbrev pub raised_typs : (by : ℕ) → Typ → Typ
raised_typs by (TVar x i s) = TVar x (i + by) s
raised_typs by T = T

abbrev pub raised_terms : (by : ℕ) → Term → Term
raised_terms by (Var x i T) = Var x (i + by) (typ_instance (raised_typs by) T)
raised_terms by t = retyped_variable (raised_typs by) t

-- The indexes of a derivable theorem may be raised, in its hypotheses and its pairs too.
abbrev pub RaisedIsDerivable : Type 0
RaisedIsDerivable = (Q : Content) → IsContent Q → (by : ℕ) (th : Theorem) → IsDerivable Q th → IsDerivable Q (theorem_instance (raised_typs by) (raised_terms by) th)

-- the term with the types of a call put in first, and then its terms, for variables written with their new types; and the theorem with them in its hypotheses, its pairs and its proposition
abbrev pub instantiated : List TypBind → List TermBind → Term → Term
instantiated typs terms t = inst_term (term_image terms) (inst_typ (typ_image typs) t)

abbrev pub instantiated_theorem : List TypBind → List TermBind → Theorem → Theorem
instantiated_theorem typs terms th = record {
  hyps = map (instantiated typs terms) th.hyps;
  pairs = map (λ p. record { left = instantiated typs terms p.left; right = instantiated typs terms p.right }) th.pairs;
  prop = instantiated typs terms th.prop;
  rests = th.rests;
}

-- Finite maps whose images are of their variables' sorts and types, and certified, may be put into a derivable theorem.
abbrev pub InstantiatedIsDerivable : Type 0
InstantiatedIsDerivable = (Q : Content) → IsContent Q → (typs : List TypBind) (terms : List TermBind) → AreSortRespecting (algebra_of Q.declarations) typs → Each (λ b. IsCertifiedTyp Q.declarations b.image) typs
    → Each (λ b. IsCertifiedOf Q b.image b.typ) terms → (th : Theorem) → IsDerivable Q th → IsDerivable Q (instantiated_theorem typs terms th)
