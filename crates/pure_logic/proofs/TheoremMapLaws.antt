-- Maps on theorems: fixed variables made schematic, indexes raised, and the finite maps of a call.
use Rattle.std.proofs.Common.{◌≡◌, inl, inr, ℕ, Bool, true, false, cond, List, [], ◌∷◌, map, refl, ap, ◌∙◌}
use Rattle.pure_text.specs.Lists.{IsIn, Each}
use Rattle.pure_text.proofs.ListLaws.{each_imply}
use Rattle.pure_definitions.specs.Names.{Label}
use Rattle.pure_definitions.specs.Types.Typ.{Typ, TFree, TVar, Con, Typs, none, also, prop}
use Rattle.pure_definitions.specs.Types.Order.{IsOfSort}
use Rattle.pure_definitions.specs.Types.Occurs.{OccursInTyp}
use Rattle.pure_definitions.specs.Terms.Term.{Term, Const, Free, Var, Bound, Abs, App}
use Rattle.pure_definitions.specs.Terms.Bounds.{Occurs}
use Rattle.pure_definitions.specs.Terms.Conditions.{IsVariable}
use Rattle.pure_definitions.specs.Terms.Typing.{HasType}
use Rattle.pure_definitions.specs.Terms.Subst.{TypBind, TermBind, typ_image, typ_instance, typs_instance, term_instance, AreSortRespecting}
use Rattle.pure_definitions.specs.Declarations.Decl.{algebra_of}
use Rattle.pure_definitions.specs.Declarations.Certified.{IsCertifiedTyp, HasCertifiedParts}
use Rattle.pure_definitions.proofs.OrderLaws.{sort_below-itself}
use Rattle.pure_term_laws.specs.LawsOccurs.{IsTypVariable, TypOccurs, HasNoSchematic}
use Rattle.pure_term_laws.proofs.OccursLaws.{typ_instances-agree, agreeing_instance, typ_occurs-variable, typ_variable_of_typ_instance, variable_of_instance, typ_variable_of_instance}
use Rattle.pure_term_laws.proofs.SubstLaws.{typ_instance-identity, term_instance-identity}
use Rattle.pure_logic.specs.Content.{Content, IsContent, IsCertifiedOf, IsProposition, IsSchematicTyp, AreSchematicTyps, IsSchematic, IsStatement}
use Rattle.pure_logic.specs.Tree.{joined_terms, hyps_of, rests_of}
use Rattle.pure_logic.specs.Concludes.{AreRespecting}
use Rattle.pure_logic.specs.Derivable.{Theorem, IsDerivable}
use Rattle.pure_logic.specs.Laws.Substitution.{pair_instance, theorem_instance}
use Rattle.pure_logic.specs.Laws.Inferences.{IsAmong}
use Rattle.pure_logic.specs.Laws.Maps.{MoveFixedAlone, Generalisation, schematic_typs, schematic_terms, generalised, HasNoneOf, everything, HasOnlyIndex, raised_typs, raised_terms, instantiated, instantiated_theorem}
use Rattle.pure_definitions.proofs.EntryLemmas.{chosen}
use Rattle.pure_logic.proofs.MapLaws.{joined_respect, joined_instance}
use Rattle.pure_logic.proofs.WeakeningLaws.{typ_instance-certified}
use Rattle.pure_logic.proofs.SubstitutionLaws.{instance_is_derivable, certified_of-instance}

pub weaker_is_derivable : (Q : Content) (th : Theorem) (hyps : List Term) (rests : List Label) → IsAmong th hyps rests → IsDerivable Q th → IsDerivable Q (record th { hyps = hyps; rests = rests })
weaker_is_derivable Q th hyps rests among h = record {
  tree = h.tree;
  conclusion = h.conclusion;
  concludes = h.concludes;
  under_pairs = h.under_pairs;
  hyps = each_imply (λ A. IsIn A th.hyps) (λ A. IsIn A hyps) (hyps_of h.tree) among.hyps h.hyps;
  rests = each_imply (λ l. IsIn l th.rests) (λ l. IsIn l rests) (rests_of h.tree) among.rests h.rests;
}

all_kept : (f : Term → Term) (ts : List Term) → Each (λ t. f t ≡ t) ts → map f ts ≡ ts
all_kept f [] h = refl
all_kept f (t ∷ ts) h = λ l. h.0 l ∷ all_kept f ts h.1 l

pub instance_from_same_hypotheses : (Q : Content) → IsContent Q → (typs : Typ → Typ) (terms : Term → Term) → AreRespecting Q typs terms → (th : Theorem) → Each (λ A. term_instance typs terms A ≡ A) th.hyps
    → IsDerivable Q th → IsDerivable Q (record th { pairs = map (pair_instance typs terms) th.pairs; prop = term_instance typs terms th.prop })
instance_from_same_hypotheses Q q typs terms r th kept h =
    let made = instance_is_derivable Q q typs terms r th h in
    record {
      tree = made.tree;
      conclusion = made.conclusion;
      concludes = made.concludes;
      under_pairs = made.under_pairs;
      hyps = rw (all_kept (term_instance typs terms) th.hyps kept) at made.hyps;
      rests = made.rests;
    }

-- Either answer of a test has the property that both answers have.
either_way : {A : Type 0} (P : A → Type 0) (b : Bool) (x y : A) → P x → P y → P (cond b x y)
either_way P b x y h k = chosen P b x y (λ e. h) k

module _ (Q : Content) (g : Generalisation) where
  generalised_typ-certified : (T : Typ) → IsCertifiedTyp Q.declarations T → IsCertifiedTyp Q.declarations (typ_instance (schematic_typs g) T)
  generalised_typ-certified = typ_instance-certified Q.declarations (schematic_typs g)
      (λ x s c. either_way (IsCertifiedTyp Q.declarations) (g.typs x) (TVar x g.index s) (TFree x s) c c) (λ x i s c. c)

  generalisation_respects : AreRespecting Q (schematic_typs g) (schematic_terms g)
  generalisation_respects = record {
    sorts = record {
      fixed = λ x s. either_way (λ T. IsOfSort (algebra_of Q.declarations) T s) (g.typs x) (TVar x g.index s) (TFree x s) (sort_below-itself (algebra_of Q.declarations) s) (sort_below-itself (algebra_of Q.declarations) s);
      schematic = λ x i s. sort_below-itself (algebra_of Q.declarations) s;
    };
    types = record {
      fixed = λ x T. (let U = typ_instance (schematic_typs g) T in either_way (λ t. HasType [] t U) (g.terms x) (Var x g.index U) (Free x U) refl refl);
      schematic = λ x i T. refl;
    };
    certified = record {
      fixed_typ = λ x s c. either_way (IsCertifiedTyp Q.declarations) (g.typs x) (TVar x g.index s) (TFree x s) c c;
      schematic_typ = λ x i s c. c;
      fixed = λ x T c. (let U = typ_instance (schematic_typs g) T in
          either_way (HasCertifiedParts Q.declarations) (g.terms x) (Var x g.index U) (Free x U) (generalised_typ-certified T c) (generalised_typ-certified T c));
      schematic = λ x i T c. generalised_typ-certified T c;
    };
  }

second : {A : Type 0} (b : Bool) (x y : A) → (b ≡ true → ⊥) → cond b x y ≡ y
second true x y h = absurd (h refl)
second false x y h = refl

-- A term with none of what is made schematic stays as it is.
module _ (g : Generalisation) (t : Term) (h : HasNoneOf g t) where
  typ-kept : (v : Typ) → IsTypVariable v → TypOccurs v t → schematic_typs g v ≡ v
  typ-kept (TFree x s) is o = second (g.typs x) (TVar x g.index s) (TFree x s) (λ e. h.typs x s e o)
  typ-kept (TVar x i s) is o = refl
  typ-kept (Con k ts) is o = absurd is

  variable_typ-kept : (T : Typ) → ((v : Typ) → OccursInTyp v T → TypOccurs v t) → typ_instance (schematic_typs g) T ≡ T
  variable_typ-kept T inside = typ_instances-agree (schematic_typs g) (λ v. v) T (λ v is o. typ-kept v is (inside v o)) ∙ typ_instance-identity T

  term-kept : (u : Term) → IsVariable u → Occurs u t → schematic_terms g u ≡ u
  term-kept (Free x T) is o =
      second (g.terms x) (Var x g.index (typ_instance (schematic_typs g) T)) (Free x (typ_instance (schematic_typs g) T)) (λ e. h.terms x T e o)
      ∙ ap (Free x) (variable_typ-kept T (λ v m. typ_occurs-variable v (Free x T) t is o m))
  term-kept (Var x i T) is o = ap (Var x i) (variable_typ-kept T (λ v m. typ_occurs-variable v (Var x i T) t is o m))
  term-kept (Const c T) is o = absurd is
  term-kept (Bound n) is o = absurd is
  term-kept (Abs T b) is o = absurd is
  term-kept (App f a) is o = absurd is

  generalised-kept : generalised g t ≡ t
  generalised-kept = agreeing_instance (schematic_typs g) (λ v. v) (schematic_terms g) (λ v. v) t (record { on_typs = typ-kept; on_terms = term-kept }) ∙ term_instance-identity t

pub generalised_is_derivable : (Q : Content) → IsContent Q → (g : Generalisation) (th : Theorem) → Each (HasNoneOf g) th.hyps → IsDerivable Q th
    → IsDerivable Q (record th { pairs = map (pair_instance (schematic_typs g) (schematic_terms g)) th.pairs; prop = generalised g th.prop })
generalised_is_derivable Q q g th spared h =
    instance_from_same_hypotheses Q q (schematic_typs g) (schematic_terms g) (generalisation_respects Q g) th (each_imply (HasNoneOf g) (λ A. generalised g A ≡ A) th.hyps (generalised-kept g) spared) h

mutual
  generalised_typ-schematic : (index : ℕ) (T : Typ) → IsSchematicTyp (typ_instance (schematic_typs (everything index)) T)
  generalised_typ-schematic index (TFree x s) = tt
  generalised_typ-schematic index (TVar x i s) = tt
  generalised_typ-schematic index (Con k ts) = generalised_typs-schematic index ts

  generalised_typs-schematic : (index : ℕ) (ts : Typs) → AreSchematicTyps (typs_instance (schematic_typs (everything index)) ts)
  generalised_typs-schematic index none = tt
  generalised_typs-schematic index (also t ts) = (generalised_typ-schematic index t, generalised_typs-schematic index ts)

generalised-schematic : (index : ℕ) (t : Term) → IsSchematic (generalised (everything index) t)
generalised-schematic index (Const c T) = generalised_typ-schematic index T
generalised-schematic index (Free x T) = generalised_typ-schematic index T
generalised-schematic index (Var x i T) = generalised_typ-schematic index T
generalised-schematic index (Bound n) = tt
generalised-schematic index (Abs T b) = (generalised_typ-schematic index T, generalised-schematic index b)
generalised-schematic index (App f a) = (generalised-schematic index f, generalised-schematic index a)

pub generalised_is_statement : (Q : Content) → IsContent Q → (index : ℕ) (A : Term) → IsProposition Q A → IsStatement Q (generalised (everything index) A)
generalised_is_statement Q q index A h =
    let g = everything index in
    record { proposition = certified_of-instance Q q (schematic_typs g) (schematic_terms g) (generalisation_respects Q g) A prop h; schematic = generalised-schematic index A }

-- Of a term without schematic variables the schematic ones that a generalisation makes have its index.
module _ (g : Generalisation) (t : Term) (none : HasNoSchematic t) where
  typ_index : (x i : ℕ) (s : List ℕ) (u : Typ) → IsTypVariable u → TypOccurs u t → OccursInTyp (TVar x i s) (schematic_typs g u) → i ≡ g.index
  typ_index x i s (TFree y r) is o h = either_way (λ T. OccursInTyp (TVar x i s) T → i ≡ g.index) (g.typs y) (TVar y g.index r) (TFree y r) (λ e. cc) (λ e. cc) h
  typ_index x i s (TVar y j r) is o h = absurd (none.typs y j r o)
  typ_index x i s (Con k ts) is o h = absurd is

  variable_typ_index : (x i : ℕ) (s : List ℕ) (u : Term) → IsVariable u → Occurs u t → TypOccurs (TVar x i s) (schematic_terms g u) → i ≡ g.index
  variable_typ_index x i s (Free y U) is o h =
      let V = typ_instance (schematic_typs g) U in
      let inside = either_way (λ v. TypOccurs (TVar x i s) v → OccursInTyp (TVar x i s) V) (g.terms y) (Var y g.index V) (Free y V) (λ m. m) (λ m. m) h in
      let found = typ_variable_of_typ_instance (schematic_typs g) (TVar x i s) U tt inside in
      typ_index x i s found.0 found.1 (typ_occurs-variable found.0 (Free y U) t tt o found.2) found.3
  variable_typ_index x i s (Var y j U) is o h = absurd (none.terms y j U o)
  variable_typ_index x i s (Const c U) is o h = absurd is
  variable_typ_index x i s (Bound n) is o h = absurd is
  variable_typ_index x i s (Abs U b) is o h = absurd is
  variable_typ_index x i s (App f a) is o h = absurd is

  variable_index : (x i : ℕ) (T : Typ) (u : Term) → IsVariable u → Occurs u t → Occurs (Var x i T) (schematic_terms g u) → i ≡ g.index
  variable_index x i T (Free y U) is o h =
      let V = typ_instance (schematic_typs g) U in
      either_way (λ v. Occurs (Var x i T) v → i ≡ g.index) (g.terms y) (Var y g.index V) (Free y V) (λ e. cc) (λ e. cc) h
  variable_index x i T (Var y j U) is o h = absurd (none.terms y j U o)
  variable_index x i T (Const c U) is o h = absurd is
  variable_index x i T (Bound n) is o h = absurd is
  variable_index x i T (Abs U b) is o h = absurd is
  variable_index x i T (App f a) is o h = absurd is

  pub generalised_has_only_index : HasOnlyIndex g.index (generalised g t)
  generalised_has_only_index = record {
    typs = λ x i s o. elim (typ_variable_of_instance (schematic_typs g) (schematic_terms g) (TVar x i s) tt t o) [
      | inl found ↦ typ_index x i s found.0 found.1 found.2 found.3
      | inr found ↦ variable_typ_index x i s found.0 found.1 found.2 found.3
    ];
    terms = λ x i T o. (let found = variable_of_instance (schematic_typs g) (schematic_terms g) (Var x i T) t tt o in variable_index x i T found.0 found.1 found.2 found.3);
  }

module _ (typs : Typ → Typ) (terms : Term → Term) (fixed : MoveFixedAlone typs terms) where
  mutual
    schematic_typ-kept : (T : Typ) → IsSchematicTyp T → typ_instance typs T ≡ T
    schematic_typ-kept (TFree x s) h = absurd h
    schematic_typ-kept (TVar x i s) h = fixed.on_typs x i s
    schematic_typ-kept (Con k ts) h = ap (Con k) (schematic_typs-kept ts h)

    schematic_typs-kept : (ts : Typs) → AreSchematicTyps ts → typs_instance typs ts ≡ ts
    schematic_typs-kept none h = refl
    schematic_typs-kept (also t ts) h = λ l. also (schematic_typ-kept t h.0 l) (schematic_typs-kept ts h.1 l)

  pub fixed_map_keeps : (t : Term) → IsSchematic t → term_instance typs terms t ≡ t
  fixed_map_keeps (Const c T) h = ap (Const c) (schematic_typ-kept T h)
  fixed_map_keeps (Free x T) h = absurd h
  fixed_map_keeps (Var x i T) h = fixed.on_terms x i T ∙ ap (Var x i) (schematic_typ-kept T h)
  fixed_map_keeps (Bound n) h = refl
  fixed_map_keeps (Abs T b) h = λ l. Abs (schematic_typ-kept T h.0 l) (fixed_map_keeps b h.1 l)
  fixed_map_keeps (App f a) h = λ l. App (fixed_map_keeps f h.0 l) (fixed_map_keeps a h.1 l)

pub generalisation_keeps : (g : Generalisation) (t : Term) → IsSchematic t → generalised g t ≡ t
generalisation_keeps g t h = fixed_map_keeps (schematic_typs g) (schematic_terms g) (record { on_typs = λ x i s. refl; on_terms = λ x i T. refl }) t h

raised_typ-certified : (Q : Content) (by : ℕ) (T : Typ) → IsCertifiedTyp Q.declarations T → IsCertifiedTyp Q.declarations (typ_instance (raised_typs by) T)
raised_typ-certified Q by = typ_instance-certified Q.declarations (raised_typs by) (λ x s c. c) (λ x i s c. c)

raising_respects : (Q : Content) (by : ℕ) → AreRespecting Q (raised_typs by) (raised_terms by)
raising_respects Q by = record {
  sorts = record { fixed = λ x s. sort_below-itself (algebra_of Q.declarations) s; schematic = λ x i s. sort_below-itself (algebra_of Q.declarations) s };
  types = record { fixed = λ x T. refl; schematic = λ x i T. refl };
  certified = record {
    fixed_typ = λ x s c. c;
    schematic_typ = λ x i s c. c;
    fixed = λ x T c. raised_typ-certified Q by T c;
    schematic = λ x i T c. raised_typ-certified Q by T c;
  };
}

pub raised_is_derivable : (Q : Content) → IsContent Q → (by : ℕ) (th : Theorem) → IsDerivable Q th → IsDerivable Q (theorem_instance (raised_typs by) (raised_terms by) th)
raised_is_derivable Q q by th h = instance_is_derivable Q q (raised_typs by) (raised_terms by) (raising_respects Q by) th h

-- the theorem with a function on its terms in its hypotheses, its pairs and its proposition
abbrev changed : (Term → Term) → Theorem → Theorem
changed f th = record { hyps = map f th.hyps; pairs = map (λ p. record { left = f p.left; right = f p.right }) th.pairs; prop = f th.prop; rests = th.rests }

joined-same : (typs : List TypBind) (terms : List TermBind) → term_instance (typ_image typs) (joined_terms typs terms) ≡ instantiated typs terms
joined-same typs terms = λ l t. joined_instance typs terms t l

pub instantiated_is_derivable : (Q : Content) → IsContent Q → (typs : List TypBind) (terms : List TermBind) → AreSortRespecting (algebra_of Q.declarations) typs → Each (λ b. IsCertifiedTyp Q.declarations b.image) typs
    → Each (λ b. IsCertifiedOf Q b.image b.typ) terms → (th : Theorem) → IsDerivable Q th → IsDerivable Q (instantiated_theorem typs terms th)
instantiated_is_derivable Q q typs terms sorts certified images th h =
    let made = instance_is_derivable Q q (typ_image typs) (joined_terms typs terms) (joined_respect Q typs terms sorts certified images) th h in
    let same : changed (term_instance (typ_image typs) (joined_terms typs terms)) th ≡ instantiated_theorem typs terms th = ap (λ f. changed f th) (joined-same typs terms) in
    rw same at made
