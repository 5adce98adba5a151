-- Laws of instantiation past liftings and instantiations, and of maps past liftings, instantiations and abstractions, on plain trees.
use Rattle.std.specs.Prelude.{◌≡◌, ◌≢◌, ℕ, ◌+◌, ◌≤◌, if◌then◌else◌}
use Rattle.pure_definitions.specs.Types.Typ.{Typ}
use Rattle.pure_definitions.specs.Terms.Term.{Term, Free, Var, App, term_eq, term_size, term_depth}
use Rattle.pure_definitions.specs.Terms.Bounds.{IsClosed, lift_term, subst_under, bind_under, Occurs}
use Rattle.pure_definitions.specs.Terms.Conditions.{IsVariable}
use Rattle.pure_definitions.specs.Terms.Subst.{typ_instance, term_instance}
use Rattle.pure_term_laws.specs.LawsExamples.{p, x, y, z}

-- Instantiation past a lifting over m binders, k of them the term's own.
abbrev pub SubstPastLift : Type 0
SubstPastLift = (n m k : ℕ) (c b : Term) → k ≤ n → subst_under (n + m) c (lift_term m k b) ≡ lift_term m k (subst_under n c b)

-- Instantiation past an instantiation: b is put for bound variable m, and c for the one that is n above it.
abbrev pub SubstPastSubst : Type 0
SubstPastSubst = (m n : ℕ) (b c t : Term) → subst_under (m + n) c (subst_under m b t) ≡ subst_under m (subst_under n c b) (subst_under (m + n + 1) c t)

-- An instance of a bound variable is at least as large and as deep as the body.
abbrev pub SizeOfSubst : Type 0
SizeOfSubst = (n : ℕ) (arg b : Term) → term_size b ≤ term_size (subst_under n arg b)

abbrev pub DepthOfSubst : Type 0
DepthOfSubst = (n : ℕ) (arg b : Term) → term_depth b ≤ term_depth (subst_under n arg b)

-- The images of variables have no loose bound variables.
pub record AreImagesClosed (terms : Term → Term) : Type 0 where
  pub fixed : (x : ℕ) (T : Typ) → IsClosed (terms (Free x T))
  pub schematic : (x i : ℕ) (T : Typ) → IsClosed (terms (Var x i T))

-- Maps past a lifting and past an instantiation.
abbrev pub InstanceOfLift : Type 0
InstanceOfLift = (typs : Typ → Typ) (terms : Term → Term) → AreImagesClosed terms → (by from : ℕ) (t : Term)
    → term_instance typs terms (lift_term by from t) ≡ lift_term by from (term_instance typs terms t)

abbrev pub InstanceOfSubst : Type 0
InstanceOfSubst = (typs : Typ → Typ) (terms : Term → Term) → AreImagesClosed terms → (n : ℕ) (arg b : Term)
    → term_instance typs terms (subst_under n arg b) ≡ subst_under n (term_instance typs terms arg) (term_instance typs terms b)

-- On the variables of the term the maps send the variable v to the variable w, which occurs in the image of no other of them.
pub record SendsAlone (terms : Term → Term) (v w t : Term) : Type 0 where
  pub variable : IsVariable v
  pub image : terms v ≡ w
  pub image_variable : IsVariable w
  pub others : (u : Term) → IsVariable u → Occurs u t → v ≢ u → ¬ Occurs w (terms u)

-- Maps past an abstraction.
abbrev pub InstanceOfBind : Type 0
InstanceOfBind = (typs : Typ → Typ) (terms : Term → Term) → AreImagesClosed terms → (v w t : Term) → SendsAlone terms v w t → (n : ℕ)
    → term_instance typs terms (bind_under n v t) ≡ bind_under n w (term_instance typs terms t)

-- the term map with the variable v sent to w, and each other variable as before
abbrev pub sent : (v w : Term) → (terms : Term → Term) → Term → Term
sent v w terms u = if term_eq v u then w else terms u

-- Of two fixed variables of a term one is sent to a fresh one: `%x. f x` in which y becomes z.
abbrev pub SendsAloneExample : Type 0
SendsAloneExample = SendsAlone (sent y z (λ u. u)) y z (App (App p x) y) × (term_instance (λ T. T) (sent y z (λ u. u)) (App (App p x) y) ≡ App (App p x) z)

-- Maps that agree on the variables of a term give one instance of it; so a variable that doesn't occur may be sent elsewhere.
abbrev pub InstancesAgree : Type 0
InstancesAgree = (typs : Typ → Typ) (terms others : Term → Term) (t : Term) → ((u : Term) → IsVariable u → Occurs u t → terms u ≡ others u)
    → term_instance typs terms t ≡ term_instance typs others t

abbrev pub InstanceSentElsewhere : Type 0
InstanceSentElsewhere = (typs : Typ → Typ) (terms : Term → Term) (v w t : Term) → ¬ Occurs v t → term_instance typs (sent v w terms) t ≡ term_instance typs terms t

-- What occurs in the image of a variable of the term occurs in the term's instance.
abbrev pub OccursInInstance : Type 0
OccursInInstance = (typs : Typ → Typ) (terms : Term → Term) (u w t : Term) → IsVariable u → Occurs u t → Occurs w (terms u) → Occurs w (term_instance typs terms t)

-- Maps one after the other are one map.
abbrev pub InstanceOfInstance : Type 0
InstanceOfInstance = (typs more_typs : Typ → Typ) (terms more_terms : Term → Term) (t : Term)
    → term_instance more_typs more_terms (term_instance typs terms t) ≡ term_instance (λ v. typ_instance more_typs (typs v)) (λ v. term_instance more_typs more_terms (terms v)) t
