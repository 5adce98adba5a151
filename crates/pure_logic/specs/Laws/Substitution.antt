-- Laws of substitution: it is admissible for trees, for what is proved, and for theorems.
use Rattle.std.specs.Prelude.{◌≡◌, List, map}
use Rattle.pure_text.specs.Lists.{IsIn, Each}
use Rattle.pure_definitions.specs.Names.{Label}
use Rattle.pure_definitions.specs.Types.Typ.{Typ}
use Rattle.pure_definitions.specs.Terms.Term.{Term}
use Rattle.pure_definitions.specs.Terms.Subst.{term_instance}
use Rattle.pure_logic.specs.Content.{Content, IsContent}
use Rattle.pure_logic.specs.Tree.{Tree, hyps_of, rests_of}
use Rattle.pure_logic.specs.Concludes.{AreRespecting, Concludes}
use Rattle.pure_logic.specs.Derivable.{Pair, Theorem, IsDerivable}
use Rattle.pure_logic.specs.Proves.{Proves}

-- A tree for the instance of what d concludes: from instances of the hypotheses of d, resting on the same promises.
pub record IsInstanceTree (Q : Content) (typs : Typ → Typ) (terms : Term → Term) (d : Tree) (C : Term) : Type 0 where
  pub tree : Tree
  pub concludes : Concludes Q tree (term_instance typs terms C)
  pub hyps : Each (λ A. IsIn A (map (term_instance typs terms) (hyps_of d))) (hyps_of tree)
  pub rests : rests_of tree ≡ rests_of d

-- Substitution is admissible: of what a tree concludes, a tree concludes each instance by respecting maps. The maps may move fixed variables too, and need not be those of any node.
abbrev pub SubstitutionOfTrees : Type 0
SubstitutionOfTrees = (Q : Content) → IsContent Q → (d : Tree) (C : Term) → Concludes Q d C → (typs : Typ → Typ) (terms : Term → Term) → AreRespecting Q typs terms → IsInstanceTree Q typs terms d C

-- So each instance of what is proved is proved from the instances of the hypotheses.
abbrev pub InstanceIsProved : Type 0
InstanceIsProved = (Q : Content) → IsContent Q → (typs : Typ → Typ) (terms : Term → Term) → AreRespecting Q typs terms → (hyps : List Term) (rests : List Label) (A : Term)
    → Proves Q hyps rests A → Proves Q (map (term_instance typs terms) hyps) rests (term_instance typs terms A)

-- the instance of a pair, and that of a theorem, whose promises stay
abbrev pub pair_instance : (typs : Typ → Typ) → (terms : Term → Term) → Pair → Pair
pair_instance typs terms p = record { left = term_instance typs terms p.left; right = term_instance typs terms p.right }

abbrev pub theorem_instance : (typs : Typ → Typ) → (terms : Term → Term) → Theorem → Theorem
theorem_instance typs terms th = record {
  hyps = map (term_instance typs terms) th.hyps;
  pairs = map (pair_instance typs terms) th.pairs;
  prop = term_instance typs terms th.prop;
  rests = th.rests;
}

-- Each instance of a derivable theorem by respecting maps is derivable.
abbrev pub InstanceIsDerivable : Type 0
InstanceIsDerivable = (Q : Content) → IsContent Q → (typs : Typ → Typ) (terms : Term → Term) → AreRespecting Q typs terms → (th : Theorem) → IsDerivable Q th → IsDerivable Q (theorem_instance typs terms th)
