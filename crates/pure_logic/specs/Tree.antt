-- Derivation trees (Isabelle/Isar Implementation manual, section 2.3): the primitive inferences, the axioms of equality, and axioms and promises of a content at an instance.
use Rattle.std.specs.Prelude.{ℕ, List, [], ◌∷◌, ◌++◌, if◌then◌else◌}
use Rattle.pure_definitions.specs.Names.{Label}
use Rattle.pure_definitions.specs.Types.Typ.{Typ}
use Rattle.pure_definitions.specs.Terms.Term.{Term, term_eq}
use Rattle.pure_definitions.specs.Terms.Subst.{TypBind, TermBind, typ_image, term_image, retyped_variable}

-- A node for each inference, with the terms that it speaks of and the trees above it. An axiom or a promise has a type map and a term map, which instantiate it all at once.
pub data Tree : Type 0 where
  Axiom : (name : ℕ) → (typs : Typ → Typ) → (terms : Term → Term) → Tree
  Promise : (label : Label) → (typs : Typ → Typ) → (terms : Term → Term) → Tree
  Assume : (proposition : Term) → Tree
  AllIntro : (variable : Term) → Tree → Tree
  AllElim : (term : Term) → Tree → Tree
  ImpliesIntro : (premise : Term) → Tree → Tree
  ImpliesElim : (implication premise : Tree) → Tree
  Beta : (redex : Term) → Tree
  Refl : (term : Term) → Tree
  Subst : (abstraction left right : Term) → Tree
  Ext : (left right : Term) → Tree
  Iff : (left right : Term) → Tree

-- the hypotheses without a term, at each place where it stands
abbrev pub without : Term → List Term → List Term
without A [] = []
without A (B ∷ Bs) = if term_eq A B then without A Bs else B ∷ without A Bs

-- The hypotheses of a tree: what it assumes, but for what is discharged below.
abbrev pub hyps_of : Tree → List Term
hyps_of (Assume A) = A ∷ []
hyps_of (AllIntro x d) = hyps_of d
hyps_of (AllElim t d) = hyps_of d
hyps_of (ImpliesIntro A d) = without A (hyps_of d)
hyps_of (ImpliesElim d e) = hyps_of d ++ hyps_of e
hyps_of _ = []

-- The labels of the promises on which a tree rests.
abbrev pub rests_of : Tree → List Label
rests_of (Promise l typs terms) = l ∷ []
rests_of (AllIntro x d) = rests_of d
rests_of (AllElim t d) = rests_of d
rests_of (ImpliesIntro A d) = rests_of d
rests_of (ImpliesElim d e) = rests_of d ++ rests_of e
rests_of _ = []

-- The term map that joins two finite maps as the calls have them: the types are put in first, and the terms after them, for variables written with their new types.
abbrev pub joined_terms : List TypBind → List TermBind → Term → Term
joined_terms typs terms v = term_image terms (retyped_variable (typ_image typs) v)
