-- Laws of the answer of the search for a unifier: that there is one, and what a unifier does.
use Rattle.std.specs.Prelude.{◌≡◌, ℕ, List}
use Rattle.pure_definitions.specs.Terms.Term.{Term}
use Rattle.pure_definitions.specs.Terms.Subst.{term_image, term_instance, inst_typ, inst_term}
use Rattle.pure_definitions.specs.Declarations.Decl.{algebra_of}
use Rattle.pure_logic.specs.Content.{Content}
use Rattle.pure_logic.specs.PureContent.{pure_content}
use Rattle.pure_logic.specs.Derivable.{Pair}
use Rattle.pure_unify_definitions.specs.Search.{Unifier, Answer, Unified, IsUnifyAnswer}
use Rattle.pure_unify_laws.specs.Condition.{IsUnifyContent, AreUnifiable}
use Rattle.pure_unify_answers.specs.Maps.{unifier_typs, unifier_terms, Solves, IsFiniteUnifier}

-- The search has an answer for all pairs within its condition.
abbrev pub SearchHasAnAnswer : Type 0
SearchHasAnAnswer = (Q : Content) → IsUnifyContent Q → (maxidx : ℕ) (ps : List Pair) → AreUnifiable Q maxidx ps → (answer : Answer) × IsUnifyAnswer (algebra_of Q.declarations) maxidx ps answer

-- A unifier that it answers solves the pairs.
abbrev pub UnifierSolves : Type 0
UnifierSolves = (Q : Content) → IsUnifyContent Q → (maxidx : ℕ) (ps : List Pair) → AreUnifiable Q maxidx ps → (u : Unifier) → IsUnifyAnswer (algebra_of Q.declarations) maxidx ps (Unified u) → Solves Q ps u

-- And it is two finite maps.
abbrev pub UnifierIsFinite : Type 0
UnifierIsFinite = (Q : Content) → IsUnifyContent Q → (maxidx : ℕ) (ps : List Pair) → AreUnifiable Q maxidx ps → (u : Unifier) → IsUnifyAnswer (algebra_of Q.declarations) maxidx ps (Unified u) → IsFiniteUnifier Q u

-- Pure's own content is one over which terms are unified.
abbrev pub PureIsUnifyContent : Type 0
PureIsUnifyContent = IsUnifyContent pure_content

-- The two maps of a unifier, put in at once, are the type map and then the finite term map.
abbrev pub MapsOneAfterTheOther : Type 0
MapsOneAfterTheOther = (u : Unifier) (t : Term) → inst_term (term_image u.terms) (inst_typ (unifier_typs u) t) ≡ term_instance (unifier_typs u) (unifier_terms u) t
