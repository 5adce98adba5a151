-- Laws: what a finite model keeps, and what therefore isn't derivable.
use Rattle.std.specs.Prelude.{List, ◌∷◌}
use Rattle.pure_text.specs.Lists.{Each, AreDistinct}
use Rattle.pure_definitions.specs.Terms.Term.{Term, Bound}
use Rattle.pure_logic.specs.Connectives.{all, imp, eq}
use Rattle.pure_logic.specs.Tree.{Tree, hyps_of}
use Rattle.pure_logic.specs.Concludes.{Concludes}
use Rattle.pure_logic.specs.Derivable.{IsDerivableAlone}
use Rattle.pure_logic.specs.PureContent.{pure_content, any_typ, proposition_variable}
use Rattle.pure_consistency.specs.Values.{Value}
use Rattle.pure_consistency.specs.Model.{AreValues, IsTrueUnder}

-- What a tree over Pure's content concludes is true wherever its hypotheses are, in each model with some points, of which none is listed twice.
abbrev pub TreesKeepTruth : Type 0
TreesKeepTruth = (point : Value) (points : List Value) → AreDistinct (point ∷ points) → (d : Tree) (A : Term) → Concludes pure_content d A
    → (variables : Term → Value) → AreValues (point ∷ points) variables → Each (IsTrueUnder (point ∷ points) variables) (hyps_of d) → IsTrueUnder (point ∷ points) variables A

-- `!!x y :: ?'a. x == y`: there is one point at most
abbrev pub one_point : Term
one_point = all any_typ (all any_typ (eq any_typ (Bound 1) (Bound 0)))

-- That there is one point at most is neither derivable nor refutable: what follows from it isn't each proposition.
abbrev pub OnePointIsOpen : Type 0
OnePointIsOpen = (¬ IsDerivableAlone pure_content one_point) × (¬ IsDerivableAlone pure_content (imp one_point (proposition_variable 0)))
