-- What steps ask of goals and facts, from what the calls before answered.
use Rattle.std.proofs.Common.{◌≡◌, List, [], Result, Ok, Err, IfOk, ap, sym, subst}
use Rattle.pure_definitions.specs.Names.{Label}
use Rattle.pure_definitions.specs.Types.Typ.{Typ, prop}
use Rattle.pure_definitions.specs.Terms.Term.{Term}
use Rattle.pure_definitions.specs.Terms.Typing.{HasType}
use Rattle.pure_definitions.specs.Reduction.Beta.{IsBetaNormal}
use Rattle.pure_definitions.specs.Declarations.Certified.{IsCertified}
use Rattle.pure_logic.specs.Content.{Content, IsProposition}
use Rattle.pure_logic.specs.Derivable.{Theorem, IsDerivable}
use Rattle.pure_theorem.specs.Facts.{IsTheoryContent}
use Rattle.pure_theorem.specs.Built.{built_proposition}
use Rattle.pure_theorem.specs.declared.built.Built.{Built}
use Rattle.pure_theorem.specs.declared.built.Built.TheVariants.{Refl, Subst, Ext, Iff, Mp, Spec}
use Rattle.pure_rules.specs.Facts.{GivesBuilt}
use Rattle.pure_unify_laws.specs.Condition.{IsUnifyContent}
use Rattle.pure_goal_steps.specs.State.{State}
use Rattle.pure_goal_steps.specs.Follows.{Outcome}
use Rattle.pure_goal_steps.specs.declared.fault.StepFault.{StepFault}
use Rattle.pure_resolve.specs.Goals.{IsOutcome, IsStep}
use Rattle.pure_resolve.specs.Uses.{MayStep, MayUse}
use Rattle.pure_resolve.specs.declared.state.Goal.{Goal}
use Rattle.pure_proof_rows.specs.Fact.{IsReadyFact}

pub theory_content : (Q : Content) → IsUnifyContent Q → IsTheoryContent Q
theory_content Q u = record { content = u.content; above_pure = u.above }

-- A goal that a call answers may be stepped on.
pub begun : (Q : Content) (G : Outcome → Type 0) (R : List Label → Type 0) → IsTheoryContent Q → (result : Result Goal StepFault) → IsOutcome G R result → IfOk result (λ new. IsDerivable Q new.thm) → IfOk result (λ new. MayStep Q new.thm)
begun Q G R q (Ok new) (t, g, is, goal, r) d = record { content = q; is = record { state = t; is = is; goal = goal }; derivable = d }
begun Q G R q (Err fault) h d = tt

pub goes_on : (Q : Content) (G : State → Outcome → Type 0) (R : List Label → Type 0) (goal : Theorem) → IsTheoryContent Q → (result : Result Goal StepFault) → IsStep G goal R result → IfOk result (λ new. IsDerivable Q new.thm) → IfOk result (λ new. MayStep Q new.thm)
goes_on Q G R goal q result (s, is, kept, outcome) d = begun Q (G s) R q result outcome d

-- Each application in a built fact is of a constant or a variable.
built-normal : (which : Built) → IsBetaNormal (built_proposition which)
built-normal Refl = (λ h. h, (λ h. h, tt, tt), tt)
built-normal Subst = (λ h. h, (λ h. h, tt, (λ h. h, (λ h. h, tt, tt), tt)), (λ h. h, (λ h. h, tt, (λ h. h, tt, tt)), (λ h. h, tt, tt)))
built-normal Ext = (λ h. h, (λ h. h, tt, (λ h. h, tt, (λ h. h, (λ h. h, tt, (λ h. h, tt, tt)), (λ h. h, tt, tt)))), (λ h. h, (λ h. h, tt, tt), tt))
built-normal Iff = (λ h. h, (λ h. h, tt, (λ h. h, (λ h. h, tt, tt), tt)), (λ h. h, (λ h. h, tt, (λ h. h, (λ h. h, tt, tt), tt)), (λ h. h, (λ h. h, tt, tt), tt)))
built-normal Mp = (λ h. h, (λ h. h, tt, (λ h. h, (λ h. h, tt, tt), tt)), (λ h. h, (λ h. h, tt, tt), tt))
built-normal Spec = (λ h. h, (λ h. h, tt, (λ h. h, tt, (λ h. h, tt, tt))), (λ h. h, tt, tt))

pub ready : (Q : Content) (which : Built) (th : Theorem) → GivesBuilt which th → IsDerivable Q th → IsReadyFact Q th
ready Q which th e d = record {
  no_hyps = ap (λ (t : Theorem). t.hyps) e;
  no_pairs = ap (λ (t : Theorem). t.pairs) e;
  normal = subst IsBetaNormal (sym (ap (λ (t : Theorem). t.prop) e)) (built-normal which);
  derivable = d;
}

pub may_use : (Q : Content) (goal fact : Theorem) → MayStep Q goal → IsReadyFact Q fact → MayUse Q goal fact
may_use Q goal fact step r = record { step = step; no_hyps = r.no_hyps; no_pairs = r.no_pairs; normal = r.normal; derivable = r.derivable }

pub proposition : (Q : Content) (t : Term) (T : Typ) → IsCertified Q.declarations t → HasType [] t T → T ≡ prop → IsProposition Q t
proposition Q t T c h e = record { certified = c; typed = subst (HasType [] t) e h }
