-- A node that fails has no solution.
use Rattle.std.proofs.Common.{◌≡◌, ℕ, List, [], ◌∷◌, true, subst}
use Rattle.pure_text.specs.Lists.{Each}
use Rattle.pure_definitions.specs.Types.Typ.{Typ}
use Rattle.pure_definitions.specs.Types.Order.{Algebra}
use Rattle.pure_definitions.specs.Terms.Term.{Term, Const, Free, Var, Bound, Abs, App}
use Rattle.pure_definitions.specs.Terms.Conditions.{IsVariable}
use Rattle.pure_definitions.specs.Terms.Subst.{inst_term}
use Rattle.pure_definitions.specs.Reduction.Eta.{IsLongForm}
use Rattle.pure_logic.specs.Derivable.{Pair}
use Rattle.pure_reduction.specs.LongForms.{HasLongForm, HaveOneLongForm}
use Rattle.pure_reduction.proofs.LongLaws.{one_long_form_of_term, long_form_of_normal}
use Rattle.pure_unify_definitions.specs.Fronts.{is_schematic}
use Rattle.pure_unify_definitions.specs.Firm.{occurs_firmly}
use Rattle.pure_unify_definitions.specs.Node.{Node}
use Rattle.pure_unify_definitions.specs.Treatment.{Fail, IsTreatment, IsBareSide, left_bare, right_bare}
use Rattle.pure_unify_definitions.specs.Retyping.{Fails}
use Rattle.pure_unify_definitions.specs.Simplification.{Applies}
use Rattle.pure_solutions.specs.Solutions.{IsTermSubstitution, SolvesPair, SolvesPairs}
use Rattle.pure_solutions.proofs.SolutionLaws.{longer-map, solved_by_same_images}
use Rattle.pure_unify_final.specs.Laws.{FailuresHaveNoSolution}
use Rattle.pure_unify_final.proofs.SideLaws.{IsLongPair}
use Rattle.pure_unify_final.proofs.RuleLaws.{AreSolvedIn, bare-solved, middle, rigid-sides, differ-unsolved, unify-unsolved, long-solved}
use Rattle.pure_unify_final.proofs.FirmLaws.{firm-unsolved}

-- The images of the map are in long form.
abbrev pub AreImagesLong : (Term → Term) → Type 0
AreImagesLong terms = (x i : ℕ) (T : Typ) → IsLongForm (terms (Var x i T)) (terms (Var x i T))

same-solved : (terms others : Term → Term) → IsTermSubstitution terms → IsTermSubstitution others → ((v : Term) → IsVariable v → HaveOneLongForm (terms v) (others v)) → (ps : List Pair) → Each IsLongPair ps → SolvesPairs terms ps → SolvesPairs others ps
same-solved terms others s r same [] h k = tt
same-solved terms others s r same (p ∷ ps) h k =
    (solved_by_same_images terms others s r p h.0.0.0 h.0.1.0 h.0.0.1.typed h.0.1.1.typed (λ v is o. same v is) (λ v is o. same v is) k.0, same-solved terms others s r same ps h.1 k.1)

-- What a map solves, one with images in long form solves.
pub longer-solved : (terms : Term → Term) → IsTermSubstitution terms → (V : Term → Type 0) (ps : List Pair) → AreSolvedIn terms V ps
    → (others : Term → Term) × IsTermSubstitution others × AreImagesLong others × AreSolvedIn others V ps
longer-solved terms s V ps h =
    let map = longer-map terms s in
    (map.0, map.1, map.2, record { long = h.long; variables = h.variables; solved = same-solved terms map.0 s map.1 map.3 ps h.long h.solved })

bare-variable : {l r v other : Term} → IsBareSide l r v other → is_schematic v ≡ true
bare-variable (left_bare b e) = b.variable
bare-variable (right_bare n b e) = b.variable

module _ (terms : Term → Term) (s : IsTermSubstitution terms) (long : AreImagesLong terms) where
  variable-firm : (v other : Term) → is_schematic v ≡ true → occurs_firmly v other ≡ true → HaveOneLongForm (inst_term terms v) (inst_term terms other) → ⊥
  variable-firm (Var x i T) other e firm (w, h, k) =
      let own = long_form_of_normal (terms (Var x i T)) (terms (Var x i T)) (long x i T) in
      let same : w ≡ terms (Var x i T) = one_long_form_of_term (terms (Var x i T)) w (terms (Var x i T)) h own in
      firm-unsolved terms s x i T (long x i T) other firm (subst (HasLongForm (inst_term terms other)) same k)
  variable-firm (Const c T) other e firm h = absurd (cc)
  variable-firm (Free x T) other e firm h = absurd (cc)
  variable-firm (Bound p) other e firm h = absurd (cc)
  variable-firm (Abs T b) other e firm h = absurd (cc)
  variable-firm (App f a) other e firm h = absurd (cc)

  failed-pair : (p : Pair) → IsLongPair p → IsTreatment p.left p.right Fail → SolvesPair terms p → ⊥
  failed-pair p k (IsTreatment.firm {v = v} {other = other} typed side firm) solved =
      variable-firm v other (bare-variable side) firm (bare-solved terms s p typed.typ v other typed.left typed.right side solved)
  failed-pair p k (IsTreatment.clash r apart) solved = apart.differ (rigid-sides terms s p k r solved).0

  pub fails-unsolved : (A : Algebra) (maxidx : ℕ) (n : Node) (V : Term → Type 0) → Applies A maxidx n Fails → AreSolvedIn terms V n.pairs → ⊥
  fails-unsolved A maxidx n V (Applies.retypes {front = front} {rest = rest} {p = p} {T = T} {U = U} first r) h = differ-unsolved terms s p T U first.treated (middle terms s (SolvesPair terms) n.pairs front rest p first.stands h.solved)
  fails-unsolved A maxidx n V (Applies.fails {front = front} {rest = rest} {p = p} first) h =
      failed-pair p (middle terms s IsLongPair n.pairs front rest p first.stands h.long) first.treated (middle terms s (SolvesPair terms) n.pairs front rest p first.stands h.solved)
  fails-unsolved A maxidx n V (Applies.unify_fails {front = front} {rest = rest} {p = p} {T = T} {U = U} first r) h =
      unify-unsolved terms s p T U (middle terms s IsLongPair n.pairs front rest p first.stands h.long) first.treated (middle terms s (SolvesPair terms) n.pairs front rest p first.stands h.solved)

pub failures_have_no_solution : FailuresHaveNoSolution
failures_have_no_solution A maxidx n step long terms s h =
    let map = longer-solved terms s (λ v. Unit {0}) n.pairs (long-solved terms n.pairs long h) in
    fails-unsolved map.0 map.1 map.2 A maxidx n (λ v. Unit {0}) step map.3
