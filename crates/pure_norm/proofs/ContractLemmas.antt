-- The contraction of a redex whose function's body is held in an environment.
use Rattle.std.proofs.Common.{◌≡◌, ◌∙◌, ℕ, ◌+◌, ◌<◌, ◌≤◌, sym, ap, subst, arith}
use Rattle.std.specs.Prelude.{Option, Some, None}
use Rattle.pure_definitions.specs.Types.Typ.{Typ, typ_size}
use Rattle.pure_definitions.specs.Terms.Term.{Term, Abs, App, term_size, term_depth}
use Rattle.pure_definitions.specs.Terms.Bounds.{subst_bound, subst_under}
use Rattle.pure_norm.specs.declared.contract.Walk.{Walk}
use Rattle.pure_norm.specs.declared.measure.Measure.{Measure}
use Rattle.pure_norm.specs.declared.fault.NormFault.TheVariants.{Big, Steps}
use Rattle.pure_norm.specs.Env.{Env, Bind, meant, meant_under}
use Rattle.pure_norm.specs.Measures.{measure_of}
use Rattle.pure_norm.specs.Occurrences.{occurrence_count, deepest_occurrence, LeavesAfter}
use Rattle.pure_norm.specs.Walk.{CanWalk, Contracted, CannotContract}
use Rattle.pure_norm.proofs.MeantLemmas.{size-le-meant, depth-le-meant}
use Rattle.pure_norm.proofs.KeptLemmas.{count-kept, deepest-kept}
use Rattle.pure_norm.proofs.RedexLemmas.{deepest-redex, redex-contracted, redex-too_large}

-- what is asked of the body
pub record IsFewBody (deep : ℕ) (body : Term) : Type 0 where
  pub few : term_size body ≤ 200000
  pub deep_enough : deep + term_depth body ≤ 10000

module _ (deep : ℕ) (before : Walk) (T : Typ) (e : Env) (body a : Term) (can : CanWalk deep before (App (Abs T (meant_under 1 e body)) a)) where
  pub few-body : IsFewBody deep body
  few-body =
      let few = can.few in
      let shallow = can.shallow in
      let size = size-le-meant 1 e body in
      let depth = depth-le-meant 1 e body in
      record { few = omega arith; deep_enough = omega arith }

  pub no_step : before.steps ≡ 0 → CannotContract deep before (App (Abs T (meant_under 1 e body)) a) Steps
  no_step none = (subst_bound (meant_under 1 e body) a, (λ i. Some (subst_bound (meant_under 1 e body) a)), none)

  module _ (count deepest : ℕ) (often : count ≡ occurrence_count 0 body) (low : deepest ≡ deepest_occurrence 0 deep body) where
    often-meant : count ≡ occurrence_count 0 (meant_under 1 e body)
    often-meant = often ∙ sym (count-kept 0 1 e body (omega arith))

    low-meant : deepest ≡ deepest_occurrence 0 deep (meant_under 1 e body)
    low-meant = low ∙ sym (deepest-kept 0 1 deep e body (omega arith))

    pub deepest-low : deepest ≤ 2000
    deepest-low = let h = deepest-redex deep before T (meant_under 1 e body) a can in omega (arith, low-meant)

    module _ (m : Measure) (measured : m ≡ measure_of a) where
      left-of : (r : Option ℕ) → LeavesAfter (before.room + 2 + typ_size T) count deepest m.size m.depth r
          → LeavesAfter (before.room + 2 + typ_size T) count deepest (term_size a) (term_depth a) r
      left-of r h = subst (λ (k : Measure). LeavesAfter (before.room + 2 + typ_size T) count deepest k.size k.depth r) measured h

      pub bound-contracted : (now : Walk) (c : Term) (i : Env) → now.steps + 1 ≡ before.steps → meant i c ≡ a
          → LeavesAfter (before.room + 2 + typ_size T) count deepest m.size m.depth (Some now.room)
          → Contracted deep before now (App (Abs T (meant_under 1 e body)) a) (meant (Bind c i e) body)
      bound-contracted now c i counted same left =
          redex-contracted deep before T (meant_under 1 e body) a can count deepest often-meant low-meant now (meant (Bind c i e) body) counted
          (ap (λ (x : Term). subst_under 0 x (meant_under 1 e body)) same) (left-of (Some now.room) left)

      pub bound-too_large : 0 < before.steps → LeavesAfter (before.room + 2 + typ_size T) count deepest m.size m.depth None
          → CannotContract deep before (App (Abs T (meant_under 1 e body)) a) Big
      bound-too_large some left =
          redex-too_large deep before T (meant_under 1 e body) a can count deepest often-meant low-meant some (left-of None left)
