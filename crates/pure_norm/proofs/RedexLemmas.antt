-- A redex within the limits: what it leaves of room, and when what it becomes doesn't fit.
use Rattle.std.proofs.Common.{◌≡◌, inl, inr, ℕ, ◌+◌, ◌*◌, ◌<◌, ◌≤◌, sym, arith}
use Rattle.std.specs.Prelude.{Some, None}
use Rattle.pure_definitions.specs.Types.Typ.{Typ, typ_size}
use Rattle.pure_definitions.specs.Terms.Term.{Term, Abs, App, term_size, term_depth}
use Rattle.pure_definitions.specs.Terms.Bounds.{subst_bound}
use Rattle.pure_norm.specs.declared.contract.Walk.{Walk}
use Rattle.pure_norm.specs.declared.fault.NormFault.TheVariants.{Big}
use Rattle.pure_norm.specs.Occurrences.{occurrence_count, deepest_occurrence, LeavesAfter}
use Rattle.pure_norm.specs.Walk.{Fits, nodes_at, CanWalk, Contracted, CannotContract}
use Rattle.pure_norm.proofs.OccurrenceLemmas.{size-put, depth-put, reaches, deepest-le}

module _ (deep : ℕ) (before : Walk) (T : Typ) (b a : Term) (can : CanWalk deep before (App (Abs T b) a)) where
  pub deepest-redex : deepest_occurrence 0 deep b ≤ 2000
  deepest-redex = let low = can.shallow in let high = deepest-le 0 deep b in omega arith

  module _ (count deepest : ℕ) (often : count ≡ occurrence_count 0 b) (low : deepest ≡ deepest_occurrence 0 deep b) where
    -- the redex contracted, to what fits
    pub redex-contracted : (now : Walk) (u : Term) → now.steps + 1 ≡ before.steps → u ≡ subst_bound b a
        → LeavesAfter (before.room + 2 + typ_size T) count deepest (term_size a) (term_depth a) (Some now.room) → Contracted deep before now (App (Abs T b) a) u
    redex-contracted now u counted same left =
        let shallow = can.shallow in
        let sizes : term_size (subst_bound b a) + count ≡ term_size b + count * term_size a = rw often (size-put 0 a b) in
        let rest = left.0 in
        let kept : nodes_at now (subst_bound b a) ≡ nodes_at before (App (Abs T b) a) = omega arith in
        record {
          step = λ i. Some (sym same i);
          counted = counted;
          kept = rw same kept;
          shallow = rw same (depth-put 0 deep 2000 a b (omega arith) (λ some. let reached = left.1 (omega arith) in omega arith));
        }

    -- what it would become doesn't fit
    pub redex-too_large : 0 < before.steps → LeavesAfter (before.room + 2 + typ_size T) count deepest (term_size a) (term_depth a) None → CannotContract deep before (App (Abs T b) a) Big
    redex-too_large some left = (subst_bound b a, (λ i. Some (subst_bound b a)), large left, some)
      where
        large : LeavesAfter (before.room + 2 + typ_size T) count deepest (term_size a) (term_depth a) None → ¬ Fits (nodes_at before (App (Abs T b) a)) deep (subst_bound b a)
        large (inl h) fits =
            let few = fits.few in
            let sizes : term_size (subst_bound b a) + count ≡ term_size b + count * term_size a = rw often (size-put 0 a b) in
            absurd (omega arith)
        large (inr h) fits = elim (reaches 0 deep a b) [
          | inl none ↦ (let here = h.0 in let nowhere = none.0 in absurd (omega arith))
          | inr found ↦ (let reached = found.1 in let deeper = h.1 in let shallow = fits.shallow in absurd (omega arith))
        ]
