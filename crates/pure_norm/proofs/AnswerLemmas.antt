-- The walk from a whole term gives the normaliser's answer.
use Rattle.std.proofs.Common.{◌≡◌, ℕ, zero, suc, List, [], ◌∷◌, length, refl, ap, sym, subst, arith}
use Rattle.std.specs.Prelude.{Some, Err}
use Rattle.pure_text.specs.Lists.{Each}
use Rattle.pure_definitions.specs.Terms.Term.{Term, IsWithin, term_size, term_depth, max_size, max_depth}
use Rattle.pure_definitions.specs.Terms.Limits.{Leaves}
use Rattle.pure_definitions.specs.Reduction.Beta.{IsBetaNormal, beta_step, IsBetaSequence, TooLarge, NormalForm, TooManySteps, max_steps, IsBetaAnswer}
use Rattle.pure_term_laws.proofs.BetaLaws.{step-not_normal}
use Rattle.pure_norm.specs.declared.contract.Walk.{Walk}
use Rattle.pure_norm.specs.declared.fault.NormFault.{NormFault}
use Rattle.pure_norm.specs.declared.fault.NormFault.TheVariants.{Steps, Big, Memory}
use Rattle.pure_norm.specs.Walk.{Normal, Fits, Leads, nodes_at, Walked, Outgrows, RunsOut, Fails}
use Rattle.pure_norm.specs.NormAnswer.{IsNormAnswer}
use Rattle.pure_norm.proofs.BetaLaws.{normal_form-of_normal}

fits-within : (t : Term) → Fits max_size 0 t → IsWithin t
fits-within t h = let low = h.shallow in record { size = h.few; depth = omega arith }

within-fits : (t : Term) → IsWithin t → Fits max_size 0 t
within-fits t h = let low = h.depth in record { few = h.size; shallow = omega arith }

-- So many steps lead from t to u, and the terms before u decide no answer before the last step.
record IsRun (steps : ℕ) (t u : Term) : Type 0 where
  before : List Term
  sequence : IsBetaSequence t before u
  undecided : Each (λ v. IsWithin v × (¬ IsBetaNormal v)) before
  counted : length before ≡ steps

run_of : (n : ℕ) (t u : Term) → Leads Normal max_size 0 t n u → IsRun n t u
run_of zero t u h = record { before = []; sequence = h; undecided = tt; counted = refl }
run_of (suc n) t u h =
    let rest = run_of n h.2.0 u h.2.2 in
    record {
      before = t ∷ rest.before;
      sequence = (refl, (h.2.0, h.2.1, rest.sequence));
      undecided = ((fits-within t h.0, step-not_normal t h.2.0 h.2.1), rest.undecided);
      counted = ap (λ (k : ℕ). suc k) rest.counted;
    }

-- The last of some steps, and those before it.
leads-last : (n : ℕ) (t u : Term) → Leads Normal max_size 0 t (suc n) u → (v : Term) × Leads Normal max_size 0 t n v × Fits max_size 0 v × (beta_step v ≡ Some u)
leads-last zero t u h = (t, refl, h.0, subst (λ w. beta_step t ≡ Some w) h.2.2 h.2.1)
leads-last (suc n) t u h = let rest = leads-last n h.2.0 u h.2.2 in (rest.0, (h.0, h.1, (h.2.0, h.2.1, rest.1)), rest.2, rest.3)

-- The walk from a term within the limits begins with all the steps, and with the room that the term leaves.
pub record IsBeginning (walk : Walk) (t : Term) : Type 0 where
  pub all_steps : walk.steps ≡ max_steps
  pub all_room : nodes_at walk t ≡ max_size

pub beginning : (rest : ℕ) (t : Term) → Leaves max_size max_depth (term_size t) (term_depth t) (Some rest) → IsBeginning (record { steps = max_steps; room = rest }) t
beginning rest t h = record { all_steps = refl; all_room = h.0 }

whole-leads : (walk : Walk) (n : ℕ) (t u : Term) → IsBeginning walk t → Leads Normal (nodes_at walk t) 0 t n u → Leads Normal max_size 0 t n u
whole-leads walk n t u b h = subst (λ k. Leads Normal k 0 t n u) b.all_room h

pub walked-answer : (walk now : Walk) (t u : Term) → IsBeginning walk t → Walked Normal 0 walk now t u → IsBetaNormal u → IsBetaAnswer t (NormalForm u)
walked-answer walk now t u b h normal =
    let run = run_of h.taken t u (whole-leads walk h.taken t u b h.leads) in
    let steps = b.all_steps in
    let room = b.all_room in
    let left = h.counted in
    let counted = run.counted in
    let kept = h.kept in
    let low = h.shallow in
    record {
      before = run.before;
      last = u;
      sequence = run.sequence;
      undecided = run.undecided;
      in_time = omega arith;
      decided = (record { size = omega arith; depth = omega arith }, normal, refl);
    }

outgrows-answer : (walk : Walk) (t : Term) → IsBeginning walk t → Outgrows Normal 0 walk t → IsBetaAnswer t TooLarge
outgrows-answer walk t b h =
    let run = run_of h.taken t h.last (whole-leads walk h.taken t h.last b h.leads) in
    let steps = b.all_steps in
    let counted = run.counted in
    let time = h.in_time in
    record {
      before = run.before;
      last = h.last;
      sequence = run.sequence;
      undecided = run.undecided;
      in_time = omega arith;
      decided = λ within. h.large (subst (λ k. Fits k 0 h.last) (sym b.all_room) (within-fits h.last within));
    }

runs_out-answer : (walk : Walk) (t : Term) → IsBeginning walk t → RunsOut Normal 0 walk t → IsBetaAnswer t TooManySteps
runs_out-answer walk t b h =
    let more : h.taken ≡ suc walk.steps = (let e = h.more in omega arith) in
    let last = leads-last walk.steps t h.next (subst (λ k. Leads Normal max_size 0 t k h.next) more (whole-leads walk h.taken t h.next b h.leads)) in
    let run = run_of walk.steps t last.0 last.1 in
    let steps = b.all_steps in
    let counted = run.counted in
    record {
      before = run.before;
      last = last.0;
      sequence = run.sequence;
      undecided = run.undecided;
      in_time = omega arith;
      decided = (fits-within last.0 last.2, step-not_normal last.0 h.next last.3, omega arith);
    }

pub fails-answer : (walk : Walk) (t : Term) (fault : NormFault) → IsBeginning walk t → Fails Normal 0 walk t fault → IsNormAnswer t (Err fault)
fails-answer walk t Big b h = outgrows-answer walk t b h
fails-answer walk t Steps b h = runs_out-answer walk t b h
fails-answer walk t Memory b h = tt

-- A normal term within the limits is its own normal form.
pub normal-answer : (rest : ℕ) (t u : Term) → Leaves max_size max_depth (term_size t) (term_depth t) (Some rest) → IsBetaNormal t → u ≡ t → IsBetaAnswer t (NormalForm u)
normal-answer rest t u h normal same =
    let room = h.0 in
    let low = h.1 in
    let within : IsWithin t = record { size = omega arith; depth = omega arith } in
    subst (λ v. IsBetaAnswer t (NormalForm v)) (sym same) (normal_form-of_normal t within normal)
