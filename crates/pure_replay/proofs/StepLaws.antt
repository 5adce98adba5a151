-- What a step answers, said of something else.
use Rattle.std.proofs.Common.{◌≡◌, ℕ, List, refl, sym, ◌∙◌, subst}
use Rattle.std.specs.Prelude.{Some, None, slice_get, Result, Ok, Err}
use Rattle.std.proofs.lemmas.Option.{none-some, same_Some}
use Rattle.pure_replay.specs.Conclusion.{Conclusion}
use Rattle.pure_replay.specs.Step.{IsStep}
use Rattle.pure_logic.specs.Content.{Content}
use Rattle.pure_record.specs.Lines.{Node}
use Rattle.pure_replay.specs.Inferred.{HasAt, Infers}
use Rattle.pure_replay.specs.Table.{IsPut, IsStepFault, IsStepped, fault_of}
use Rattle.pure_replay.specs.declared.fault.ReplayFault.{ReplayFault}
use Rattle.pure_replay.specs.declared.fault.ReplayFault.TheVariants as fault
use Rattle.pure_replay.specs.declared.fault.NodeFault.{NodeFault}
use Rattle.pure_replay.specs.declared.fault.NodeFault.TheVariants.{Wrong, Big, Memory}

pub step-along : (P R : Conclusion → Type 0) → ((c : Conclusion) → P c → R c) → ((c : Conclusion) → R c → P c) → (r : Result Conclusion NodeFault) → IsStep P r → IsStep R r
step-along P R to back (Ok c) h = to c h
step-along P R to back (Err Wrong) h = λ c k. h c (back c k)
step-along P R to back (Err Big) h = (h.0, to h.0 h.1, h.2)
step-along P R to back (Err Memory) h = tt

-- the one conclusion that a step makes
pub step-made : (made : Conclusion) (R : Conclusion → Type 0) → R made → (r : Result Conclusion NodeFault) → IsStep (λ c. c ≡ made) r → IsStep R r
step-made made R has (Ok c) h = subst R (sym h) has
step-made made R has (Err Wrong) h = absurd (h made refl)
step-made made R has (Err Big) h = (h.0, subst R (sym h.1) has, h.2)
step-made made R has (Err Memory) h = tt

-- the conclusion with a number
pub step-at : (cs : List Conclusion) (n : ℕ) (e : Conclusion) (P : Conclusion → Conclusion → Type 0) → slice_get cs n ≡ Some e → (r : Result Conclusion NodeFault) → IsStep (P e) r → IsStep (λ c. HasAt cs n (λ e. P e c)) r
step-at cs n e P at = step-along (P e) (λ c. HasAt cs n (λ e. P e c)) (λ c h. (e, at, h)) (λ c h. subst (λ f. P f c) (same_Some h.0 e (sym h.1 ∙ at)) h.2)

pub step-nowhere : (cs : List Conclusion) (n : ℕ) (P : Conclusion → Conclusion → Type 0) → slice_get cs n ≡ None → (c : Conclusion) → ¬ HasAt cs n (λ e. P e c)
step-nowhere cs n P none c h = none-some h.0 (sym none ∙ h.1)

-- A node that infers nothing, or something that is put behind the others, as the line at its place.
module _ (Q : Content) (node : Node) (place : ℕ) (old : List Conclusion) (left : ℕ) (new : List Conclusion) (rest : ℕ) where
  pub fault-step : (f : NodeFault) → IsStep (Infers Q old node) (Err f) → IsStepFault Q node place old left (fault_of f place)
  fault-step Wrong h = (refl, h)
  fault-step Big h = (refl, (h.0, h.1, λ room. h.2 room.within))
  fault-step Memory h = tt

  pub put-step : {T : Type 0} (last : Conclusion) → Infers Q old node last → (r : Result T ReplayFault) → IsPut old left new rest last place r → IsStepped Q node place old left new rest r
  put-step last infers (Ok x) h = (last, infers, h)
  put-step last infers (Err (fault.Content k)) h = absurd h
  put-step last infers (Err (fault.Line k)) h = absurd h
  put-step last infers (Err (fault.Big k)) h = (h.0, (last, infers, h.1))
  put-step last infers (Err fault.Open) h = absurd h
  put-step last infers (Err fault.Empty) h = absurd h
  put-step last infers (Err fault.Memory) h = tt
