-- Theorems that settle promises fulfil them.
use Rattle.std.proofs.Common.{◌≡◌, ◌∙◌, ◌<◌, ℕ, zero, suc, List, [], ◌∷◌, take, map, sym, ap, subst, arith, Some, slice_get, inl, inr}
use Rattle.std.proofs.lemmas.Option.{none-some, same_Some}
use Rattle.pure_text.specs.Lists.{IsIn, Each}
use Rattle.pure_text.proofs.ListLaws.{each_at, each_of}
use Rattle.pure_logic.specs.Derivable.{Theorem}
use Rattle.pure_check_work.specs.Theory.Certified.{Certified}
use Rattle.pure_graph.specs.Order.{Loaded}
use Rattle.pure_check_work.specs.Declare.Notes.{Fork}
use Rattle.pure_check_work.specs.Method.Outcome.{IsOutcomeOf}
use Rattle.pure_check_work.specs.Method.declared.outcome.Outcome.{Outcome}
use Rattle.pure_check_work.specs.Method.declared.outcome.Outcome.TheVariants.{Proved}
use Rattle.pure_check_work.proofs.Method.FaultLaws.{rests_in-promised}
use Rattle.pure_check_work.specs.Promise.Accepting.{IsForkedBefore}
use Rattle.pure_check_work.specs.TheoryRun.Outline.{Outline}
use Rattle.pure_check_work.specs.Table.Fulfilled.{IsResultOf}
use Rattle.pure_check_work.proofs.Table.ClaimLaws.{IsPromised}
use Rattle.pure_check_work.proofs.Table.FulfilledLaws.{same-below}
use Rattle.pure_machine.specs.State.{State, Promise, Settled}
use Rattle.pure_machine.specs.Step.{Stands}
use Rattle.pure_core_end.proofs.ToldLaws.{told-legal}
use Rattle.pure_check_work.specs.Relations.{shape_of, ForksAfter, ClosesAfter, is_fault}
use Rattle.pure_check_work.specs.Cancelled.{lemmas_of}
use Rattle.pure_check_work.proofs.EarlierLaws.{promises_come_before}
use Rattle.pure_checking_laws.specs.Settled.{IsReached, forked_labels}
use Rattle.pure_checking_laws.specs.Laws.{OutcomesFulfil, RestsComeBefore}

-- the label of a promise is one of those before each greater number
label-before : (ps : List (Promise Fork Outcome)) (m n : ℕ) (p : Promise Fork Outcome) → slice_get ps m ≡ Some p → m < n → IsIn (p.goal).label (take n (map Fork.label (lemmas_of ps)))
label-before [] m n p e less = absurd (none-some p e)
label-before (q ∷ ps) m zero p e less = absurd (omega (arith, less))
label-before (q ∷ ps) zero (suc n) p e less = inl (ap (λ (x : Promise Fork Outcome). (x.goal).label) (sym (same_Some q p e)))
label-before (q ∷ ps) (suc m) (suc n) p e less = inr (label-before ps m n p e (omega (arith, less)))

module _ (texts : List (List ℕ)) (theories : List Loaded) (s : State Fork Outline Outcome) (legal : IsReached texts theories s) where
  -- the theorem is the result of the promise's lemma
  pub settled-result : (number : ℕ) (p : Promise Fork Outcome) → Stands s number p → (c : Certified) → p.standing ≡ Settled (Proved c) → IsResultOf texts p.goal c
  settled-result number p stands c settled =
      let told = told-legal (shape_of theories) (ForksAfter texts theories) (ClosesAfter texts theories) (IsOutcomeOf texts) is_fault s legal in
      let h = told.outcomes number p (Proved c) stands settled in
      record { labels = c.theorem.rests; content = ap (λ (r : Certified). r.content) h.1; states = ap (λ (r : Certified). r.theorem) h.1; proof = h.0 }

pub rests_come_before : RestsComeBefore
rests_come_before texts theories loaded s legal number p stands c settled l among =
    let f = p.goal in
    let result = settled-result texts theories s legal number p stands c settled in
    let promised = each_at (IsPromised f) result.labels (rests_in-promised texts f.content f.lemma f.fixed f.script result.labels result.proof) l
    (subst (λ (th : Theorem). IsIn l th.rests) result.states among) in
    (promised.0, promises_come_before texts theories loaded s legal number p stands promised.1.0 l promised.0 promised.1.1)

pub outcomes_fulfil : OutcomesFulfil
outcomes_fulfil texts theories loaded s legal number p stands c settled promise of =
    let result = settled-result texts theories s legal number p stands c settled in
    let before : Each (IsForkedBefore (forked_labels s) number) c.theorem.rests = each_of (IsForkedBefore (forked_labels s) number) c.theorem.rests (λ l among.
    let earlier = (rests_come_before texts theories loaded s legal number p stands c settled l among).1 in
    subst (IsForkedBefore (forked_labels s) number) earlier.3 (label-before s.promises earlier.0 number earlier.1 earlier.2 earlier.5)) in (
      (((same-below c.content promise.stage.value (result.content ∙ sym of.content), ap Theorem.prop result.states ∙ sym of.prop), ap Theorem.hyps result.states), ap Theorem.pairs result.states),
      subst (λ n. Each (IsForkedBefore (forked_labels s) n) c.theorem.rests) (sym of.number_is) before,
    )
