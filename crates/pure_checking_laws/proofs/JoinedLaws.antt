-- What joined labels state is derivable from axioms alone.
use Rattle.std.proofs.Common.{◌≡◌, ◌∙◌, ◌<◌, ℕ, zero, suc, List, [], length, take, map, refl, sym, ap, subst, arith}
use Rattle.pure_text.specs.Lists.{IsIn}
use Rattle.pure_text.proofs.ListLaws.{each_of}
use Rattle.pure_definitions.specs.Names.{Label}
use Rattle.pure_definitions.specs.Terms.Term.{Term}
use Rattle.pure_definitions.specs.Declarations.Decl.{PromiseDecl}
use Rattle.pure_logic.specs.Content.{IsBelow}
use Rattle.pure_logic.specs.Derivable.{Theorem, IsDerivableAlone}
use Rattle.pure_logic.specs.Laws.Promises.{IsSettled}
use Rattle.pure_logic.proofs.PromiseLaws.{settled_is_derivable}
use Rattle.pure_logic.proofs.WeakeningLaws.{weakening_of_derivable}
use Rattle.pure_check_work.specs.Theory.Certified.{Certified}
use Rattle.pure_promise_fates.specs.Entries as fates
use Rattle.pure_promise_fates.specs.Entries.{Shown, Became, RestsOn, Reaches, directly, through}
use Rattle.pure_promise_fates.proofs.FateLaws.{shown-fault, shown-cancelled}
use Rattle.pure_promise_fates.proofs.ProvedLaws.{in_mapped}
use Rattle.pure_graph.specs.Order.{Loaded}
use Rattle.pure_check_work.specs.Declare.Notes.{Fork}
use Rattle.pure_check_work.specs.Method.Facts.{theorem}
use Rattle.pure_check_work.specs.Method.Outcome.{IsOutcomeOf}
use Rattle.pure_check_work.specs.Method.declared.outcome.Outcome.{Outcome}
use Rattle.pure_check_work.specs.Method.declared.outcome.Outcome.TheVariants.{Proved, Fault}
use Rattle.pure_check_work.specs.Promise.Entries.{LemmaEntry, plain, plain_own}
use Rattle.pure_check_work.specs.Promise.Joining.{IsShown}
use Rattle.pure_check_work.specs.SessionLaws.Loaded.{IsLoadedSession}
use Rattle.pure_check_work.specs.SessionMeaning.Statements.{IsFork}
use Rattle.pure_check_work.proofs.SessionMeaning.PromiseLaws.{promises_before_forks}
use Rattle.pure_check_work.specs.TheoryRun.Outline.{Outline}
use Rattle.pure_check_work.proofs.Table.ClaimLaws.{IsShownBy}
use Rattle.pure_check_work.proofs.Table.DerivedLaws.{shown_by}
use Rattle.pure_machine.specs.State.{State, Promise, Standing, Ready, Taken, Settled, Cancelled}
use Rattle.pure_machine.specs.Step.{Stands}
use Rattle.pure_core_end.specs.Promises.{promises_of}
use Rattle.pure_core_end.specs.Places.{IsPlaced}
use Rattle.pure_core_end.proofs.BeforeLaws.{smaller-numbers, goals-forked}
use Rattle.pure_policy_laws.proofs.FinishLaws.{in-at}
use Rattle.pure_check_work.specs.Relations.{shape_of, ForksAfter, ClosesAfter, is_fault}
use Rattle.pure_check_work.specs.Cancelled.{own_of, entry_of, entries_of}
use Rattle.pure_check_work.proofs.StandLaws.{fork-before}
use Rattle.pure_checking_laws.specs.Settled.{IsReached}
use Rattle.pure_checking_laws.specs.Laws.{JoinedAreDerivable}
use Rattle.pure_checking_laws.proofs.PlaceLaws.{one_lemma}
use Rattle.pure_checking_laws.proofs.FulfilLaws.{settled-result}

same-rests : (ks ls : List Label) → Shown ks ≡ Shown ls → ks ≡ ls
same-rests ks ls e = cc

-- a promise that is seen as shown is settled by a theorem
settled-by : (st : Standing Outcome) (rests : List Label) → plain_own (own_of st) ≡ Shown rests → (c : Certified) × (st ≡ Settled (Proved c)) × (c.theorem.rests ≡ rests)
settled-by Ready rests e = absurd (shown-cancelled rests (sym e))
settled-by Taken rests e = absurd (shown-cancelled rests (sym e))
settled-by Cancelled rests e = absurd (shown-cancelled rests (sym e))
settled-by (Settled (Proved c)) rests e = (c, refl, same-rests c.theorem.rests rests e)
settled-by (Settled (Fault step fault)) rests e = absurd (shown-fault rests (sym e))

module _ (texts : List (List ℕ)) (theories : List Loaded) (loaded : IsLoadedSession texts theories) (s : State Fork Outline Outcome) (legal : IsReached texts theories s) where
  abbrev es : List fates.Entry
  es = map plain (entries_of s.promises)

  -- how many lemmas of its theory were forked before the promise
  abbrev others_of : (number : ℕ) → Promise Fork Outcome → ℕ
  others_of number p = length (promises_of p.theory (take number s.promises))

  abbrev placed : (number : ℕ) (p : Promise Fork Outcome) → Stands s number p → IsPlaced s.promises number p.theory (others_of number p)
  placed number p stands = record { promise = p; stands = stands; theory_is = refl; count = refl }

  forked : (number : ℕ) (p : Promise Fork Outcome) → Stands s number p → IsFork texts theories p.theory (others_of number p) p.goal
  forked number p stands = (goals-forked (shape_of theories) (ForksAfter texts theories) (ClosesAfter texts theories) (IsOutcomeOf texts) is_fault s legal number p.theory (others_of number p) (placed number p stands)).lemma

  -- The label's promise is settled by a theorem that rests on these.
  record IsProvedBy (l : Label) (rests : List Label) : Type 0 where
    number : ℕ
    promise : Promise Fork Outcome
    stands : Stands s number promise
    label : (promise.goal).label ≡ l
    proved : Certified
    settled : promise.standing ≡ Settled (Proved proved)
    rests_are : proved.theorem.rests ≡ rests

  proved-by : (l : Label) (rests : List Label) → Became es l (Shown rests) → IsProvedBy l rests
  proved-by l rests b =
      let e = in_mapped plain b.entry (entries_of s.promises) b.stands in
      let p = in_mapped entry_of e.0 s.promises e.1 in
      let at = in-at p.0 s.promises p.1 in
      let by = settled-by (p.0).standing rests (ap (λ (x : LemmaEntry). plain_own x.own) p.2 ∙ ap (λ (x : fates.Entry). x.own) e.2 ∙ b.own_is) in
      record {
        number = at.0;
        promise = p.0;
        stands = at.1;
        label = ap (λ (x : LemmaEntry). x.label) p.2 ∙ ap (λ (x : fates.Entry). x.label) e.2 ∙ b.of_label;
        proved = by.0;
        settled = by.1;
        rests_are = by.2;
      }

  shown : (l : Label) (rests : List Label) (b : IsProvedBy l rests) → IsShownBy (b.promise).goal rests
  shown l rests b =
      let result = settled-result texts theories s legal b.number b.promise b.stands b.proved b.settled in
      let labels : result.labels ≡ rests = ap Theorem.rests (sym result.states) ∙ b.rests_are in
      subst (IsShownBy (b.promise).goal) labels
      (shown_by texts theories loaded (b.promise).goal ((b.promise).theory, others_of b.number b.promise, forked b.number b.promise b.stands) result.labels result.proof)

  -- What a proof rests on, as its lemma's content states it: the other promise has a smaller number and states that, over a content below.
  record IsRested (b c : Promise Fork Outcome) (late early : ℕ) (A : Term) : Type 0 where
    smaller : early < late
    states : (c.goal).prop ≡ A
    below : IsBelow (c.goal).content (b.goal).content

  rested : (n m : ℕ) (b c : Promise Fork Outcome) → Stands s n b → Stands s m c → (name : ℕ) (A : Term) → IsIn (PromiseDecl name (c.goal).label A) (b.goal).content.declarations → IsRested b c n m A
  rested n m b c at there name A declared =
      let is = forked n b at in
      let other = forked m c there in
      let before = fork-before texts theories loaded b.theory (others_of n b) b.goal is name (c.goal).label A declared in
      let one = one_lemma texts theories loaded c.theory (others_of m c) before.theory before.others c.goal before.fork other before.is (sym before.label) in
      let fork = promises_before_forks texts theories loaded b.goal (b.theory, others_of n b, is) name (c.goal).label A declared in
      let same = one_lemma texts theories loaded c.theory (others_of m c) fork.1.0 fork.1.1 c.goal fork.0 other fork.1.2 (sym fork.2.label) in
      record {
        smaller = smaller-numbers (shape_of theories) (ForksAfter texts theories) (ClosesAfter texts theories) (IsOutcomeOf texts) is_fault s legal m n before.theory before.others b.theory (others_of n b)
            (record { promise = c; stands = there; theory_is = one.theory; count = ap (λ i. length (promises_of i (take m s.promises))) (sym one.theory) ∙ one.others })
            (placed n b at) before.comes;
        states = ap Fork.prop one.lemma ∙ before.prop;
        below = subst (λ (f : Fork). IsBelow f.content (b.goal).content) (sym same.lemma) fork.2.below;
      }

  -- by the numbers of promises
  derived : (bound : ℕ) (l : Label) (rests : List Label) → Became es l (Shown rests) → ((k : Label) → Reaches es l k → IsShown es k) → (b : IsProvedBy l rests) → b.number < bound → IsDerivableAlone ((b.promise).goal).content ((b.promise).goal).prop
  derived zero l rests became reached b less = absurd (omega (arith, less))
  derived (suc bound) l rests became reached b less =
      let f = (b.promise).goal in
      let here = shown l rests b in
      settled_is_derivable f.content here.content (theorem f.prop rests) (each_of (IsSettled f.content) rests (λ k among name A declared.
      let on : RestsOn es l k = (rests, became, among) in
      let next = reached k (directly on) in
      let c = proved-by k next.0 next.1 in
      let g = (c.promise).goal in
      let rest = rested b.number c.number b.promise c.promise b.stands c.stands name A (subst (λ j. IsIn (PromiseDecl name j A) f.content.declarations) (sym c.label) declared) in
      let alone = derived bound k next.0 next.1 (λ j r. reached j (through k on r)) c (omega (arith, less, rest.smaller)) in
      weakening_of_derivable g.content f.content (shown k next.0 c).content rest.below (theorem A []) (subst (IsDerivableAlone g.content) rest.states alone)))
      here.derivable

pub joined_are_derivable : JoinedAreDerivable
joined_are_derivable texts theories loaded s legal number p stands joined =
    let l = (p.goal).label in
    let b = proved-by texts theories loaded s legal l joined.shown.0 joined.shown.1 in
    let alone = derived texts theories loaded s legal (suc b.number) l joined.shown.0 joined.shown.1 joined.reached b (omega arith) in
    let one = one_lemma texts theories loaded (b.promise).theory (others_of texts theories loaded s legal b.number b.promise) p.theory (others_of texts theories loaded s legal number p)
    (b.promise).goal p.goal (forked texts theories loaded s legal b.number b.promise b.stands) (forked texts theories loaded s legal number p stands) b.label in
    subst (λ (f : Fork). IsDerivableAlone f.content f.prop) one.lemma alone
