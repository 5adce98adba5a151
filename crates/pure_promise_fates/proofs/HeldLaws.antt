-- The fates of lemmas, by the rows of what they reach.
use Rattle.std.proofs.Common.{◌≡◌, ◌↔◌, ℕ, ◌+◌, Bool, true, false, IsTrue, List, [], ◌∷◌, ◌++◌, inl, inr, refl, sym, ◌∙◌, ap, subst, map, length, arith}
use Rattle.std.proofs.lemmas.Bool.{cases_lt}
use Rattle.std.specs.declared.cmp.Ordering.TheVariants.{Less}
use Rattle.pure_text.proofs.ListLaws.{in_split, in-append_left, in-append_right}
use Rattle.pure_definitions.specs.Names.{Label}
use Rattle.pure_theorem.specs.Sets.{label_cmp, IsLabelSet}
use Rattle.pure_theorem.proofs.SetLaws.{no_labels}
use Rattle.pure_order_tables.specs.Rows.{Holds}
use Rattle.pure_promise_fates.specs.Entries.{Own, Shown, Fault, Cancelled, IsNotShown, Entry, Became, Reaches, AreFaultsReached, ReachesCancelled, Proved, Failed, Tainted, Gone, Unsettled, IsFate, failed, gone, tainted, unsettled, proved, AreEntries}
use Rattle.pure_promise_fates.specs.Reach.{IsAt, IsReachedAt, Reach, IsReach, AreHeldBefore}
use Rattle.pure_promise_fates.proofs.LabelSets.{snoc_is_set}
use Rattle.pure_promise_fates.proofs.FateLaws.{one_fate}
use Rattle.pure_promise_fates.proofs.PlaceLaws.{at-in, in-at, at-once, at-within, places_ascend}
use Rattle.pure_promise_fates.proofs.ReachLaws.{reaches-by}

pub none_held : (es : List Entry) (row : List ℕ) → AreHeldBefore es row 0 []
none_held es row = record { ascend = no_labels; exactly = λ k. (λ m. absurd m, λ h. absurd (omega (arith, h.1))) }

module _ (es : List Entry) (ascend : IsLabelSet (map Entry.label es)) where
  -- one more place, which the row holds, or doesn't
  pub held_next : (row : List ℕ) (place : ℕ) (e : Entry) (faults : List Label) → IsAt es place e → Holds row place → AreHeldBefore es row place faults → AreHeldBefore es row (place + 1) (faults ++ e.label ∷ [])
  held_next row place e faults at held so_far = record {
    ascend = snoc_is_set faults e.label so_far.ascend (λ k m. (let w = (so_far.exactly k).0 m in subst (λ l. label_cmp l e.label ≡ Less) w.5 (places_ascend es ascend w.0 place w.3 e w.4 at w.1)));
    exactly = λ k. (
      λ m. elim (in_split k faults (e.label ∷ []) m) [
        | inl n ↦ (let w = (so_far.exactly k).0 n in (w.0, omega (arith, w.1), w.2, w.3, w.4, w.5))
        | inr n ↦ elim n [ inl same ↦ (place, omega arith, held, e, at, sym same) | inr none ↦ absurd none ]
      ],
      λ w. elim (cases_lt w.0 place) [
        | inl before ↦ in-append_left k faults (e.label ∷ []) ((so_far.exactly k).1 (w.0, before, w.2, w.3, w.4, w.5))
        | inr most ↦
            let same : w.0 ≡ place = omega (arith, w.1, most) in
            let one : w.3 ≡ e = at-once es place w.3 e (subst (λ p. IsAt es p w.3) same w.4) at in
            in-append_right k faults (e.label ∷ []) (inl (sym (sym (ap Entry.label one) ∙ w.5)))
      ],
    );
  }

  pub held_passed : (row : List ℕ) (place : ℕ) (faults : List Label) → ¬ Holds row place → AreHeldBefore es row place faults → AreHeldBefore es row (place + 1) faults
  held_passed row place faults free so_far = record {
    ascend = so_far.ascend;
    exactly = λ k. (
      λ m. (let w = (so_far.exactly k).0 m in (w.0, omega (arith, w.1), w.2, w.3, w.4, w.5)),
      λ w. elim (cases_lt w.0 place) [
        | inl before ↦ (so_far.exactly k).1 (w.0, before, w.2, w.3, w.4, w.5)
        | inr most ↦ absurd (free (subst (Holds row) (omega (arith, w.1, most)) w.2))
      ],
    );
  }

  module _ (p : ℕ) (e : Entry) (at : IsAt es p e) (rests : List Label) (shown : e.own ≡ Shown rests) (r : Reach) (is : IsReach es rests r) where
    reach-place : (place : ℕ) (own : Own) → (h : IsReachedAt es rests own place) → Reaches es e.label h.entry.label × Became es h.entry.label own
    reach-place place own h = ((reaches-by es ascend p e rests h.entry.label at shown).1 h.reached, record { entry = h.entry; stands = at-in es place h.entry h.at; of_label = refl; own_is = h.own_is })

    place-reach : (k : Label) (own : Own) → Reaches es e.label k → Became es k own → (place : ℕ) × IsReachedAt es rests own place × (f : Entry) × IsAt es place f × (f.label ≡ k)
    place-reach k own reaches b =
        let found = in-at es b.entry b.stands in
        (found.0, record { entry = b.entry; at = found.1; own_is = b.own_is; reached = (reaches-by es ascend p e rests b.entry.label at shown).0 (rw b.of_label reaches) }, b.entry, found.1, b.of_label)

    -- the held ones are the failed ones that it reaches
    held_are_reached : (faults : List Label) → AreHeldBefore es r.row (length es) faults → AreFaultsReached es e.label faults
    held_are_reached faults held = record {
      ascend = held.ascend;
      exactly = λ k. (
        λ m.
            let w = (held.exactly k).0 m in
            let h = (is.faults w.0).0 w.2 in
            let one : h.entry ≡ w.3 = at-once es w.0 h.entry w.3 h.at w.4 in
            let label : h.entry.label ≡ k = ap Entry.label one ∙ w.5 in
            let found = reach-place w.0 Fault h in
            (subst (Reaches es e.label) label found.0, subst (λ l. Became es l Fault) label found.1),
        λ b.
            let w = place-reach k Fault b.0 b.1 in
            (held.exactly k).1 (w.0, at-within es w.0 w.2 w.3, (is.faults w.0).1 w.1, w.2, w.3, w.4),
      );
    }

    is-became : Became es e.label (Shown rests)
    is-became = record { entry = e; stands = at-in es p e at; of_label = refl; own_is = shown }

    no-faults : ((place : ℕ) → ¬ Holds r.row place) → AreFaultsReached es e.label []
    no-faults none = held_are_reached [] (record { ascend = no_labels; exactly = λ k. (λ m. absurd m, λ w. absurd (none w.0 w.2)) })

    cancelled-reached : IsTrue r.mark ↔ ReachesCancelled es e.label
    cancelled-reached = (
      λ h. (let w = is.cancelled.0 h in let found = reach-place w.0 Cancelled w.1 in (w.1.entry.label, found.0, found.1)),
      λ w. (let found = place-reach w.0 Cancelled w.1 w.2 in is.cancelled.1 (found.0, found.1)),
    )

    pub is_tainted : (place : ℕ) (faults : List Label) → Holds r.row place → AreHeldBefore es r.row (length es) faults → IsFate es e.label (Tainted faults)
    is_tainted place [] held before =
        let h = (is.faults place).0 held in
        absurd ((before.exactly h.entry.label).1 (place, at-within es place h.entry h.at, held, h.entry, h.at, refl))
    is_tainted place (f ∷ fs) held before = tainted rests is-became f fs (held_are_reached (f ∷ fs) before)

    pub is_unsettled : ((place : ℕ) → ¬ Holds r.row place) → r.mark ≡ true → IsFate es e.label Unsettled
    is_unsettled none mark = unsettled rests is-became (no-faults none) (cancelled-reached.0 mark)

    pub is_proved : ((place : ℕ) → ¬ Holds r.row place) → r.mark ≡ false → IsFate es e.label Proved
    is_proved none mark = proved rests is-became (no-faults none) (λ w. let yes_mark = cancelled-reached.1 w in absurd cc)

    -- and back: a proved one reaches neither
    pub proved_is_clear : AreEntries es → IsFate es e.label Proved → ((place : ℕ) → ¬ Holds r.row place) × (r.mark ≡ false)
    proved_is_clear entries fate = (
      λ place held. absurd (by fate place held),
      mark_is r.mark refl,
    )
      where
        by : IsFate es e.label Proved → (place : ℕ) → Holds r.row place → ⊥
        by (proved more b none clear) place held =
            let h = (is.faults place).0 held in
            (none.exactly h.entry.label).1 (reach-place place Fault h)

        none_cancelled : IsFate es e.label Proved → ReachesCancelled es e.label → ⊥
        none_cancelled (proved more b none clear) w = clear w

        mark_is : (b : Bool) → r.mark ≡ b → r.mark ≡ false
        mark_is false same = same
        mark_is true same = absurd (none_cancelled fate (cancelled-reached.0 same))

  -- one that no proof shows
  pub is_failed : (p : ℕ) (e : Entry) → IsAt es p e → e.own ≡ Fault → IsFate es e.label Failed
  is_failed p e at fault = failed (record { entry = e; stands = at-in es p e at; of_label = refl; own_is = fault })

  pub is_gone : (p : ℕ) (e : Entry) → IsAt es p e → e.own ≡ Cancelled → IsFate es e.label Gone
  is_gone p e at cancelled = gone (record { entry = e; stands = at-in es p e at; of_label = refl; own_is = cancelled })

  pub not_proved : (p : ℕ) (e : Entry) → IsAt es p e → IsNotShown e.own → AreEntries es → IsFate es e.label Proved → ⊥
  not_proved p e at (inl fault) entries fate = failed-proved (one_fate es entries e.label Failed Proved (is_failed p e at fault) fate)
    where
      failed-proved : Failed ≡ Proved → ⊥
      failed-proved h = absurd cc
  not_proved p e at (inr cancelled) entries fate = gone-proved (one_fate es entries e.label Gone Proved (is_gone p e at cancelled) fate)
    where
      gone-proved : Gone ≡ Proved → ⊥
      gone-proved h = absurd cc
