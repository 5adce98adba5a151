-- Laws of fates: which rows say that a lemma is proved, and which lemmas are joined.
use Rattle.std.proofs.Common.{◌≡◌, ◌↔◌, ℕ, ◌+◌, ◌<◌, List, [], ◌∷◌, ◌++◌, inl, inr, refl, sym, ◌∙◌, ap, subst, map, length, arith}
use Rattle.std.proofs.lemmas.Bool.{cases_lt}
use Rattle.std.specs.declared.cmp.Ordering.TheVariants.{Less}
use Rattle.pure_text.specs.Lists.{IsIn, Each}
use Rattle.pure_text.proofs.ListLaws.{each_at, each_of, in-map, in_split, in-append_left, in-append_right}
use Rattle.pure_definitions.specs.Names.{Label}
use Rattle.pure_theorem.specs.Sets.{label_cmp, IsLabelSet}
use Rattle.pure_theorem.proofs.SetLaws.{no_labels}
use Rattle.pure_promise_fates.specs.Entries.{Own, Shown, Fault, Cancelled, Entry, Reaches, directly, through, Fate, Proved, Failed, Tainted, Gone, Unsettled, IsFate, proved, tainted, RestsOnEarlier, AreEntries}
use Rattle.pure_promise_fates.specs.Reach.{IsAt}
use Rattle.pure_promise_fates.proofs.LabelSets.{snoc_is_set}
use Rattle.pure_promise_fates.proofs.PlaceLaws.{in-at, at-once, at-within, places_ascend}
use Rattle.pure_promise_fates.proofs.FateLaws.{one_fate, became_once, shown-fault, shown-cancelled}
use Rattle.pure_promise_fates.proofs.ProvedLaws.{in_mapped}
use Rattle.pure_print.specs.declared.row.Row.{Row}
use Rattle.pure_print.specs.declared.row.RowStatus.TheVariants as status
use Rattle.pure_promise.specs.Entries.{plain}
use Rattle.pure_promise.specs.RowText.{status_of}
use Rattle.pure_promise.specs.Joining.{IsShown, IsJoined, AreJoined}
use Rattle.pure_promise.specs.Laws.{ProvedRow, JoinedIsProved}

status-proved : (fate : Fate) → status_of fate ≡ status.Proved → fate ≡ Proved
status-proved Proved h = refl
status-proved Failed h = absurd cc
status-proved (Tainted faults) h = absurd cc
status-proved Gone h = absurd cc
status-proved Unsettled h = absurd cc

pub proved_row : ProvedRow
proved_row texts es entries e row is = (
  λ h. subst (IsFate (map plain es) e.label) (status-proved is.0 (sym (ap Row.status is.2) ∙ h)) is.1,
  λ h. ap Row.status is.2 ∙ ap status_of (one_fate (map plain es) entries e.label is.0 Proved is.1 h),
)

-- what is reached is a lemma
reached_stands : (es : List Entry) → AreEntries es → (l k : Label) → Reaches es l k → IsIn k (map Entry.label es)
reached_stands es entries l k (directly on) =
    let earlier = each_at (RestsOnEarlier es) es entries.earlier on.1.entry on.1.stands on.0 on.1.own_is in
    (each_at (λ k. (label_cmp k on.1.entry.label ≡ Less) × IsIn k (map Entry.label es)) on.0 earlier k on.2).1
reached_stands es entries l k (through m on more) = reached_stands es entries m k more

joined-proved : (es : List Entry) → AreEntries es → (l : Label) → IsJoined es l → IsFate es l Proved
joined-proved es entries l joined = proved joined.shown.0 joined.shown.1
    (record {
      ascend = no_labels;
      exactly = λ k. (
        λ m. absurd m,
        λ r. (let shown = joined.reached k r.0 in absurd (shown-fault shown.0 (became_once es entries.ascend k (Shown shown.0) Fault shown.1 r.1))),
      );
    })
    (λ r. let shown = joined.reached r.0 r.1 in shown-cancelled shown.0 (became_once es entries.ascend r.0 (Shown shown.0) Cancelled shown.1 r.2))

proved-joined : (es : List Entry) → AreEntries es → (l : Label) → IsFate es l Proved → IsJoined es l
proved-joined es entries l (proved rests is none clear) = record {
  shown = (rests, is);
  reached = λ k r. (let found = in_mapped Entry.label k es (reached_stands es entries l k r) in by k r found.0 found.1 found.2 found.0.own refl);
}
  where
    by : (k : Label) → Reaches es l k → (e : Entry) → IsIn e es → e.label ≡ k → (own : Own) → e.own ≡ own → IsShown es k
    by k r e stands label (Shown more) own = (more, record { entry = e; stands = stands; of_label = label; own_is = own })
    by k r e stands label Fault own = absurd ((none.exactly k).1 (r, record { entry = e; stands = stands; of_label = label; own_is = own }))
    by k r e stands label Cancelled own = absurd (clear (k, r, record { entry = e; stands = stands; of_label = label; own_is = own }))

pub joined_is_proved : JoinedIsProved
joined_is_proved es entries l = (joined-proved es entries l, proved-joined es entries l)

-- The failed lemmas that a tainted one reaches are lemmas.
pub tainted_stand : (es : List Entry) (l : Label) (faults : List Label) → IsFate es l (Tainted faults) → Each (λ k. IsIn k (map Entry.label es)) faults
tainted_stand es l [] fate = elim fate [ ]
tainted_stand es l (f ∷ fs) (tainted rests is _ _ reached) = each_of (λ k. IsIn k (map Entry.label es)) (f ∷ fs) (λ k m.
    let became = ((reached.exactly k).0 m).1 in
    subst (λ k. IsIn k (map Entry.label es)) became.of_label (in-map Entry.label became.entry es became.stands))

-- These are the labels of the proved lemmas before the place, in order.
pub record AreProvedBefore (es : List Entry) (place : ℕ) (labels : List Label) : Type 0 where
  pub ascend : IsLabelSet labels
  pub exactly : (k : Label) → IsIn k labels ↔ ((p : ℕ) × (p < place) × (e : Entry) × IsAt es p e × (e.label ≡ k) × IsFate es k Proved)

pub none_before : (es : List Entry) → AreProvedBefore es 0 []
none_before es = record { ascend = no_labels; exactly = λ k. (λ m. absurd m, λ w. absurd (omega (arith, w.1))) }

module _ (es : List Entry) (entries : AreEntries es) where
  -- one more place, of a proved lemma, and of another
  pub proved_next : (place : ℕ) (e : Entry) (labels : List Label) → IsAt es place e → IsFate es e.label Proved → AreProvedBefore es place labels → AreProvedBefore es (place + 1) (labels ++ e.label ∷ [])
  proved_next place e labels at fate before = record {
    ascend = snoc_is_set labels e.label before.ascend (λ k m. (let w = (before.exactly k).0 m in subst (λ l. label_cmp l e.label ≡ Less) w.4 (places_ascend es entries.ascend w.0 place w.2 e w.3 at w.1)));
    exactly = λ k. (
      λ m. elim (in_split k labels (e.label ∷ []) m) [
        | inl n ↦ (let w = (before.exactly k).0 n in (w.0, omega (arith, w.1), w.2, w.3, w.4, w.5))
        | inr n ↦ elim n [ inl same ↦ (place, omega arith, e, at, sym same, subst (λ l. IsFate es l Proved) (sym same) fate) | inr none ↦ absurd none ]
      ],
      λ w. elim (cases_lt w.0 place) [
        | inl early ↦ in-append_left k labels (e.label ∷ []) ((before.exactly k).1 (w.0, early, w.2, w.3, w.4, w.5))
        | inr most ↦
            let same : w.0 ≡ place = omega (arith, w.1, most) in
            let one : w.2 ≡ e = at-once es place w.2 e (subst (λ p. IsAt es p w.2) same w.3) at in
            in-append_right k labels (e.label ∷ []) (inl (sym (sym (ap Entry.label one) ∙ w.4)))
      ],
    );
  }

  pub proved_passed : (place : ℕ) (e : Entry) (labels : List Label) → IsAt es place e → ¬ IsFate es e.label Proved → AreProvedBefore es place labels → AreProvedBefore es (place + 1) labels
  proved_passed place e labels at other before = record {
    ascend = before.ascend;
    exactly = λ k. (
      λ m. (let w = (before.exactly k).0 m in (w.0, omega (arith, w.1), w.2, w.3, w.4, w.5)),
      λ w. elim (cases_lt w.0 place) [
        | inl early ↦ (before.exactly k).1 (w.0, early, w.2, w.3, w.4, w.5)
        | inr most ↦
            let same : w.0 ≡ place = omega (arith, w.1, most) in
            let one : w.2 ≡ e = at-once es place w.2 e (subst (λ p. IsAt es p w.2) same w.3) at in
            absurd (other (subst (λ l. IsFate es l Proved) (sym w.4 ∙ ap Entry.label one) w.5))
      ],
    );
  }

  pub all_joined : (labels : List Label) → AreProvedBefore es (length es) labels → AreJoined es labels
  all_joined labels all = record {
    ascend = all.ascend;
    exactly = λ l. (
      λ m. proved-joined es entries l (let w = (all.exactly l).0 m in w.5),
      λ joined.
          let became = joined.shown.1 in
          let at = in-at es became.entry became.stands in
          (all.exactly l).1 (at.0, at-within es at.0 became.entry at.1, became.entry, at.1, became.of_label, joined-proved es entries l joined),
    );
  }
