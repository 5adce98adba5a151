-- What is proved is derivable from the axioms alone.
use Rattle.std.proofs.Common.{◌≡◌, List, [], ◌∷◌, ◌++◌, inl, inr, refl, sym, ◌∙◌, ap, subst, map, append_assoc}
use Rattle.std.specs.declared.cmp.Ordering.TheVariants.{Less}
use Rattle.pure_text.specs.Lists.{IsIn, Each}
use Rattle.pure_text.proofs.ListLaws.{in-map, each_at, each_of, in_split, in-append_right}
use Rattle.pure_definitions.specs.Names.{Label}
use Rattle.pure_logic.specs.Derivable.{IsDerivableAlone}
use Rattle.pure_logic.specs.Laws.Promises.{IsSettled}
use Rattle.pure_logic.proofs.PromiseLaws.{settled_is_derivable}
use Rattle.pure_logic.proofs.WeakeningLaws.{weakening_of_derivable}
use Rattle.pure_theorem.specs.Sets.{label_cmp, IsLabelSet}
use Rattle.pure_promise_fates.specs.Entries.{Own, Shown, Fault, Cancelled, Entry, Became, RestsOn, directly, through, AreFaultsReached, ReachesCancelled, Proved, IsFate, proved, RestsOnEarlier, AreEntries}
use Rattle.pure_promise_fates.specs.Laws.{Claim, IsShown, IsGrounded, ProvedIsDerivable}
use Rattle.pure_promise_fates.proofs.LabelSets.{first_below, rest_is_set, not_itself, not_both}
use Rattle.pure_promise_fates.proofs.FateLaws.{one_of_label}

-- A label that is mapped to is that of an element.
pub in_mapped : {A B : Type 0} (f : A → B) (y : B) (xs : List A) → IsIn y (map f xs) → (x : A) × IsIn x xs × (f x ≡ y)
in_mapped f y [] m = absurd m
in_mapped f y (x ∷ xs) (inl e) = (x, inl refl, sym e)
in_mapped f y (x ∷ xs) (inr n) = let found = in_mapped f y xs n in (found.0, inr found.1, found.2)

abbrev label_of : Claim → Label
label_of c = c.entry.label

-- A claim before one of those left is done.
earlier_is_done : (done : List Claim) (c : Claim) (left : List Claim) → IsLabelSet (map Entry.label (map Claim.entry (done ++ c ∷ left)))
    → (d : Claim) → IsIn d (done ++ c ∷ left) → label_cmp d.entry.label c.entry.label ≡ Less → IsIn d done
earlier_is_done [] c left h d m less = elim m [
  | inl e ↦ absurd (not_itself c.entry.label (subst (λ k. label_cmp k c.entry.label ≡ Less) (ap label_of e) less))
  | inr n ↦ absurd (not_both d.entry.label c.entry.label less (first_below c.entry.label (map Entry.label (map Claim.entry left)) h d.entry.label (in-map Entry.label d.entry (map Claim.entry left) (in-map Claim.entry d left n))))
]
earlier_is_done (b ∷ bs) c left h d m less = elim m [
  | inl e ↦ inl e
  | inr n ↦ inr (earlier_is_done bs c left (rest_is_set b.entry.label (map Entry.label (map Claim.entry (bs ++ c ∷ left))) h) d n less)
]

module _ (cs : List Claim) (entries : AreEntries (map Claim.entry cs)) (shown : Each IsShown cs) (grounded : Each (IsGrounded cs) cs) where
  abbrev es : List Entry
  es = map Claim.entry cs

  became : (c : Claim) → IsIn c cs → Became es c.entry.label c.entry.own
  became c m = record { entry = c.entry; stands = in-map Claim.entry c cs m; of_label = refl; own_is = refl }

  abbrev Settled : Claim → Type 0
  Settled c = IsFate es c.entry.label Proved → IsDerivableAlone c.content c.prop

  -- what a proved lemma rests on is proved
  rested_is_proved : (c d : Claim) → IsIn d cs → (rests : List Label) → Became es c.entry.label (Shown rests) → IsIn d.entry.label rests
      → AreFaultsReached es c.entry.label [] → ¬ ReachesCancelled es c.entry.label → (more : List Label) × (d.entry.own ≡ Shown more) × IsFate es d.entry.label Proved
  rested_is_proved c d m rests is among none no_cancelled = by d.entry.own refl
    where
      on : RestsOn es c.entry.label d.entry.label
      on = (rests, is, among)

      by : (own : Own) → d.entry.own ≡ own → (more : List Label) × (d.entry.own ≡ Shown more) × IsFate es d.entry.label Proved
      by (Shown more) e = (
        more,
        e,
        proved more (record { entry = d.entry; stands = in-map Claim.entry d cs m; of_label = refl; own_is = e })
            (record { ascend = none.ascend; exactly = λ k. (λ n. absurd n, λ r. (none.exactly k).1 (through d.entry.label on r.0, r.1)) })
            (λ r. no_cancelled (r.0, through d.entry.label on r.1, r.2)),
      )
      by Fault e = absurd ((none.exactly d.entry.label).1 (directly on, record { entry = d.entry; stands = in-map Claim.entry d cs m; of_label = refl; own_is = e }))
      by Cancelled e = absurd (no_cancelled (d.entry.label, directly on, record { entry = d.entry; stands = in-map Claim.entry d cs m; of_label = refl; own_is = e }))

  -- a lemma is settled where all before it are
  next_is_settled : (c : Claim) → IsIn c cs → ((d : Claim) → IsIn d cs → label_cmp d.entry.label c.entry.label ≡ Less → Settled d) → Settled c
  next_is_settled c m before (proved rests is none no_cancelled) =
      let same : is.entry ≡ c.entry = one_of_label es entries.ascend is.entry c.entry is.stands (in-map Claim.entry c cs m) is.of_label in
      let own : c.entry.own ≡ Shown rests = sym (ap Entry.own same) ∙ is.own_is in
      let earlier = each_at (RestsOnEarlier es) es entries.earlier c.entry (in-map Claim.entry c cs m) rests own in
      let stands = each_at IsShown cs shown c m rests own in
      settled_is_derivable c.content stands.0 (record { hyps = []; pairs = []; prop = c.prop; rests = rests }) (each_of (IsSettled c.content) rests (λ k n name A declared.
      let at = each_at (λ k. (label_cmp k c.entry.label ≡ Less) × IsIn k (map Entry.label es)) rests earlier k n in
      let entry = in_mapped Entry.label k es at.1 in
      let claim = in_mapped Claim.entry entry.0 cs entry.1 in
      let d = claim.0 in
      let label : d.entry.label ≡ k = ap Entry.label claim.2 ∙ entry.2 in
      let among : IsIn d.entry.label rests = rw label n in
      let ground = each_at (IsGrounded cs) cs grounded c m rests own d claim.1 among in
      let states : A ≡ d.prop = ground.0 name A (rw label declared) in
      let fate = rested_is_proved c d claim.1 rests is among none no_cancelled in
      let alone = before d claim.1 (rw label at.0) fate.2 in
      let content = each_at IsShown cs shown d claim.1 fate.0 fate.1 in
      rw states (weakening_of_derivable d.content c.content content.0 (ground.1 fate.0 fate.1) (record { hyps = []; pairs = []; prop = d.prop; rests = [] }) alone)))
      stands.1

  all_settled : (done left : List Claim) → cs ≡ done ++ left → ((d : Claim) → IsIn d done → Settled d) → (d : Claim) → IsIn d left → Settled d
  all_settled done [] is before d m = absurd m
  all_settled done (c ∷ left) is before d m =
      let inside : IsIn c cs = rw is (in-append_right c done (c ∷ left) (inl refl)) in
      let here : Settled c = next_is_settled c inside (λ b n less. before b (earlier_is_done done c left (rw is at entries.ascend) b (rw is at n) less)) in
      elim m [
        | inl e ↦ subst Settled (sym e) here
        | inr n ↦ all_settled (done ++ c ∷ []) left (is ∙ sym (append_assoc done (c ∷ []) left)) (λ b k. elim (in_split b done (c ∷ []) k) [
          | inl o ↦ before b o
          | inr o ↦ elim o [ inl e ↦ subst Settled (sym e) here | inr p ↦ absurd p ]
        ]) d n
      ]

pub proved_is_derivable : ProvedIsDerivable
proved_is_derivable cs entries shown grounded c m fate = all_settled cs entries shown grounded [] cs refl (λ d n. absurd n) c m fate
