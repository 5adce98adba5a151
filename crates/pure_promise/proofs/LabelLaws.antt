-- Lemmas by their labels.
use Rattle.std.proofs.Common.{◌≡◌, ℕ, zero, suc, ◌+◌, ◌<◌, ◌∙◌, ◌↔◌, ◌==◌, IsTrue, Bool, true, false, true≢false, List, [], ◌∷◌, inl, inr, refl, sym, ap, subst, map, length, take, get_or, arith}
use Rattle.std.proofs.lemmas.Bool.{eqb-true}
use Rattle.std.specs.declared.cmp.Ordering.TheVariants.{Less}
use Rattle.pure_text.specs.Lists.{IsIn}
use Rattle.pure_text.proofs.ListLaws.{in-map, read_in}
use Rattle.pure_text.proofs.LoopLaws.{in_turn}
use Rattle.pure_definitions.specs.Names.{Label}
use Rattle.pure_theorem.specs.Sets.{label_cmp, IsLabelSet}
use Rattle.pure_theory_tables.specs.Same.{label_eq}
use Rattle.pure_theory_tables.proofs.SameLaws.{label_same, label_itself}
use Rattle.pure_promise_fates.specs.Entries as fates
use Rattle.pure_promise_fates.specs.Reach.{IsAt}
use Rattle.pure_promise_fates.proofs.LabelSets.{first_below, rest_is_set, not_itself}
use Rattle.pure_promise_fates.proofs.PlaceLaws.{at-in, at-once, at-read}
use Rattle.pure_promise_fates.proofs.CodeLaws.{at-seen}
use Rattle.pure_promise.specs.declared.entry.Entry.{Entry}
use Rattle.pure_promise.specs.Seen.{seen, reported}
use Rattle.pure_promise.specs.Lemmas.{IsLabelAt}
use Rattle.pure_print.specs.NameText.{text_of_name}
use Rattle.pure_promise.specs.RowText.{label_text}

-- a turn of a search for a label, and its end
pub told_same : (labels : List Label) (i : ℕ) (r l : Label) → i < length labels → r ≡ get_or labels i r → (b : Bool) → b ≡ label_eq r l → b ≡ true → IsIn l labels
told_same labels i r l within is b tells yes_same = subst (λ k. IsIn k labels) (label_same r l (sym tells ∙ yes_same)) (read_in labels i r within is)

pub told_other : (labels : List Label) (i : ℕ) (r l : Label) → i < length labels → r ≡ get_or labels i r → (b : Bool) → b ≡ label_eq r l → b ≡ false → ¬ IsIn l (take i labels) → ¬ IsIn l (take (i + 1) labels)
told_other labels i r l within is b tells other before m = elim ((in_turn l labels i r within is).0 m) [
  | inl old ↦ before old
  | inr here ↦ true≢false (sym (label_itself l) ∙ sym (ap (λ k. label_eq k l) (sym here)) ∙ sym tells ∙ other)
]

-- labels in order aren't the same
less-other : (k l : Label) → label_cmp k l ≡ Less → label_eq k l ≡ false
less-other k l less = by (label_eq k l) refl
  where
    by : (b : Bool) → label_eq k l ≡ b → label_eq k l ≡ false
    by false is = is
    by true is = absurd (not_itself l (subst (λ m. label_cmp m l ≡ Less) (label_same k l is) less))

-- the name of the lemma at a place, by its label
pub label_text-at : (texts : List (List ℕ)) (es : List Entry) → IsLabelSet (map fates.Entry.label (map reported es)) → (p : ℕ) (e : Entry) → IsAt es p e → label_text texts (seen es) e.label ≡ text_of_name texts e.name
label_text-at texts [] h p e at = absurd at
label_text-at texts (d ∷ ds) h zero e at = subst (λ (x : Entry). label_text texts (seen (d ∷ ds)) x.label ≡ text_of_name texts x.name) at (rw (label_itself d.label) refl)
label_text-at texts (d ∷ ds) h (suc p) e at =
    let less = first_below d.label (map fates.Entry.label (map reported ds)) h e.label (in-map fates.Entry.label (reported e) (map reported ds) (in-map reported e ds (at-in ds p e at))) in
    rw (less-other d.label e.label less) (label_text-at texts ds (rest_is_set d.label (map fates.Entry.label (map reported ds)) h) p e at)

-- the name that is read at the place of a label
pub found_text : (texts : List (List ℕ)) (es : List Entry) → IsLabelSet (map fates.Entry.label (map reported es)) → (p : ℕ) (r : Entry) (l : Label) → p < length es → r ≡ get_or es p r → ((e : fates.Entry) × IsAt (map reported es) p e × (e.label ≡ l))
    → label_text texts (seen es) l ≡ text_of_name texts (get_or es p r).name
found_text texts es h p r l within is found =
    let same : reported r ≡ found.0 = at-once (map reported es) p (reported r) found.0 (at-seen reported es p r within is) found.1 in
    subst (λ k. label_text texts (seen es) k ≡ text_of_name texts (get_or es p r).name) (ap fates.Entry.label same ∙ found.2) (label_text-at texts es h p r (subst (IsAt es p) (sym is) (at-read es p r within)) ∙ ap (λ (e : Entry). text_of_name texts e.name) is)

-- a list without items
pub no_items : {A : Type 0} (xs : List A) (b : Bool) → b ≡ (length xs == 0) → IsTrue b ↔ (xs ≡ [])
no_items [] b is = (λ h. refl, λ h. is)
no_items (x ∷ xs) b is = (
  λ h. let none : length (x ∷ xs) ≡ 0 = eqb-true (length (x ∷ xs)) 0 (sym is ∙ h) in absurd (omega arith),
  λ h. absurd cc,
)

-- the lemma that is read at a place has the label where a test says so
pub label_there : (es : List Entry) (p : ℕ) (r : Entry) (l : Label) (b : Bool) → p < length es → r ≡ get_or es p r → b ≡ label_eq (get_or es p r).label l → IsTrue b → IsLabelAt es p l
label_there es p r l b within is tells same = record { within = within; at = (reported r, at-seen reported es p r within is, ap (λ (e : Entry). e.label) is ∙ label_same (get_or es p r).label l (sym tells ∙ same)) }
