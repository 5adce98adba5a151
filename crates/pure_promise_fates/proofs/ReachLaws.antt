-- What is reached, one promise after another.
use Rattle.std.proofs.Common.{◌≡◌, ◌↔◌, ◌⊎◌, ◌||◌, ℕ, ◌<◌, ◌/◌, Bool, true, false, IsTrue, List, [], ◌∷◌, ◌++◌, inl, inr, refl, sym, ◌∙◌, ap, subst, map, length}
use Rattle.pure_text.specs.Lists.{IsIn}
use Rattle.pure_text.proofs.ListLaws.{in_split, in-append_left, in-append_right}
use Rattle.pure_definitions.specs.Names.{Label}
use Rattle.pure_theorem.specs.Sets.{IsLabelSet}
use Rattle.pure_order_tables.specs.Rows.{Holds}
use Rattle.pure_promise_fates.specs.Entries.{Own, Shown, Fault, Cancelled, IsNotShown, Entry, Became, Reaches, directly, through}
use Rattle.pure_promise_fates.specs.Reach.{IsAt, ReachedBy, IsReachedAt, Reach, IsReach, IsWide}
use Rattle.pure_promise_fates.proofs.FateLaws.{became_once, one_of_label, shown-fault, shown-cancelled, fault-cancelled}
use Rattle.pure_promise_fates.proofs.PlaceLaws.{at-in, one_place}

module _ (es : List Entry) (ascend : IsLabelSet (map Entry.label es)) where
  pub became-at : (p : ℕ) (e : Entry) → IsAt es p e → Became es e.label e.own
  became-at p e at = record { entry = e; stands = at-in es p e at; of_label = refl; own_is = refl }

  own-at : (p : ℕ) (e : Entry) (own : Own) → IsAt es p e → Became es e.label own → e.own ≡ own
  own-at p e own at is = became_once es ascend e.label e.own own (became-at p e at) is

  -- a lemma that is shown reaches what the promises of its proof reach, themselves among it
  pub reaches-by : (p : ℕ) (e : Entry) (rests : List Label) (f : Label) → IsAt es p e → e.own ≡ Shown rests → Reaches es e.label f ↔ ReachedBy es rests f
  reaches-by p e rests f at own = (
    λ r. there e.label f refl r,
    λ r. elim r.2 [
      | inl same ↦ directly (rests, is, subst (λ k. IsIn k rests) same r.1)
      | inr more ↦ through r.0 (rests, is, r.1) more
    ],
  )
    where
      is : Became es e.label (Shown rests)
      is = record { entry = e; stands = at-in es p e at; of_label = refl; own_is = own }

      rests_are : (l : Label) (others : List Label) → l ≡ e.label → Became es l (Shown others) → others ≡ rests
      rests_are l others same b = ap rests_of (became_once es ascend l (Shown others) (Shown rests) b (rw same is))
        where
          rests_of : Own → List Label
          rests_of (Shown ks) = ks
          rests_of Fault = []
          rests_of Cancelled = []

      there : (l g : Label) → l ≡ e.label → Reaches es l g → ReachedBy es rests g
      there l g same (directly on) = (g, rw (rests_are l on.0 same on.1) at on.2, inl refl)
      there l g same (through m on more) = (m, rw (rests_are l on.0 same on.1) at on.2, inr more)

  -- one that no proof shows reaches nothing
  reaches-none : (p : ℕ) (e : Entry) (f : Label) → IsAt es p e → IsNotShown e.own → Reaches es e.label f → ⊥
  reaches-none p e f at not r = there e.label f refl r
    where
      by : (l : Label) (rests : List Label) → l ≡ e.label → Became es l (Shown rests) → ⊥
      by l rests same b =
          let shown : e.own ≡ Shown rests = own-at p e (Shown rests) at (rw same at b) in
          elim not [ inl fault ↦ shown-fault rests (sym shown ∙ fault) | inr gone ↦ shown-cancelled rests (sym shown ∙ gone) ]

      there : (l g : Label) → l ≡ e.label → Reaches es l g → ⊥
      there l g same (directly on) = by l on.0 same on.1
      there l g same (through m on more) = by l on.0 same on.1

  -- what more labels reach
  reached-split : (ks : List Label) (l : Label) (own : Own) (place : ℕ) → IsReachedAt es (ks ++ l ∷ []) own place ↔ (IsReachedAt es ks own place ⊎ IsReachedAt es (l ∷ []) own place)
  reached-split ks l own place = (
    λ r. elim (in_split r.reached.0 ks (l ∷ []) r.reached.1) [
      | inl m ↦ inl (record { entry = r.entry; at = r.at; own_is = r.own_is; reached = (r.reached.0, m, r.reached.2) })
      | inr m ↦ inr (record { entry = r.entry; at = r.at; own_is = r.own_is; reached = (r.reached.0, m, r.reached.2) })
    ],
    λ h. elim h [
      | inl r ↦ record { entry = r.entry; at = r.at; own_is = r.own_is; reached = (r.reached.0, in-append_left r.reached.0 ks (l ∷ []) r.reached.1, r.reached.2) }
      | inr r ↦ record { entry = r.entry; at = r.at; own_is = r.own_is; reached = (r.reached.0, in-append_right r.reached.0 ks (l ∷ []) r.reached.1, r.reached.2) }
    ],
  )

  module _ (p : ℕ) (e : Entry) (at : IsAt es p e) where
    -- what a lemma that is shown reaches, of those that aren't
    reached-shown : (rests : List Label) (own : Own) (place : ℕ) → e.own ≡ Shown rests → IsNotShown own → IsReachedAt es (e.label ∷ []) own place ↔ IsReachedAt es rests own place
    reached-shown rests own place shown not = (λ r. there r, λ r. record { entry = r.entry; at = r.at; own_is = r.own_is; reached = (e.label, inl refl, inr ((reaches-by p e rests r.entry.label at shown).1 r.reached)) })
      where
        apart : e.own ≡ own → ⊥
        apart same = elim not [ inl fault ↦ shown-fault rests (sym shown ∙ same ∙ fault) | inr gone ↦ shown-cancelled rests (sym shown ∙ same ∙ gone) ]

        there : IsReachedAt es (e.label ∷ []) own place → IsReachedAt es rests own place
        there r = elim r.reached.1 [
          | inl here ↦ elim r.reached.2 [
            | inl same ↦
                let one : e ≡ r.entry = one_of_label es ascend e r.entry (at-in es p e at) (at-in es place r.entry r.at) (sym here ∙ same) in
                absurd (apart (ap Entry.own one ∙ r.own_is))
            | inr more ↦ record { entry = r.entry; at = r.at; own_is = r.own_is; reached = (reaches-by p e rests r.entry.label at shown).0 (subst (λ k. Reaches es k r.entry.label) here more) }
          ]
          | inr none ↦ absurd none
        ]

    -- one that isn't shown reaches itself alone
    reached-itself : (own : Own) (place : ℕ) → IsNotShown e.own → IsReachedAt es (e.label ∷ []) own place ↔ ((place ≡ p) × (e.own ≡ own))
    reached-itself own place not = (λ r. there r, λ h. record { entry = e; at = rw h.0 at; own_is = h.1; reached = (e.label, inl refl, inl refl) })
      where
        there : IsReachedAt es (e.label ∷ []) own place → (place ≡ p) × (e.own ≡ own)
        there r = elim r.reached.1 [
          | inl here ↦ elim r.reached.2 [
            | inl same ↦
                let one : e ≡ r.entry = one_of_label es ascend e r.entry (at-in es p e at) (at-in es place r.entry r.at) (sym here ∙ same) in
                (one_place es ascend place p r.entry e r.at at (sym (ap Entry.label one)), ap Entry.own one ∙ r.own_is)
            | inr more ↦ absurd (reaches-none p e r.entry.label at not (subst (λ k. Reaches es k r.entry.label) here more))
          ]
          | inr none ↦ absurd none
        ]

    module _ (ks : List Label) (old new : Reach) (before : IsReach es ks old) where
      or-true : (a b : Bool) → IsTrue (a || b) ↔ (IsTrue a ⊎ IsTrue b)
      or-true true b = (λ h. inl refl, λ h. refl)
      or-true false b = (λ h. inr h, λ h. elim h [ inl k ↦ absurd cc | inr k ↦ k ])

      pub put-shown : (rests : List Label) (other : Reach) → e.own ≡ Shown rests → IsReach es rests other → IsWide es (length old.row)
          → ((place : ℕ) → Holds new.row place ↔ (Holds old.row place ⊎ ((place / 64 < length old.row) × Holds other.row place))) → new.mark ≡ (old.mark || other.mark)
          → IsReach es (ks ++ e.label ∷ []) new
      put-shown rests other shown theirs wide held mark = record {
        faults = λ place. (
          λ h. (reached-split ks e.label Fault place).1 (elim ((held place).0 h) [
            | inl o ↦ inl ((before.faults place).0 o)
            | inr t ↦ inr ((reached-shown rests Fault place shown (inl refl)).1 ((theirs.faults place).0 t.1))
          ]),
          λ r. (held place).1 (elim ((reached-split ks e.label Fault place).0 r) [
            | inl o ↦ inl ((before.faults place).1 o)
            | inr t ↦ inr (wide.room place t.entry t.at t.own_is, (theirs.faults place).1 ((reached-shown rests Fault place shown (inl refl)).0 t))
          ]),
        );
        cancelled = rw mark (
          λ h. elim ((or-true old.mark other.mark).0 h) [
            | inl o ↦ (let w = before.cancelled.0 o in (w.0, (reached-split ks e.label Cancelled w.0).1 (inl w.1)))
            | inr t ↦ (let w = theirs.cancelled.0 t in (w.0, (reached-split ks e.label Cancelled w.0).1 (inr ((reached-shown rests Cancelled w.0 shown (inr refl)).1 w.1))))
          ],
          λ w. (or-true old.mark other.mark).1 (elim ((reached-split ks e.label Cancelled w.0).0 w.1) [
            | inl o ↦ inl (before.cancelled.1 (w.0, o))
            | inr t ↦ inr (theirs.cancelled.1 (w.0, (reached-shown rests Cancelled w.0 shown (inr refl)).0 t))
          ]),
        );
      }

      pub put-fault : e.own ≡ Fault → ((place : ℕ) → Holds new.row place ↔ ((place ≡ p) ⊎ Holds old.row place)) → new.mark ≡ old.mark → IsReach es (ks ++ e.label ∷ []) new
      put-fault fault held mark = record {
        faults = λ place. (
          λ h. (reached-split ks e.label Fault place).1 (elim ((held place).0 h) [
            | inl here ↦ inr ((reached-itself Fault place (inl fault)).1 (here, fault))
            | inr o ↦ inl ((before.faults place).0 o)
          ]),
          λ r. (held place).1 (elim ((reached-split ks e.label Fault place).0 r) [
            | inl o ↦ inr ((before.faults place).1 o)
            | inr t ↦ inl ((reached-itself Fault place (inl fault)).0 t).0
          ]),
        );
        cancelled = rw mark (
          λ h. (let w = before.cancelled.0 h in (w.0, (reached-split ks e.label Cancelled w.0).1 (inl w.1))),
          λ w. elim ((reached-split ks e.label Cancelled w.0).0 w.1) [
            | inl o ↦ before.cancelled.1 (w.0, o)
            | inr t ↦ absurd (fault-cancelled (sym fault ∙ ((reached-itself Cancelled w.0 (inl fault)).0 t).1))
          ],
        );
      }

      pub put-cancelled : e.own ≡ Cancelled → new.row ≡ old.row → new.mark ≡ true → IsReach es (ks ++ e.label ∷ []) new
      put-cancelled gone row mark = record {
        faults = λ place. rw row (
          λ h. (reached-split ks e.label Fault place).1 (inl ((before.faults place).0 h)),
          λ r. elim ((reached-split ks e.label Fault place).0 r) [
            | inl o ↦ (before.faults place).1 o
            | inr t ↦ absurd (fault-cancelled (sym ((reached-itself Fault place (inr gone)).0 t).1 ∙ gone))
          ],
        );
        cancelled = rw mark (
          λ h. (p, (reached-split ks e.label Cancelled p).1 (inr ((reached-itself Cancelled p (inr gone)).1 (refl, gone)))),
          λ w. refl,
        );
      }

-- What no label reaches.
pub reach-none : (es : List Entry) (row : List ℕ) → ((place : ℕ) → ¬ Holds row place) → IsReach es [] (record { row = row; mark = false })
reach-none es row none = record {
  faults = λ place. (λ h. absurd (none place h), λ r. absurd r.reached.1);
  cancelled = (λ h. absurd cc, λ w. absurd w.1.reached.1);
}
