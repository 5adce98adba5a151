-- The rows of lemmas of which fewer are cancelled.
use Rattle.std.proofs.Common.{◌≡◌, ℕ, List, [], ◌∷◌, inl, inr, refl, sym, ◌∙◌, ap, subst, map, None}
use Rattle.pure_text.specs.Lists.{IsIn, EachTwo}
use Rattle.pure_text.proofs.ListLaws.{in-map}
use Rattle.pure_definitions.specs.Names.{Label}
use Rattle.pure_promise_fates.specs.Entries as fates
use Rattle.pure_promise_fates.specs.Entries.{Own, Shown, Fault, Cancelled, Became, Fate, Proved, Failed, Tainted, Gone, Unsettled, IsFate, failed, AreEntries}
use Rattle.pure_promise_fates.proofs.FateLaws.{became_once, one_fate, shown-cancelled, fault-cancelled}
use Rattle.pure_promise_fates.proofs.ProvedLaws.{in_mapped}
use Rattle.pure_print.specs.declared.row.Row.{Row}
use Rattle.pure_table.specs.Promise.Entries.{LemmaEntry, plain_own, plain}
use Rattle.pure_table.specs.Promise.RowText.{status_of, fate_row}
use Rattle.pure_table.specs.Promise.Rows.{IsRowOf, AreRowsOf}
use Rattle.pure_table.proofs.Promise.FateLaws.{joined_is_proved}
use Rattle.pure_table_laws.specs.Standing.{IsStanding, StandsAs}
use Rattle.pure_table_laws.proofs.JoinedLaws.{stays_joined}

-- What stands in one list and has a property stands in another that is the same wherever the property holds.
pub same_in : {A : Type 0} (P : A → Type 0) (xs ys : List A) → EachTwo (λ x y. P x → x ≡ y) xs ys → (x : A) → IsIn x xs → P x → IsIn x ys
same_in P [] ys h x m p = absurd m
same_in P (w ∷ xs) [] h x m p = absurd h
same_in P (w ∷ xs) (z ∷ ys) h x (inl e) p = inl (e ∙ h.0 (subst P e p))
same_in P (w ∷ xs) (z ∷ ys) h x (inr m) p = inr (same_in P xs ys h.1 x m p)

-- The lemma isn't cancelled.
abbrev IsTried : LemmaEntry → Type 0
IsTried e = ¬ (e.own ≡ None)

-- The one lemma is the other, unless it is cancelled.
abbrev pub IsKept : LemmaEntry → LemmaEntry → Type 0
IsKept e d = IsTried e → e ≡ d

-- What isn't cancelled as fates see it was tried.
tried : (e : LemmaEntry) (own : Own) → plain_own e.own ≡ own → (own ≡ Cancelled → ⊥) → IsTried e
tried e own is other none = other (sym is ∙ ap plain_own none)

module _ (texts : List (List ℕ)) (es ds : List LemmaEntry) (before : AreEntries (map plain es)) (after : AreEntries (map plain ds)) (two : EachTwo IsKept es ds) where
  still : (e : LemmaEntry) → IsIn e es → (own : Own) → plain_own e.own ≡ own → (own ≡ Cancelled → ⊥) → Became (map plain ds) e.label own
  still e m own is other = record { entry = plain e; stands = in-map plain e ds (same_in IsTried es ds two e m (tried e own is other)); of_label = refl; own_is = is }

  still_shown : (l : Label) (rests : List Label) → Became (map plain es) l (Shown rests) → Became (map plain ds) l (Shown rests)
  still_shown l rests b =
      let found = in_mapped plain b.entry es b.stands in
      let own : plain_own found.0.own ≡ Shown rests = ap fates.Entry.own found.2 ∙ b.own_is in
      let label : found.0.label ≡ l = ap fates.Entry.label found.2 ∙ b.of_label in
      subst (λ k. Became (map plain ds) k (Shown rests)) label (still found.0 found.1 (Shown rests) own (shown-cancelled rests))

  own-became : (e : LemmaEntry) → IsIn e es → (own : Own) → Became (map plain es) e.label own → plain_own e.own ≡ own
  own-became e m own b = became_once (map plain es) before.ascend e.label (plain_own e.own) own (record { entry = plain e; stands = in-map plain e es m; of_label = refl; own_is = refl }) b

  -- The lemma isn't cancelled, and it keeps its fate and what its row says.
  record KeepsFate (e : LemmaEntry) (fate : Fate) : Type 0 where
    tries : IsTried e
    fated : IsFate (map plain ds) e.label fate
    row : fate_row texts es e fate ≡ fate_row texts ds e fate

  settled : (e : LemmaEntry) → IsIn e es → (fate : Fate) → IsFate (map plain es) e.label fate → IsStanding (status_of fate) → KeepsFate e fate
  settled e m Proved is stands =
      let joined = (joined_is_proved (map plain es) before e.label).1 is in
      record {
        tries = tried e (Shown joined.shown.0) (own-became e m (Shown joined.shown.0) joined.shown.1) (shown-cancelled joined.shown.0);
        fated = (joined_is_proved (map plain ds) after e.label).0 (stays_joined (map plain es) (map plain ds) after still_shown e.label joined);
        row = refl;
      }
  settled e m Failed (failed b) stands =
      let own = own-became e m Fault b in
      record { tries = tried e Fault own fault-cancelled; fated = failed (still e m Fault own fault-cancelled); row = refl }
  settled e m (Tainted faults) is stands = absurd stands
  settled e m Gone is stands = absurd stands
  settled e m Unsettled is stands = absurd stands

  row_stands : (e d : LemmaEntry) (row other : Row) → IsIn e es → IsKept e d → IsRowOf texts es e row → IsRowOf texts ds d other → StandsAs row other
  row_stands e d row other m kept h k stands =
      let keeps = settled e m h.0 h.1 (subst (λ (r : Row). IsStanding r.status) h.2 stands) in
      let same : e ≡ d = kept keeps.tries in
      let fate : h.0 ≡ k.0 = one_fate (map plain ds) after d.label h.0 k.0 (subst (λ (x : LemmaEntry). IsFate (map plain ds) x.label h.0) same keeps.fated) k.1 in
      h.2 ∙ keeps.row ∙ ap (λ x. fate_row texts ds x h.0) same ∙ ap (fate_row texts ds d) fate ∙ sym k.2

  rows : (xs ys : List LemmaEntry) (rs ss : List Row) → ((e : LemmaEntry) → IsIn e xs → IsIn e es) → EachTwo IsKept xs ys → EachTwo (IsRowOf texts es) xs rs → EachTwo (IsRowOf texts ds) ys ss → EachTwo StandsAs rs ss
  rows [] [] [] [] among kept h k = tt
  rows [] [] [] (s ∷ ss) among kept h k = absurd k
  rows [] [] (r ∷ rs) ss among kept h k = absurd h
  rows [] (y ∷ ys) rs ss among kept h k = absurd kept
  rows (x ∷ xs) [] rs ss among kept h k = absurd kept
  rows (x ∷ xs) (y ∷ ys) [] ss among kept h k = absurd h
  rows (x ∷ xs) (y ∷ ys) (r ∷ rs) [] among kept h k = absurd k
  rows (x ∷ xs) (y ∷ ys) (r ∷ rs) (s ∷ ss) among kept h k = (row_stands x y r s (among x (inl refl)) kept.0 h.0 k.0, rows xs ys rs ss (λ e m. among e (inr m)) kept.1 h.1 k.1)

  pub rows_kept : (rs ss : List Row) → AreRowsOf texts es rs → AreRowsOf texts ds ss → EachTwo StandsAs rs ss
  rows_kept rs ss h k = rows es ds rs ss (λ e m. m) two h k
