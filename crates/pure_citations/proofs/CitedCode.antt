-- The walks that gather what lemmas cite.
use Rattle.std.proofs.Common.{◌≡◌, ◌↔◌, ◌⊎◌, ◌∙◌, ℕ, zero, suc, ◌+◌, ◌<◌, ◌≤◌, List, [], ◌∷◌, inl, inr, refl, sym, ap, subst, map, length, get_or, arith}
use Rattle.std.proofs.lemmas.Bool.{cases_lt}
use Rattle.pure_text.specs.Lists.{IsIn, Each, EachTwo}
use Rattle.pure_text.proofs.ListLaws.{each_at, in-map, read_in}
use Rattle.pure_definitions.specs.Names.{Label}
use Rattle.pure_order_tables.specs.Rows.{Holds}
use Rattle.pure_order_tables.proofs.RowLaws.{none_held}
use Rattle.pure_promise_fates.specs.Entries as fates
use Rattle.pure_promise_fates.specs.Entries.{Shown, Became, Reaches, AreEntries}
use Rattle.pure_promise_fates.specs.Reach.{IsAt}
use Rattle.pure_promise_fates.proofs.PlaceLaws.{at-in, in-at, at-once, at-map, at-within}
use Rattle.pure_promise_fates.proofs.FateLaws.{became_once}
use Rattle.pure_promise_fates.proofs.CodeLaws.{at-seen}
use Rattle.pure_promise_fates.proofs.ReachLaws.{became-at}
use Rattle.pure_table.specs.Declare.Notes.{Fork}
use Rattle.pure_lookup.specs.Laws.{IsInSession}
use Rattle.pure_table.specs.Promise.Entries.{LemmaEntry, plain}
use Rattle.pure_table.specs.Promise.declared.entry.Entry.{Entry}
use Rattle.pure_table.specs.Promise.Seen.{seen, seen_entry, reported}
use Rattle.pure_citations.specs.Cites.{IsReachedFrom, Cites}
use Rattle.pure_citations.specs.Reached.{IsFrom}
use Rattle.pure_citations.proofs.NamedLaws.{unchanged}
use Rattle.pure_citations.specs.Cited.{IsNamedBy, IsNamedAt, IsBefore, HasNameAt, AreCitedBy}

-- One place more.
pub before-next : (P : ℕ → Type 0) (place : ℕ) → IsBefore P (place + 1) ↔ (IsBefore P place ⊎ P place)
before-next P place = (
  λ w. elim (cases_lt w.0 place) [
    | inl less ↦ inl (w.0, less, w.2)
    | inr most ↦ inr (let same : w.0 ≡ place = omega (arith, most, w.1) in subst P same w.2)
  ],
  λ h. elim h [ inl w ↦ (w.0, omega (arith, w.1), w.2) | inr p ↦ (place, omega arith, p) ],
)

pub before-none : (P : ℕ → Type 0) (O : Type 0) → O ↔ (IsBefore P 0 ⊎ O)
before-none P O = (λ o. inr o, λ h. elim h [ inl w ↦ absurd (omega (arith, w.1)) | inr o ↦ o ])

pub here-next : (P : ℕ → Type 0) (p place : ℕ) → ((p < place + 1) × P p) ↔ (((p < place) × P p) ⊎ ((p ≡ place) × P place))
here-next P p place = (
  λ w. elim (cases_lt p place) [
    | inl less ↦ inl (less, w.1)
    | inr most ↦ inr (let same : p ≡ place = omega (arith, most, w.0) in (same, subst P same w.1))
  ],
  λ h. elim h [ inl w ↦ (omega (arith, w.0), w.1) | inr w ↦ (omega (arith, w.0), subst P (sym w.0) w.1) ],
)

pub here-none : (P : ℕ → Type 0) (p : ℕ) (O : Type 0) → O ↔ (((p < 0) × P p) ⊎ O)
here-none P p O = (λ o. inr o, λ h. elim h [ inl w ↦ absurd (omega (arith, w.0)) | inr o ↦ o ])

-- At the end of a walk all places are passed.
pub before-end : (P : ℕ → Type 0) (place count : ℕ) (N O : Type 0) → ((q : ℕ) → P q → q < count) → count ≤ place → N ↔ (IsBefore P place ⊎ O) → N ↔ (IsBefore P count ⊎ O)
before-end P place count N O inside past h = (
  λ n. elim (h.0 n) [ inl w ↦ inl (w.0, inside w.0 w.2, w.2) | inr o ↦ inr o ],
  λ w. elim w [ inl b ↦ h.1 (inl (b.0, omega (arith, b.1, past), b.2)) | inr o ↦ h.1 (inr o) ],
)

pub here-end : (P : ℕ → Type 0) (p place count : ℕ) (N O : Type 0) → (P p → p < count) → count ≤ place → N ↔ (((p < place) × P p) ⊎ O) → N ↔ (((p < count) × P p) ⊎ O)
here-end P p place count N O inside past h = (
  λ n. elim (h.0 n) [ inl w ↦ inl (inside w.1, w.1) | inr o ↦ inr o ],
  λ w. elim w [ inl b ↦ h.1 (inl (omega (arith, b.0, past), b.1)) | inr o ↦ h.1 (inr o) ],
)

-- Of two lists that belong together, what stands at a place of one stands beside what stands there in the other.
pub beside-at : {A B : Type 0} (R : A → B → Type 0) (xs : List A) (ys : List B) → EachTwo R xs ys → (p : ℕ) (x : A) → IsAt xs p x → (y : B) × IsAt ys p y × R x y
beside-at R [] ys h p x m = absurd m
beside-at R (a ∷ xs) [] h p x m = absurd h
beside-at R (a ∷ xs) (b ∷ ys) h zero x m = (b, refl, subst (λ c. R c b) m h.0)
beside-at R (a ∷ xs) (b ∷ ys) h (suc p) x m = beside-at R xs ys h.1 p x m

abbrev pub IsBeside : Fork → LemmaEntry → Type 0
IsBeside f e = e.label ≡ f.label

-- What the walks gathered: the places of lemmas of the name, those that are reached from them, and the axioms that are named there.
pub record AreGathered (texts : List (List ℕ)) (fs : List Fork) (es : List LemmaEntry) (name : ℕ) (ps : List fates.Entry) (count : ℕ) (first row axioms : List ℕ) : Type 0 where
  pub entries : AreEntries ps
  pub first_is : (p : ℕ) → Holds first p ↔ (((p < count) × HasNameAt es name p) ⊎ Holds [] p)
  pub row_is : (p : ℕ) (e : fates.Entry) → IsAt ps p e → Holds row p ↔ IsFrom ps first e.label
  pub axioms_are : (n : ℕ) → Holds axioms n ↔ (IsBefore (IsNamedAt texts row fs ps n) count ⊎ Holds [] n)

module _ (texts : List (List ℕ)) (fs : List Fork) (es : List LemmaEntry) (name : ℕ) (first row axioms : List ℕ) (count : ℕ) (two : EachTwo IsBeside fs es) (long : length es ≡ count) (g : AreGathered texts fs es name (map plain es) count first row axioms) where
  abbrev ps : List fates.Entry
  ps = map plain es

  nothing : (n : ℕ) → ¬ Holds [] n
  nothing n h = none_held 0 n h

  first-named : (p : ℕ) → Holds first p → HasNameAt es name p
  first-named p h = elim ((g.first_is p).0 h) [ inl w ↦ w.1 | inr o ↦ absurd (nothing p o) ]

  named-axiom : (n : ℕ) → Holds axioms n → IsBefore (IsNamedAt texts row fs ps n) count
  named-axiom n h = elim ((g.axioms_are n).0 h) [ inl w ↦ w | inr o ↦ absurd (nothing n o) ]

  -- A lemma from which another is reached has the name.
  from-named : (k : Label) → IsFrom ps first k → (e : LemmaEntry) × IsIn e es × (e.name ≡ name) × IsReachedFrom es e.label k
  from-named k (p, d, at, held, reached) =
      let named = first-named p held in
      let e = named.0 in
      let same : d ≡ plain e = at-once ps p d (plain e) at (at-map plain es p e named.1) in
      let label : d.label ≡ e.label = ap (λ (x : fates.Entry). x.label) same in
      (e, at-in es p e named.1, named.2, elim reached [ inl s ↦ inl (sym label ∙ s) | inr r ↦ inr (subst (λ l. Reaches ps l k) label r) ])

  gathered-cited : (n : ℕ) → Holds axioms n → (e : LemmaEntry) × IsIn e es × (e.name ≡ name) × Cites texts fs es e.label n
  gathered-cited n h = by (named-axiom n h)
    where
      by : IsBefore (IsNamedAt texts row fs ps n) count → (e : LemmaEntry) × IsIn e es × (e.name ≡ name) × Cites texts fs es e.label n
      by (q, less, (f, d, there, at, held, shown)) =
          let b = beside-at IsBeside fs es two q f there in
          let same : d ≡ plain b.0 = at-once ps q d (plain b.0) at (at-map plain es q b.0 b.1) in
          let label : d.label ≡ f.label = ap (λ (x : fates.Entry). x.label) same ∙ b.2 in
          let from = from-named d.label ((g.row_is q d at).0 held) in (
            from.0,
            from.1,
            from.2,
            record {
              lemma = f;
              stands = at-in fs q f there;
              reached = subst (λ l. IsReachedFrom es from.0.label l) label from.3;
              shown = (shown.0.0, record { entry = d; stands = at-in ps q d at; of_label = label; own_is = shown.0.1 });
              names = shown.1;
            },
          )

  cited-gathered : (n : ℕ) (e : LemmaEntry) → IsIn e es → e.name ≡ name → Cites texts fs es e.label n → Holds axioms n
  cited-gathered n e m is c =
      let f = c.lemma in
      let place = in-at fs f c.stands in
      let q = place.0 in
      let b = beside-at IsBeside fs es two q f place.1 in
      let at : IsAt ps q (plain b.0) = at-map plain es q b.0 b.1 in
      let start = in-at es e m in
      let held : Holds first start.0 = (g.first_is start.0).1 (inl (subst (λ k. start.0 < k) long (at-within es start.0 e start.1), (e, start.1, is))) in
      let reached : IsReachedFrom es e.label b.0.label = subst (λ l. IsReachedFrom es e.label l) (sym b.2) c.reached in
      let here : Holds row q = (g.row_is q (plain b.0) at).1 (start.0, plain e, at-map plain es start.0 e start.1, held, reached) in
      let became : Became ps b.0.label (Shown c.shown.0) = subst (λ l. Became ps l (Shown c.shown.0)) (sym b.2) c.shown.1 in
      let own : (plain b.0).own ≡ Shown c.shown.0 = became_once ps g.entries.ascend b.0.label (plain b.0).own (Shown c.shown.0) (became-at ps g.entries.ascend q (plain b.0) at) became in
      (g.axioms_are n).1 (inl (q, subst (λ k. q < k) long (at-within es q b.0 b.1), (f, plain b.0, place.1, at, here, ((c.shown.0, own), c.names))))

  gathered : AreCitedBy texts fs es name axioms
  gathered n = (gathered-cited n, λ w. cited-gathered n w.0 w.1 w.2 w.3)

pub cited-by : (texts : List (List ℕ)) (fs : List Fork) (es : List LemmaEntry) (name : ℕ) (qs : List fates.Entry) (count : ℕ) (first row axioms : List ℕ) → EachTwo IsBeside fs es → length es ≡ count → map plain es ≡ qs
    → AreGathered texts fs es name qs count first row axioms → AreCitedBy texts fs es name axioms
cited-by texts fs es name qs count first row axioms two long same g =
    gathered texts fs es name first row axioms count two long (subst (λ xs. AreGathered texts fs es name xs count first row axioms) (sym same) g)

-- A lemma that has the name is put in, and another isn't.
pub named-put : (es : List Entry) (place : ℕ) (d : Entry) (name : ℕ) → place < length es → d ≡ get_or es place d → d.name ≡ name → (old new : List ℕ) → ((p : ℕ) → Holds new p ↔ ((p ≡ place) ⊎ Holds old p))
    → (p : ℕ) → Holds new p ↔ (((p ≡ place) × HasNameAt (seen es) name place) ⊎ Holds old p)
named-put es place d name within is same old new put p = (
  λ h. elim ((put p).0 h) [ inl e ↦ inl (e, (seen_entry d, at-seen seen_entry es place d within is, same)) | inr o ↦ inr o ],
  λ h. elim h [ inl w ↦ (put p).1 (inl w.0) | inr o ↦ (put p).1 (inr o) ],
)

pub named-not : (es : List Entry) (place : ℕ) (d : Entry) (name : ℕ) → place < length es → d ≡ get_or es place d → (d.name ≡ name → ⊥) → (old : List ℕ) (p : ℕ) → Holds old p ↔ (((p ≡ place) × HasNameAt (seen es) name place) ⊎ Holds old p)
named-not es place d name within is other old p = unchanged ((p ≡ place) × HasNameAt (seen es) name place) (Holds old p) (λ w. no w.1)
  where
    no : HasNameAt (seen es) name place → ⊥
    no (e, at, same) = other (ap (λ (x : LemmaEntry). x.name) (at-once (seen es) place (seen_entry d) e (at-seen seen_entry es place d within is) at) ∙ same)

module _ {D : Type 0} (fork : D → Fork) (ds : List D) (place : ℕ) (d : D) (within : place < length ds) (is : d ≡ get_or ds place d) where
  -- What holds of each holds of the one at the place.
  pub session-at : (texts : List (List ℕ)) → Each (λ (f : Fork). IsInSession texts f.content) (map fork ds) → IsInSession texts (fork d).content
  session-at texts h = each_at (λ (f : Fork). IsInSession texts f.content) (map fork ds) h (fork d) (in-map fork d ds (read_in ds place d within is))

  -- Where the row holds the place, what its lemma names is put in.
  pub shown-at : (texts : List (List ℕ)) (es : List Entry) (e : Entry) (row old new : List ℕ) (n : ℕ) → place < length es → e ≡ get_or es place e → Holds row place → Holds new n ↔ (IsNamedBy texts (fork d) (reported e) n ⊎ Holds old n)
      → Holds new n ↔ (IsNamedAt texts row (map fork ds) (map reported es) n place ⊎ Holds old n)
  shown-at texts es e row old new n inside there held h = (
    λ w. elim (h.0 w) [ inl s ↦ inl (fork d, reported e, at-seen fork ds place d within is, at-seen reported es place e inside there, held, s) | inr o ↦ inr o ],
    λ w. elim w [ inl s ↦ h.1 (inl (back s)) | inr o ↦ h.1 (inr o) ],
  )
    where
      back : IsNamedAt texts row (map fork ds) (map reported es) n place → IsNamedBy texts (fork d) (reported e) n
      back (f, x, at, by, holds, s) =
          let one : f ≡ fork d = at-once (map fork ds) place f (fork d) at (at-seen fork ds place d within is) in
          let two : x ≡ reported e = at-once (map reported es) place x (reported e) by (at-seen reported es place e inside there) in
          subst (λ (g : Fork). IsNamedBy texts g (reported e) n) one (subst (λ (y : fates.Entry). IsNamedBy texts f y n) two s)
