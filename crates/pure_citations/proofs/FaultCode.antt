-- The walk that gathers the failed lemmas that are reached.
use Rattle.std.proofs.Common.{◌≡◌, ◌↔◌, ◌⊎◌, ◌∙◌, ◌<◌, ℕ, List, [], inl, inr, sym, ap, subst, map, length, get_or}
use Rattle.pure_text.specs.Lists.{IsIn}
use Rattle.pure_definitions.specs.Names.{Label}
use Rattle.pure_order_tables.specs.Rows.{Holds}
use Rattle.pure_order_tables.proofs.RowLaws.{none_held}
use Rattle.pure_promise_fates.specs.Entries as fates
use Rattle.pure_promise_fates.specs.Entries.{Reaches}
use Rattle.pure_promise_fates.specs.Reach.{IsAt}
use Rattle.pure_promise_fates.proofs.PlaceLaws.{at-in, in-at, at-once, at-map, at-within}
use Rattle.pure_promise_fates.proofs.CodeLaws.{at-seen}
use Rattle.pure_table.specs.Promise.Entries.{LemmaEntry, plain}
use Rattle.pure_table.specs.Promise.declared.entry.Entry.{Entry}
use Rattle.pure_table.specs.Promise.Seen.{seen, seen_entry}
use Rattle.pure_citations.specs.Cites.{IsReachedFrom}
use Rattle.pure_citations.specs.Reached.{IsFrom, Gains}
use Rattle.pure_citations.specs.Cited.{IsBefore, HasNameAt}
use Rattle.pure_citations.specs.Faults.{IsFaulty, IsFaultyAt, AreFaultsOf}
use Rattle.pure_citations.proofs.NamedLaws.{unchanged}

pub fault-put : (F : Type 0) → F → (name : ℕ) (old new : List ℕ) → ((n : ℕ) → Holds new n ↔ ((n ≡ name) ⊎ Holds old n)) → Gains (λ n. F × (name ≡ n)) old new
fault-put F is name old new put n = (
  λ h. elim ((put n).0 h) [ inl e ↦ inl (is, sym e) | inr o ↦ inr o ],
  λ w. elim w [ inl f ↦ (put n).1 (inl (sym f.1)) | inr o ↦ (put n).1 (inr o) ],
)

pub fault-not : (F : Type 0) → (F → ⊥) → (name : ℕ) (old : List ℕ) → Gains (λ n. F × (name ≡ n)) old old
fault-not F not name old n = unchanged (F × (name ≡ n)) (Holds old n) (λ w. not w.0)

module _ (es : List Entry) (row : List ℕ) (place : ℕ) (d : Entry) (within : place < length es) (is : d ≡ get_or es place d) where
  pub fault-at : Holds row place → (old new : List ℕ) → Gains (λ n. IsFaulty (seen_entry d) × (d.name ≡ n)) old new → Gains (λ n. IsFaultyAt (seen es) row n place) old new
  fault-at held old new put n = (
    λ h. elim ((put n).0 h) [ inl f ↦ inl (seen_entry d, at-seen seen_entry es place d within is, held, f.0, f.1) | inr o ↦ inr o ],
    λ w. elim w [ inl f ↦ (put n).1 (inl (back f)) | inr o ↦ (put n).1 (inr o) ],
  )
    where
      back : IsFaultyAt (seen es) row n place → IsFaulty (seen_entry d) × (d.name ≡ n)
      back (e, at, holds, faulty, name) =
          let same : e ≡ seen_entry d = at-once (seen es) place e (seen_entry d) at (at-seen seen_entry es place d within is) in
          (subst IsFaulty same faulty, subst (λ (x : LemmaEntry). x.name ≡ n) same name)

pub fault-none : (es : List LemmaEntry) (row : List ℕ) (place : ℕ) → (Holds row place → ⊥) → (old : List ℕ) → Gains (λ n. IsFaultyAt es row n place) old old
fault-none es row place not old n = unchanged (IsFaultyAt es row n place) (Holds old n) (λ w. not w.2)

-- What the walks gathered.
pub record AreFaultsGathered (es : List LemmaEntry) (name : ℕ) (ps : List fates.Entry) (count : ℕ) (first row faults : List ℕ) : Type 0 where
  pub first_is : (p : ℕ) → Holds first p ↔ (((p < count) × HasNameAt es name p) ⊎ Holds [] p)
  pub row_is : (p : ℕ) (e : fates.Entry) → IsAt ps p e → Holds row p ↔ IsFrom ps first e.label
  pub faults_are : Gains (λ n. IsBefore (IsFaultyAt es row n) count) [] faults

module _ (es : List LemmaEntry) (name : ℕ) (first row faults : List ℕ) (count : ℕ) (long : length es ≡ count) (g : AreFaultsGathered es name (map plain es) count first row faults) where
  abbrev ps : List fates.Entry
  ps = map plain es

  nothing : (n : ℕ) → Holds [] n → ⊥
  nothing n h = none_held 0 n h

  from-named : (k : Label) → IsFrom ps first k → (e : LemmaEntry) × IsIn e es × (e.name ≡ name) × IsReachedFrom es e.label k
  from-named k (p, d, at, held, reached) = elim ((g.first_is p).0 held) [
    | inl w ↦
        let e = w.1.0 in
        let same : d ≡ plain e = at-once ps p d (plain e) at (at-map plain es p e w.1.1) in
        let label : d.label ≡ e.label = ap (λ (x : fates.Entry). x.label) same in
        (e, at-in es p e w.1.1, w.1.2, elim reached [ inl s ↦ inl (sym label ∙ s) | inr r ↦ inr (subst (λ l. Reaches ps l k) label r) ])
    | inr o ↦ absurd (nothing p o)
  ]

  all_faults : AreFaultsOf es name faults
  all_faults n = (λ h. elim ((g.faults_are n).0 h) [ inl w ↦ forth w | inr o ↦ absurd (nothing n o) ], λ w. (g.faults_are n).1 (inl (back w)))
    where
      forth : IsBefore (IsFaultyAt es row n) count → (e : LemmaEntry) × (x : LemmaEntry) × IsIn e es × (e.name ≡ name) × IsIn x es × IsFaulty x × IsReachedFrom es e.label x.label × (x.name ≡ n)
      forth (q, less, (x, at, held, faulty, is)) =
          let from = from-named x.label ((g.row_is q (plain x) (at-map plain es q x at)).0 held) in
          (from.0, x, from.1, from.2, at-in es q x at, faulty, from.3, is)

      back : ((e : LemmaEntry) × (x : LemmaEntry) × IsIn e es × (e.name ≡ name) × IsIn x es × IsFaulty x × IsReachedFrom es e.label x.label × (x.name ≡ n)) → IsBefore (IsFaultyAt es row n) count
      back (e, x, m, named, there, faulty, reached, is) =
          let start = in-at es e m in
          let place = in-at es x there in
          let held : Holds first start.0 = (g.first_is start.0).1 (inl (subst (λ k. start.0 < k) long (at-within es start.0 e start.1), (e, start.1, named))) in
          let here : Holds row place.0 = (g.row_is place.0 (plain x) (at-map plain es place.0 x place.1)).1 (start.0, plain e, at-map plain es start.0 e start.1, held, reached) in
          (place.0, subst (λ k. place.0 < k) long (at-within es place.0 x place.1), (x, place.1, here, faulty, is))

pub faults-by : (es : List LemmaEntry) (name : ℕ) (qs : List fates.Entry) (count : ℕ) (first row held : List ℕ) → length es ≡ count → map plain es ≡ qs → AreFaultsGathered es name qs count first row held → AreFaultsOf es name held
faults-by es name qs count first row held long same g = all_faults es name first row held count long (subst (λ xs. AreFaultsGathered es name xs count first row held) (sym same) g)
