-- A session comes to one table at most.
use Rattle.std.proofs.Common.{◌≡◌, ℕ, List, [], ◌∷◌, inl, inr, refl, sym, ◌∙◌, ap, subst, map, Option, Some, None}
use Rattle.pure_text.specs.Lists.{IsIn, EachTwo}
use Rattle.pure_definitions.specs.Names.{Label}
use Rattle.pure_definitions.specs.Terms.Term.{Term}
use Rattle.pure_graph.specs.Order.{Loaded}
use Rattle.pure_promise_fates.specs.Entries.{AreEntries}
use Rattle.pure_promise_fates.proofs.FateLaws.{one_fate}
use Rattle.pure_print.specs.declared.row.Row.{Row}
use Rattle.pure_theory_run.specs.Declare.Notes.{Fork, Note}
use Rattle.pure_theory_run.specs.Method.Proof.{ProofOutcome, IsProofIn}
use Rattle.pure_theory_run.proofs.Method.OnceLaws.{proof_in-once}
use Rattle.pure_promise.specs.Entries.{LemmaEntry, plain}
use Rattle.pure_promise.specs.Rows.{IsRowOf, AreRowsOf}
use Rattle.pure_promise.specs.RowText.{fate_row}
use Rattle.pure_theory_run.specs.SessionLaws.Loaded.{IsLoadedSession}
use Rattle.pure_theory_run.specs.SessionMeaning.Statements.{forks_of}
use Rattle.pure_theory_run.specs.SessionMeaning.Laws.{IsSomeFork}
use Rattle.pure_theory_run.proofs.SessionMeaning.StatementLaws.{statements_once}
use Rattle.pure_table.specs.Table.{Table, IsOwn, IsEntryOf, AreEntriesOf}
use Rattle.pure_table.specs.Laws.{TableOnce}
use Rattle.pure_table.proofs.DerivedLaws.{standing, provable, some_fork, has_fates}

-- What follows of each two that stand at one place makes two lists the same.
same_lists : {A B : Type 0} (P : A → Type 0) (R : A → B → Type 0) → ((a : A) (b c : B) → P a → R a b → R a c → b ≡ c)
    → (xs : List A) (ys zs : List B) → ((a : A) → IsIn a xs → P a) → EachTwo R xs ys → EachTwo R xs zs → ys ≡ zs
same_lists P R once [] [] [] each h k = refl
same_lists P R once [] [] (c ∷ zs) each h k = absurd k
same_lists P R once [] (b ∷ ys) zs each h k = absurd h
same_lists P R once (a ∷ xs) [] zs each h k = absurd h
same_lists P R once (a ∷ xs) (b ∷ ys) [] each h k = absurd k
same_lists P R once (a ∷ xs) (b ∷ ys) (c ∷ zs) each h k =
    let first : b ≡ c = once a b c (each a (inl refl)) h.0 k.0 in
    let rest : ys ≡ zs = same_lists P R once xs ys zs (λ x m. each x (inr m)) h.1 k.1 in
    λ i. first i ∷ rest i

pub same_entry : (l m : Label) (x y : ℕ) (A B : Term) (o p : Option ProofOutcome) → l ≡ m → x ≡ y → A ≡ B → o ≡ p
    → ◌≡◌ {A = LemmaEntry} (record { label = l; name = x; prop = A; own = o }) (record { label = m; name = y; prop = B; own = p })
same_entry l m x y A B o p a b c d = λ i. record { label = a i; name = b i; prop = c i; own = d i }

same_table : (n m : List Note) (es ds : List LemmaEntry) (rs ss : List Row) → n ≡ m → es ≡ ds → rs ≡ ss
    → ◌≡◌ {A = Table} (record { notes = n; entries = es; lemmas = rs }) (record { notes = m; entries = ds; lemmas = ss })
same_table n m es ds rs ss a b c = λ i. record { notes = a i; entries = b i; lemmas = c i }

module _ (texts : List (List ℕ)) (theories : List Loaded) (loaded : IsLoadedSession texts theories) where
  pub proof_once : (f : Fork) → IsSomeFork texts theories f → (o p : ProofOutcome) → IsProofIn texts f.content f.lemma f.fixed f.script o → IsProofIn texts f.content f.lemma f.fixed f.script p → o ≡ p
  proof_once f some o p h k =
      let good = (standing texts theories loaded f some).orderly.good in
      proof_in-once texts f.content (provable texts theories loaded f some).in_session good.sound.content good.antisymmetric f.lemma f.fixed f.script o p h k

  own_once : (cancelled : List Label) (f : Fork) → IsSomeFork texts theories f → (o p : Option ProofOutcome) → IsOwn texts cancelled f o → IsOwn texts cancelled f p → o ≡ p
  own_once cancelled f some None None h k = refl
  own_once cancelled f some None (Some p) h k = absurd (k.0 h)
  own_once cancelled f some (Some o) None h k = absurd (h.0 k)
  own_once cancelled f some (Some o) (Some p) h k = ap Some (proof_once f some o p h.1 k.1)

  entry_once : (cancelled : List Label) (f : Fork) (d e : LemmaEntry) → IsSomeFork texts theories f → IsEntryOf texts cancelled f d → IsEntryOf texts cancelled f e → d ≡ e
  entry_once cancelled f d e some h k =
      same_entry d.label e.label d.name e.name d.prop e.prop d.own e.own (h.label ∙ sym k.label) (h.name ∙ sym k.name) (h.prop ∙ sym k.prop) (own_once cancelled f some d.own e.own h.own k.own)

-- each lemma has one row at most
row_once : (texts : List (List ℕ)) (es : List LemmaEntry) → AreEntries (map plain es) → (e : LemmaEntry) (r s : Row) → IsRowOf texts es e r → IsRowOf texts es e s → r ≡ s
row_once texts es entries e r s h k = h.2 ∙ ap (fate_row texts es e) (one_fate (map plain es) entries e.label h.0 k.0 h.1 k.1) ∙ sym k.2

rows_once : (texts : List (List ℕ)) (es : List LemmaEntry) → AreEntries (map plain es) → (rs ss : List Row) → AreRowsOf texts es rs → AreRowsOf texts es ss → rs ≡ ss
rows_once texts es entries rs ss h k = same_lists (λ e. Unit {0}) (IsRowOf texts es) (λ e r s all. row_once texts es entries e r s) es rs ss (λ e m. tt) h k

pub table_once : TableOnce
table_once S loaded cancelled t u h k =
    let notes : t.notes ≡ u.notes = statements_once S.names S.theories loaded t.notes u.notes h.statements k.statements in
    let of_t : AreEntriesOf S.names cancelled t.notes u.entries = subst (λ ns. AreEntriesOf S.names cancelled ns u.entries) (sym notes) k.entries in
    let entries : t.entries ≡ u.entries =
    same_lists (IsSomeFork S.names S.theories) (IsEntryOf S.names cancelled) (λ f d e. entry_once S.names S.theories loaded cancelled f d e)
    (forks_of t.notes) t.entries u.entries (some_fork S.names S.theories loaded t.notes h.statements) h.entries of_t in
    let lemmas : t.lemmas ≡ u.lemmas =
    rows_once S.names t.entries (has_fates S.names S.theories loaded t.notes h.statements cancelled t.entries h.entries) t.lemmas u.lemmas h.rows
    (subst (λ es. AreRowsOf S.names es u.lemmas) (sym entries) k.rows) in
    same_table t.notes u.notes t.entries u.entries t.lemmas u.lemmas notes entries lemmas
