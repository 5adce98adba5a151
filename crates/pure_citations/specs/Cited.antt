-- Which axioms are cited, by the places of lemmas.
use Rattle.std.specs.Prelude.{◌≡◌, ◌<◌, ◌↔◌, ℕ, List, map}
use Rattle.std.specs.declared.alloc.Global.{Global}
use Rattle.std.specs.declared.sync.Arc.{Arc}
use Rattle.pure_text.specs.Lists.{IsIn, Each, EachTwo}
use Rattle.pure_definitions.specs.Names.{Label}
use Rattle.pure_lookup.specs.Laws.{IsInSession}
use Rattle.pure_order_tables.specs.Rows.{Holds}
use Rattle.pure_promise_fates.specs.Entries as fates
use Rattle.pure_promise_fates.specs.Entries.{Shown}
use Rattle.pure_promise_fates.specs.Reach.{IsAt}
use Rattle.pure_table.specs.Declare.Notes.{Fork}
use Rattle.pure_table.specs.Promise.Entries.{LemmaEntry}
use Rattle.pure_citations.specs.Named.{NamesAxiom}
use Rattle.pure_citations.specs.Cites.{Cites}

-- the lemmas behind pointers
abbrev pub forks : List (Arc Fork Global) → List Fork
forks = map (λ d. d.value)

-- The contents of the lemmas are those of a session.
abbrev pub AreInSession : (texts : List (List ℕ)) → List Fork → Type 0
AreInSession texts fs = Each (λ f. IsInSession texts f.content) fs

-- The entries are those of the lemmas, in order.
abbrev pub AreBeside : List Fork → List LemmaEntry → Type 0
AreBeside fs es = EachTwo (λ f e. e.label ≡ f.label) fs es

-- A proof shows the lemma, and its steps name the axiom.
abbrev pub IsNamedBy : (texts : List (List ℕ)) → Fork → fates.Entry → (n : ℕ) → Type 0
IsNamedBy texts f e n = ((rests : List Label) × (e.own ≡ Shown rests)) × NamesAxiom texts f.content f.lemma f.script n

-- The row holds the place, a proof shows the lemma there, and its steps name the axiom.
abbrev pub IsNamedAt : (texts : List (List ℕ)) → (row : List ℕ) → List Fork → List fates.Entry → (n place : ℕ) → Type 0
IsNamedAt texts row fs es n place = (f : Fork) × (e : fates.Entry) × IsAt fs place f × IsAt es place e × Holds row place × IsNamedBy texts f e n

-- It is so at a place before this one.
abbrev pub IsBefore : (P : ℕ → Type 0) → (place : ℕ) → Type 0
IsBefore P place = (q : ℕ) × (q < place) × P q

-- The lemma at the place has the name.
abbrev pub HasNameAt : List LemmaEntry → (name place : ℕ) → Type 0
HasNameAt es name place = (e : LemmaEntry) × IsAt es place e × (e.name ≡ name)

-- The row holds the axioms that lemmas of the name cite, and no others.
abbrev pub AreCitedBy : (texts : List (List ℕ)) → List Fork → List LemmaEntry → (name : ℕ) → (row : List ℕ) → Type 0
AreCitedBy texts fs es name row = (n : ℕ) → Holds row n ↔ ((e : LemmaEntry) × IsIn e es × (e.name ≡ name) × Cites texts fs es e.label n)
