-- Lemmas of the tests, as entries.
use Rattle.std.specs.Prelude.{ℕ, zero, suc, List}
use Rattle.pure_definitions.specs.Names.{Label}
use Rattle.pure_promise_fates.specs.Entries.{Own, Shown, Fault, Cancelled, Entry}
use Rattle.pure_promise_fates_rows.specs.declared.lemma.Lemma.{Lemma}

-- what became of a lemma, by a number: 0 for one that is shown, 1 for a fault
abbrev pub own_of : ℕ → List Label → Own
own_of zero rests = Shown rests
own_of (suc zero) rests = Fault
own_of (suc (suc n)) rests = Cancelled

-- a lemma as an entry
abbrev pub seen_lemma : Lemma → Entry
seen_lemma l = record { label = l.label; own = own_of l.own l.rests.items }
