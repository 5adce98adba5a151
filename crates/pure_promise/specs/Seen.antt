-- How entries are seen.
use Rattle.std.specs.Prelude.{List, Option, Some, None, Ok, Err, map}
use Rattle.pure_promise_fates.specs.Entries as fates
use Rattle.pure_method.specs.Proof.{ProofOutcome}
use Rattle.pure_promise.specs.declared.entry.Entry as code
use Rattle.pure_promise.specs.declared.entry.Own as own
use Rattle.pure_promise.specs.declared.entry.Own.TheVariants.{Proved, Fault, Cancelled}
use Rattle.pure_promise.specs.Entries.{LemmaEntry, plain}

-- of a theorem the promises on which it rests
abbrev pub seen_own : own.Own → Option ProofOutcome
seen_own (Proved result) = Some (Ok result.theorem.rests)
seen_own (Fault step fault) = Some (Err (record { step = step; fault = fault }))
seen_own Cancelled = None

-- the lemma of a code's entry, and those of several
abbrev pub seen_entry : code.Entry → LemmaEntry
seen_entry e = record { label = e.label; name = e.name; prop = e.prop.value; own = seen_own e.own }

abbrev pub seen : List code.Entry → List LemmaEntry
seen = map seen_entry

-- a code's entry as fates see it
abbrev pub reported : code.Entry → fates.Entry
reported e = plain (seen_entry e)
