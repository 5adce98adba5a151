use Rattle.std.proofs.Common.{Result, Ok, Err, IfOk}
use Rattle.pure_io.proofs.Listing.{ListsWithin-inside, ListsPast-inside}
use Rattle.pure_io.specs.Reading.{names_steps}
use Rattle.pure_io.specs.declared.dir_library.NamedEntries.{NamedEntries}
use Rattle.pure_io.proofs.dir_library.names_of_opened.Goals as goal

-- what follows for each value of an answer follows for the answer
IfOk-map : {X E : Type 0} (P Q : X → Type 0) (answer : Result X E) → ((x : X) → P x → Q x) → IfOk answer P → IfOk answer Q
IfOk-map P Q (Ok x) follows holds = follows x holds
IfOk-map P Q (Err e) follows holds = tt

pub returns-clause-all : goal.returns-clause-all
returns-clause-all g c =
    let inside : NamedEntries g.row.I.Denot → g.row.I.Denot = λ s. s.entries in
    rw c.in-Ok.is
    (IfOk-map _ _ c.names_within.result
    (λ names lists. ListsWithin-inside inside (names_steps g.I.Iterator.next_gives) _ _ names.items lists)
    c.names_within.ensures.all)

pub returns-clause-failed : goal.returns-clause-failed
returns-clause-failed g c =
    let inside : NamedEntries g.row.I.Denot → g.row.I.Denot = λ s. s.entries in
    rw c.in-Ok.is
    (λ failed. ListsPast-inside inside (names_steps g.I.Iterator.next_gives) _ _ (c.names_within.ensures.failed failed))
