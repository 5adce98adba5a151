-- Laws of rows that stand.
use Rattle.std.specs.Prelude.{List, []}
use Rattle.pure_text.specs.Lists.{IsIn, EachTwo}
use Rattle.pure_definitions.specs.Names.{Label}
use Rattle.pure_graph.specs.Session.{Session}
use Rattle.pure_print.specs.declared.row.Row.{Row}
use Rattle.pure_table.specs.SessionLaws.Loaded.{IsLoadedSession}
use Rattle.pure_table.specs.Table.{Table, IsTable, table_rows}
use Rattle.pure_table_laws.specs.Standing.{IsStanding, StandsAs}

-- Each row of a session's table, whichever lemmas are cancelled, that is declared, refused, proved or failed is a row of its table where none is cancelled.
abbrev pub RowsStand : Type 0
RowsStand = (S : Session) → IsLoadedSession S.names S.theories → (cancelled : List Label) (t u : Table) → IsTable S cancelled t → IsTable S [] u
    → (row : Row) → IsIn row (table_rows S t) → IsStanding row.status → IsIn row (table_rows S u)

-- Where a part of the cancelled lemmas alone is cancelled, the table has as many rows, and each row that was declared, refused, proved or failed is the same at its place.
abbrev pub RowsStayInPlace : Type 0
RowsStayInPlace = (S : Session) → IsLoadedSession S.names S.theories → (cancelled fewer : List Label) → ((l : Label) → IsIn l fewer → IsIn l cancelled)
    → (t u : Table) → IsTable S cancelled t → IsTable S fewer u → EachTwo StandsAs (table_rows S t) (table_rows S u)
