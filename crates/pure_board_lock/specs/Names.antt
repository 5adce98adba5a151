-- The name of a desk.
use Rattle.atomic_table.specs.Seated.{TableId}
use Rattle.pure_board_lock.specs.declared.desk.Desk.{Desk}

-- the table that a desk is, which its seats name too
abbrev pub desk_id : {C K O E P : _} → Desk C K O E P → TableId
desk_id d = d.table.shared.table_id

-- the session of a desk
abbrev pub desk_session : {C K O E P : _} → Desk C K O E P → K
desk_session d = d.table.shared.key
