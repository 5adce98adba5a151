use Rattle.std.proofs.Common.{◌<◌, length, refl}
use Rattle.std.proofs.lemmas.List.{length-map}
use Rattle.pure_text.proofs.ListLaws.{each_read}
use Rattle.pure_order_tables.specs.ArityView.{arity_of}
use Rattle.pure_order_tables.specs.Kept.{IsKeptEntry}
use Rattle.pure_order_tables.proofs.UncoveredLaws.{below_read}
use Rattle.pure_order_tables.proofs.tables.Tables.is_below_at.Goals as goal

pub arity_below-requires-clause-second : goal.arity_below-requires-clause-second
arity_below-requires-clause-second c =
    let short : c.in-Some.place < length c.args.other.now.arities = rw c.in-Some.is at c.requires.within in
    let within : c.in-Some.place < length c.args.entries.now = rw (← c.requires.entries.are, length-map c.args.entries.now arity_of) at short in
    each_read (IsKeptEntry c.args.self.now.classes) c.args.entries.now c.in-Some.place c.get-entry.result.now within c.get-entry.ensures c.requires.entries.kept

pub returns-in-Some : goal.returns-in-Some
returns-in-Some c = rw c.in-Some.is (below_read c.args.self.now c.args.other.now (arity_of c.args.arity.now) c.args.entries.now c.in-Some.place c.get-entry.result.now (arity_of c.args.arity.now).domains (arity_of c.get-entry.result.now).domains c.arity_below.result c.requires.entries.are (rw c.in-Some.is at c.requires.within) c.get-entry.ensures refl refl c.arity_below.ensures)
