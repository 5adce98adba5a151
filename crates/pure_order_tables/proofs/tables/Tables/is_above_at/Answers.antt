use Rattle.std.proofs.Common.{◌<◌, length, refl}
use Rattle.std.proofs.lemmas.List.{length-map}
use Rattle.pure_text.proofs.ListLaws.{each_read}
use Rattle.pure_order_tables.specs.ArityView.{arity_of}
use Rattle.pure_order_tables.specs.Kept.{IsKeptEntry}
use Rattle.pure_order_tables.proofs.UncoveredLaws.{above_read}
use Rattle.pure_order_tables.proofs.tables.Tables.is_above_at.Goals as goal

pub arity_below-requires-clause-first : goal.arity_below-requires-clause-first
arity_below-requires-clause-first c =
    let short : c.in-Some.place < length c.args.self.now.arities = rw c.in-Some.is at c.requires.within in
    let within : c.in-Some.place < length c.arities.result.now = rw (← c.arities.ensures.are, length-map c.arities.result.now arity_of) at short in
    each_read (IsKeptEntry c.args.self.now.classes) c.arities.result.now c.in-Some.place c.get-entry.result.now within c.get-entry.ensures c.arities.ensures.kept

pub returns-in-Some : goal.returns-in-Some
returns-in-Some c = rw c.in-Some.is (above_read c.args.self.now (arity_of c.args.arity.now) c.arities.result.now c.in-Some.place c.get-entry.result.now (arity_of c.get-entry.result.now).domains (arity_of c.args.arity.now).domains c.arity_below.result c.arities.ensures.are (rw c.in-Some.is at c.requires.within) c.get-entry.ensures refl refl c.arity_below.ensures)
