use Rattle.std.proofs.Common.{◌≡◌, ◌∷◌, [], ◌++◌}
use Rattle.pure_text.proofs.ListLaws.{each-append}
use Rattle.pure_order_tables.specs.Kept.{IsKeptEntry}
use Rattle.pure_order_tables.proofs.ArityTableLaws.{entries-one_arity}
use Rattle.pure_order_tables.proofs.tables.Tables.push_arity.Goals as goal

pub invariant_of-self-2 : goal.invariant_of-self-2
invariant_of-self-2 c =
    let longer : c.push.new.self ≡ c.self.inside.arities ++ c.args.arity ∷ [] = rw c.in_ok-arity.ensures.ok at c.in_ok-push.ensures.ok in
    record {
      arities = rw (c.in_ok-put.ensures.ok, c.in_ok-slots.ensures, c.in_ok-slot-2.ensures.ok, c.con.view_is) (entries-one_arity c.self.inside.classes c.self.inside.arities c.push.new.self c.args.arity c.args.self.now c.self.inside.slots c.in_ok-slot.slot
          c.self.view_is longer c.self.invariant.arities c.requires.known c.in_ok-slot.ensures);
      kept = rw longer (each-append (IsKeptEntry c.self.inside.classes) c.self.inside.arities (c.args.arity ∷ []) c.self.invariant.kept (rw (← c.self.view_is) at c.requires.kept, tt));
    }
