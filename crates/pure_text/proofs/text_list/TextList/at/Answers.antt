use Rattle.std.proofs.Common.{◌≡◌, length, ap, slice_get, Some, arith}
use Rattle.pure_text.proofs.TextListLaws.{pieces-length, piece-at, piece-within}
use Rattle.pure_text.proofs.text_list.TextList.at.Goals as goal

pub beginning_at-from-requires : goal.beginning_at-from-requires
beginning_at-from-requires c = omega (arith, c.requires, ap length c.self.view_is, pieces-length c.self.inside.bytes.items 0 c.self.inside.ends.items, ap length c.as_slice.ensures.value)

pub end_at-to-requires : goal.end_at-to-requires
end_at-to-requires c = omega (arith, c.requires, ap length c.self.view_is, pieces-length c.self.inside.bytes.items 0 c.self.inside.ends.items, ap length c.as_slice-2.ensures.value)

pub between-requires-clause-rises : goal.between-requires-clause-rises
between-requires-clause-rises c =
    let end : slice_get c.self.inside.ends.items c.args.place ≡ Some c.end_at-to.result = rw (← c.as_slice-2.ensures.value) c.end_at-to.ensures in
    rw (c.beginning_at-from.ensures, c.as_slice.ensures.value)
    (piece-within (length c.self.inside.bytes.items) 0 c.self.inside.ends.items c.args.place c.end_at-to.result c.self.invariant end).0

pub between-requires-clause-within : goal.between-requires-clause-within
between-requires-clause-within c =
    let end : slice_get c.self.inside.ends.items c.args.place ≡ Some c.end_at-to.result = rw (← c.as_slice-2.ensures.value) c.end_at-to.ensures in
    rw c.as_slice-3.ensures.value
    (piece-within (length c.self.inside.bytes.items) 0 c.self.inside.ends.items c.args.place c.end_at-to.result c.self.invariant end).1

pub returns : goal.returns
returns c =
    let end : slice_get c.self.inside.ends.items c.args.place ≡ Some c.end_at-to.result = rw (← c.as_slice-2.ensures.value) c.end_at-to.ensures in
    rw (← c.self.view_is, c.between.ensures, c.beginning_at-from.ensures, c.as_slice.ensures.value, c.as_slice-3.ensures.value)
    (piece-at c.self.inside.bytes.items 0 c.self.inside.ends.items c.args.place c.end_at-to.result end)
