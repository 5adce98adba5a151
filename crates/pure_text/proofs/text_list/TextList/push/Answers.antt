use Rattle.std.proofs.Common.{◌≡◌, ◌++◌, ◌∷◌, [], ◌+◌, ap, length, length-append, arith}
use Rattle.pure_text.proofs.TextListLaws.{ends-more, pieces-more}
use Rattle.pure_text.proofs.text_list.TextList.push.Goals as goal
use Rattle.pure_text.proofs.text_list.TextList.push.Goals.{After-push}

-- the end is put in
put : (c : After-push) → c.push.new.self.items ≡ c.self.inside.ends.items ++ c.in-Ok.end ∷ []
put c = grind (arith, c.push.ensures.items, c.push.ensures.succeeds, c.in_ok-reserve.ensures.ok, c.in_ok-reserve.ensures.items, c.in_ok-reserve.ensures.len, c.in_ok-reserve.was)

-- the end is that of the bytes with those of the text
end-is : (c : After-push) → c.in-Ok.end ≡ length c.self.inside.bytes.items + length c.args.text.now
end-is c = omega (arith, c.in-Ok.ensures, ap length c.as_slice.ensures.value)

pub invariant_of-self-2 : goal.invariant_of-self-2
invariant_of-self-2 c =
    rw (c.in_ok-extend_from_slice.ensures.items, length-append c.self.inside.bytes.items c.args.text.now, put c, end-is c)
    (ends-more (length c.self.inside.bytes.items) (length c.args.text.now) 0 c.self.inside.ends.items c.self.invariant)

pub returns : goal.returns
returns c =
    rw (← c.self.view_is, c.in_ok-extend_from_slice.ensures.items, put c, end-is c)
    (pieces-more c.self.inside.bytes.items c.args.text.now 0 c.self.inside.ends.items c.self.invariant)
