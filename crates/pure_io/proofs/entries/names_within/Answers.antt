use Rattle.std.proofs.Common.{[], ◌∷◌, ◌++◌, ◌≡◌, Ok, None, Some, inl, inr, arith, rules}
use Rattle.std.proofs.lemmas.List.{length_push}
use Rattle.std.proofs.lemmas.Grind.{common_steps}
use Rattle.pure_io.proofs.Listing.{ListsPast-more, names_in-named, names_in-unnamed}
use Rattle.pure_io.proofs.entries.names_within.Goals as goal

pub returns-then-count-limit-clause-failed : goal.returns-then-count-limit-clause-failed
returns-then-count-limit-clause-failed g c = λ _.
    let step = c.in-Some.ensures in
    rw (← c.into_iter-entry-iterator.ensures.into_iter_gives)
    (ListsPast-more g.I.Iterator.next_gives _ c.args.limit c.loop-entry.yielded _ c.in-Some.entry _
    c.loop-entry.yielded_by step.steps (inl (omega arith)))

pub returns-in-Err-clause-failed : goal.returns-in-Err-clause-failed
returns-in-Err-clause-failed g c = λ failed.
    let step = c.in-Some.ensures in
    rw (← c.into_iter-entry-iterator.ensures.into_iter_gives)
    (ListsPast-more g.I.Iterator.next_gives _ c.args.limit c.loop-entry.yielded _ c.in-Some.entry _
    c.loop-entry.yielded_by step.steps (inr (cc c.in-Err.is)))

pub loop-entry-preserved-else-is_err : goal.loop-entry-preserved-else-is_err
loop-entry-preserved-else-is_err g c = record {
  can = search rules;
  ends = search rules;
  counted = omega (arith, length_push c.loop-entry.yielded c.in-Some.entry);
  within = omega arith;
  named =
      let named : c.in-Some.entry ≡ Ok (Some c.in-Ok-Some.name) = cc in
      let kept : c.push.new.self.items ≡ c.loop-entry.names.items ++ (c.in-Ok-Some.name ∷ []) = grind (arith, common_steps) in
      rw (named, kept) (names_in-named c.loop-entry.yielded c.loop-entry.names.items c.in-Ok-Some.name c.loop-entry.invariant.named);
}

pub loop-entry-preserved : goal.loop-entry-preserved
loop-entry-preserved g c = record {
  can = search rules;
  ends = search rules;
  counted = omega (arith, length_push c.loop-entry.yielded c.in-Some.entry);
  within = omega arith;
  named =
      let unnamed : c.in-Some.entry ≡ Ok None = cc in
      rw unnamed (names_in-unnamed c.loop-entry.yielded c.loop-entry.names.items c.loop-entry.invariant.named);
}
