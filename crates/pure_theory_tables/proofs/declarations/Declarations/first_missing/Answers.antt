use Rattle.std.proofs.Common.{suc, take, drop}
use Rattle.pure_text.specs.Lists.{IsIn}
use Rattle.pure_text.proofs.AnswerLaws.{test_fails}
use Rattle.pure_theory_tables.specs.View.{decl_of}
use Rattle.pure_theory_tables.proofs.GetLaws.{get_in, split_get, each_turn_at}
use Rattle.pure_theory_tables.proofs.declarations.Declarations.first_missing.Goals as goal
use Rattle.pure_theory_tables.proofs.declarations.Declarations.first_missing.Goals.{else-not-is_at-via-then-not-is_at+else-not-has, else-not-is_at-via-else-not-is_at}

pub returns-then-not-has : goal.returns-then-not-has
returns-then-not-has c = record {
  front = take c.loop-place.place c.args.self.now;
  decl = decl_of c.in-Some.entry.now;
  rest = drop (suc c.loop-place.place) c.args.self.now;
  is = split_get c.args.self.now c.loop-place.place (decl_of c.in-Some.entry.now) c.in-Some.ensures;
  there = c.loop-place.invariant;
  missing = test_fails _ c.has.result c.has.ensures c.if-not-has.true;
  outlined = c.outline_of.ensures;
}

pub loop-place-preserved : goal.loop-place-preserved
loop-place-preserved c = each_turn_at (λ d. IsIn d c.args.other.now) c.args.self.now c.loop-place.place (decl_of c.in-Some.entry.now) c.in-Some.ensures c.loop-place.invariant (elim c.else-not-is_at.branch [
  | else-not-is_at-via-then-not-is_at+else-not-has w ↦ w.has.ensures.0 w.if-not-has.false
  | else-not-is_at-via-else-not-is_at w ↦ get_in c.args.other.now c.loop-place.place (decl_of c.in-Some.entry.now) (c.is_at.ensures.0 w.if-not-is_at.false)
])
