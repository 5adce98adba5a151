use Rattle.std.proofs.Common.{◌≡◌, get_or, take, sym, arith}
use Rattle.std.proofs.lemmas.List.{take_all}
use Rattle.std.proofs.lemmas.Option.{get_or_from_slice_get}
use Rattle.pure_text.proofs.ListLaws.{read_in}
use Rattle.pure_declare.proofs.KnownLaws.{two_more}
use Rattle.pure_method.specs.Facts.{IsFoundIn}
use Rattle.pure_method.proofs.StepAnswers.{several}
use Rattle.pure_method.proofs.fact.found_facts.Goals as goal

pub returns-in-Err-clause-fault : goal.returns-in-Err-clause-fault
returns-in-Err-clause-fault c =
    let read : c.at.result.now ≡ get_or c.args.written.now c.loop-place.place c.at.result.now = sym (get_or_from_slice_get c.args.written.now c.loop-place.place c.at.result.now c.at.result.now c.at.ensures) in
    several c.args.names.now c.args.theory.now c.args.lemma c.args.written.now c.at.result.now (read_in c.args.written.now c.loop-place.place c.at.result.now (omega (arith, c.loop-place-test.true, c.len-place-end.ensures)) read) c.in-Err.fault c.in-Err.ensures

pub returns-clause-facts : goal.returns-clause-facts
returns-clause-facts c =
    let all : take c.loop-place.place c.args.written.now ≡ c.args.written.now = take_all c.loop-place.place c.args.written.now (omega (arith, c.loop-place-test.false, c.len-place-end.ensures)) in
    rw all at c.loop-place.invariant

pub loop-place-preserved : goal.loop-place-preserved
loop-place-preserved c =
    let read : c.at.result.now ≡ get_or c.args.written.now c.loop-place.place c.at.result.now = sym (get_or_from_slice_get c.args.written.now c.loop-place.place c.at.result.now c.at.result.now c.at.ensures) in
    two_more (IsFoundIn c.args.names.now c.args.theory.now c.args.lemma) c.args.written.now c.loop-place.place c.at.result.now c.loop-place.found.items c.put.new.list.items c.in-Ok.fact (omega (arith, c.loop-place-test.true, c.len-place-end.ensures)) read c.loop-place.invariant c.in-Ok.ensures c.in_ok-put-in-Ok.ensures
