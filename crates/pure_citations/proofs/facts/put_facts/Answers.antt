use Rattle.std.proofs.Common.{◌≡◌, get_or, take, sym, arith}
use Rattle.std.proofs.lemmas.List.{take_all}
use Rattle.std.proofs.lemmas.Option.{get_or_from_slice_get}
use Rattle.pure_text.proofs.LoopLaws.{any_turn, turned}
use Rattle.pure_citations.specs.Named.{MeansAxiom}
use Rattle.pure_citations.proofs.facts.put_facts.Goals as goal

pub loop-place-preserved : goal.loop-place-preserved
loop-place-preserved c = λ n.
    let read : c.at.result.now ≡ get_or c.args.written.now c.loop-place.place c.at.result.now = sym (get_or_from_slice_get c.args.written.now c.loop-place.place c.at.result.now c.at.result.now c.at.ensures) in
    turned _ _ _ _ _ _ (any_turn (MeansAxiom c.args.names.now c.args.theory.now c.args.lemma n) c.args.written.now c.loop-place.place c.at.result.now (omega (arith, c.loop-place-test.true, c.len-place-end.ensures)) read) (c.in_ok-put_fact.ensures n) (c.loop-place.invariant n)

pub returns : goal.returns
returns c =
    let all : take c.loop-place.place c.args.written.now ≡ c.args.written.now = take_all c.loop-place.place c.args.written.now (omega (arith, c.loop-place-test.false, c.len-place-end.ensures)) in
    rw all at c.loop-place.invariant
