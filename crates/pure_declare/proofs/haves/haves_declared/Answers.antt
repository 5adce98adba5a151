use Rattle.std.proofs.Common.{take_all}
use Rattle.pure_lookup.specs.Meaning.{full_text}
use Rattle.pure_declare.proofs.HaveSteps.{have-lies, have-named, haves-longer, loop-few}
use Rattle.pure_declare.proofs.haves.haves_declared.Goals as goal

pub have_next-requires-clause-name : goal.have_next-requires-clause-name
have_next-requires-clause-name c =
    have-named c.args.haves.now c.loop-have.have-index c.have-item.result c.loop-have-test.true c.have-item.is c.args.place.now.texts (full_text c.args.place.now.theory c.args.base.now) c.requires.names

pub have_next-requires-clause-within : goal.have_next-requires-clause-within
have_next-requires-clause-within c = have-lies c.args.haves.now c.loop-have.have-index c.have-item.result c.loop-have-test.true c.have-item.is c.args.place.now.source c.requires.ranges

pub have_next-requires-clause-few : goal.have_next-requires-clause-few
have_next-requires-clause-few c =
    loop-few c.args.place.now c.args.base.now c.args.haves.now c.loop-have.have-index c.loop-have-test.true c.requires.few c.loop-have.declared.notes.items c.loop-have.declared.stage.value c.loop-have.invariant

pub have_next-requires-clause-so_far : goal.have_next-requires-clause-so_far
have_next-requires-clause-so_far c = (_, c.loop-have.invariant)

pub loop-have-preserved : goal.loop-have-preserved
loop-have-preserved c =
    rw (haves-longer c.args.haves.now c.loop-have.have-index c.have-item.result c.loop-have-test.true c.have-item.is) (c.in_ok-have_next.ensures _ c.loop-have.invariant)

pub returns : goal.returns
returns c = rw (take_all c.loop-have.have-index c.args.haves.now c.loop-have-test.false) at c.loop-have.invariant
