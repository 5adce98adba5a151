use Rattle.std.proofs.Common.{◌∙◌, sym}
use Rattle.std.proofs.lemmas.List.{at_drop_all}
use Rattle.pure_typ.specs.NameBases.{base_of}
use Rattle.pure_typ.proofs.BaseLemmas.{base-next, base-at}
use Rattle.pure_typ.proofs.names.base_in.Goals as goal

pub returns-then-byte-eq46 : goal.returns-then-byte-eq46
returns-then-byte-eq46 c = base-at c.args.text.now c.loop-at.at c.loop-at-test.true c.if-byte-eq46.true ∙ c.loop-at.invariant

pub loop-at-preserved : goal.loop-at-preserved
loop-at-preserved c = sym (base-next c.args.text.now c.loop-at.at c.loop-at-test.true c.if-byte-eq46.false) ∙ c.loop-at.invariant

pub returns : goal.returns
returns c = sym (sym c.loop-at.invariant ∙ at_drop_all base_of c.args.text.now c.loop-at.at c.loop-at-test.false)
