use Rattle.pure_declare.proofs.HaveSteps.{haves-few}
use Rattle.pure_declare.proofs.haves.parts_declared.Goals as goal

pub own_end-requires-clause-few : goal.own_end-requires-clause-few
own_end-requires-clause-few c =
    haves-few c.args.place.now c.args.base.now c.args.haves.now c.requires.few c.in_ok-declared.declared.notes.items c.in_ok-declared.declared.stage.value c.in_ok-declared.ensures
