use Rattle.pure_declare.proofs.ArityLaws.{arity-made, arity-refused}
use Rattle.pure_declare.proofs.arity.found_arity.Goals as goal

pub returns-in-Ok : goal.returns-in-Ok
returns-in-Ok c =
    arity-made c.args.place.now c.theory.ensures.sound.content (record { con = c.args.con; domains = c.args.domains.now; class = c.args.class }) c.requires c.theory.result.now c.in-Ok.next c.quiet.result
    c.theory.ensures.value c.in-Ok.ensures.new c.in-Ok.ensures.coregular c.in-Ok.ensures.ok c.quiet.ensures

pub returns-in-Err : goal.returns-in-Err
returns-in-Err c =
    arity-refused c.args.place.now c.theory.ensures.sound.content (record { con = c.args.con; domains = c.args.domains.now; class = c.args.class }) c.requires c.theory.result.now c.in-Err.fault c.failed_declaration.result
    c.theory.ensures.value c.in-Err.ensures.fault c.failed_declaration.ensures
