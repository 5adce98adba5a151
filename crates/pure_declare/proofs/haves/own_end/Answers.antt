use Rattle.std.proofs.Common.{◌≡◌, length, arith}
use Rattle.pure_script.specs.Seen.{seen_steps}
use Rattle.pure_declare.proofs.HaveSteps.{given-end, new-end, statement-end, end-made}
use Rattle.pure_declare.proofs.haves.own_end.Goals as goal

pub overflow_cast-count : goal.overflow_cast-count
overflow_cast-count c = omega (arith, c.requires.few, c.len-count.ensures, c.args.haves.notes.ok)

pub own_part-requires-clause-given : goal.own_part-requires-clause-given
own_part-requires-clause-given c =
    let same : c.len-count.result ≡ length c.args.haves.notes.items = omega (arith, c.len-count.ensures, c.args.haves.notes.ok) in
    given-end c.args.place.now c.requires.own c.args.lemma c.args.haves c.requires.so_far c.is_given.ensures c.requires.first c.len-count.result same

pub own_part-requires-clause-new : goal.own_part-requires-clause-new
own_part-requires-clause-new c = new-end c.args.place.now c.requires.own c.args.lemma c.args.haves c.requires.so_far c.requires.new

pub own_part-requires-clause-statement : goal.own_part-requires-clause-statement
own_part-requires-clause-statement c = statement-end c.args.place.now c.requires.own c.args.lemma c.args.haves c.requires.so_far c.args.stated.prop c.requires.statement

pub returns : goal.returns
returns c =
    let same : c.len-count.result ≡ length c.args.haves.notes.items = omega (arith, c.len-count.ensures, c.args.haves.notes.ok) in
    end-made c.args.place.now c.requires.own c.args.lemma c.args.haves c.put.new.self c.in_ok-outcome.outcome c.len-count.result same c.args.stated (seen_steps c.args.script.now) c.requires.new c.in_ok-outcome.ensures
    c.in_ok-put.ensures.notes c.in_ok-put.ensures.next
