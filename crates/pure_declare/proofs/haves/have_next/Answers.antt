use Rattle.std.proofs.Common.{◌≡◌, length, arith, sym, ap, subst}
use Rattle.std.proofs.lemmas.List.{length-map}
use Rattle.pure_script.specs.Seen.{seen_have}
use Rattle.pure_declare.specs.Seen.{seen_note, seen_notes}
use Rattle.pure_declare.proofs.HaveSteps.{own-behind, given-next, next-haves}
use Rattle.pure_declare.proofs.haves.have_next.Goals as goal

pub overflow_cast-part : goal.overflow_cast-part
overflow_cast-part c = omega (arith, c.requires.few, c.len-part.ensures, c.args.declared.now.notes.ok)

pub have_part-requires-clause-own : goal.have_part-requires-clause-own
have_part-requires-clause-own c =
    own-behind c.args.place.now c.requires.own c.args.base.now c.args.lemma c.requires.lemma c.requires.so_far.0 (seen_notes c.args.declared.now.notes.items) c.args.declared.now.stage.value c.requires.so_far.1

pub have_part-requires-clause-given : goal.have_part-requires-clause-given
have_part-requires-clause-given c =
    let count : c.len-part.result ≡ length c.args.declared.now.notes.items = omega (arith, c.len-part.ensures, c.args.declared.now.notes.ok) in
    given-next c.args.place.now c.requires.own c.args.base.now c.args.lemma c.requires.lemma c.is_given.ensures c.requires.first c.requires.so_far.0 c.args.declared.now c.requires.so_far.1 c.len-part.result count

pub returns : goal.returns
returns c =
    let count : c.len-part.result ≡ length c.args.declared.now.notes.items = omega (arith, c.len-part.ensures, c.args.declared.now.notes.ok) in
    next-haves c.args.place.now c.requires.own c.args.base.now c.args.lemma c.requires.lemma c.args.declared.now c.put.new.self c.in_ok-outcome.outcome (seen_have c.args.have.now) c.len-part.result count c.in_ok-outcome.ensures c.put.result c.put.ensures.notes c.put.ensures.next
