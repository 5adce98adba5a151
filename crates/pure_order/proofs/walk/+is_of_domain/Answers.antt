use Rattle.std.proofs.Common.{length, arith}
use Rattle.pure_definitions.specs.Types.Typ.{Con, typs_of}
use Rattle.pure_definitions.proofs.TypsLemmas.{typ_depth-item}
use Rattle.pure_text.proofs.AnswerLaws.{no_as, test_fails}
use Rattle.pure_order.specs.Walk.{IsOfDomain}
use Rattle.pure_order.proofs.WalkLaws.{grown_answer, have_domain, so_far_turn, domain_of_all}
use Rattle.pure_order.proofs.walk.+is_of_domain.Goals as goal

pub is_of_domain-returns-then-put_all_greatest : goal.is_of_domain-returns-then-put_all_greatest
is_of_domain-returns-then-put_all_greatest t c = rw (← c.t.view_is, c.in-Con.is, ← c.as_slice-args.ensures) (grown_answer c.args.tables.now _ (λ ts. IsOfDomain c.args.tables.now c.args.places.now c.args.index (Con c.in-Con.name (typs_of ts))) c.empty-next.result c.put_all_greatest.new.next
    c.as_slice-args.result.now c.are_of_domains.result c.empty-next.ensures c.if-put_all_greatest.ensures c.are_of_domains.ensures)

pub are_of_domains-is_of_domain-requires : goal.are_of_domains-is_of_domain-requires
are_of_domains-is_of_domain-requires t c =
    let inside = typ_depth-item c.args.types.now c.loop-i.i c.index-types-i.result c.loop-i-test.true c.index-types-i.is in
    (omega arith, (c.requires.walkable, have_domain c.args.tables.now (length c.args.types.now) c.loop-i.i c.args.places.now c.requires.have c.loop-i-test.true))

pub are_of_domains-returns-then-not-is_of_domain : goal.are_of_domains-returns-then-not-is_of_domain
are_of_domains-returns-then-not-is_of_domain t c = no_as _ (λ h. test_fails _ c.is_of_domain.result c.is_of_domain.ensures c.if-not-is_of_domain.true
    (domain_of_all c.args.tables.now c.args.places.now c.args.types.now c.loop-i.i c.index-types-i.result c.requires.have c.loop-i-test.true c.index-types-i.is h))

pub are_of_domains-loop-i-preserved : goal.are_of_domains-loop-i-preserved
are_of_domains-loop-i-preserved t c = so_far_turn c.args.tables.now c.args.places.now c.args.types.now c.loop-i.i c.index-types-i.result c.requires.have c.loop-i-test.true c.index-types-i.is c.loop-i.invariant
    (c.is_of_domain.ensures.0 c.if-not-is_of_domain.false)
