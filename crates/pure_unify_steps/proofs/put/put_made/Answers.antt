use Rattle.pure_definitions.specs.Terms.Subst.{typ_image, inst_typ, term_image, inst_term}
use Rattle.pure_unify_steps.proofs.PutLaws.{answer_for_typs, answer_long}
use Rattle.pure_unify_steps.proofs.put.put_made.Goals as goal

pub returns-in-OfTyps-clause-answer : goal.returns-in-OfTyps-clause-answer
returns-in-OfTyps-clause-answer c = answer_for_typs c.in-OfTyps.map c.args.t.now c.put_typs.result c.put_typs.ensures c.args.setting.now c.in-OfTyps.is

pub returns-in-OfTyps-clause-long : goal.returns-in-OfTyps-clause-long
returns-in-OfTyps-clause-long c = answer_long (inst_typ (typ_image c.in-OfTyps.map) c.args.t.now) c.put_typs.result c.put_typs.ensures

pub returns-in-OfTerm-clause-long : goal.returns-in-OfTerm-clause-long
returns-in-OfTerm-clause-long c = answer_long (inst_term (term_image c.in-OfTerm.map) c.args.t.now) c.put_terms.result c.put_terms.ensures
