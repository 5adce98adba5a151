use Rattle.pure_definitions.specs.Terms.Subst.{term_image, inst_term}
use Rattle.pure_unify_steps.proofs.PutLaws.{beyond_large, replaced_typed, made_typed, made_within}
use Rattle.pure_unify_steps.proofs.put.terms_made.Goals as goal

pub owned_long_side-requires-clause-typed : goal.owned_long_side-requires-clause-typed
owned_long_side-requires-clause-typed c = made_typed (inst_term (term_image c.args.map.now) c.args.t.now) c.in-Ok.made (replaced_typed c.args.map.now c.args.t.now c.requires.respecting c.requires.typed) c.in-Ok.ensures.0

pub owned_long_side-requires-clause-within : goal.owned_long_side-requires-clause-within
owned_long_side-requires-clause-within c = made_within (inst_term (term_image c.args.map.now) c.args.t.now) c.in-Ok.made c.in-Ok.ensures.0 c.in-Ok.ensures.1

pub returns-in-Err-Big : goal.returns-in-Err-Big
returns-in-Err-Big c = beyond_large (inst_term (term_image c.args.map.now) c.args.t.now) (rw c.in-Err-Big.field-0-is at c.in-Err-Big.ensures)
