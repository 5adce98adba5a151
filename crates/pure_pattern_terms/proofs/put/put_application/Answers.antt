use Rattle.std.proofs.Common.{subst}
use Rattle.pure_definitions.specs.Terms.Subst.{term_image}
use Rattle.pure_unify_definitions.specs.Fronts.{front}
use Rattle.pure_pattern_terms.specs.Images.{IsImageBody}
use Rattle.pure_pattern_terms.proofs.SizeLaws.{shallow-body}
use Rattle.pure_pattern_terms.proofs.put.put_application.Goals as goal

pub put_body-requires-clause-shallow : goal.put_body-requires-clause-shallow
put_body-requires-clause-shallow c =
    let told : IsImageBody (term_image c.args.binds.now (front c.args.t.now)) c.in-Some.body.now = subst (λ v. IsImageBody (term_image c.args.binds.now v) c.in-Some.body.now) c.front.ensures c.in-Some.ensures in
    shallow-body c.args.binds.now c.args.t.now c.in-Some.body.now c.requires.shallow c.requires.low told
