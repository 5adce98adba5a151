use Rattle.std.proofs.Common.{◌∙◌, ap, subst}
use Rattle.pure_definitions.specs.Terms.Term.{term_size, term_depth}
use Rattle.pure_definitions.specs.Terms.Subst.{term_image}
use Rattle.pure_definitions.proofs.GrownLemmas.{leaves-equal}
use Rattle.pure_unify_definitions.specs.Fronts.{front}
use Rattle.pure_pattern_terms.specs.Images.{IsImageBody, application_places}
use Rattle.pure_pattern_terms.proofs.SizeLaws.{put-body, renamed_size, renamed_depth}
use Rattle.pure_pattern_terms.proofs.put.application_leaves.Goals as goal

pub returns-in-Some : goal.returns-in-Some
returns-in-Some c =
    let told : IsImageBody (term_image c.args.binds.now (front c.args.t.now)) c.in-Some.body.now = subst (λ v. IsImageBody (term_image c.args.binds.now v) c.in-Some.body.now) c.front.ensures c.in-Some.ensures in
    let same = put-body (term_image c.args.binds.now (front c.args.t.now)) c.in-Some.body.now c.args.t.now told in
    leaves-equal c.args.left c.args.room (term_size c.in-Some.body.now) (term_depth c.in-Some.body.now) _ _ c.term_leaves.result
    (ap term_size same ∙ renamed_size 0 (application_places c.args.t.now) c.in-Some.body.now) (ap term_depth same ∙ renamed_depth 0 (application_places c.args.t.now) c.in-Some.body.now) c.term_leaves.ensures
