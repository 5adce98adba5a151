use Rattle.std.proofs.Common.{◌+◌, ◌*◌}
use Rattle.pure_definitions.specs.Terms.Term.{term_depth}
use Rattle.pure_print.specs.Forms.{form_depth}
use Rattle.pure_print.proofs.term.+term.Given as goal

abbrev pub decreases-push_form : goal.decreases-push_form
decreases-push_form l = 3 * form_depth l.form.now

abbrev pub decreases-push_term : goal.decreases-push_term
decreases-push_term l = 3 * term_depth l.t.now + 1

abbrev pub decreases-push_body : goal.decreases-push_body
decreases-push_body l = 3 * term_depth l.body.now + 2
