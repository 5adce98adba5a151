use Rattle.std.proofs.Common.{◌∙◌}
use Rattle.pure_check.proofs.FormedLemmas.{said-has_fates, said-premises, said-formed}
use Rattle.pure_check.proofs.formed.form.Goals as goal

pub form_said-requires-clause-entries : goal.form_said-requires-clause-entries
form_said-requires-clause-entries c = said-has_fates c.args.work.now.texts c.args.work.now.theories c.is_loaded_session.ensures _ _ _ _ c.in_ok-said.ensures

pub form_said-requires-clause-premises : goal.form_said-requires-clause-premises
form_said-requires-clause-premises c = said-premises c.args.work.now.texts c.args.work.now.theories c.is_loaded_session.ensures _ _ _ _ c.in_ok-said.ensures _ c.names.ensures.value

pub returns : goal.returns
returns c S of_names of_theories of_refused of_files =
    said-formed c.args.work.now.texts c.args.work.now.theories c.is_loaded_session.ensures _ _ _ _ c.in_ok-said.ensures
    _ c.names.ensures.value _ _ _ _ _ c.in_ok-formed.ensures S of_names of_theories of_refused of_files
