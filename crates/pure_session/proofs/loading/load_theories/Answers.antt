use Rattle.pure_graph.specs.Seen.{seen_files}
use Rattle.pure_session.specs.Refused.{all_refused}
use Rattle.pure_session.specs.Waiting.{all_loaded}
use Rattle.pure_session.proofs.LoadLemmas.{files-ascend, theories-told}
use Rattle.pure_session.proofs.loading.load_theories.Goals as goal

pub loaded_from-requires : goal.loaded_from-requires
loaded_from-requires g c = files-ascend (g.L.Library.files c.args.library.now) (seen_files c.in_ok-files.files.items) c.in_ok-files.ensures.told

pub returns-in-Ok-clause-told : goal.returns-in-Ok-clause-told
returns-in-Ok-clause-told g c =
    theories-told (g.L.Library.files c.args.library.now) (seen_files c.in_ok-files.files.items) (all_loaded c.in-Ok.theories.loaded.items) (all_refused c.in-Ok.theories.refused.items) c.in-Ok.theories.files
    c.in_ok-files.ensures.told c.in-Ok.ensures
