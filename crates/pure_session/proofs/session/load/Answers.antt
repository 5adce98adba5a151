use Rattle.std.proofs.Common.{rules}
use Rattle.pure_session.specs.Refused.{all_refused}
use Rattle.pure_session.specs.Waiting.{all_loaded}
use Rattle.pure_session.proofs.LoadedLemmas.{theories-plain}
use Rattle.pure_session.proofs.session.load.Goals as goal

pub names_of-requires : goal.names_of-requires
names_of-requires g c = (
  search rules,
  rw c.as_slice.ensures.value
      (theories-plain (g.L.Library.files c.args.library.now) (all_loaded c.in_ok-loaded.field-0.loaded.items) (all_refused c.in_ok-loaded.field-0.refused.items) c.in_ok-loaded.field-0.files c.in_ok-loaded.ensures.told),
)
