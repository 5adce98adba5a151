use Rattle.pure_graph.proofs.DraftLemmas.{drafts-said, lent-back, read-behind}
use Rattle.pure_graph.proofs.files.read_on.Goals as goal

pub returns-clause-told : goal.returns-clause-told
returns-clause-told g c =
    read-behind (g.L.Library.files c.args.library.now) c.args.place c.args.theories.now c.args.before c.in_ok-read.read _
    (drafts-said (g.L.Library.files c.args.library.now) c.args.place c.args.theories.now c.in_ok-drafts.drafts.items _ (lent-back _ _ _ _ c.as_mut_slice.ensures.value c.as_mut_slice.ensures.len c.say_all.ensures) c.in_ok-drafts.ensures.told)
    c.in_ok-read.ensures.behind
