use Rattle.pure_unify_definitions.specs.Node.{Single}
use Rattle.pure_unify_visits.proofs.ScanLaws.{scanned_long, typed_setting}
use Rattle.pure_unify_visits.proofs.TurnLaws.{put_on, put_fault}
use Rattle.pure_unify_visits.proofs.settings.put.Goals as goal

pub returns-in-Ok-put_into-clause-answer : goal.returns-in-Ok-put_into-clause-answer
returns-in-Ok-put_into-clause-answer c A maxidx p n t h =
    let made = c.in-Ok-put_into.ensures.answer n.path (Single c.args.bind) h.path c.in_ok-setting.ensures in
    put_on A maxidx c.args.scan c.in-Ok-put_into.next c.args.bind p n c.in-Ok.pairs.items made.0 c.requires.ready h t c.in-Ok.ensures made.1 made.2

pub returns-in-Err-put_into-clause-answer : goal.returns-in-Err-put_into-clause-answer
returns-in-Err-put_into-clause-answer c A maxidx p n t h =
    put_fault A maxidx c.args.scan c.args.bind p n c.in-Ok.pairs.items c.in-Err-put_into.fault c.requires.ready h t c.in-Ok.ensures
    (c.in-Err-put_into.ensures.answer n.path (Single c.args.bind) h.path c.in_ok-setting.ensures)

pub put_into-requires-clause-long : goal.put_into-requires-clause-long
put_into-requires-clause-long c = scanned_long c.args.scan c.in-Ok.pairs.items c.requires.ready c.in-Ok.ensures

pub put_into-requires-clause-typed : goal.put_into-requires-clause-typed
put_into-requires-clause-typed c = typed_setting c.in_ok-setting.setting c.args.bind c.in_ok-setting.ensures c.requires.typed
