use Rattle.std.proofs.Common.{refl}
use Rattle.pure_unify_visits.proofs.ScanLaws.{path_further}
use Rattle.pure_unify_visits.proofs.settings.further.Goals as goal

pub returns : goal.returns
returns c p s h k = path_further c.args.path (record { settings = c.push.new.self; choices = c.args.path.choices; fresh = c.args.path.fresh }) p c.args.setting s c.in_ok-push.ensures.items refl refl h k
