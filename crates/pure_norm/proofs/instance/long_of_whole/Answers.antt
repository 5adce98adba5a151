use Rattle.std.proofs.Common.{◌∙◌}
use Rattle.pure_norm.proofs.InstanceLaws.{whole-found}
use Rattle.pure_norm.proofs.instance.long_of_whole.Goals as goal

pub returns : goal.returns
returns c =
    whole-found c.args.map.now c.args.room c.long_of.new.walk c.args.t.now c.in_ok-t.t.value c.in_ok-long.long.value c.in_ok-copy.field-0 c.requires.within c.in_ok-t.ensures c.in_ok-long.ensures (c.in_ok-copy.ensures ∙ c.deref.ensures)
