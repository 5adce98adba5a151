use Rattle.std.proofs.Common.{◌∙◌, sym, ap, length}
use Rattle.pure_text.proofs.TextListLaws.{pieces-length}
use Rattle.pure_text.proofs.text_list.TextList.len.Goals as goal

pub returns : goal.returns
returns c = rw (← c.self.view_is) (ap length c.as_slice.ensures.value ∙ sym (pieces-length c.self.inside.bytes.items 0 c.self.inside.ends.items))
