use Rattle.pure_unfold.proofs.UnfoldLaws.{unfolds-derivable}
use Rattle.pure_unfold.proofs.laws.unfolded_is_derivable.Goals as goal

pub returns : goal.returns
returns c Q q above rests T prop t u typed = unfolds-derivable Q q above rests T prop t u (record { parts = typed.certified.parts; typed = typed.typed })
