use Rattle.pure_elab.specs.Numbering.{image_of}
use Rattle.pure_elab.proofs.ReplacedLaws.{free_done}
use Rattle.pure_elab.proofs.numbered.number_fixed.Goals as goal

pub returns : goal.returns
returns c = free_done (image_of c.args.numbering) c.args.first _ _ c.args.name c.args.typ.now c.in_ok-typ.typ _ c.in_ok-new.ensures.ok c.in_ok-typ.ensures.added c.in_ok-typ.ensures.typ
