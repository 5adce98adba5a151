use Rattle.pure_elab.specs.Numbering.{image_of}
use Rattle.pure_elab.proofs.ReplacedLaws.{const_done}
use Rattle.pure_elab.proofs.numbered.number_constant.Goals as goal

pub returns : goal.returns
returns c = const_done (image_of c.args.numbering) c.args.first _ _ c.args.name c.args.typ.now c.in_ok-typ.typ _ c.in_ok-new.ensures.ok c.in_ok-typ.ensures.added c.in_ok-typ.ensures.typ
