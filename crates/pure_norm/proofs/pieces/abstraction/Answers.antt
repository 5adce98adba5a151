use Rattle.pure_norm.proofs.PieceLemmas.{body-row, body-low, body-shallow}
use Rattle.pure_norm.proofs.pieces.abstraction.Goals as goal

pub returns : goal.returns
returns c = (
  c.requires.is,
  record {
    row = c.all_but_last-cells.ensures _ _ (body-row c.args.t.now c.args.typ.now c.args.body.now c.requires.piece c.requires.is);
    low = body-low c.args.t.now c.args.typ.now c.args.body.now c.requires.piece c.requires.is;
    shallow = body-shallow c.args.t.now c.args.typ.now c.args.body.now c.requires.piece c.requires.is;
  },
)
