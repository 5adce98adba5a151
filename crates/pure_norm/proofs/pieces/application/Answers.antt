use Rattle.pure_norm.proofs.PieceLemmas.{sides-row, fun-low, arg-low, fun-shallow, arg-shallow}
use Rattle.pure_norm.proofs.pieces.application.Goals as goal

pub returns : goal.returns
returns c =
    let rows = c.sides_of-sides.ensures _ _ (sides-row c.args.t.now c.args.fun.now c.args.arg.now c.requires.piece c.requires.is) in (
      c.requires.is,
      record {
        row = rows.0;
        low = fun-low c.args.t.now c.args.fun.now c.args.arg.now c.requires.piece c.requires.is;
        shallow = fun-shallow c.args.t.now c.args.fun.now c.args.arg.now c.requires.piece c.requires.is;
      },
      record {
        row = rows.1;
        low = arg-low c.args.t.now c.args.fun.now c.args.arg.now c.requires.piece c.requires.is;
        shallow = arg-shallow c.args.t.now c.args.fun.now c.args.arg.now c.requires.piece c.requires.is;
      },
    )
