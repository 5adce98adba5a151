use Rattle.std.proofs.Common.{◌∙◌, sym}
use Rattle.pure_norm.proofs.MeasureLemmas.{measure-lift}
use Rattle.pure_norm.specs.Env.{meant}
use Rattle.pure_norm.proofs.held.keep.Goals as goal

pub returns : goal.returns
returns c = (
  record {
    meaning = c.in_ok-scope.ensures c.args.piece.now.term.now;
    measured = c.requires.measured ∙ sym (measure-lift c.args.up 0 (meant c.args.inner.now.value c.args.piece.now.term.now));
    piece = c.requires.piece;
  },
  c.requires.other,
)
