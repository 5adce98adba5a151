use Rattle.std.proofs.Common.{◌∙◌}
use Rattle.pure_gen.specs.Generated.{end_text}
use Rattle.pure_gen.proofs.Lines.{source-made, files-more}
use Rattle.pure_gen.proofs.library.generate.Goals as goal

pub loop-theory-preserved : goal.loop-theory-preserved
unfolding end_text
loop-theory-preserved c =
    let lines = c.in_ok-drawn.ensures.lines c.args.start c.loop-theory.invariant.1 in
    let text = source-made c.args.start c.args.lemmas c.loop-theory.theory c.new-text.result.items c.push_header.new.text.items c.push_lines.new.text.items c.extend_from_slice.new.self.items
    c.new-text.ensures.items c.in_ok-push_header.ensures lines.0 c.in_ok-extend_from_slice.ensures.items in (
      c.in_ok-drawn.ensures.low,
      lines.1,
      files-more c.args.start c.args.lemmas c.loop-theory.theory c.loop-theory.files.items c.push.new.self.items c.in_ok-name.name c.from-text.result c.loop-theory.invariant.2 c.in_ok-name.ensures
          (c.from-text.ensures ∙ text) c.in_ok-push.ensures.items,
    )
