use Rattle.std.proofs.Common.{sym, ◌∙◌, true≢false}
use Rattle.std.proofs.lemmas.Slice.Eq.{slice_eq-Decides}
use Rattle.std.proofs.lemmas.Bool.Decides.{Decides-eqb}
use Rattle.pure_citations.proofs.HeadLaws.{split-word, first-word}
use Rattle.pure_citations.proofs.heads.behind.Goals as goal

pub returns-then-eq : goal.returns-then-eq
returns-then-eq c = split-word c.args.word.now c.args.head.now ((slice_eq-Decides Decides-eqb _ _ c.eq.result c.eq.ensures).0 c.if-eq.true)

pub returns : goal.returns
returns c = λ rest e. true≢false (sym ((slice_eq-Decides Decides-eqb _ _ c.eq.result c.eq.ensures).1 (first-word c.args.word.now rest c.args.head.now e)) ∙ c.if-eq.false)
