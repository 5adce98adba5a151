-- No tokens spell two trees.
use Rattle.std.proofs.Common.{◌≡◌, List, sym, ◌∙◌, ap}
use Rattle.pure_grammar.specs.Theories.TheoryText.{TheoryText}
use Rattle.pure_grammar.specs.Theories.Lexeme.{Lexeme, lexemes}
use Rattle.pure_grammar.specs.Theories.Outer.{IsTheory, OneTheory}
use Rattle.pure_grammar.specs.Theories.Reader.{AtStart, AtLast, Outcome, Through, run}
use Rattle.pure_grammar.proofs.ReaderLemmas.{run-file_text}

-- what the reader has read, when it is through
theory_of : TheoryText → Outcome → TheoryText
theory_of t (Through (AtLast u)) = u
theory_of t _ = t

pub run-IsTheory : (ls : List Lexeme) (t : TheoryText) → IsTheory ls t → run AtStart ls ≡ Through (AtLast t)
run-IsTheory ls t is = ap (run AtStart) (sym is.spelled) ∙ run-file_text is.file is.allowed ∙ ap (λ z. Through (AtLast z)) is.means

AtLast-same : (t u : TheoryText) → Through (AtLast t) ≡ Through (AtLast u) → t ≡ u
unfolding theory_of
AtLast-same t u e = ap (theory_of t) e

pub one_theory : OneTheory
one_theory source tokens t u a b = AtLast-same t u (sym (run-IsTheory (lexemes source tokens) t a) ∙ run-IsTheory (lexemes source tokens) u b)
