-- No tokens spell two terms or two types.
use Rattle.std.proofs.Common.{◌≡◌, List, [], sym, ◌∙◌, ap}
use Rattle.std.specs.Prelude.{Option, Some}
use Rattle.pure_grammar.specs.Terms.RawTree.{RawTree, RawTypTree}
use Rattle.pure_grammar.specs.Terms.InnerLexeme.{InnerLexeme, inners}
use Rattle.pure_grammar.specs.Terms.Inner.{IsTerm, IsType, OneTerm, OneType}
use Rattle.pure_grammar.specs.Terms.InnerReader.{AtTerm, AtType, State, In, DoneTerm, DoneType, run}
use Rattle.pure_grammar.proofs.InnerReaderLemmas.{run-term_text, run-type_text}

-- what the reader has read, when it has read a term, or a type
abbrev term_in : RawTree → Option State → RawTree
term_in t (Some (DoneTerm u)) = u
term_in t _ = t

abbrev type_in : RawTypTree → Option State → RawTypTree
type_in t (Some (DoneType u)) = u
type_in t _ = t

pub run-IsTerm : (ls : List InnerLexeme) (t : RawTree) → IsTerm ls t → run (In AtTerm []) ls ≡ Some (DoneTerm t)
run-IsTerm ls t is = ap (run (In AtTerm [])) (sym is.spelled) ∙ run-term_text is.phrase ∙ ap (λ z. Some (DoneTerm z)) is.means

pub run-IsType : (ls : List InnerLexeme) (t : RawTypTree) → IsType ls t → run (In AtType []) ls ≡ Some (DoneType t)
run-IsType ls t is = ap (run (In AtType [])) (sym is.spelled) ∙ run-type_text is.phrase ∙ ap (λ z. Some (DoneType z)) is.means

pub one_term : OneTerm
one_term source tokens t u a b = ap (term_in t) (sym (run-IsTerm (inners source tokens) t a) ∙ run-IsTerm (inners source tokens) u b)

pub one_type : OneType
one_type source tokens t u a b = ap (type_in t) (sym (run-IsType (inners source tokens) t a) ∙ run-IsType (inners source tokens) u b)
