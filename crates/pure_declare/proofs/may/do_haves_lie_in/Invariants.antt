use Rattle.std.proofs.Common.{take, map}
use Rattle.pure_text.specs.Lists.{Each}
use Rattle.pure_grammar.specs.Theories.TheoryText.{Have}
use Rattle.pure_grammar.specs.Theories.Spans.{OfProp, cited_span}
use Rattle.pure_script.specs.Seen.{seen_have}
use Rattle.pure_declare.specs.Premises.{LiesIn}
use Rattle.pure_declare.proofs.may.do_haves_lie_in.Given as goal

-- the statements of those so far lie in the source
abbrev pub invariant-loop-have : goal.invariant-loop-have
invariant-loop-have l = Each (λ c. LiesIn l.source (cited_span c)) (map (λ (h : Have). OfProp h.prop) (map seen_have (take l.have-index l.haves)))
