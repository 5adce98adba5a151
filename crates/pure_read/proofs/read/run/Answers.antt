use Rattle.std.proofs.Common.{◌+◌, length, refl, arith, sym, ◌∙◌, ap, slice_index_or}
use Rattle.pure_grammar.specs.declared.token.TokenKind.TheVariants.{Word}
use Rattle.pure_grammar.specs.Terms.InnerReader.{next}
use Rattle.pure_read.specs.States.{seen_state, seen_next}
use Rattle.pure_read.proofs.Reading.{reads-more, reads-end, stuck-token, stuck-end}
use Rattle.pure_grammar.proofs.Places.{slice-at}
use Rattle.pure_grammar.proofs.InnerEndLemmas.{next-done}
use Rattle.pure_read.proofs.read.run.Goals as goal

pub lexeme_of-requires : goal.lexeme_of-requires
lexeme_of-requires c =
    record { slice = slice-at c.args.source.now (length c.args.source.now) c.args.tokens.now 0 c.loop-token.token-index (record { kind = Word; from = 0; to = 0 }) _ c.requires.slices c.loop-token-test.true refl }

pub returns-in-None-clause-fault : goal.returns-in-None-clause-fault
returns-in-None-clause-fault c =
    stuck-token c.args.source.now c.args.tokens.now c.loop-token.token-index (seen_state c.args.start) (seen_state c.loop-token.state) (record { kind = Word; from = 0; to = 0 })
    (slice_index_or c.args.tokens.now c.loop-token.token-index (record { kind = Word; from = 0; to = 0 })) c.loop-token-test.true refl c.loop-token.invariant
    (ap (λ z. next (seen_state c.loop-token.state) z) (sym c.lexeme_of.ensures) ∙ sym c.in_ok-next.ensures ∙ ap seen_next c.in-None.is)

pub loop-token-preserved : goal.loop-token-preserved
loop-token-preserved c =
    reads-more c.args.source.now c.args.tokens.now c.loop-token.token-index (c.loop-token.token-index + 1) (seen_state c.args.start) (seen_state c.loop-token.state) (seen_state c.in-Some.behind) (record { kind = Word; from = 0; to = 0 })
    (slice_index_or c.args.tokens.now c.loop-token.token-index (record { kind = Word; from = 0; to = 0 })) (omega arith) c.loop-token-test.true refl c.loop-token.invariant
    (ap (λ z. next (seen_state c.loop-token.state) z) (sym c.lexeme_of.ensures) ∙ sym c.in_ok-next.ensures ∙ ap seen_next c.in-Some.is)

pub returns-in-None-2-clause-fault : goal.returns-in-None-2-clause-fault
returns-in-None-2-clause-fault c =
    rw c.end_fault.ensures (stuck-end c.args.source.now c.args.tokens.now c.loop-token.token-index (seen_state c.args.start) (seen_state c.loop-token.state) c.loop-token-test.false c.loop-token.invariant
    (sym c.in_ok-next-2.ensures ∙ ap seen_next c.in-None-2.is))

pub returns-in-Some-2-clause-ok : goal.returns-in-Some-2-clause-ok
returns-in-Some-2-clause-ok c =
    reads-end c.args.source.now c.args.tokens.now c.loop-token.token-index (seen_state c.args.start) (seen_state c.loop-token.state) (seen_state c.in-Some-2.behind) c.loop-token-test.false c.loop-token.invariant
    (sym c.in_ok-next-2.ensures ∙ ap seen_next c.in-Some-2.is)

pub returns-in-Some-2-clause-done : goal.returns-in-Some-2-clause-done
returns-in-Some-2-clause-done c = next-done (seen_state c.loop-token.state) (seen_state c.in-Some-2.behind) (sym c.in_ok-next-2.ensures ∙ ap seen_next c.in-Some-2.is)
