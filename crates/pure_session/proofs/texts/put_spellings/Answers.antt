use Rattle.std.proofs.Common.{true, slice_index_or}
use Rattle.pure_text.proofs.ListLaws.{each_read}
use Rattle.pure_grammar.specs.declared.token.TokenKind.TheVariants.{Word}
use Rattle.pure_grammar.specs.Tokens.Spelling.{IsSlice}
use Rattle.pure_graph.specs.SessionNames.{Gives}
use Rattle.pure_session.proofs.SetLemmas.{gains-nothing, gains-turn, gains-end, item-is}
use Rattle.pure_session.proofs.texts.put_spellings.Goals as goal

pub loop-token-init : goal.loop-token-init
loop-token-init c = gains-nothing c.args.texts.now _ (λ t n. n)

pub put_spelling-requires : goal.put_spelling-requires
put_spelling-requires c =
    each_read (IsSlice c.args.source.now) c.args.tokens.now c.loop-token.token-index (slice_index_or c.args.tokens.now c.loop-token.token-index (record { kind = Word; from = 0; to = 0 })) c.loop-token-test.true
    (item-is c.args.tokens.now c.loop-token.token-index (record { kind = Word; from = 0; to = 0 }) c.loop-token-test.true) c.requires

pub loop-token-preserved : goal.loop-token-preserved
loop-token-preserved c =
    gains-turn c.args.texts.now c.loop-token.texts c.put_spelling.new.texts (λ t token. Gives c.args.source.now true token t) c.args.tokens.now c.loop-token.token-index (slice_index_or c.args.tokens.now c.loop-token.token-index (record { kind = Word; from = 0; to = 0 })) c.loop-token-test.true
    (item-is c.args.tokens.now c.loop-token.token-index (record { kind = Word; from = 0; to = 0 }) c.loop-token-test.true) c.loop-token.invariant c.in_ok-put_spelling.ensures

pub returns : goal.returns
returns c = gains-end c.args.texts.now c.loop-token.texts (λ t token. Gives c.args.source.now true token t) c.args.tokens.now c.loop-token.token-index c.loop-token-test.false c.loop-token.invariant
