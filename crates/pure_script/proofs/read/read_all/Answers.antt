use Rattle.std.proofs.Common.{◌≡◌, length, refl, sym, ◌∙◌, ap, slice_index_or, None}
use Rattle.std.proofs.lemmas.List.{drop_all}
use Rattle.pure_grammar.specs.declared.token.TokenKind.TheVariants.{Word}
use Rattle.pure_grammar.specs.Theories.Lexeme.{lexeme, lexemes}
use Rattle.pure_grammar.specs.Theories.Reader.{next, run}
use Rattle.pure_script.specs.States.{seen_state}
use Rattle.pure_script.proofs.Reading.{is_last-seen, none-next, fault-token, slice-at}
use Rattle.pure_script.proofs.read.read_all.Goals as goal

pub loop-token-init : goal.loop-token-init
loop-token-init c = ap (λ z. run z (lexemes c.args.source.now c.args.tokens.now)) (sym c.requires.start)

pub lexeme_of-requires : goal.lexeme_of-requires
lexeme_of-requires c =
    record { slice = slice-at c.args.source.now (length c.args.source.now) c.args.tokens.now 0 c.loop-token.token-index (record { kind = Word; from = 0; to = 0 }) _ c.requires.slices c.loop-token-test.true refl }

pub returns-then-not-branch-clause-fault : goal.returns-then-not-branch-clause-fault
returns-then-not-branch-clause-fault c =
    let stuck : next (seen_state c.loop-token.state) (lexeme c.args.source.now (slice_index_or c.args.tokens.now c.loop-token.token-index (record { kind = Word; from = 0; to = 0 }))) ≡ None =
    ap (λ z. next (seen_state c.loop-token.state) z) (sym c.in_ok-lexeme.ensures) ∙ none-next _ _ _ c.if-not-branch.true c.in_ok-goes_on.ensures in
    rw c.expected-kind.ensures (fault-token c.args.source.now c.args.tokens.now c.loop-token.token-index (seen_state c.loop-token.state) (record { kind = Word; from = 0; to = 0 })
    (slice_index_or c.args.tokens.now c.loop-token.token-index (record { kind = Word; from = 0; to = 0 })) c.loop-token-test.true refl c.loop-token.invariant stuck (is_last-seen c.loop-token.state))

pub returns-clause-ok : goal.returns-clause-ok
returns-clause-ok c = c.loop-token.invariant ∙ ap (λ z. run (seen_state c.loop-token.state) (lexemes c.args.source.now z)) (drop_all c.loop-token.token-index c.args.tokens.now c.loop-token-test.false)
