use Rattle.std.proofs.Common.{length, refl, sym, ◌∙◌, ◌+◌, arith}
use Rattle.std.proofs.lemmas.List.{drop_all}
use Rattle.pure_grammar.specs.declared.token.Token.{Token}
use Rattle.pure_grammar.specs.declared.token.TokenKind.TheVariants.{Word}
use Rattle.pure_grammar.proofs.Places.{slice-at}
use Rattle.std.specs.Prelude.{drop}
use Rattle.pure_record.proofs.RunLemmas.{run-turn, run-long, run-end}
use Rattle.pure_record.proofs.runs.long_run.Goals as goal

abbrev nowhere : Token
nowhere = record { kind = Word; from = 0; to = 0 }

pub loop-token-init : goal.loop-token-init
loop-token-init c = record { few = omega arith; same = refl }

pub is_bar-bar-requires : goal.is_bar-bar-requires
is_bar-bar-requires c = slice-at c.args.source.now (length c.args.source.now) c.args.tokens.now 0 c.loop-token.token-index nowhere _ c.requires c.loop-token-test.true refl

pub returns-then-run-gt-MAX_RUN : goal.returns-then-run-gt-MAX_RUN
returns-then-run-gt-MAX_RUN c =
    sym (run-long c.args.source.now (drop (c.loop-token.token-index + 1) c.args.tokens.now) c.run_behind-run.result.start c.run_behind-run.result.count c.if-run-gt-MAX_RUN.true)
    ∙ run-turn c.args.source.now c.args.tokens.now c.loop-token.token-index c.loop-token.run.start c.loop-token.run.count c.run_behind-run.result.start c.run_behind-run.result.count nowhere c.is_bar-bar.result
    c.loop-token-test.true c.loop-token.invariant c.is_bar-bar.ensures (record { bar = c.run_behind-run.ensures.bar; first = c.run_behind-run.ensures.first; more = c.run_behind-run.ensures.more })

pub loop-token-preserved : goal.loop-token-preserved
loop-token-preserved c = record {
  few = omega (arith, c.if-run-gt-MAX_RUN.false);
  same = run-turn c.args.source.now c.args.tokens.now c.loop-token.token-index c.loop-token.run.start c.loop-token.run.count c.run_behind-run.result.start c.run_behind-run.result.count nowhere c.is_bar-bar.result
      c.loop-token-test.true c.loop-token.invariant c.is_bar-bar.ensures (record { bar = c.run_behind-run.ensures.bar; first = c.run_behind-run.ensures.first; more = c.run_behind-run.ensures.more });
}

pub returns : goal.returns
returns c =
    sym (run-end c.args.source.now (drop c.loop-token.token-index c.args.tokens.now) c.loop-token.run.start c.loop-token.run.count (drop_all c.loop-token.token-index c.args.tokens.now c.loop-token-test.false) c.loop-token.invariant.few)
    ∙ c.loop-token.invariant.same
