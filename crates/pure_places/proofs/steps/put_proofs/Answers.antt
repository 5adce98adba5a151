use Rattle.std.proofs.Common.{◌≡◌, ◌+◌, ◌∷◌, [], List, OnOk, drop, get_or, sym, ap, ◌∙◌, subst, arith, add-one, drop-cons}
use Rattle.std.proofs.lemmas.List.{drop_all}
use Rattle.pure_grammar.specs.declared.token.Token.{Token}
use Rattle.pure_grammar.specs.declared.token.TokenKind.TheVariants.{Word}
use Rattle.pure_places.specs.Stages.{seen_proofs, found_behind}
use Rattle.pure_places.proofs.steps.put_proofs.Goals as goal

pub loop-token-preserved : goal.loop-token-preserved
loop-token-preserved c =
    let tokens : List Token = c.args.tokens.now in
    let i = c.loop-token.token-index in
    let none : Token = record { kind = Word; from = 0; to = 0 } in
    let cut : drop i tokens ≡ get_or tokens i none ∷ drop (i + 1) tokens = rw add-one (drop-cons tokens i none c.loop-token-test.true) in
    c.in_ok-stage-in_default.ensures (drop (i + 1) tokens) ∙ ap (found_behind c.args.source.now c.loop-token.stage c.loop-token.found) (sym cut) ∙ c.loop-token.invariant

pub returns : goal.returns
returns c =
    let none : drop c.loop-token.token-index c.args.tokens.now ≡ [] = drop_all c.loop-token.token-index c.args.tokens.now (omega (arith, c.loop-token-test.false)) in
    subst (λ z. OnOk c.finish.result (seen_proofs c.finish.new.found ≡ z)) (ap (found_behind c.args.source.now c.loop-token.stage c.loop-token.found) (sym none) ∙ c.loop-token.invariant)
    (c.finish.ensures c.args.source.now)
