use Rattle.std.proofs.Common.{refl, ◌∷◌, ◌++◌, []}
use Rattle.pure_record.proofs.NameLemmas.{names-past, names-again, names-united}
use Rattle.pure_record.proofs.names.with_token.Goals as goal

pub returns-in_default-spelling_of : goal.returns-in_default-spelling_of
returns-in_default-spelling_of c = λ before names. names-past c.args.source.now c.in-Some.bytes.now before c.args.token c.args.texts c.in-Some.ensures c.in_default-spelling_of.ensures names

pub returns-then-has : goal.returns-then-has
returns-then-has c = λ before names.
    names-again c.args.source.now c.in-Some.bytes.now c.in-Some-spelling_of.text.now before c.args.token c.args.texts c.in-Some.ensures c.in-Some-spelling_of.ensures (c.has.ensures c.if-has.true) names

pub returns : goal.returns
returns c = λ before names.
    names-united c.args.source.now (before ++ c.args.token ∷ []) before (c.args.token ∷ []) c.in_ok-all.all c.args.texts c.in_ok-one.one refl names c.in_ok-one.ensures c.in_ok-all.ensures.ascend c.in_ok-all.ensures.texts
