use Rattle.std.proofs.Common.{refl, add-one, take, take-suc, subst, sym}
use Rattle.pure_record.specs.Spelled.{AreNamesOf}
use Rattle.pure_record.proofs.NameLemmas.{names-none}
use Rattle.pure_record.proofs.names.texts_of_few.Goals as goal

pub loop-token-init : goal.loop-token-init
loop-token-init c = names-none c.args.source.now _ c.empty-texts.result refl c.empty-texts.ensures

pub loop-token-preserved : goal.loop-token-preserved
loop-token-preserved c =
    rw add-one (subst (λ tokens. AreNamesOf c.args.source.now tokens c.in_ok-texts.texts) (sym (take-suc c.args.tokens.now c.loop-token.token-index _ c.loop-token-test.true))
    (c.in_ok-texts.ensures (take c.loop-token.token-index c.args.tokens.now) c.loop-token.invariant))
