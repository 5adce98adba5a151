use Rattle.pure_graph.specs.SessionNames.{IsGiven}
use Rattle.pure_session.specs.Waiting.{seen_loaded}
use Rattle.pure_session.proofs.SetLemmas.{gains-nothing, gains-turn, gains-end, gains-mapped}
use Rattle.pure_session.proofs.names.put_theories.Goals as goal

pub loop-loaded-init : goal.loop-loaded-init
loop-loaded-init c = gains-nothing c.args.texts.now _ (λ t n. n)

pub loop-loaded-preserved : goal.loop-loaded-preserved
loop-loaded-preserved c =
    gains-turn c.args.texts.now c.loop-loaded.texts c.put_theory.new.texts (λ t loaded. IsGiven (seen_loaded loaded) t) c.args.theories.now c.loop-loaded.loaded-index _
    c.loop-loaded-test.true c.loaded-item.is c.loop-loaded.invariant c.in_ok-put_theory.ensures

pub returns : goal.returns
returns c =
    gains-mapped c.args.texts.now c.loop-loaded.texts (λ t loaded. IsGiven loaded t) seen_loaded c.args.theories.now
    (gains-end c.args.texts.now c.loop-loaded.texts (λ t loaded. IsGiven (seen_loaded loaded) t) c.args.theories.now c.loop-loaded.loaded-index c.loop-loaded-test.false c.loop-loaded.invariant)
