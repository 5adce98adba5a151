use Rattle.std.proofs.Common.{◌∷◌, [], subst}
use Rattle.pure_text.specs.Lists.{IsIn}
use Rattle.pure_grammar.specs.Theories.TheoryText as tree
use Rattle.pure_script.specs.Seen.{seen_have}
use Rattle.pure_graph.specs.SessionNames.{full_name}
use Rattle.pure_session.specs.NameSets.{Gains}
use Rattle.pure_session.proofs.SetLemmas.{gains-nothing, gains-turn, gains-end, gains-texts}
use Rattle.pure_session.proofs.names.put_haves.Goals as goal

pub loop-inner-init : goal.loop-inner-init
loop-inner-init c = gains-nothing c.args.texts.now _ (λ t n. n)

pub loop-inner-preserved : goal.loop-inner-preserved
loop-inner-preserved c =
    gains-turn c.args.texts.now c.loop-inner.texts c.put_full.new.texts (λ t h. IsIn t (full_name c.args.lemma.now (seen_have h).name ∷ [])) c.args.haves.now c.loop-inner.inner-index _
    c.loop-inner-test.true c.inner-item.is c.loop-inner.invariant
    (subst (λ n. Gains c.loop-inner.texts c.put_full.new.texts (λ t. IsIn t (full_name c.args.lemma.now n ∷ []))) c.bytes.ensures c.in_ok-put_full.ensures)

pub returns : goal.returns
returns c =
    gains-texts c.args.texts.now c.loop-inner.texts (λ (h : tree.Have). full_name c.args.lemma.now h.name) seen_have c.args.haves.now
    (gains-end c.args.texts.now c.loop-inner.texts (λ t h. IsIn t (full_name c.args.lemma.now (seen_have h).name ∷ [])) c.args.haves.now c.loop-inner.inner-index c.loop-inner-test.false c.loop-inner.invariant)
