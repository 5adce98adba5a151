use Rattle.std.proofs.lemmas.List.{take_all}
use Rattle.pure_text.specs.Lists.{AnyOf}
use Rattle.pure_text.proofs.ListLaws.{any-map}
use Rattle.pure_text.proofs.LoopLaws.{any_turn, turned}
use Rattle.pure_grammar.specs.Theories.TheoryText as tree
use Rattle.pure_script.specs.Seen.{seen_step}
use Rattle.pure_script.specs.declared.theory.Step.{Step}
use Rattle.pure_table.specs.Method.Facts.{named_facts}
use Rattle.pure_citations.specs.Named.{MeansAxiom}
use Rattle.pure_citations.proofs.NamedLaws.{seen-too}
use Rattle.pure_citations.proofs.facts.put_script.Goals as goal

pub loop-step-preserved : goal.loop-step-preserved
loop-step-preserved c = λ n.
    turned _ _ _ _ _ _ (any_turn (λ (s : Step). AnyOf (MeansAxiom c.args.names.now c.args.theory.now c.args.lemma n) (named_facts (seen_step s))) c.args.script.now c.loop-step.step-index c.step-item.result c.loop-step-test.true c.step-item.is) (c.in_ok-put_step.ensures n) (c.loop-step.invariant n)

pub returns : goal.returns
returns c = λ n.
    seen-too _ _ _ _ (any-map seen_step (λ (s : tree.Step). AnyOf (MeansAxiom c.args.names.now c.args.theory.now c.args.lemma n) (named_facts s)) c.args.script.now)
    ((rw (take_all c.loop-step.step-index c.args.script.now c.loop-step-test.false) at c.loop-step.invariant) n)
