use Rattle.pure_theory.proofs.LocalLaws.{with_dot, local_answer}
use Rattle.pure_theory.proofs.theory.Theory.local_promise.Goals as goal

pub returns-in-Some : goal.returns-in-Some
returns-in-Some c = λ n l A h. with_dot c.args.names.now c.args.self.now c.requires c.args.lemma c.args.written.now h.text h.lemma_text c.in-Some.field-0.now c.in-Some.ensures.0 c.in-Some.ensures.2 n l A h

pub returns : goal.returns
returns c = local_answer c.args.names.now c.args.self.now c.requires c.args.lemma c.args.written.now c.in-Some-text.text.now c.in-Some-text.ensures
    c.in_default.ensures c.in-Some-find_in.name c.in-Some-find_in.ensures (λ p. p.name) (λ p. p.label) (λ p. p.prop.now) c.promise.result c.promise.ensures
