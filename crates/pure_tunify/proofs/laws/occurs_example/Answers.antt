use Rattle.pure_tunify.proofs.ExampleLaws.{occurs_example as lemma}
use Rattle.pure_tunify.proofs.laws.occurs_example.Goals as goal

pub returns : goal.returns
returns c = lemma
