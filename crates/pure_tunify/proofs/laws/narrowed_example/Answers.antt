use Rattle.pure_tunify.proofs.ExampleLaws.{narrowed_example as lemma}
use Rattle.pure_tunify.proofs.laws.narrowed_example.Goals as goal

pub returns : goal.returns
returns c = lemma
