use Rattle.pure_graph.proofs.FirstLemmas.{loaded_texts_are_first}
use Rattle.pure_graph.proofs.laws.loaded_texts_are_first.Goals as goal

pub returns : goal.returns
returns c = loaded_texts_are_first
