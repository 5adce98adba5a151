use Rattle.pure_grammar.specs.Theories.TheoryText as tree
use Rattle.pure_script.specs.Seen.{seen_have}
use Rattle.pure_graph.specs.Outcome as spec
use Rattle.pure_graph.proofs.HeaderLemmas.{list_any_map}
use Rattle.pure_graph.proofs.header.has_long_proof.Goals as goal

pub returns-in-Lemma : goal.returns-in-Lemma
returns-in-Lemma c = rw (c.in-Lemma.is, list_any_map (λ (h : tree.Have). spec.is_long h.script) seen_have c.in-Lemma.haves.items) (rw (c.as_slice.ensures.value, c.as_slice-in-Lemma.ensures.value) at c.has_long_part.ensures)
