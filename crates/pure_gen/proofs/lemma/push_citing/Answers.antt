use Rattle.pure_text.proofs.Joins.{joined_3}
use Rattle.pure_gen.specs.Generated.{by_rule, rule_end}
use Rattle.pure_gen.proofs.Lines.{citing-behind}
use Rattle.pure_gen.proofs.lemma.push_citing.Goals as goal

pub returns : goal.returns
unfolding by_rule rule_end
returns c =
    rw (citing-behind c.args.lemmas c.args.lemma c.if-lemma-eq0.false)
    (joined_3 _ _ _ _ _ _ _ c.in_ok-extend_from_slice-2.ensures.items c.in_ok-push_full_name.ensures c.in_ok-extend_from_slice-3.ensures.items)
