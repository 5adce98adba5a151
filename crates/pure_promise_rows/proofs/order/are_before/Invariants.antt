use Rattle.std.proofs.Common.{◌≡◌, map, take}
use Rattle.std.specs.declared.cmp.Ordering.TheVariants.{Less}
use Rattle.pure_text.specs.Lists.{Each}
use Rattle.pure_theorem.specs.Sets.{label_cmp}
use Rattle.pure_promise.specs.Seen.{reported}
use Rattle.pure_promise_rows.proofs.order.are_before.Given as goal

abbrev pub invariant-loop-lemma : goal.invariant-loop-lemma
invariant-loop-lemma l = Each (λ e. label_cmp e.label l.label ≡ Less) (map reported (take l.lemma-index l.lemmas))
