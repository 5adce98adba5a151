use Rattle.pure_tunify.proofs.RenamedLaws.{HasRenamed}
use Rattle.pure_tunify.proofs.narrow.narrow.Given as goal

abbrev pub invariant-loop-one : goal.invariant-loop-one
invariant-loop-one l = HasRenamed l.order l.sort l.initial.settings l.settings l.fn.t l.all l.one-index l.renamed
