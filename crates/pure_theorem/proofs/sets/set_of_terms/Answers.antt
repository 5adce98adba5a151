use Rattle.std.proofs.lemmas.List.Filters.{dedup_is}
use Rattle.pure_theorem.proofs.SetLaws.{set_of_sorted}
use Rattle.pure_theorem.proofs.sets.set_of_terms.Goals as goal

pub returns : goal.returns
returns c = set_of_sorted c.args.terms.items c.sort.new.self.items c.dedup.new.self.items c.sort.ensures.permutation c.in_ok-sort.ensures.sorted (dedup_is _ _ _ c.dedup.ensures.filtered)
