use Rattle.pure_pattern_terms.proofs.RenamedLaws.{place-within, place-behind}
use Rattle.std.proofs.Common.{arith}
use Rattle.pure_pattern_terms.proofs.renaming.renamed_place.Goals as goal

pub returns-then-at-places : goal.returns-then-at-places
returns-then-at-places c = place-within c.args.under c.args.places.now c.args.p (λ h. omega arith) (omega arith)

pub returns : goal.returns
returns c = place-behind c.args.under c.args.places.now c.args.p (λ h. omega arith) (λ h. omega arith)
