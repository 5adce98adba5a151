use Rattle.std.proofs.Common.{◌≡◌, ◌∷◌, [], subst, arith}
use Rattle.std.specs.Prelude.{ℕ, List}
use Rattle.pure_typ.specs.SortUnion.{IsSortUnion}
use Rattle.pure_elab.proofs.SortLaws.{class_more, class_same}
use Rattle.pure_elab.proofs.sorts.with_class.Goals as goal

pub returns-then-entry-name : goal.returns-then-entry-name
returns-then-entry-name c cs of = class_same c.args.entry c.args.name cs c.args.sort (λ same. absurd (grind arith)) of

pub returns : goal.returns
returns c cs of =
    let same : c.args.entry.variable ≡ c.args.name = grind arith in
    let more : c.in_ok-more.more ≡ c.args.entry.class ∷ [] = grind arith in
    let union : IsSortUnion c.args.sort (c.args.entry.class ∷ []) c.in_ok-union.union = subst (λ (l : List ℕ). IsSortUnion c.args.sort l c.in_ok-union.union) more c.in_ok-union.ensures in
    class_more c.args.entry c.args.name cs c.args.sort c.in_ok-union.union same union of
