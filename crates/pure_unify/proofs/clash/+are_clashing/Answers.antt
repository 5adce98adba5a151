use Rattle.std.proofs.Common.{◌≡◌, ◌∷◌, length, ap, sym, ◌∙◌, arith}
use Rattle.pure_logic.specs.Derivable.{Pair}
use Rattle.pure_unify_nodes.proofs.OwnLaws.{on_true}
use Rattle.pure_unify.proofs.ClashLaws.{first_typed, rest_typed, first_clashes, later_clashes}
use Rattle.pure_unify.proofs.clash.+are_clashing.Goals as goal

pub is_clash-requires : goal.is_clash-requires
is_clash-requires t c = first_typed c.args.pairs.now c.in-Some.first.now c.in-Some.rest.now c.in-Some.ensures.cases.0 c.requires

pub are_clashing-requires : goal.are_clashing-requires
are_clashing-requires t c =
    let e : c.args.pairs.now ≡ c.in-Some.first.now ∷ c.in-Some.rest.now = c.in-Some.ensures.cases.0 in
    let counted = ap length e in
    (omega (arith, counted), rest_typed c.args.pairs.now c.in-Some.first.now c.in-Some.rest.now e c.requires)

pub returns-then-is_clash : goal.returns-then-is_clash
returns-then-is_clash t c = first_clashes c.args.pairs.now c.in-Some.first.now c.in-Some.rest.now c.in-Some.ensures.cases.0 (rw c.if-is_clash.true at c.is_clash.ensures)

pub returns : goal.returns
returns t c =
    let equal : c.in-Some.first.now.left ≡ c.in-Some.first.now.right =
    ap (λ (p : Pair). p.left) (sym c.first.view_is) ∙ (c.are_same.ensures.0 c.if-not-are_same.false ∙ ap (λ (p : Pair). p.right) c.first.view_is)
    in
    on_true c.are_clashing.result (later_clashes c.args.pairs.now c.in-Some.first.now c.in-Some.rest.now c.in-Some.ensures.cases.0 equal)
    c.are_clashing.ensures
