use Rattle.std.proofs.Common.{◌≡◌, ap, sym}
use Rattle.pure_text.proofs.AnswerLaws.{test_fails}
use Rattle.pure_definitions.specs.Terms.Term.{Var}
use Rattle.pure_logic.specs.Derivable.{Pair}
use Rattle.pure_pattern_rules.proofs.SideLaws.{typ_low}
use Rattle.pure_pattern_rules.proofs.TreatedLaws.{one_treated, two_treated}
use Rattle.pure_pattern_rules.proofs.both.both_flexible.Goals as goal

pub one_variable-requires : goal.one_variable-requires
one_variable-requires c = typ_low c.args.pair.now.left c.pair.inside.left c.in_ok-f.f (ap (λ (p : Pair). p.left) (sym c.pair.view_is)) c.requires.within.0 c.in_ok-f.ensures

pub returns-then-is_same_variable-clause-treated : goal.returns-then-is_same_variable-clause-treated
returns-then-is_same_variable-clause-treated c =
    let same = c.is_same_variable.ensures.0 c.if-is_same_variable.true in
    one_treated c.args.index c.args.pair.now c.pair.inside.left c.pair.inside.right c.in_ok-f.f c.in_ok-g.g (ap (λ (p : Pair). p.left) (sym c.pair.view_is)) (ap (λ (p : Pair). p.right) (sym c.pair.view_is)) c.in_ok-f.ensures c.in_ok-g.ensures
    c.one_variable.result c.requires.differ same c.one_variable.ensures.treated

pub two_variables-requires-clause-first : goal.two_variables-requires-clause-first
two_variables-requires-clause-first c = typ_low c.args.pair.now.left c.pair.inside.left c.in_ok-f.f (ap (λ (p : Pair). p.left) (sym c.pair.view_is)) c.requires.within.0 c.in_ok-f.ensures

pub two_variables-requires-clause-second : goal.two_variables-requires-clause-second
two_variables-requires-clause-second c = typ_low c.args.pair.now.right c.pair.inside.right c.in_ok-g.g (ap (λ (p : Pair). p.right) (sym c.pair.view_is)) c.requires.within.1 c.in_ok-g.ensures

pub returns-clause-treated : goal.returns-clause-treated
returns-clause-treated c =
    let f = c.in_ok-f.f in
    let g = c.in_ok-g.g in
    let apart = test_fails (Var f.name f.index f.typ ≡ Var g.name g.index g.typ) c.is_same_variable.result c.is_same_variable.ensures c.if-is_same_variable.false in
    two_treated c.args.index c.args.pair.now c.pair.inside.left c.pair.inside.right f g (ap (λ (p : Pair). p.left) (sym c.pair.view_is)) (ap (λ (p : Pair). p.right) (sym c.pair.view_is)) c.in_ok-f.ensures c.in_ok-g.ensures c.two_variables.result apart
    c.two_variables.ensures.treated
