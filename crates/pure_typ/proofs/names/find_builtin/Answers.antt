use Rattle.std.proofs.Common.{◌≡◌, ◌≢◌, ◌<◌, ◌++◌, sym, ap, ◌∙◌, below_more, true≢false, arith}
use Rattle.std.proofs.lemmas.Option.{slice_get_within}
use Rattle.std.specs.Prelude.{slice_get, Some, true}
use Rattle.std.specs.Ordering.{nat_cmp, is_eq}
use Rattle.std.specs.Cmp.Lexicographic.{slice_cmp}
use Rattle.pure_typ.specs.NameTexts.{builtin_texts}
use Rattle.pure_typ.proofs.NamesLemmas.{same-where-equal, equal-where-same, length-builtin_texts, Some-inj}
use Rattle.pure_typ.proofs.names.find_builtin.Goals as goal

pub returns-then-is_eq : goal.returns-then-is_eq
returns-then-is_eq c =
    let order : is_eq (slice_cmp nat_cmp c.builtin.result.now (c.args.a.now ++ (c.args.b.now ++ c.args.c.now))) ≡ true = ap is_eq (sym c.compare_joined.ensures) ∙ (sym c.is_eq.ensures ∙ c.if-is_eq.true) in
    c.builtin.ensures ∙ ap Some (same-where-equal c.builtin.result.now (c.args.a.now ++ (c.args.b.now ++ c.args.c.now)) order)

pub loop-number-preserved : goal.loop-number-preserved
loop-number-preserved c =
    let here : slice_get builtin_texts c.loop-number.number ≢ Some (c.args.a.now ++ (c.args.b.now ++ c.args.c.now)) =
    λ e.
    let same : c.builtin.result.now ≡ c.args.a.now ++ (c.args.b.now ++ c.args.c.now) = Some-inj (sym c.builtin.ensures ∙ e) in
    let order = equal-where-same c.builtin.result.now (c.args.a.now ++ (c.args.b.now ++ c.args.c.now)) same in
    let yes = c.is_eq.ensures ∙ (ap is_eq c.compare_joined.ensures ∙ order) in
    absurd (true≢false (sym yes ∙ c.if-is_eq.false)) in
    below_more (λ n. slice_get builtin_texts n ≢ Some (c.args.a.now ++ (c.args.b.now ++ c.args.c.now))) c.loop-number.number c.loop-number.invariant here

pub returns : goal.returns
returns c = λ n e.
    let within = slice_get_within builtin_texts n (c.args.a.now ++ (c.args.b.now ++ c.args.c.now)) e in
    let six = length-builtin_texts in
    let below : n < c.loop-number.number = omega arith in
    c.loop-number.invariant n below e
