use Rattle.std.proofs.Common.{◌≡◌, sym, ap, ◌∙◌}
use Rattle.pure_definitions.specs.Terms.Subst.{term_variable}
use Rattle.pure_logic.specs.Derivable.{Pair}
use Rattle.pure_unify_steps.proofs.DirectLaws.{left_set, right_set}
use Rattle.pure_unify_steps.proofs.direct.direct_entry.Goals as goal

pub returns-then-is_set_to : goal.returns-then-is_set_to
returns-then-is_set_to c =
    let left : c.args.pair.left ≡ c.pair.inside.left = ap (λ (p : Pair). p.left) (sym c.pair.view_is) in
    let right : c.args.pair.right ≡ c.pair.inside.right = ap (λ (p : Pair). p.right) (sym c.pair.view_is) in
    let named = c.entry_for.ensures.variable in
    let given = c.entry_for.ensures.image in
    let name : term_variable c.entry_for.result ≡ c.pair.inside.left = cc in
    let image : c.entry_for.result.image ≡ c.pair.inside.right = cc in
    left_set c.args.pair c.pair.inside.left c.pair.inside.right c.entry_for.result left right c.requires (rw c.if-is_set_to.true at c.is_set_to.ensures) name image

pub returns-then-is_set_to-2 : goal.returns-then-is_set_to-2
returns-then-is_set_to-2 c =
    let left : c.args.pair.left ≡ c.pair.inside.left = ap (λ (p : Pair). p.left) (sym c.pair.view_is) in
    let right : c.args.pair.right ≡ c.pair.inside.right = ap (λ (p : Pair). p.right) (sym c.pair.view_is) in
    let named = c.entry_for-then-is_set_to-2.ensures.variable in
    let given = c.entry_for-then-is_set_to-2.ensures.image in
    let name : term_variable c.entry_for-then-is_set_to-2.result ≡ c.pair.inside.right = cc in
    let image : c.entry_for-then-is_set_to-2.result.image ≡ c.pair.inside.left = cc in
    right_set c.args.pair c.pair.inside.left c.pair.inside.right c.entry_for-then-is_set_to-2.result left right c.requires (sym c.is_plain.ensures ∙ c.if-not-is_plain.false) (rw c.if-is_set_to-2.true at c.is_set_to-2.ensures) name image
