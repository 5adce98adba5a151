use Rattle.std.proofs.Common.{refl, ap, ◌+◌, ◌∙◌, ◌++◌, ◌∷◌, []}
use Rattle.pure_unify.proofs.ChildLaws.{path_child}
use Rattle.pure_unify.proofs.child.path_below.Goals as goal

pub returns : goal.returns
returns c p s h k =
    path_child c.args.path.now (record { settings = c.push.new.self; choices = c.args.path.now.choices + 1; fresh = c.args.path.now.fresh }) p c.args.setting s
    (c.in_ok-push.ensures.items ∙ ap (λ xs. xs ++ c.args.setting ∷ []) (c.in_ok-settings.ensures ∙ c.deref.ensures.value)) refl refl h k
