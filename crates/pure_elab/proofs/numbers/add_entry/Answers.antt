use Rattle.std.proofs.Common.{◌≡◌, ◌+◌, length, ◌++◌, [], ◌∷◌, ◌∙◌, ap, refl, arith}
use Rattle.pure_definitions.specs.Types.Typ as tree
use Rattle.pure_tunify.specs.Settings.{bind}
use Rattle.pure_elab.specs.Numbering.{image_of}
use Rattle.pure_elab.proofs.NumberedLaws.{bound-has, absent-has}
use Rattle.pure_elab.proofs.numbers.add_entry.Goals as goal

pub returns-in-Some : goal.returns-in-Some
returns-in-Some c = rw (bound-has c.args.binds.now (tree.TVar c.args.name c.args.index c.args.sort.now) c.in-Some.field-0.now c.in-Some.ensures.bound) refl

pub returns-in_ok-push-in-None : goal.returns-in_ok-push-in-None
returns-in_ok-push-in-None c =
    let number : c.in_ok-number-in-None.number ≡ c.args.first + length c.args.binds.now = grind arith in
    rw (absent-has c.args.binds.now (tree.TVar c.args.name c.args.index c.args.sort.now) c.in-None.ensures.bound)
    (c.in_ok-push-in-None.ensures
    ∙ ap (λ b. c.args.binds.now ++ b ∷ []) (c.in_ok-entry-in-None.ensures ∙ ap (λ n. bind c.args.name c.args.index c.args.sort.now (image_of c.args.numbering n c.args.sort.now)) number))
