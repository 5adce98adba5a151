use Rattle.std.proofs.Common.{[], ◌∷◌, codes}
use Rattle.pure_logic.specs.BuiltFacts.{reflexivity, substitutivity, function_extensionality, propositional_extensionality, modus_ponens}
use Rattle.pure_find.specs.Facts.{fact}
use Rattle.pure_find.proofs.facts.built_found.Goals as goal

pub returns : goal.returns
returns c C found =
    let refl_fact = fact (codes "Pure.refl") reflexivity in
    let subst_fact = fact (codes "Pure.subst") substitutivity in
    let ext_fact = fact (codes "Pure.ext") function_extensionality in
    let iff_fact = fact (codes "Pure.iff") propositional_extensionality in
    let mp_fact = fact (codes "Pure.mp") modus_ponens in
    let one = c.in_ok-add_built.ensures [] C found (c.empty-finding.ensures C) in
    let two = c.in_ok-add_built-2.ensures (refl_fact ∷ []) C found one in
    let three = c.in_ok-add_built-3.ensures (refl_fact ∷ subst_fact ∷ []) C found two in
    let four = c.in_ok-add_built-4.ensures (refl_fact ∷ subst_fact ∷ ext_fact ∷ []) C found three in
    let five = c.in_ok-add_built-5.ensures (refl_fact ∷ subst_fact ∷ ext_fact ∷ iff_fact ∷ []) C found four in
    c.in_ok-add_built-6.ensures (refl_fact ∷ subst_fact ∷ ext_fact ∷ iff_fact ∷ mp_fact ∷ []) C found five
