-- The step at a place of a script, as the program holds it.
use Rattle.std.proofs.Common.{◌≡◌, ℕ, zero, suc, ◌+◌, ◌<◌, List, [], ◌∷◌, length, get_or, drop, drop-cons, add-one, refl, ap, sym, subst}
use Rattle.pure_grammar.specs.Theories.TheoryText as tree
use Rattle.pure_script.specs.Seen.{seen_step, seen_steps}
use Rattle.pure_script.specs.declared.theory.Step.{Step}

seen-at : (steps : List Step) (at : ℕ) (r : Step) → r ≡ get_or steps at r → seen_step r ≡ get_or (seen_steps steps) at (seen_step r)
seen-at [] at r e = refl
seen-at (s ∷ steps) zero r e = ap seen_step e
seen-at (s ∷ steps) (suc at) r e = seen-at steps at r e

pub step-left : (steps slice : List Step) (script : List tree.Step) (at : ℕ) (r : Step) → slice ≡ steps → script ≡ seen_steps steps → at < length script → r ≡ get_or slice at r → drop at script ≡ seen_step r ∷ drop (at + 1) script
step-left steps slice script at r same is within read =
    let read_here : r ≡ get_or steps at r = subst (λ (xs : List Step). r ≡ get_or xs at r) same read in
    let seen : seen_step r ≡ get_or script at (seen_step r) = subst (λ (xs : List tree.Step). seen_step r ≡ get_or xs at (seen_step r)) (sym is) (seen-at steps at r read_here) in
    rw (add-one, drop-cons script at (seen_step r), ← seen) refl
