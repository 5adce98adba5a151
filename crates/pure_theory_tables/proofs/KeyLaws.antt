-- Labels under their numbers.
use Rattle.std.proofs.Common.{◌≡◌, arith}
use Rattle.pure_theory_tables.specs.Keys.{label_key, OrdinaryLabelsApart}

pub ordinary_labels_apart : OrdinaryLabelsApart
unfolding label_key
ordinary_labels_apart k l a b same =
    let theory : k.theory ≡ l.theory = omega (arith, same, a.theory, a.command, a.part, b.theory, b.command, b.part) in
    let command : k.command ≡ l.command = omega (arith, same, theory, a.theory, a.command, a.part, b.theory, b.command, b.part) in
    let part : k.part ≡ l.part = omega (arith, same, theory, command, a.theory, a.command, a.part, b.theory, b.command, b.part) in
    λ i. record { theory = theory i; command = command i; part = part i }
