use Rattle.std.proofs.Common.{◌-◌, take, length}
use Rattle.pure_text.specs.Lists.{Each}
use Rattle.pure_theory_tables.specs.View.{outline}
use Rattle.pure_declare.specs.Premises.{IsPassed}
use Rattle.pure_declare.proofs.may.is_label_above.Given as goal

-- the label comes after those of the promises so far
abbrev pub invariant-decls : goal.invariant-decls
invariant-decls l = Each (λ d. IsPassed l.label (outline d)) (take l.place l.theory.declarations)

abbrev pub decreases-decls : goal.decreases-decls
decreases-decls l = length l.theory.declarations - l.place
