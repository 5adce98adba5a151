use Rattle.std.proofs.Common.{◌∙◌, sym}
use Rattle.pure_theory_tables.proofs.declarations.Declarations.count.Goals as goal

pub returns : goal.returns
returns c = rw (← c.self.view_is) (c.count.ensures ∙ sym c.self.invariant.listed.long)
