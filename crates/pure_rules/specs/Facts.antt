-- Facts of a theory: what they give, and when there is none.
use Rattle.std.specs.Prelude.{◌≡◌, ℕ, [], ◌∷◌}
use Rattle.pure_definitions.specs.Names.{Label}
use Rattle.pure_definitions.specs.Terms.Term.{Term}
use Rattle.pure_logic.specs.Content.{Content}
use Rattle.pure_logic.specs.Derivable.{Theorem}
use Rattle.pure_theorem.specs.Facts.{IsAxiom, HasNoAxiom, IsPromise, HasNoPromise}
use Rattle.pure_theorem.specs.Built.{built_proposition}
use Rattle.pure_theorem.specs.declared.built.Built.{Built}
use Rattle.pure_theorem.specs.declared.fault.RuleFault.{RuleFault}
use Rattle.pure_theorem.specs.declared.fault.RuleFault.TheVariants.{UnknownFact}

-- ------- A the axiom of this name
--  |- A
abbrev pub GivesAxiom : Content → (name : ℕ) → Theorem → Type 0
GivesAxiom Q name th = (A : Term) × IsAxiom Q name A × (th ≡ record { hyps = []; pairs = []; prop = A; rests = [] })

abbrev pub RefusesAxiom : Content → (name : ℕ) → RuleFault → Type 0
RefusesAxiom Q name UnknownFact = HasNoAxiom Q name
RefusesAxiom Q name _ = ⊥

-- ------- A the statement of the promise of this label, on which the theorem rests
--  |- A
abbrev pub GivesPromise : Content → Label → Theorem → Type 0
GivesPromise Q label th = (A : Term) × IsPromise Q label A × (th ≡ record { hyps = []; pairs = []; prop = A; rests = label ∷ [] })

abbrev pub RefusesPromise : Content → Label → RuleFault → Type 0
RefusesPromise Q label UnknownFact = HasNoPromise Q label
RefusesPromise Q label _ = ⊥

-- ------- A the built fact
--  |- A
abbrev pub GivesBuilt : Built → Theorem → Type 0
GivesBuilt which th = th ≡ record { hyps = []; pairs = []; prop = built_proposition which; rests = [] }
