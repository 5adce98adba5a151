-- The name spaces of the code.
use Rattle.pure_lookup.specs.Meaning as meaning
use Rattle.pure_theory.specs.declared.lookup.Space.{Space}
use Rattle.pure_theory.specs.declared.lookup.Space.TheVariants.{Classes, Typs, Consts, Facts}

-- the name space that it stands for
abbrev pub seen_space : Space → meaning.Space
seen_space Classes = meaning.classes
seen_space Typs = meaning.constructors
seen_space Consts = meaning.constants
seen_space Facts = meaning.facts
