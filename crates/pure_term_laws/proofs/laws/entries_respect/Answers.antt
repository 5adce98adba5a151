use Rattle.pure_term_laws.proofs.SubstLaws.{entries-respect_sorts_exactly, entries-respect_types_exactly, entries-keep_fixed_typs, entries-keep_fixed}
use Rattle.pure_term_laws.proofs.laws.entries_respect.Goals as goal

pub returns-clause-sorts : goal.returns-clause-sorts
returns-clause-sorts c = entries-respect_sorts_exactly

pub returns-clause-types : goal.returns-clause-types
returns-clause-types c = entries-respect_types_exactly

pub returns-clause-fixed_typs : goal.returns-clause-fixed_typs
returns-clause-fixed_typs c = entries-keep_fixed_typs

pub returns-clause-fixed : goal.returns-clause-fixed
returns-clause-fixed c = entries-keep_fixed
