use Rattle.std.proofs.lemmas.Slice.Eq.{strip_suffix_is}
use Rattle.std.proofs.lemmas.Bool.Decides.{Decides-eqb}
use Rattle.std.proofs.Common.{sym, ◌∙◌, Some, None}
use Rattle.std.specs.Prelude.{codes}
use Rattle.pure_graph.proofs.ListingLemmas.{no_stem, other_stem}
use Rattle.pure_graph.proofs.listing.theory_of.Goals as goal

pub returns-in_default : goal.returns-in_default
returns-in_default c = λ t _. no_stem c.args.name.now (strip_suffix_is Decides-eqb c.args.name.now (codes ".thy") None c.in_default.ensures.cases) t

pub returns-then-not-is_identifier : goal.returns-then-not-is_identifier
returns-then-not-is_identifier c =
    other_stem _ _ (strip_suffix_is Decides-eqb c.args.name.now (codes ".thy") (Some c.in-Some.stem) c.in-Some.ensures.cases)
    (sym c.is_identifier.ensures ∙ c.if-not-is_identifier.true)

pub returns : goal.returns
returns c = (
  sym c.is_identifier.ensures ∙ c.if-not-is_identifier.false,
  strip_suffix_is Decides-eqb c.args.name.now (codes ".thy") (Some c.in-Some.stem) c.in-Some.ensures.cases,
)
