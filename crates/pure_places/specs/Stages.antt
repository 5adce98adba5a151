-- What contracts see of the search in a lemma.
use Rattle.std.specs.Prelude.{ℕ, List, map}
use Rattle.pure_grammar.specs.declared.token.Token.{Token}
use Rattle.pure_places.specs.Proofs as spec
use Rattle.pure_places.specs.Found.{found_proofs}
use Rattle.pure_places.specs.Seen.{seen_part}
use Rattle.pure_places.specs.declared.steps.Proofs.{Proofs}
use Rattle.pure_places.specs.declared.steps.Stage.{Stage}
use Rattle.pure_places.specs.declared.steps.Stage.TheVariants.{Within, Naming, Ended}

abbrev pub seen_stage : Stage → spec.Stage ℕ
seen_stage (Within have by called) = spec.Within have by called
seen_stage Naming = spec.Naming
seen_stage Ended = spec.Ended

abbrev pub seen_proofs : Proofs → spec.Proofs ℕ
seen_proofs found = record { haves = map seen_part found.haves.items; steps = found.steps.items }

-- the search behind some tokens
abbrev pub seen_search : Stage → Proofs → spec.Search ℕ
seen_search stage found = record { stage = seen_stage stage; found = seen_proofs found }

-- what is found in the end, where these tokens come next
abbrev pub found_behind : (source : List ℕ) → Stage → Proofs → List Token → spec.Proofs ℕ
found_behind source stage found more = found_proofs source (seen_stage stage) (seen_proofs found) more
