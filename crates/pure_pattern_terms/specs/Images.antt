-- Images that are put into patterns, and which terms they can be put into.
use Rattle.std.specs.Prelude.{◌≡◌, ℕ, ◌+◌, ◌<◌, ◌≤◌, List, Option, Some, None, map, reverse}
use Rattle.pure_text.specs.Lists.{Each}
use Rattle.pure_definitions.specs.Terms.Term.{Term, term_depth}
use Rattle.pure_definitions.specs.Terms.Subst.{TermBind}
use Rattle.pure_definitions.specs.Terms.Measures.{loose_above}
use Rattle.pure_definitions.specs.Reduction.Beta.{IsAbs}
use Rattle.pure_unify_definitions.specs.Fronts.{arguments, term_body}
use Rattle.pure_pattern_laws.specs.Putting.{place_of}

-- The numbers of the term's bound variables are small, as they are in each closed term within the limits.
abbrev pub IsLowTerm : Term → Type 0
IsLowTerm t = loose_above t + term_depth t < 2147483648

-- The images are of small depth, as they are within the limits.
abbrev pub AreShallow : List TermBind → Type 0
AreShallow binds = Each (λ b. term_depth b.image < 2147483648) binds

-- the bound variables that the arguments in long form are up to eta steps, right to left
abbrev pub application_places : Term → List ℕ
application_places t = reverse (map place_of (arguments t))

-- The image is an abstraction, and this stands below its abstractions.
abbrev pub IsImageBody : (image body : Term) → Type 0
IsImageBody image body = IsAbs image × (body ≡ term_body image)

-- The image is no abstraction.
abbrev pub StaysApplied : Term → Type 0
StaysApplied image = ¬ IsAbs image

-- The variables that are replaced have indexes of `from` and more.
abbrev pub AreFrom : (from : ℕ) → List TermBind → Type 0
AreFrom from binds = Each (λ b. from ≤ b.index) binds

-- what stands in place of the term: what it was made into; or the term, where it wasn't made anew
abbrev pub became : Term → Option Term → Term
became t None = t
became t (Some u) = u
