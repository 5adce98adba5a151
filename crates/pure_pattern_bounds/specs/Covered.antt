-- States in which the images of new variables are bounded by those of variables of the given indexes, whatever is put into both.
use Rattle.std.specs.Prelude.{ℕ, ◌<◌, ◌≤◌, ◌⊎◌, List}
use Rattle.pure_text.specs.Lists.{IsIn, AnyOf}
use Rattle.pure_definitions.specs.Types.Typ.{Typ}
use Rattle.pure_definitions.specs.Terms.Term.{Term, Var, term_size, term_depth, max_depth}
use Rattle.pure_definitions.specs.Terms.Bounds.{Occurs}
use Rattle.pure_definitions.specs.Terms.Subst.{TermBind}
use Rattle.pure_logic.specs.Derivable.{Pair}
use Rattle.pure_solutions.specs.Solutions.{IsLongMap}
use Rattle.pure_pattern_laws.specs.Patterns.{IsPattern}
use Rattle.pure_pattern_laws.specs.Steps.{State}
use Rattle.pure_pattern_laws.specs.Putting.{put_in}

-- The size is at most that of the other term, and where the depth of that is within the limit, so is this one's.
pub record IsBounded (a p : Term) : Type 0 where
  pub size : term_size a ≤ term_size p
  pub depth : term_depth p ≤ max_depth → term_depth a ≤ max_depth

-- A long map whose images are patterns.
pub record IsPatternMap (terms : Term → Term) : Type 0 where
  pub long : IsLongMap terms
  pub patterns : (x i : ℕ) (T : Typ) → IsPattern (terms (Var x i T))

-- The variable occurs in a side of the pair.
abbrev pub OccursIn : Term → Pair → Type 0
OccursIn v p = Occurs v p.left ⊎ Occurs v p.right

-- Whatever is put into both, the one is bounded by the other.
abbrev pub IsBelow : Term → Term → Type 0
IsBelow u t = (terms : Term → Term) → IsPatternMap terms → IsBounded (put_in terms u) (put_in terms t)

-- The image of some entry of an index up to n bounds this one; and in such an image the variable occurs.
pub record IsHeldBelow (n : ℕ) (bs : List TermBind) (u : Term) : Type 0 where
  pub entry : TermBind
  pub among : IsIn entry bs
  pub given : entry.index ≤ n
  pub bounds : IsBelow u entry.image

pub record IsHeldIn (n : ℕ) (bs : List TermBind) (v : Term) : Type 0 where
  pub entry : TermBind
  pub among : IsIn entry bs
  pub given : entry.index ≤ n
  pub there : Occurs v entry.image

-- Each variable of a greater index that is left occurs in such an image, and each image of one that was set is bounded by one.
pub record IsCovered (n : ℕ) (s : State) : Type 0 where
  pub sides : (x i : ℕ) (T : Typ) → n < i → AnyOf (OccursIn (Var x i T)) s.pairs → IsHeldIn n s.binds (Var x i T)
  pub images : (b : TermBind) → IsIn b s.binds → n < b.index → IsHeldBelow n s.binds b.image
