-- Declarations over declared classes alone: what is asked of a content, so that the fresh type variables of unification are certified over it.
use Rattle.std.specs.Prelude.{◌⊎◌, ℕ, List}
use Rattle.pure_text.specs.Lists.{IsIn, Each}
use Rattle.pure_definitions.specs.Types.Order.{Class, Arity, Algebra, IsInclusion}
use Rattle.pure_definitions.specs.Declarations.Decl.{Decl, ClassDecl, ArityDecl, IsDeclaredClass}

-- Which classes are declared can be decided; inclusions and arities are of declared classes alone.
pub record AreClosed (A : Algebra) (D : ℕ → Type 0) : Type 0 where
  pub decided : (c : ℕ) → D c ⊎ (D c → ⊥)
  pub above : (c d : ℕ) → IsInclusion A c d → D d
  pub below : (c d : ℕ) → IsInclusion A c d → D c
  pub class : (a : Arity) → IsIn a A.arities → D a.class
  pub domains : (a : Arity) → IsIn a A.arities → Each (Each D) a.domains

-- Inclusions and arities are of declared classes, as a theory keeps it of its declarations.
pub record AreClassesDeclared (ds : List Decl) : Type 0 where
  pub inclusions : (k : Class) → IsIn (ClassDecl k) ds → Each (IsDeclaredClass ds) k.above
  pub classes : (a : Arity) → IsIn (ArityDecl a) ds → IsDeclaredClass ds a.class
  pub domains : (a : Arity) → IsIn (ArityDecl a) ds → Each (Each (IsDeclaredClass ds)) a.domains
