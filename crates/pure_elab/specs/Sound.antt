-- Vocabularies that are sound over declarations, so that what is elaborated is certified over them.
use Rattle.std.specs.Prelude.{◌≡◌, ℕ, List, Some}
use Rattle.pure_text.specs.Lists.{IsIn, Each}
use Rattle.pure_definitions.specs.Names.{fun_name, prop_name}
use Rattle.pure_definitions.specs.Types.Typ.{Typ}
use Rattle.pure_definitions.specs.Types.Order.{Class, Arity}
use Rattle.pure_definitions.specs.Declarations.Decl.{Decl, ClassDecl, ConDecl, ArityDecl, ConstDecl, algebra_of, IsDeclaredClass}
use Rattle.pure_definitions.specs.Declarations.Certified.{IsCertifiedTyp}
use Rattle.pure_tunify.specs.Closed.{AreClosed}
use Rattle.pure_elab.specs.Vocabulary.{Vocabulary}

-- What the vocabulary finds is declared, constants with certified types; and the types of functions and of propositions are declared.
pub record IsSoundVocabulary (ds : List Decl) (V : Vocabulary) : Type 0 where
  pub classes : (written : List ℕ) (c : ℕ) → V.class_written written ≡ Some c → IsDeclaredClass ds c
  pub constructors : (k n : ℕ) → V.params k ≡ Some n → IsIn (ConDecl k n) ds
  pub constants : (written : List ℕ) (c : ℕ) → V.constant_written written ≡ Some c → (T : Typ) × (V.typ_declared c ≡ Some T) × IsIn (ConstDecl c T) ds × IsCertifiedTyp ds T
  pub functions : IsIn (ConDecl fun_name 2) ds
  pub propositions : IsIn (ConDecl prop_name 0) ds
  pub order : V.algebra ≡ algebra_of ds
  pub closed : AreClosed (algebra_of ds) (IsDeclaredClass ds)

-- What a theory keeps of its declarations: the types of constants are certified, and inclusions and arities are of declared classes.
pub record AreCertifiedDeclarations (ds : List Decl) : Type 0 where
  pub constants : (c : ℕ) (T : Typ) → IsIn (ConstDecl c T) ds → IsCertifiedTyp ds T
  pub inclusions : (k : Class) → IsIn (ClassDecl k) ds → Each (IsDeclaredClass ds) k.above
  pub classes : (a : Arity) → IsIn (ArityDecl a) ds → IsDeclaredClass ds a.class
  pub domains : (a : Arity) → IsIn (ArityDecl a) ds → Each (Each (IsDeclaredClass ds)) a.domains
