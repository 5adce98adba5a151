-- What written names mean over a content, and what is declared under names, as functions.
use Rattle.std.specs.Prelude.{◌≡◌, ℕ, List, Option, length, MatchOption}
use Rattle.pure_definitions.specs.Types.Typ.{Typ}
use Rattle.pure_definitions.specs.Types.Order.{Algebra}
use Rattle.pure_definitions.specs.Declarations.Decl.{algebra_of}
use Rattle.pure_typ.specs.NameTexts.{name_texts, IsFound}
use Rattle.pure_logic.specs.Content.{Content}
use Rattle.pure_lookup.specs.Meaning.{classes, constructors, constants}
use Rattle.pure_lookup.specs.LookUps.{IsFoundName}
use Rattle.pure_certify.specs.Tables.{IsParams, IsUnknownConst, IsConstOf}

-- The classes, type constructors and constants by how they are written; the names by their texts; of declared names the count of a constructor's arguments and the type of a constant;
-- the classes and arities; and the first number that is the name of no text.
pub record Vocabulary : Type 0 where
  pub class_written : List ℕ → Option ℕ
  pub constructor_written : List ℕ → Option ℕ
  pub constant_written : List ℕ → Option ℕ
  pub name_written : List ℕ → Option ℕ
  pub params : ℕ → Option ℕ
  pub typ_declared : ℕ → Option Typ
  pub algebra : Algebra
  pub fresh : ℕ

-- This is the vocabulary of the content, where names have these texts.
pub record IsVocabulary (texts : List (List ℕ)) (Q : Content) (V : Vocabulary) : Type 0 where
  pub classes_found : (written : List ℕ) → IsFoundName texts Q classes written (V.class_written written)
  pub constructors_found : (written : List ℕ) → IsFoundName texts Q constructors written (V.constructor_written written)
  pub constants_found : (written : List ℕ) → IsFoundName texts Q constants written (V.constant_written written)
  pub names_found : (text : List ℕ) → IsFound (name_texts texts) text (V.name_written text)
  pub params_declared : (k : ℕ) → IsParams Q.declarations k (V.params k)
  pub typs_declared : (c : ℕ) → MatchOption (V.typ_declared c) (IsUnknownConst Q.declarations c) (IsConstOf Q.declarations c)
  pub algebra_declared : V.algebra ≡ algebra_of Q.declarations
  pub fresh_first : V.fresh ≡ length (name_texts texts)
