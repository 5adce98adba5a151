-- The look-ups of a theory are those of its vocabulary.
use Rattle.std.proofs.Common.{◌≡◌, ℕ, List, Option, Some, None, MatchOption, refl}
use Rattle.std.specs.Prelude.{option_map}
use Rattle.pure_definitions.specs.Types.Typ.{Typ}
use Rattle.pure_definitions.specs.Declarations.Decl.{Decl}
use Rattle.pure_typ.specs.NameTexts.{name_texts, AreSessionTexts, IsFound}
use Rattle.pure_logic.specs.Content.{Content, IsContent}
use Rattle.pure_lookup.specs.Meaning.{classes, constructors, constants}
use Rattle.pure_lookup.specs.LookUps.{IsFoundName}
use Rattle.pure_lookup.specs.Laws.{IsInSession}
use Rattle.pure_lookup.proofs.TextLemmas.{one_name}
use Rattle.pure_lookup.proofs.MeaningLaws.{one_found}
use Rattle.pure_certify.specs.Tables.{IsParams, IsUnknownConst, IsConstOf}
use Rattle.pure_elab.specs.Vocabulary.{IsVocabulary}
use Rattle.pure_elab.specs.Found.{vocabulary_of}
use Rattle.pure_elab.proofs.FoundLaws.{content_has_vocabulary}

one_text : (texts : List (List ℕ)) → AreSessionTexts texts → (text : List ℕ) (a b : Option ℕ) → IsFound (name_texts texts) text a → IsFound (name_texts texts) text b → a ≡ b
one_text texts s text None None h k = refl
one_text texts s text None (Some n) h k = absurd (h n k)
one_text texts s text (Some m) None h k = absurd (k m h)
one_text texts s text (Some m) (Some n) h k = let same = one_name texts s text m n h k in cc

one_params : (ds : List Decl) (k : ℕ) (a b : Option ℕ) → IsParams ds k a → IsParams ds k b → a ≡ b
one_params ds k None None h g = refl
one_params ds k None (Some n) h g = absurd (h n ((g n).1 refl))
one_params ds k (Some m) None h g = absurd (g m ((h m).1 refl))
one_params ds k (Some m) (Some n) h g = let same : m ≡ n = (g m).0 ((h m).1 refl) in cc

module _ {R : Type 0} (seen : R → Typ) (ds : List Decl) (c : ℕ) where
  one_const : (o : Option R) (p : Option Typ) → MatchOption o (IsUnknownConst ds c) (λ t. IsConstOf ds c (seen t)) → MatchOption p (IsUnknownConst ds c) (IsConstOf ds c) → option_map seen o ≡ p
  one_const None None h g = refl
  one_const None (Some U) h g = absurd (h U ((g U).1 refl))
  one_const (Some t) None h g = absurd (g (seen t) ((h (seen t)).1 refl))
  one_const (Some t) (Some U) h g = let same : seen t ≡ U = (g (seen t)).0 ((h (seen t)).1 refl) in cc

module _ (texts : List (List ℕ)) (Q : Content) (s : IsInSession texts Q) (content : IsContent Q) where
  has : IsVocabulary texts Q (vocabulary_of texts Q)
  has = content_has_vocabulary texts Q s content

  pub class-found : (written : List ℕ) (r : Option ℕ) → IsFoundName texts Q classes written r → r ≡ (vocabulary_of texts Q).class_written written
  class-found written r h = one_found texts Q s classes written r ((vocabulary_of texts Q).class_written written) h (has.classes_found written)

  pub typ-found : (written : List ℕ) (r : Option ℕ) → IsFoundName texts Q constructors written r → r ≡ (vocabulary_of texts Q).constructor_written written
  typ-found written r h = one_found texts Q s constructors written r ((vocabulary_of texts Q).constructor_written written) h (has.constructors_found written)

  pub const-found : (written : List ℕ) (r : Option ℕ) → IsFoundName texts Q constants written r → r ≡ (vocabulary_of texts Q).constant_written written
  const-found written r h = one_found texts Q s constants written r ((vocabulary_of texts Q).constant_written written) h (has.constants_found written)

  pub name-found : (text : List ℕ) (r : Option ℕ) → IsFound (name_texts texts) text r → r ≡ (vocabulary_of texts Q).name_written text
  name-found text r h = one_text texts s.names text r ((vocabulary_of texts Q).name_written text) h (has.names_found text)

  pub params-found : (k : ℕ) (r : Option ℕ) → IsParams Q.declarations k r → r ≡ (vocabulary_of texts Q).params k
  params-found k r h = one_params Q.declarations k r ((vocabulary_of texts Q).params k) h (has.params_declared k)

  pub typ-declared : {R : Type 0} (seen : R → Typ) (c : ℕ) (r : Option R) → MatchOption r (IsUnknownConst Q.declarations c) (λ t. IsConstOf Q.declarations c (seen t)) → option_map seen r ≡ (vocabulary_of texts Q).typ_declared c
  typ-declared seen c r h = one_const seen Q.declarations c r ((vocabulary_of texts Q).typ_declared c) h (has.typs_declared c)
