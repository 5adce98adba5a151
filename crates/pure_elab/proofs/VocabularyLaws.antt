-- The vocabulary of a content above Pure's is sound.
use Rattle.std.proofs.Common.{◌≡◌, ℕ, List, Option, Some, None, MatchOption, inl, inr, refl, subst}
use Rattle.pure_text.specs.Lists.{IsIn}
use Rattle.pure_definitions.specs.Names.{fun_name, prop_name}
use Rattle.pure_definitions.specs.Types.Typ.{Typ}
use Rattle.pure_definitions.specs.Declarations.Decl.{Decl, ConDecl, ConstDecl}
use Rattle.pure_definitions.specs.Declarations.Certified.{IsCertifiedTyp}
use Rattle.pure_lookup.specs.Meaning.{classes, constants}
use Rattle.pure_lookup.specs.LookUps.{IsFoundName}
use Rattle.pure_lookup.proofs.MeaningLaws.{found_is_declared}
use Rattle.pure_certify.specs.Tables.{IsParams, IsUnknownConst, IsConstOf}
use Rattle.pure_tunify.proofs.ClosedLaws.{declared_closed}
use Rattle.pure_elab.specs.Sound.{AreCertifiedDeclarations}
use Rattle.pure_elab.specs.Laws.{VocabularyIsSound}

params_are : (ds : List Decl) (k n : ℕ) (o : Option ℕ) → o ≡ Some n → IsParams ds k o → IsIn (ConDecl k n) ds
params_are ds k n o e h = let at : IsParams ds k (Some n) = subst (λ (p : Option ℕ). IsParams ds k p) e h in (at n).1 refl

const_found : (ds : List Decl) (c : ℕ) (U : Typ) (o : Option Typ) → AreCertifiedDeclarations ds → IsIn (ConstDecl c U) ds → MatchOption o (IsUnknownConst ds c) (IsConstOf ds c) → (T : Typ) × (o ≡ Some T) × IsIn (ConstDecl c T) ds × IsCertifiedTyp ds T
const_found ds c U None certified m h = absurd (h U m)
const_found ds c U (Some T) certified m h = let declared = (h T).1 refl in (T, refl, declared, certified.constants c T declared)

pub vocabulary_is_sound : VocabularyIsSound
vocabulary_is_sound texts Q V is below certified = record {
  classes = λ w c e. found_is_declared texts Q classes w c (subst (λ (o : Option ℕ). IsFoundName texts Q classes w o) e (is.classes_found w));
  constructors = λ k n e. params_are Q.declarations k n (V.params k) e (is.params_declared k);
  constants = λ w c e. let known = found_is_declared texts Q constants w c (subst (λ (o : Option ℕ). IsFoundName texts Q constants w o) e (is.constants_found w)) in const_found Q.declarations c known.0 (V.typ_declared c) certified known.1 (is.typs_declared c);
  functions = below (ConDecl fun_name 2) (inl refl);
  propositions = below (ConDecl prop_name 0) (inr (inl refl));
  order = is.algebra_declared;
  closed = declared_closed Q.declarations (record { inclusions = certified.inclusions; classes = certified.classes; domains = certified.domains });
}
