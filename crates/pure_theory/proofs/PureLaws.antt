-- Pure's own content is sound, and its parts have their names once.
use Rattle.std.proofs.Common.{◌≡◌, ℕ, List, [], ◌∷◌, ◌++◌, refl, arith}
use Rattle.std.specs.Prelude.{None}
use Rattle.pure_text.specs.Lists.{IsIn}
use Rattle.pure_definitions.specs.Names.{fun_name, prop_name, all_name, imp_name, eq_name, protect_name}
use Rattle.pure_definitions.specs.Types.Typ.{Typ, arrow, prop}
use Rattle.pure_definitions.specs.Types.Order.{Algebra}
use Rattle.pure_definitions.specs.Declarations.Decl.{Decl, ConDecl, ConstDecl, AxiomDecl, algebra_of}
use Rattle.pure_definitions.specs.Declarations.Certified.{IsCertifiedTyp}
use Rattle.pure_logic.specs.Content.{TheoryId, Content}
use Rattle.pure_logic.specs.Connectives.{all_typ, imp_typ, eq_typ, protect_typ}
use Rattle.pure_logic.specs.PureContent.{pure_content, pure_declarations, any_typ, protect_axiom}
use Rattle.pure_logic.proofs.ConnectiveLaws.{pure-below_itself, arrow-certified, prop-certified}
use Rattle.pure_logic.proofs.ContentLaws.{pure_is_content}
use Rattle.pure_logic.proofs.AncestorLaws.{pure_has_theories_apart}
use Rattle.pure_theory_tables.specs.Facts.{Stated, fact_decl}
use Rattle.pure_theory.specs.PureParts.{pure_typs, pure_to_all, pure_to_imp, pure_to_eq, pure_to_protect}
use Rattle.pure_theory.specs.Stage.{IsSound, IsStage}
use Rattle.pure_theory.proofs.NamesakeLaws.{named_apart, typ_fresh, const_fresh, fact_fresh}

any-certified : IsCertifiedTyp pure_declarations any_typ
any-certified = (λ k short. absurd (omega (arith, short)), tt)

pub pure_is_sound : IsSound pure_content
pure_is_sound = record {
  content = pure_is_content;
  above_pure = pure-below_itself;
  apart = pure_has_theories_apart;
  certified = (tt, (tt, (all_certified, (imp_certified, (eq_certified, (protect_certified, (tt, tt)))))));
  distinct = named_apart pure_declarations refl (refl, (refl, (refl, (refl, (refl, (refl, (refl, tt)))))));
}
  where
    typ : IsCertifiedTyp pure_declarations prop
    typ = prop-certified pure_content pure-below_itself

    all_certified : IsCertifiedTyp pure_declarations (arrow (arrow any_typ prop) prop)
    all_certified = arrow-certified pure_content pure-below_itself (arrow any_typ prop) prop (arrow-certified pure_content pure-below_itself any_typ prop any-certified typ) typ

    imp_certified : IsCertifiedTyp pure_declarations (arrow prop (arrow prop prop))
    imp_certified = arrow-certified pure_content pure-below_itself prop (arrow prop prop) typ (arrow-certified pure_content pure-below_itself prop prop typ typ)

    eq_certified : IsCertifiedTyp pure_declarations (arrow any_typ (arrow any_typ prop))
    eq_certified = arrow-certified pure_content pure-below_itself any_typ (arrow any_typ prop) any-certified (arrow-certified pure_content pure-below_itself any_typ prop any-certified typ)

    protect_certified : IsCertifiedTyp pure_declarations (arrow prop prop)
    protect_certified = arrow-certified pure_content pure-below_itself prop prop typ typ

pub pure_stage : IsStage pure_content (algebra_of pure_declarations)
pure_stage = record { sound = pure_is_sound; order = refl }

-- Parts that are Pure's make its stage.
pub pure_made : (ds : List Decl) (ancestors : List TheoryId) → ds ≡ pure_declarations → ancestors ≡ [] → ◌≡◌ {A = Content} (record { declarations = ds; own = None; ancestors = ancestors }) pure_content
pure_made ds ancestors p q = λ i. record { declarations = p i; own = None; ancestors = q i }

pub pure_parts : (ds : List Decl) (ancestors : List TheoryId) (A : Algebra) → ds ≡ pure_declarations → ancestors ≡ [] → A ≡ record { classes = []; arities = [] } → IsStage (record { declarations = ds; own = None; ancestors = ancestors }) A
pure_parts ds ancestors A p q r = rw (p, q, r) pure_stage

-- No part has the name of the next declaration yet.
pub prop_fresh : (n : ℕ) → ¬ IsIn (ConDecl prop_name n) (ConDecl fun_name 2 ∷ [])
prop_fresh = typ_fresh (ConDecl fun_name 2 ∷ []) prop_name refl

pub all_fresh : (T : Typ) → ¬ IsIn (ConstDecl all_name T) pure_typs
unfolding pure_typs
all_fresh = const_fresh pure_typs all_name refl

pub imp_fresh : (T : Typ) → ¬ IsIn (ConstDecl imp_name T) pure_to_all
unfolding pure_typs pure_to_all
imp_fresh = const_fresh pure_to_all imp_name refl

pub eq_fresh : (T : Typ) → ¬ IsIn (ConstDecl eq_name T) pure_to_imp
unfolding pure_typs pure_to_all pure_to_imp
eq_fresh = const_fresh pure_to_imp eq_name refl

pub protect_fresh : (T : Typ) → ¬ IsIn (ConstDecl protect_name T) pure_to_eq
unfolding pure_typs pure_to_all pure_to_imp pure_to_eq
protect_fresh = const_fresh pure_to_eq protect_name refl

pub axiom_fresh : (s : Stated) → ¬ IsIn (fact_decl protect_name s) pure_to_protect
unfolding pure_typs pure_to_all pure_to_imp pure_to_eq pure_to_protect
axiom_fresh = fact_fresh pure_to_protect protect_name refl

-- Each part is the one before it and a declaration.
pub typs_made : ConDecl fun_name 2 ∷ ConDecl prop_name 0 ∷ [] ≡ pure_typs
unfolding pure_typs
typs_made = refl

pub all_made : pure_typs ++ ConstDecl all_name (all_typ any_typ) ∷ [] ≡ pure_to_all
unfolding pure_typs pure_to_all
all_made = refl

pub imp_made : pure_to_all ++ ConstDecl imp_name imp_typ ∷ [] ≡ pure_to_imp
unfolding pure_typs pure_to_all pure_to_imp
imp_made = refl

pub eq_made : pure_to_imp ++ ConstDecl eq_name (eq_typ any_typ) ∷ [] ≡ pure_to_eq
unfolding pure_typs pure_to_all pure_to_imp pure_to_eq
eq_made = refl

pub protect_made : pure_to_eq ++ ConstDecl protect_name protect_typ ∷ [] ≡ pure_to_protect
unfolding pure_typs pure_to_all pure_to_imp pure_to_eq pure_to_protect
protect_made = refl

pub axiom_made : pure_to_protect ++ AxiomDecl protect_name protect_axiom ∷ [] ≡ pure_declarations
unfolding pure_typs pure_to_all pure_to_imp pure_to_eq pure_to_protect
axiom_made = refl
