-- The axiom of a definition is a statement, once its constant is declared.
use Rattle.std.proofs.Common.{◌≡◌, ℕ, List, [], ◌∷◌, ◌++◌, refl, ap, ◌∙◌, append_assoc, inl, inr}
use Rattle.pure_text.specs.Lists.{IsIn, AnyOf}
use Rattle.pure_text.proofs.ListLaws.{in_split, in-append_right}
use Rattle.pure_definitions.specs.Types.Typ.{Typ, TFree, TVar, Con, Typs, none, also}
use Rattle.pure_definitions.specs.Terms.Term.{Term, Const, Free, Var, Bound, Abs, App}
use Rattle.pure_definitions.specs.Terms.Subst.{typ_instance, typs_instance, inst_typ, retyped_variable}
use Rattle.pure_definitions.specs.Declarations.Decl.{Decl, ConstDecl, AxiomDecl, PromiseDecl, algebra_of}
use Rattle.pure_definitions.specs.Declarations.Certified.{IsCertifiedTyp}
use Rattle.pure_definitions.proofs.OrderLaws.{sort_below-itself}
use Rattle.pure_logic.specs.Connectives.{eq}
use Rattle.pure_logic.specs.Content.{Content, IsBelow, IsCertifiedOf, IsSchematicTyp, AreSchematicTyps, IsSchematic, IsStatement, AreNamedAlike, definition, schematic_typ_variable}
use Rattle.pure_logic.specs.PureContent.{pure_content}
use Rattle.pure_logic.specs.Concludes.{AreRespecting}
use Rattle.pure_logic.proofs.AboveLaws.{typ-above, certified_of-above}
use Rattle.pure_logic.proofs.ConnectiveLaws.{certified_of, itself-instance}
use Rattle.pure_logic.proofs.PropositionLaws.{typ-of_certified, eq-proposition}
use Rattle.pure_logic.proofs.SubstitutionLaws.{certified_of-instance}
use Rattle.pure_logic.proofs.WeakeningLaws.{typ_instance-certified}
use Rattle.pure_theory.specs.Stage.{IsSound, with_declarations, with_decl}
use Rattle.pure_theory_tables.specs.Facts.{Stated, fact_decl}
use Rattle.pure_theory.specs.declared.fault.DeclFault.{DeclFault}
use Rattle.pure_theory.specs.declared.fault.DeclFault.TheVariants.{Duplicate, UnknownClass, UnknownType, WrongCount, NotCoregular, NotClosed, ExtraType, Memory}
use Rattle.pure_theory.specs.Refusals.{HasNamesake, IsNameRefusal}
use Rattle.pure_theory.specs.Definitions.{HasVariable, AreNew, IsDefinitionRefusal}
use Rattle.pure_theory.proofs.NamesakeLaws.{new_const, new_axiom, old_const, old_axiom}
use Rattle.pure_theory.proofs.StageLaws.{below_grown}

mutual
  pub made_schematic : (T : Typ) → IsSchematicTyp (typ_instance schematic_typ_variable T)
  made_schematic (TFree x s) = tt
  made_schematic (TVar x i s) = tt
  made_schematic (Con k ts) = all_made_schematic ts

  all_made_schematic : (ts : Typs) → AreSchematicTyps (typs_instance schematic_typ_variable ts)
  all_made_schematic none = tt
  all_made_schematic (also t ts) = (made_schematic t, all_made_schematic ts)

term_made_schematic : (t : Term) → ¬ HasVariable t → IsSchematic (inst_typ schematic_typ_variable t)
term_made_schematic (Const c T) closed = made_schematic T
term_made_schematic (Free x T) closed = absurd (closed tt)
term_made_schematic (Var x i T) closed = absurd (closed tt)
term_made_schematic (Bound n) closed = tt
term_made_schematic (Abs T b) closed = (made_schematic T, term_made_schematic b closed)
term_made_schematic (App f a) closed = (term_made_schematic f (λ h. closed (inl h)), term_made_schematic a (λ h. closed (inr h)))

module _ (Q : Content) where
  schematic-certified : (T : Typ) → IsCertifiedTyp Q.declarations T → IsCertifiedTyp Q.declarations (typ_instance schematic_typ_variable T)
  schematic-certified = typ_instance-certified Q.declarations schematic_typ_variable (λ x s c. c) (λ x i s c. c)

  schematic-respects : AreRespecting Q schematic_typ_variable (retyped_variable schematic_typ_variable)
  schematic-respects = record {
    sorts = record {
      fixed = λ x s. sort_below-itself (algebra_of Q.declarations) s;
      schematic = λ x i s. sort_below-itself (algebra_of Q.declarations) s;
    };
    types = record { fixed = λ x T. refl; schematic = λ x i T. refl };
    certified = record {
      fixed_typ = λ x s c. c;
      schematic_typ = λ x i s c. c;
      fixed = λ x T c. schematic-certified T c;
      schematic = λ x i T c. schematic-certified T c;
    };
  }

module _ (Q : Content) (h : IsSound Q) (T : Typ) (body : Term) (is : IsCertifiedOf Q body T) where
  body_certified : IsCertifiedOf Q (inst_typ schematic_typ_variable body) (typ_instance schematic_typ_variable T)
  body_certified = certified_of-instance Q h.content schematic_typ_variable (retyped_variable schematic_typ_variable) (schematic-respects Q) body T is

  pub defined_typ-certified : IsCertifiedTyp Q.declarations (typ_instance schematic_typ_variable T)
  defined_typ-certified = typ-of_certified Q h.above_pure (inst_typ schematic_typ_variable body) (typ_instance schematic_typ_variable T) body_certified

  pub definition_is_statement : (c : ℕ) → ¬ HasVariable body
      → IsStatement (with_decl Q (ConstDecl c (typ_instance schematic_typ_variable T))) (eq (typ_instance schematic_typ_variable T) (Const c (typ_instance schematic_typ_variable T)) (inst_typ schematic_typ_variable body))
  definition_is_statement c closed =
      let U = typ_instance schematic_typ_variable T in
      let R = with_decl Q (ConstDecl c U) in
      let below : IsBelow Q R = below_grown Q (ConstDecl c U) in
      let above : IsBelow pure_content R = λ d m. below d (h.above_pure d m) in
      let typ : IsCertifiedTyp R.declarations U = typ-above Q.declarations R.declarations below U defined_typ-certified in
      let there : IsIn (ConstDecl c U) R.declarations = in-append_right (ConstDecl c U) Q.declarations (ConstDecl c U ∷ []) (inl refl) in
      let const : IsCertifiedOf R (Const c U) U = certified_of R (Const c U) U (typ, (U, there, itself-instance R U)) refl in
      let right : IsCertifiedOf R (inst_typ schematic_typ_variable body) U = certified_of-above Q R below (inst_typ schematic_typ_variable body) U body_certified in
      let s : IsSchematicTyp U = made_schematic T in
      record {
        proposition = eq-proposition R above U (Const c U) (inst_typ schematic_typ_variable body) const right;
        schematic = (((s, ((s, (tt, tt)), tt)), s), term_made_schematic body closed);
      }

-- The names that a definition takes are new.
pub definition_is_new : (ds : List Decl) (c f : ℕ) (T : Typ) (body : Term) → ((U : Typ) → ¬ IsIn (ConstDecl c U) ds) → ((s : Stated) → ¬ IsIn (fact_decl f s) ds) → AreNew ds (definition c f T body)
definition_is_new ds c f T body no_const no_fact = (new_const ds c (typ_instance schematic_typ_variable T) no_const, (new_axiom ds f (eq (typ_instance schematic_typ_variable T) (Const c (typ_instance schematic_typ_variable T)) (inst_typ schematic_typ_variable body)) no_fact, tt))

-- Refusals of a definition's two declarations are refusals of the definition.
pub const_refused : (ds : List Decl) (c f : ℕ) (T U : Typ) (body : Term) (fault : DeclFault) → U ≡ typ_instance schematic_typ_variable T → IsNameRefusal ds (ConstDecl c U) fault → IsDefinitionRefusal ds (definition c f T body) T body fault
const_refused ds c f T U body Duplicate e h = inl (rw e at h)
const_refused ds c f T U body Memory e h = tt
const_refused ds c f T U body (UnknownClass k) e h = absurd h
const_refused ds c f T U body (UnknownType k) e h = absurd h
const_refused ds c f T U body (WrongCount k) e h = absurd h
const_refused ds c f T U body (NotCoregular k l m) e h = absurd h
const_refused ds c f T U body NotClosed e h = absurd h
const_refused ds c f T U body ExtraType e h = absurd h

axiom_refused_before : (ds : List Decl) (c f : ℕ) (U : Typ) (A : Term) → HasNamesake (ds ++ ConstDecl c U ∷ []) (AxiomDecl f A) → HasNamesake ds (AxiomDecl f A)
axiom_refused_before ds c f U A (e, m, alike) = elim (in_split e ds (ConstDecl c U ∷ []) m) [
  | inl old ↦ (e, old, alike)
  | inr one ↦ elim one [ inl is ↦ absurd (rw is at alike) | inr n ↦ absurd n ]
]

axiom_alike : (f : ℕ) (A B : Term) (e : Decl) → AreNamedAlike (AxiomDecl f A) e → AreNamedAlike (AxiomDecl f B) e
axiom_alike f A B (AxiomDecl y C) h = h
axiom_alike f A B (PromiseDecl y m C) h = h
axiom_alike f A B _ h = absurd h

pub axiom_refused : (Q R : Content) (c f : ℕ) (T U : Typ) (body A B : Term) (fault : DeclFault) → R ≡ with_decl Q (ConstDecl c U) → A ≡ B → IsNameRefusal R.declarations (AxiomDecl f A) fault → IsDefinitionRefusal Q.declarations (definition c f T body) T body fault
axiom_refused Q R c f T U body A B Duplicate e same h =
    let before = axiom_refused_before Q.declarations c f U A (rw e at h) in
    inr (inl (before.0, before.1, axiom_alike f A (eq (typ_instance schematic_typ_variable T) (Const c (typ_instance schematic_typ_variable T)) (inst_typ schematic_typ_variable body)) before.0 before.2))
axiom_refused Q R c f T U body A B Memory e same h = tt
axiom_refused Q R c f T U body A B (UnknownClass k) e same h = absurd h
axiom_refused Q R c f T U body A B (UnknownType k) e same h = absurd h
axiom_refused Q R c f T U body A B (WrongCount k) e same h = absurd h
axiom_refused Q R c f T U body A B (NotCoregular k l m) e same h = absurd h
axiom_refused Q R c f T U body A B NotClosed e same h = absurd h
axiom_refused Q R c f T U body A B ExtraType e same h = absurd h

-- A name that is taken is one of the definition's.
pub const_taken : (ds : List Decl) (c f : ℕ) (T U : Typ) (body : Term) → IsIn (ConstDecl c U) ds → AnyOf (HasNamesake ds) (definition c f T body)
const_taken ds c f T U body i = inl (old_const ds c (typ_instance schematic_typ_variable T) U i)

pub fact_taken : (ds : List Decl) (c f : ℕ) (T : Typ) (body : Term) (s : Stated) → IsIn (fact_decl f s) ds → AnyOf (HasNamesake ds) (definition c f T body)
fact_taken ds c f T body s i = inr (inl (old_axiom ds f (eq (typ_instance schematic_typ_variable T) (Const c (typ_instance schematic_typ_variable T)) (inst_typ schematic_typ_variable body)) s i))

-- What both declarations together make.
pub defined : (Q R S : Content) (c f : ℕ) (T U : Typ) (body A : Term) → U ≡ typ_instance schematic_typ_variable T → R ≡ with_decl Q (ConstDecl c U) → A ≡ eq U (Const c U) (inst_typ schematic_typ_variable body) → S ≡ with_decl R (AxiomDecl f A)
    → S ≡ with_declarations Q (Q.declarations ++ definition c f T body)
defined Q R S c f T U body A u r a s =
    s
    ∙ ap (λ B. with_decl R (AxiomDecl f B)) a
    ∙ ap (λ P. with_decl P (AxiomDecl f (eq U (Const c U) (inst_typ schematic_typ_variable body)))) r
    ∙ ap (λ V. with_decl (with_decl Q (ConstDecl c V)) (AxiomDecl f (eq V (Const c V) (inst_typ schematic_typ_variable body)))) u
    ∙ ap (λ ds. with_declarations Q ds) (append_assoc Q.declarations (ConstDecl c (typ_instance schematic_typ_variable T) ∷ []) (AxiomDecl f (eq (typ_instance schematic_typ_variable T) (Const c (typ_instance schematic_typ_variable T)) (inst_typ schematic_typ_variable body)) ∷ []))
