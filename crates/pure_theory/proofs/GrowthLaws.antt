-- Each kind of declaration makes a stage of a stage.
use Rattle.std.proofs.Common.{◌≡◌, ℕ, List, [], ◌∷◌, ◌++◌, refl, sym, ◌∙◌, ap, subst}
use Rattle.std.specs.List.Sorted.{IsStrictlyIncreasing}
use Rattle.pure_text.specs.Lists.{IsIn, Each}
use Rattle.pure_text.proofs.ListLaws.{each_imply, any_of}
use Rattle.pure_definitions.specs.Names.{Label}
use Rattle.pure_definitions.specs.Types.Typ.{Typ}
use Rattle.pure_definitions.specs.Types.Order.{Class, Arity, Algebra, IsCoregular}
use Rattle.pure_definitions.specs.Terms.Term.{Term}
use Rattle.pure_definitions.specs.Declarations.Decl.{Decl, ClassDecl, ConDecl, ArityDecl, ConstDecl, AxiomDecl, PromiseDecl, classes_of, arities_of, algebra_of, IsDeclaredClass}
use Rattle.pure_definitions.specs.Declarations.Certified.{IsCertifiedSort, IsCertifiedTyp}
use Rattle.pure_term_laws.proofs.DeclLaws.{declared_arities}
use Rattle.pure_order.specs.OrderTables.Classes.{IsDeclared}
use Rattle.pure_order.specs.OrderTables.Arities.{IsKnown, with_class, with_arity}
use Rattle.pure_order.specs.OrderTables.Unknown.{HasArityFor}
use Rattle.pure_logic.specs.Content.{Content, IsSchematicTyp, IsStatement, IsWellFormed, AreNamedAlike, AreLabelledAlike}
use Rattle.pure_certify.proofs.PartLemmas.{declared_class}
use Rattle.pure_theory_tables.specs.Facts.{Stated, fact_decl}
use Rattle.pure_theory.specs.Stage.{IsCertifiedDecl, IsSound, IsStage, with_decl}
use Rattle.pure_theory.specs.Refusals.{HasNamesake, HasCon, IsLabelAbove}
use Rattle.pure_theory.proofs.NamesakeLaws.{new_typ, new_const, new_axiom, new_promise, new_class, new_label}
use Rattle.pure_theory_tables.proofs.AlgebraLaws.{IsPlain, plain_algebra, class_algebra, arity_algebra}
use Rattle.pure_theory.proofs.StageLaws.{sound_grown}

-- An arity has no name.
no_arity_named : (a : Arity) (e : Decl) → ¬ AreNamedAlike (ArityDecl a) e
no_arity_named a (ClassDecl k) r = absurd r
no_arity_named a _ r = absurd r

certified_domains : (ds : List Decl) (ss : List (List ℕ)) → Each IsStrictlyIncreasing ss → Each (Each (IsDeclared (classes_of ds))) ss → Each (IsCertifiedSort ds) ss
certified_domains ds [] up known = tt
certified_domains ds (s ∷ ss) up known = ((up.0, each_imply (IsDeclared (classes_of ds)) (IsDeclaredClass ds) s (declared_class ds) known.0), certified_domains ds ss up.1 known.1)

module _ (Q : Content) (A : Algebra) (h : IsStage Q A) where
  -- a declaration that is neither a class nor an arity
  plain_stage : (d : Decl) → IsPlain d → AreNamedAlike d d → ¬ HasNamesake Q.declarations d → ((e : Decl) → IsIn e Q.declarations → ¬ AreLabelledAlike d e) → IsWellFormed Q d → IsCertifiedDecl Q.declarations d → IsStage (with_decl Q d) A
  plain_stage d plain alike named labelled well certified = record {
    sound = sound_grown Q d h.sound (λ m. named (d, m, alike)) named labelled well (subst IsCoregular (sym (plain_algebra Q.declarations d plain)) h.sound.content.coregular) certified;
    order = h.order ∙ sym (plain_algebra Q.declarations d plain);
  }

  pub typ_stage : (k n : ℕ) → ((m : ℕ) → ¬ IsIn (ConDecl k m) Q.declarations) → IsStage (with_decl Q (ConDecl k n)) A
  typ_stage k n none = plain_stage (ConDecl k n) tt refl (new_typ Q.declarations k n none) (λ e m r. absurd r) tt tt

  pub const_stage : (c : ℕ) (T : Typ) → ((U : Typ) → ¬ IsIn (ConstDecl c U) Q.declarations) → IsCertifiedTyp Q.declarations T → IsSchematicTyp T → IsStage (with_decl Q (ConstDecl c T)) A
  const_stage c T none certified schematic = plain_stage (ConstDecl c T) tt refl (new_const Q.declarations c T none) (λ e m r. absurd r) schematic certified

  pub axiom_stage : (x : ℕ) (P : Term) → ((s : Stated) → ¬ IsIn (fact_decl x s) Q.declarations) → IsStatement Q P → IsStage (with_decl Q (AxiomDecl x P)) A
  axiom_stage x P none is = plain_stage (AxiomDecl x P) tt refl (new_axiom Q.declarations x P none) (λ e m r. absurd r) is tt

  pub promise_stage : (x : ℕ) (l : Label) (P : Term) → ((s : Stated) → ¬ IsIn (fact_decl x s) Q.declarations) → IsLabelAbove Q.declarations l → IsStatement Q P → IsStage (with_decl Q (PromiseDecl x l P)) A
  promise_stage x l P none above is = plain_stage (PromiseDecl x l P) tt refl (new_promise Q.declarations x l P none) (new_label Q.declarations x l P above) is tt

-- A class or an arity makes a stage with the order that has it too.
module _ (Q : Content) (h : IsSound Q) (C B : Algebra) (same : C ≡ algebra_of Q.declarations) (coregular : IsCoregular B) where
  pub class_stage : (k : Class) → ¬ IsDeclaredClass Q.declarations k.name → Each (IsDeclared C.classes) k.above → B ≡ with_class C k → IsStage (with_decl Q (ClassDecl k)) B
  class_stage k undeclared known is = record {
    sound = sound_grown Q (ClassDecl k) h (λ m. fresh (ClassDecl k, m, refl)) fresh (λ e m r. absurd r) tt (subst IsCoregular more coregular) certified;
    order = more;
  }
    where
      more : B ≡ algebra_of (Q.declarations ++ ClassDecl k ∷ [])
      more = is ∙ ap (λ A. with_class A k) same ∙ sym (class_algebra Q.declarations k)

      fresh : ¬ HasNamesake Q.declarations (ClassDecl k)
      fresh = new_class Q.declarations k (λ d. undeclared (declared_class Q.declarations k.name d))

      there : Each (IsDeclared (classes_of Q.declarations)) k.above
      there = subst (λ (A : Algebra). Each (IsDeclared A.classes) k.above) same known

      certified : Each (IsDeclaredClass Q.declarations) k.above
      certified = each_imply (IsDeclared (classes_of Q.declarations)) (IsDeclaredClass Q.declarations) k.above (declared_class Q.declarations) there

  pub arity_stage : (a : Arity) → HasCon Q.declarations a → IsKnown C.classes a → ¬ HasArityFor C a.con a.class → Each IsStrictlyIncreasing a.domains → B ≡ with_arity C a → IsStage (with_decl Q (ArityDecl a)) B
  arity_stage a con known absent ascend is = record {
    sound = sound_grown Q (ArityDecl a) h (λ m. fresh m) (λ e. no_arity_named a e.0 e.2) (λ e m r. absurd r) tt (subst IsCoregular more coregular) (record {
      con = con;
      domains = certified_domains Q.declarations a.domains ascend there.domains;
      class = declared_class Q.declarations a.class there.class;
    });
    order = more;
  }
    where
      more : B ≡ algebra_of (Q.declarations ++ ArityDecl a ∷ [])
      more = is ∙ ap (λ A. with_arity A a) same ∙ sym (arity_algebra Q.declarations a)

      there : IsKnown (classes_of Q.declarations) a
      there = subst (λ (A : Algebra). IsKnown A.classes a) same known

      none : ¬ HasArityFor (algebra_of Q.declarations) a.con a.class
      none = subst (λ (A : Algebra). ¬ HasArityFor A a.con a.class) same absent

      fresh : ¬ IsIn (ArityDecl a) Q.declarations
      fresh m = none (any_of (λ b. (b.con ≡ a.con) × (b.class ≡ a.class)) a (arities_of Q.declarations) ((declared_arities Q.declarations a).1 m) (refl, refl))
