-- Each node of a tree over Pure's content keeps truth.
use Rattle.std.proofs.Common.{◌≡◌, ℕ, Bool, true, false, not, ◌||◌, List, [], ◌∷◌, inl, inr, refl, ap, sym, subst, ◌∙◌}
use Rattle.pure_text.specs.Lists.{IsIn, Each, AreDistinct}
use Rattle.pure_text.proofs.ListLaws.{each-left, each-right}
use Rattle.pure_definitions.specs.Names.{eq_name}
use Rattle.pure_definitions.specs.Types.Typ.{Typ, arrow, prop}
use Rattle.pure_definitions.specs.Terms.Term.{Term, Const, Free, Var, Bound, Abs, App}
use Rattle.pure_definitions.specs.Terms.Typing.{HasType}
use Rattle.pure_definitions.specs.Terms.Bounds.{subst_bound, bind_under}
use Rattle.pure_definitions.specs.Terms.Conditions.{IsVariable, variable_typ}
use Rattle.pure_definitions.specs.Terms.Subst.{term_instance}
use Rattle.pure_definitions.specs.Declarations.Decl.{AxiomDecl, PromiseDecl}
use Rattle.pure_definitions.specs.Names.{Label}
use Rattle.pure_definitions.proofs.BindLemmas.{abstract_over-variable}
use Rattle.pure_logic.specs.Connectives.{all_of, all, imp, eq, protect, eq_typ}
use Rattle.pure_logic.specs.Content.{IsProposition}
use Rattle.pure_logic.specs.PureContent.{pure_content, pure_declarations, protect_axiom, proposition_variable}
use Rattle.pure_logic.specs.Tree.{Tree, Axiom, Promise, Assume, AllIntro, AllElim, ImpliesIntro, ImpliesElim, Beta, Refl, Subst, Ext, Iff, hyps_of}
use Rattle.pure_logic.specs.Concludes.{Concludes, IsFresh}
use Rattle.pure_logic.proofs.ContentLaws.{pure_is_content}
use Rattle.pure_logic.proofs.DischargeLaws.{restored}
use Rattle.pure_logic.proofs.PropositionLaws.{body-typed, premise-proposition, conclusion_is_proposition}
use Rattle.pure_consistency.specs.Values.{Value, Truth, Function, value_eq, value_at, applied}
use Rattle.pure_consistency.specs.Model.{domain, meaning, constant_value, AreValues, IsTrueUnder, revalued}
use Rattle.pure_consistency.proofs.ValueLaws.{value_eq-same, value_eq-itself, at-table}
use Rattle.pure_consistency.proofs.TableLaws.{value-in, tables-agree}
use Rattle.pure_consistency.proofs.DomainLaws.{function-in, domain-distinct}
use Rattle.pure_consistency.proofs.MeaningLaws.{meaning-closed, meaning-subst, meaning-bind, meaning-fresh, values-revalued}
use Rattle.pure_consistency.proofs.ConnectiveLaws.{truth-once, eq-at, equal-at, meaning-imp, meaning-protect, value-of, truth-under, body-truth, all-true, true-all}

only_axiom : (name : ℕ) (A : Term) → IsIn (AxiomDecl name A) pure_declarations → A ≡ protect_axiom
only_axiom name A (inl e) = absurd (cc)
only_axiom name A (inr (inl e)) = absurd (cc)
only_axiom name A (inr (inr (inl e))) = absurd (cc)
only_axiom name A (inr (inr (inr (inl e)))) = absurd (cc)
only_axiom name A (inr (inr (inr (inr (inl e))))) = absurd (cc)
only_axiom name A (inr (inr (inr (inr (inr (inl e)))))) = absurd (cc)
only_axiom name A (inr (inr (inr (inr (inr (inr (inl e))))))) = cc
only_axiom name A (inr (inr (inr (inr (inr (inr (inr absent))))))) = absurd absent

no_promise : (name : ℕ) (label : Label) (A : Term) → ¬ IsIn (PromiseDecl name label A) pure_declarations
no_promise name label A (inl e) = cc
no_promise name label A (inr (inl e)) = cc
no_promise name label A (inr (inr (inl e))) = cc
no_promise name label A (inr (inr (inr (inl e)))) = cc
no_promise name label A (inr (inr (inr (inr (inl e))))) = cc
no_promise name label A (inr (inr (inr (inr (inr (inl e)))))) = cc
no_promise name label A (inr (inr (inr (inr (inr (inr (inl e))))))) = cc
no_promise name label A (inr (inr (inr (inr (inr (inr (inr absent))))))) = absent

proposition : (d : Tree) (C : Term) → Concludes pure_content d C → IsProposition pure_content C
proposition d C h = (conclusion_is_proposition pure_content pure_is_content (λ e m. m) d C h).0

written : (x : Term) (T : Typ) → IsVariable x → HasType [] x T → variable_typ x ≡ T
written (Free y U) T is h = h
written (Var y i U) T is h = h
written (Const c U) T is h = absurd is
written (Bound p) T is h = absurd is
written (Abs U b) T is h = absurd is
written (App f a) T is h = absurd is

implication : (a b : Bool) → (a ≡ true → b ≡ true) → (not a || b) ≡ true
implication true b h = h refl
implication false b h = refl

equivalence : (a b : Bool) → (not (not a || b) || (not (not b || a) || value_eq (Truth a) (Truth b))) ≡ true
equivalence true true = refl
equivalence true false = refl
equivalence false true = refl
equivalence false false = refl

module _ (points : List Value) (some : (v : Value) × IsIn v points) (once : AreDistinct points) where
  stay-true : (x : Term) (v : Value) (variables : Term → Value) (hyps : List Term) → IsFresh x hyps → Each (IsTrueUnder points variables) hyps → Each (IsTrueUnder points (revalued x v variables)) hyps
  stay-true x v variables [] fresh h = tt
  stay-true x v variables (A ∷ As) fresh h = (meaning-fresh points variables x v [] A fresh.0 ∙ h.0, stay-true x v variables As fresh.1 h.1)

  equation-true : (variables : Term → Value) → AreValues points variables → (T : Typ) (t u : Term) → HasType [] t T → meaning points variables [] t ≡ meaning points variables [] u → IsTrueUnder points variables (eq T t u)
  equation-true variables are T t u h same = equal-at points T (meaning points variables [] t) (meaning points variables [] u) (value-of points some variables are t T h) same

  beta-true : (variables : Term → Value) → AreValues points variables → (T U : Typ) (b a : Term) → HasType [] (App (Abs T b) a) U → meaning points variables [] (App (Abs T b) a) ≡ meaning points variables [] (subst_bound b a)
  beta-true variables are T U b a h =
      let function : arrow T h.1.0 ≡ arrow h.0 U = h.1.2 in
      let same : h.0 ≡ T = cc in
      at-table (domain points T) (λ v. meaning points variables (v ∷ []) b) (meaning points variables [] a) (value-of points some variables are a T (rw same at h.2))
      ∙ sym (meaning-subst points variables a b T (rw same at h.2))

  -- functions with the same value at each argument
  functions-agree : (variables : Term → Value) → AreValues points variables → (T U : Typ) (f g : Term) → HasType [] f (arrow T U) → HasType [] g (arrow T U)
      → ((v : Value) → IsIn v (domain points T) → meaning points variables (v ∷ []) (eq U (App f (Bound 0)) (App g (Bound 0))) ≡ Truth true) → meaning points variables [] f ≡ meaning points variables [] g
  functions-agree variables are T U f g h k agree =
      let p = function-in points T U (meaning points variables [] f) (value-of points some variables are f (arrow T U) h) in
      let q = function-in points T U (meaning points variables [] g) (value-of points some variables are g (arrow T U) k) in
      let rows : p.0 ≡ q.0 = tables-agree (domain points T) (domain points U) p.0 q.0 (domain-distinct points once T) p.1 q.1 (λ v m.
      let left : meaning points variables (v ∷ []) f ≡ Function p.0 = meaning-closed points variables (v ∷ []) f (arrow T U) h ∙ p.2 in
      let right : meaning points variables (v ∷ []) g ≡ Function q.0 = meaning-closed points variables (v ∷ []) g (arrow T U) k ∙ q.2 in
      let whole : applied (applied (constant_value points eq_name (eq_typ U)) (value_at p.0 v)) (value_at q.0 v) ≡ Truth true =
      sym (λ l. applied (applied (constant_value points eq_name (eq_typ U)) (applied (left l) v)) (applied (right l) v)) ∙ agree v m in
      let test = eq-at points U (value_at p.0 v) (value_at q.0 v) (value-in (domain points T) (domain points U) p.0 p.1 v m) (value-in (domain points T) (domain points U) q.0 q.1 v m) in
      value_eq-same (value_at p.0 v) (value_at q.0 v) (truth-once _ true (sym test ∙ whole))) in
      p.2 ∙ (ap Function rows ∙ sym q.2)

  -- What a tree concludes is true wherever its hypotheses are.
  pub keeps-truth : (d : Tree) (C : Term) → Concludes pure_content d C → (variables : Term → Value) → AreValues points variables → Each (IsTrueUnder points variables) (hyps_of d) → IsTrueUnder points variables C
  keeps-truth (Axiom name typs terms) C h variables are hyps =
      let u = terms (proposition_variable 0) in
      let typed : HasType [] u prop = h.2.types.schematic 0 0 prop in
      let worth = truth-under points some variables are u typed in
      let mark = meaning-protect points variables u worth.0 worth.1 in
      let instance : C ≡ eq prop (protect u) u = h.3 ∙ ap (term_instance typs terms) (only_axiom name h.0 h.1) in
      rw instance (equal-at points prop (meaning points variables [] (protect u)) (meaning points variables [] u)
      (subst (λ v. IsIn v (domain points prop)) (worth.1 ∙ sym mark) (value-of points some variables are u prop typed)) (mark ∙ sym worth.1))
  keeps-truth (Promise label typs terms) C h variables are hyps = absurd (no_promise h.0 label h.1 h.2)
  keeps-truth (Assume A) C h variables are hyps = rw h.1 hyps.0
  keeps-truth (AllIntro x d) C h variables are hyps =
      let typ = written x h.0 h.3 h.4.typed in
      let whole : C ≡ all h.0 (bind_under 0 x h.1) = h.6 ∙ ap (all_of h.0) (abstract_over-variable h.1 x h.3 ∙ ap (λ U. Abs U (bind_under 0 x h.1)) typ) in
      let typed : HasType [] (all h.0 (bind_under 0 x h.1)) prop = subst (λ D. HasType [] D prop) whole (proposition (AllIntro x d) C h).typed in
      rw whole (true-all points some variables are h.0 (bind_under 0 x h.1) (body-typed h.0 (bind_under 0 x h.1) typed) (λ v m.
      meaning-bind points variables [] [] 0 refl x v h.1
      ∙ keeps-truth d h.1 h.2 (revalued x v variables) (values-revalued points variables x v are (subst (λ U. IsIn v (domain points U)) (sym typ) m))
      (stay-true x v variables (hyps_of d) h.5 hyps)))
  keeps-truth (AllElim t d) C h variables are hyps =
      rw h.4 (meaning-subst points variables t h.1 h.0 h.3.typed
      ∙ all-true points some variables are h.0 h.1 (body-typed h.0 h.1 (proposition d (all h.0 h.1) h.2).typed) (keeps-truth d (all h.0 h.1) h.2 variables are hyps)
      (meaning points variables [] t) (value-of points some variables are t h.0 h.3.typed))
  keeps-truth (ImpliesIntro A d) C h variables are hyps =
      let a = truth-under points some variables are A h.2.typed in
      let b = truth-under points some variables are h.0 (proposition d h.0 h.1).typed in
      rw h.3 (meaning-imp points variables A h.0 a.0 b.0 a.1 b.1 ∙ ap Truth (implication a.0 b.0 (λ holds.
      truth-once b.0 true (sym b.1 ∙ keeps-truth d h.0 h.1 variables are (restored (IsTrueUnder points variables) A (hyps_of d) (a.1 ∙ ap Truth holds) hyps)))))
  keeps-truth (ImpliesElim d e) C h variables are hyps =
      let c = truth-under points some variables are C (proposition (ImpliesElim d e) C h).typed in
      let whole = keeps-truth d (imp h.0 C) h.1 variables are (each-left (IsTrueUnder points variables) (hyps_of d) (hyps_of e) hyps) in
      let premise = keeps-truth e h.0 h.2 variables are (each-right (IsTrueUnder points variables) (hyps_of d) (hyps_of e) hyps) in
      c.1 ∙ (sym (meaning-imp points variables h.0 C true c.0 premise c.1) ∙ whole)
  keeps-truth (Beta redex) C h variables are hyps =
      let typed : HasType [] (App (Abs h.0 h.2) h.3) h.1 = subst (λ t. HasType [] t h.1) h.4 h.5.typed in
      let same : meaning points variables [] redex ≡ meaning points variables [] (subst_bound h.2 h.3) = ap (meaning points variables []) h.4 ∙ beta-true variables are h.0 h.1 h.2 h.3 typed in
      rw h.6 (equation-true variables are h.1 redex (subst_bound h.2 h.3) h.5.typed same)
  keeps-truth (Refl t) C h variables are hyps = rw h.2 (equation-true variables are h.0 t t h.1.typed refl)
  keeps-truth (Subst f x y) C h variables are hyps =
      let function : HasType [] (Abs h.0 h.1) (arrow h.0 prop) = subst (λ t. HasType [] t (arrow h.0 prop)) h.2 h.3.typed in
      let range : arrow h.0 function.0 ≡ arrow h.0 prop = function.2 in
      let result : function.0 ≡ prop = cc in
      let typed : HasType (h.0 ∷ []) h.1 prop = rw result at function.1 in
      let left = value-of points some variables are x h.0 h.4.typed in
      let right = value-of points some variables are y h.0 h.5.typed in
      let p = body-truth points some variables are h.0 h.1 typed (meaning points variables [] x) left in
      let q = body-truth points some variables are h.0 h.1 typed (meaning points variables [] y) right in
      let before = meaning-subst points variables x h.1 h.0 h.4.typed ∙ p.1 in
      let after = meaning-subst points variables y h.1 h.0 h.5.typed ∙ q.1 in
      let test = value_eq (meaning points variables [] x) (meaning points variables [] y) in
      rw h.6 (meaning-imp points variables (eq h.0 x y) (imp (subst_bound h.1 x) (subst_bound h.1 y)) test (not p.0 || q.0)
      (eq-at points h.0 (meaning points variables [] x) (meaning points variables [] y) left right)
      (meaning-imp points variables (subst_bound h.1 x) (subst_bound h.1 y) p.0 q.0 before after)
      ∙ ap Truth (implication test (not p.0 || q.0) (λ equal. implication p.0 q.0 (λ holds.
      let same = value_eq-same (meaning points variables [] x) (meaning points variables [] y) equal in
      truth-once q.0 true (sym q.1 ∙ (sym (ap (λ v. meaning points variables (v ∷ []) h.1) same) ∙ (p.1 ∙ ap Truth holds)))))))
  keeps-truth (Ext f g) C h variables are hyps =
      let E = eq h.1 (App f (Bound 0)) (App g (Bound 0)) in
      let whole : IsProposition pure_content (imp (all h.0 E) (eq (arrow h.0 h.1) f g)) = subst (IsProposition pure_content) h.4 (proposition (Ext f g) C h) in
      let premise = premise-proposition pure_content (λ e m. m) (all h.0 E) (eq (arrow h.0 h.1) f g) whole in
      let a = truth-under points some variables are (all h.0 E) premise.typed in
      let left = value-of points some variables are f (arrow h.0 h.1) h.2.typed in
      let right = value-of points some variables are g (arrow h.0 h.1) h.3.typed in
      let test = value_eq (meaning points variables [] f) (meaning points variables [] g) in
      rw h.4 (meaning-imp points variables (all h.0 E) (eq (arrow h.0 h.1) f g) a.0 test a.1
      (eq-at points (arrow h.0 h.1) (meaning points variables [] f) (meaning points variables [] g) left right)
      ∙ ap Truth (implication a.0 test (λ holds.
      let same = functions-agree variables are h.0 h.1 f g h.2.typed h.3.typed (all-true points some variables are h.0 E (body-typed h.0 E premise.typed) (a.1 ∙ ap Truth holds)) in
      rw same (value_eq-itself (meaning points variables [] g)))))
  keeps-truth (Iff A B) C h variables are hyps =
      let a = truth-under points some variables are A h.0.typed in
      let b = truth-under points some variables are B h.1.typed in
      let equation = eq-at points prop (meaning points variables [] A) (meaning points variables [] B) (value-of points some variables are A prop h.0.typed) (value-of points some variables are B prop h.1.typed)
      ∙ (λ l. Truth (value_eq (a.1 l) (b.1 l))) in
      rw h.2 (meaning-imp points variables (imp A B) (imp (imp B A) (eq prop A B)) (not a.0 || b.0) (not (not b.0 || a.0) || value_eq (Truth a.0) (Truth b.0))
      (meaning-imp points variables A B a.0 b.0 a.1 b.1)
      (meaning-imp points variables (imp B A) (eq prop A B) (not b.0 || a.0) (value_eq (Truth a.0) (Truth b.0)) (meaning-imp points variables B A b.0 a.0 b.1 a.1) equation)
      ∙ ap Truth (equivalence a.0 b.0))
