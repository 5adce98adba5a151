-- Maps of patterns put in one after the other.
use Rattle.std.proofs.Common.{◌≡◌, ◌⊎◌, ◌∙◌, ℕ, inl, inr, [], refl, sym, subst}
use Rattle.pure_definitions.specs.Types.Typ.{Typ}
use Rattle.pure_definitions.specs.Terms.Term.{Term, Const, Free, Var, Bound, Abs, App}
use Rattle.pure_definitions.specs.Terms.Conditions.{IsVariable}
use Rattle.pure_definitions.specs.Terms.Typing.{HasType}
use Rattle.pure_definitions.specs.Terms.Subst.{typ_instance, inst_term}
use Rattle.pure_definitions.specs.Reduction.Eta.{IsLongForm}
use Rattle.pure_term_laws.proofs.SubstLaws.{typ_instance-identity}
use Rattle.pure_eta.proofs.FormLaws.{long_form_of_long_form}
use Rattle.pure_reduction.specs.Steps.{BetaReduces}
use Rattle.pure_reduction.specs.LongForms.{HasLongForm, HaveOneLongForm}
use Rattle.pure_reduction.proofs.LongLaws.{one_long_form_of_term, long_form_keeps_type}
use Rattle.pure_solutions.specs.Solutions.{IsTermSubstitution, IsLongMap}
use Rattle.pure_solutions.proofs.SolutionLaws.{long-instance, same-instances, instance-typed, image-typed, fixed-stays, one-long-itself}
use Rattle.pure_unify_final.proofs.RuleLaws.{inst-inst}
use Rattle.pure_pattern_laws.specs.Patterns.{IsPattern}
use Rattle.pure_pattern_laws.specs.Putting.{put_in}
use Rattle.pure_pattern_laws.proofs.PutLaws.{put_in_is_long_form}
use Rattle.pure_pattern_laws.proofs.PatternLaws.{put_in_is_pattern}
use Rattle.pure_pattern_bounds.specs.Covered.{IsPatternMap}

-- A pattern in long form, with a type.
pub record IsLongPattern (t : Term) (T : Typ) : Type 0 where
  pub typed : HasType [] t T
  pub long : IsLongForm t t
  pub pattern : IsPattern t

long-itself : (t : Term) → IsLongForm t t → HasLongForm t t
long-itself t h = record { normal = t; reduces = BetaReduces.done; long = h }

-- Maps one after the other.
module _ (outer inner : Term → Term) (o : IsPatternMap outer) (n : IsPatternMap inner) where
  abbrev both : Term → Term
  both v = put_in outer (inner v)

  put-pattern : (t : Term) (T : Typ) → IsLongPattern t T → IsLongPattern (put_in outer t) T
  put-pattern t T h =
      let renamed = put_in_is_long_form outer o.long t h.long h.pattern in record {
        typed = long_form_keeps_type (inst_term outer t) (put_in outer t) T (instance-typed outer o.long.substitution t T h.typed) renamed;
        long = long_form_of_long_form renamed.normal (put_in outer t) renamed.long;
        pattern = put_in_is_pattern outer o.long o.patterns t h.long h.pattern;
      }

  -- The image of a variable stays it, or is a pattern in long form.
  inner-image : (x i : ℕ) (T : Typ) → (inner (Var x i T) ≡ Var x i T) ⊎ IsLongPattern (inner (Var x i T)) T
  inner-image x i T = elim (n.long.images x i T) [
    | inl e ↦ inl e
    | inr k ↦ inr (record { typed = image-typed inner n.long.substitution x i T; long = k; pattern = n.patterns x i T })
  ]

  both-typed : (x i : ℕ) (T : Typ) → HasType [] (both (Var x i T)) T
  both-typed x i T = elim (inner-image x i T) [
    | inl e ↦ subst (λ u. HasType [] (put_in outer u) T) (sym e) (image-typed outer o.long.substitution x i T)
    | inr k ↦ (put-pattern (inner (Var x i T)) T k).typed
  ]

  both-long : (x i : ℕ) (T : Typ) → (both (Var x i T) ≡ Var x i T) ⊎ IsLongForm (both (Var x i T)) (both (Var x i T))
  both-long x i T = elim (inner-image x i T) [
    | inl e ↦ subst (λ u. (put_in outer u ≡ Var x i T) ⊎ IsLongForm (put_in outer u) (put_in outer u)) (sym e) (o.long.images x i T)
    | inr k ↦ inr (put-pattern (inner (Var x i T)) T k).long
  ]

  both-pattern : (x i : ℕ) (T : Typ) → IsPattern (both (Var x i T))
  both-pattern x i T = elim (inner-image x i T) [
    | inl e ↦ subst (λ u. IsPattern (put_in outer u)) (sym e) (o.patterns x i T)
    | inr k ↦ (put-pattern (inner (Var x i T)) T k).pattern
  ]

  both-fixed : (x : ℕ) (T : Typ) → both (Free x T) ≡ inner (Free x T)
  both-fixed x T = subst (λ u. put_in outer u ≡ u) (sym (fixed-stays inner n.long.substitution x T)) refl

  both-substitution : IsTermSubstitution both
  both-substitution = record {
    respecting = record {
      fixed = λ x T. subst (λ u. HasType [] u (typ_instance (λ v. v) T)) (sym (both-fixed x T)) (n.long.substitution.respecting.fixed x T);
      schematic = λ x i T. subst (HasType [] (both (Var x i T))) (sym (typ_instance-identity T)) (both-typed x i T);
    };
    fixed = λ x T. both-fixed x T ∙ n.long.substitution.fixed x T;
  }

  pub both-map : IsPatternMap both
  both-map = record { long = record { substitution = both-substitution; images = both-long }; patterns = both-pattern }

  -- The images of both have one long form with those that are put in one after the other.
  one-image : (v : Term) → IsVariable v → HaveOneLongForm (both v) (inst_term outer (inner v))
  one-image (Var x i T) h = elim (inner-image x i T) [
    | inl e ↦ subst (λ u. HaveOneLongForm (put_in outer u) (inst_term outer u)) (sym e) (one-long-itself (outer (Var x i T)) T (image-typed outer o.long.substitution x i T))
    | inr k ↦ (both (Var x i T), long-itself (both (Var x i T)) (put-pattern (inner (Var x i T)) T k).long, put_in_is_long_form outer o.long (inner (Var x i T)) k.long k.pattern)
  ]
  one-image (Free x T) h =
      subst (λ u. HaveOneLongForm (put_in outer u) (inst_term outer u)) (sym (fixed-stays inner n.long.substitution x T))
      (subst (λ u. HaveOneLongForm (Free x T) u) (sym (fixed-stays outer o.long.substitution x T)) (one-long-itself (Free x T) T refl))
  one-image (Const c T) h = absurd h
  one-image (Bound p) h = absurd h
  one-image (Abs T b) h = absurd h
  one-image (App f a) h = absurd h

  -- What is put in one after the other is put in at once.
  pub put-put : (t : Term) (T : Typ) → IsLongPattern t T → put_in outer (put_in inner t) ≡ put_in both t
  put-put t T h =
      let first = put_in_is_long_form inner n.long t h.long h.pattern in
      let inside : IsLongForm (put_in inner t) (put_in inner t) = long_form_of_long_form first.normal (put_in inner t) first.long in
      let second = put_in_is_long_form outer o.long (put_in inner t) inside (put_in_is_pattern inner n.long n.patterns t h.long h.pattern) in
      let whole = (long-instance outer o.long.substitution (inst_term inner t) (put_in inner t) (put_in outer (put_in inner t)) first).1 second in
      let joined : HasLongForm (inst_term (λ v. inst_term outer (inner v)) t) (put_in outer (put_in inner t)) = subst (λ u. HasLongForm u (put_in outer (put_in inner t))) (inst-inst outer inner t) whole in
      let own = put_in_is_long_form both both-map.long t h.long h.pattern in
      let same = same-instances both (λ v. inst_term outer (inner v)) both-substitution t T h.typed (λ v is m. one-image v is) in
      one_long_form_of_term (inst_term (λ v. inst_term outer (inner v)) t) (put_in outer (put_in inner t)) same.0 joined same.2 ∙ one_long_form_of_term (inst_term both t) same.0 (put_in both t) same.1 own
