-- The rules of simplification: what solves a node solves what a rule makes of it, and a node that fails has no solution.
use Rattle.std.proofs.Common.{◌≡◌, ℕ, ◌≤◌, List, [], ◌∷◌, ◌++◌, Bool, true, false, ◌||◌, ap, refl, sym, subst, ◌∙◌}
use Rattle.std.specs.Prelude.{if◌then◌else◌}
use Rattle.pure_text.specs.Lists.{Each}
use Rattle.pure_text.proofs.ListLaws.{each_of, each_imply, each-append, each-left, each-right}
use Rattle.pure_definitions.specs.Types.Typ.{Typ}
use Rattle.pure_definitions.specs.Types.Order.{Algebra}
use Rattle.pure_definitions.specs.Terms.Term.{Term, Const, Free, Var, Bound, Abs, App, term_eq}
use Rattle.pure_definitions.specs.Terms.Conditions.{IsVariable}
use Rattle.pure_definitions.specs.Terms.Typing.{HasType}
use Rattle.pure_definitions.specs.Terms.Subst.{TermBind, term_image, inst_term}
use Rattle.pure_definitions.specs.Models.Equality.{term_eq-same}
use Rattle.pure_definitions.specs.Reduction.Beta.{IsBetaSequence}
use Rattle.pure_term_laws.proofs.TypingLaws.{typed-once}
use Rattle.pure_eta.proofs.LongLaws.{IsLong}
use Rattle.pure_logic.specs.Derivable.{Pair}
use Rattle.pure_reduction.specs.Steps.{BetaReduces}
use Rattle.pure_reduction.specs.LongForms.{HasLongForm, HaveOneLongForm}
use Rattle.pure_reduction.proofs.StepLaws.{normal_order_step_is_step}
use Rattle.pure_reduction.proofs.LongLaws.{long_form_keeps_type}
use Rattle.pure_unify_definitions.specs.Fronts.{is_flexible, head, pair, argument_pairs}
use Rattle.pure_unify_definitions.specs.Node.{Node, Single, bind, with_setting, with_setting_put}
use Rattle.pure_unify_definitions.specs.LongSides.{Long, ComesTo, is_long, AllLong, AreLong, no_more, both_long}
use Rattle.pure_unify_definitions.specs.Treatment.{Differ, Put, Split, Unify, IsTreatment, IsBareSide, left_bare, right_bare, AreRigid}
use Rattle.pure_unify_definitions.specs.Retyping.{Goes}
use Rattle.pure_unify_definitions.specs.Simplification.{Applies}
use Rattle.pure_unify_answers.proofs.PartLaws.{IsOfParts, HasParts, eta-parts}
use Rattle.pure_unify_answers.proofs.SpineLaws.{HavePartsIn, split-parts}
use Rattle.pure_unify_answers.proofs.FitLaws.{sides-parts, put-each, set-parts}
use Rattle.pure_solutions.specs.Solutions.{IsTermSubstitution, SolvesPair, SolvesPairs}
use Rattle.pure_solutions.proofs.SolutionLaws.{same-instances, instance-typed, image-typed, fixed-stays, eta-instance, one-long-swap, one-long-then, one-long-itself, one-long-eta, solved_by_long_forms}
use Rattle.pure_unify_final.specs.Laws.{AreLongSides, StepsKeepSolutions}
use Rattle.pure_unify_final.proofs.SideLaws.{IsLongIn, IsLongPair, long_form-long, argument_pairs-long, head-rigid}
use Rattle.pure_unify_final.proofs.SpineLaws.{solved-spines, arguments-solved}

-- Long sides.
sequence-reduces : (us : List Term) (t u : Term) → IsBetaSequence t us u → BetaReduces t u
sequence-reduces [] t u s = subst (BetaReduces t) s BetaReduces.done
sequence-reduces (v ∷ vs) t u s = BetaReduces.next (normal_order_step_is_step t s.1.0 s.1.1) (sequence-reduces vs s.1.0 u s.1.2)

comes-long : {t u : Term} → ComesTo t (Long u) → HasLongForm t u
comes-long {t = t} (is_long {n = n} b l w) = record { normal = n; reduces = subst (BetaReduces t) b.decided.2 (sequence-reduces b.before t b.last b.sequence); long = l }

side-long : {t u : Term} → ComesTo t (Long u) → IsLongIn [] u
side-long {u = u} (is_long {n = n} b l w) = long_form-long n u l

pub sides-long : {ps qs : List Pair} → AreLong ps (AllLong qs) → Each IsLongPair qs
sides-long no_more = tt
sides-long (both_long f g rest) = ((side-long f, side-long g), sides-long rest)

pub sides-solved : (terms : Term → Term) → IsTermSubstitution terms → {ps qs : List Pair} → AreLong ps (AllLong qs) → SolvesPairs terms ps → SolvesPairs terms qs
sides-solved terms s no_more h = tt
sides-solved terms s (both_long {p = p} {l = l} {r = r} f g rest) h = ((solved_by_long_forms terms s p (pair l r) (comes-long f) (comes-long g)).0 h.0, sides-solved terms s rest h.1)

-- the types of parts don't matter; and a variable's index is at most this number
abbrev pub AnyTyp : Typ → Type 0
AnyTyp T = Unit {0}

abbrev pub IsUpTo : ℕ → Term → Type 0
IsUpTo n (Var x i T) = i ≤ n
IsUpTo n _ = Unit {0}

pub any-parts : IsOfParts AnyTyp
any-parts = record { domain = λ A B h. tt; range = λ A B h. tt; functions = λ A B h k. tt }

-- The sides of the pairs are long, V holds of each variable in them, and the map solves them.
pub record AreSolvedIn (terms : Term → Term) (V : Term → Type 0) (ps : List Pair) : Type 0 where
  pub long : Each IsLongPair ps
  pub variables : Each (HavePartsIn AnyTyp V) ps
  pub solved : SolvesPairs terms ps

replace-pairs : (P : Pair → Type 0) (front mid rest : List Pair) (p : Pair) → Each P (front ++ p ∷ rest) → Each P mid → Each P (front ++ (mid ++ rest))
replace-pairs P front mid rest p h k = each-append P front (mid ++ rest) (each-left P front (p ∷ rest) h) (each-append P mid rest k (each-right P front (p ∷ rest) h).1)

pub inst-inst : (terms more : Term → Term) (t : Term) → inst_term terms (inst_term more t) ≡ inst_term (λ v. inst_term terms (more v)) t
inst-inst terms more (Const c T) = refl
inst-inst terms more (Free x T) = refl
inst-inst terms more (Var x i T) = refl
inst-inst terms more (Bound p) = refl
inst-inst terms more (Abs T b) = ap (Abs T) (inst-inst terms more b)
inst-inst terms more (App f a) = λ l. App (inst-inst terms more f l) (inst-inst terms more a l)

module _ (terms : Term → Term) (s : IsTermSubstitution terms) where
  -- Sides of different types have no long form in common.
  solved-typ : (p : Pair) (T U : Typ) → HasType [] p.left T → HasType [] p.right U → SolvesPair terms p → T ≡ U
  solved-typ p T U h k (w, l, r) =
      typed-once [] w T U (long_form_keeps_type (inst_term terms p.left) w T (instance-typed terms s p.left T h) l) (long_form_keeps_type (inst_term terms p.right) w U (instance-typed terms s p.right U k) r)

  -- A bare variable's image has the long form of the other side.
  pub bare-solved : (p : Pair) (T : Typ) (v other : Term) → HasType [] p.left T → HasType [] p.right T → IsBareSide p.left p.right v other → SolvesPair terms p → HaveOneLongForm (inst_term terms v) (inst_term terms other)
  bare-solved p T v other h k (left_bare b e) solved =
      rw e (one-long-then (one-long-swap (one-long-eta (inst_term terms p.left) (inst_term terms v) T (instance-typed terms s p.left T h) (eta-instance terms s p.left v b.form.reduces))) solved)
  bare-solved p T v other h k (right_bare n b e) solved =
      rw e (one-long-then (one-long-swap (one-long-eta (inst_term terms p.right) (inst_term terms v) T (instance-typed terms s p.right T k) (eta-instance terms s p.right v b.form.reduces))) (one-long-swap solved))

  variable-itself : (v : Term) → IsVariable v → HaveOneLongForm (terms v) (inst_term terms v)
  variable-itself (Free x T) is = one-long-itself (terms (Free x T)) T (rw (fixed-stays terms s x T) refl)
  variable-itself (Var x i T) is = one-long-itself (terms (Var x i T)) T (image-typed terms s x i T)
  variable-itself (Const c T) is = absurd is
  variable-itself (Bound p) is = absurd is
  variable-itself (Abs T b) is = absurd is
  variable-itself (App f a) is = absurd is

  -- the map after a setting of a variable
  abbrev set_first : TermBind → Term → Term
  set_first b v = inst_term terms (term_image (b ∷ []) v)

  same-set : (x i : ℕ) (T : Typ) (u : Term) → HaveOneLongForm (terms (Var x i T)) (inst_term terms u) → (v : Term) → IsVariable v → HaveOneLongForm (terms v) (set_first (bind x i T u) v)
  same-set x i T u h v is = by_cases (term_eq (Var x i T) v) refl
    where
      by_cases : (b : Bool) → term_eq (Var x i T) v ≡ b → HaveOneLongForm (terms v) (inst_term terms (if b then u else v))
      by_cases true e = rw (← term_eq-same (Var x i T) v e) h
      by_cases false e = variable-itself v is

  set-side : (x i : ℕ) (T : Typ) (u t : Term) → HaveOneLongForm (terms (Var x i T)) (inst_term terms u) → IsLongIn [] t → HaveOneLongForm (inst_term terms t) (inst_term terms (with_setting (Single (bind x i T u)) t))
  set-side x i T u t h k = rw (inst-inst terms (term_image (bind x i T u ∷ [])) t) (same-instances terms (set_first (bind x i T u)) s t k.0 k.1.typed (λ v is o. same-set x i T u h v is))

  -- Where a variable's image has the long form that the setting gives it, the map solves the pairs with the setting put in.
  pub set-solved : (x i : ℕ) (T : Typ) (u : Term) → HaveOneLongForm (terms (Var x i T)) (inst_term terms u) → (ps : List Pair) → Each IsLongPair ps → SolvesPairs terms ps → SolvesPairs terms (with_setting_put (Single (bind x i T u)) ps)
  set-solved x i T u h [] k solved = tt
  set-solved x i T u h (p ∷ ps) k solved =
      (one-long-then (one-long-swap (set-side x i T u p.left h k.0.0)) (one-long-then solved.0 (set-side x i T u p.right h k.0.1)), set-solved x i T u h ps k.1 solved.1)

  -- One pair among others.
  pub middle : (P : Pair → Type 0) (ps front rest : List Pair) (p : Pair) → ps ≡ front ++ p ∷ rest → Each P ps → P p
  middle P ps front rest p e h = (each-right P front (p ∷ rest) (subst (Each P) e h)).0

  dropped : (ps front rest : List Pair) (p : Pair) (V : Term → Type 0) → ps ≡ front ++ p ∷ rest → AreSolvedIn terms V ps → AreSolvedIn terms V (front ++ rest)
  dropped ps front rest p V e h = record {
    long = replace-pairs IsLongPair front [] rest p (subst (Each IsLongPair) e h.long) tt;
    variables = replace-pairs (HavePartsIn AnyTyp V) front [] rest p (subst (Each (HavePartsIn AnyTyp V)) e h.variables) tt;
    solved = replace-pairs (SolvesPair terms) front [] rest p (subst (SolvesPairs terms) e h.solved) tt;
  }

  long-of : (t : Term) (T : Typ) → HasType [] t T → IsLongIn [] t → IsLong [] t t T
  long-of t T h k = subst (IsLong [] t t) (typed-once [] t k.0 T k.1.typed h) k.1

  -- Rigid sides: their heads are the same, and the pairs of arguments are solved.
  pub rigid-sides : (p : Pair) → IsLongPair p → AreRigid p.left p.right → SolvesPair terms p → (head p.left ≡ head p.right) × SolvesPairs terms (argument_pairs p.left p.right)
  rigid-sides p k r solved =
      let typed = r.past.typed in
      let left = long-of p.left typed.typ typed.left k.0 in
      let right = long-of p.right typed.typ typed.right k.1 in
      let n = head-rigid p.left left.normal (neither-left (is_flexible p.left) (is_flexible p.right) r.neither) in
      let m = head-rigid p.right right.normal (neither-right (is_flexible p.left) (is_flexible p.right) r.neither) in
      ((solved-spines terms s p.left p.right typed.typ left right n m solved).0, arguments-solved terms s p typed.typ left right n m solved)
    where
      neither-left : (b c : Bool) → (b || c) ≡ false → b ≡ false
      neither-left true c e = absurd (cc)
      neither-left false c e = refl

      neither-right : (b c : Bool) → (b || c) ≡ false → c ≡ false
      neither-right true c e = absurd (cc)
      neither-right false c e = e

  split : (ps front rest : List Pair) (p : Pair) (V : Term → Type 0) → ps ≡ front ++ p ∷ rest → AreRigid p.left p.right → AreSolvedIn terms V ps → AreSolvedIn terms V (front ++ (argument_pairs p.left p.right ++ rest))
  split ps front rest p V e r h =
      let long = middle IsLongPair ps front rest p e h.long in
      let old = middle (HavePartsIn AnyTyp V) ps front rest p e h.variables in
      record {
        long = replace-pairs IsLongPair front (argument_pairs p.left p.right) rest p (subst (Each IsLongPair) e h.long) (argument_pairs-long p long);
        variables = replace-pairs (HavePartsIn AnyTyp V) front (argument_pairs p.left p.right) rest p (subst (Each (HavePartsIn AnyTyp V)) e h.variables) (split-parts AnyTyp V p.left p.right old.0 old.1);
        solved = replace-pairs (SolvesPair terms) front (argument_pairs p.left p.right) rest p (subst (SolvesPairs terms) e h.solved) (rigid-sides p long r (middle (SolvesPair terms) ps front rest p e h.solved)).1;
      }

  other-parts : (V : Term → Type 0) (p : Pair) (v other : Term) → IsBareSide p.left p.right v other → HavePartsIn AnyTyp V p → HasParts AnyTyp V other
  other-parts V p v other (left_bare b e) h = rw e h.1
  other-parts V p v other (right_bare m b e) h = rw e h.0

  other-typed : (p : Pair) (T : Typ) (v other : Term) → IsBareSide p.left p.right v other → HasType [] p.left T → HasType [] p.right T → HasType [] other T
  other-typed p T v other (left_bare b e) h k = rw e k
  other-typed p T v other (right_bare m b e) h k = rw e h

  put : (ps front rest qs : List Pair) (p : Pair) (V : Term → Type 0) (b : TermBind) → ps ≡ front ++ p ∷ rest → IsTreatment p.left p.right (Put b) → AreLong (with_setting_put (Single b) (front ++ rest)) (AllLong qs) → AreSolvedIn terms V ps → AreSolvedIn terms V qs
  put ps front rest qs p V b e (IsTreatment.absent {x = x} {i = i} {T = T} {other = other} {u = u} typed side free form) long h =
      let remain = dropped ps front rest p V e h in
      let bare = bare-solved p typed.typ (Var x i T) other typed.left typed.right side (middle (SolvesPair terms) ps front rest p e h.solved) in
      let typ = instance-typed terms s other typed.typ (other-typed p typed.typ (Var x i T) other side typed.left typed.right) in
      let image = one-long-then bare (one-long-eta (inst_term terms other) (inst_term terms u) typed.typ typ (eta-instance terms s other u form.reduces)) in
      let old = eta-parts AnyTyp V form.reduces (other-parts V p (Var x i T) other side (middle (HavePartsIn AnyTyp V) ps front rest p e h.variables)) in
      record {
        long = sides-long long;
        variables = sides-parts AnyTyp V any-parts long
            (put-each AnyTyp AnyTyp V V (Single (bind x i T u)) (set-parts AnyTyp V V x i T u old (λ w k apart. k)) (front ++ rest) remain.variables);
        solved = sides-solved terms s long (set-solved x i T u image (front ++ rest) remain.long remain.solved);
      }

  pub differ-unsolved : (p : Pair) (T U : Typ) → IsTreatment p.left p.right (Differ T U) → SolvesPair terms p → ⊥
  differ-unsolved p T U (IsTreatment.differ h k apart) solved = apart (solved-typ p T U h k solved)

  pub unify-unsolved : (p : Pair) (T U : Typ) → IsLongPair p → IsTreatment p.left p.right (Unify T U) → SolvesPair terms p → ⊥
  unify-unsolved p T U k (IsTreatment.constants {c = c} r e f apart) solved =
      let heads : Const c T ≡ Const c U = sym e ∙ ((rigid-sides p k r solved).0 ∙ f) in
      let same : T ≡ U = cc in
      apart same

  split-rigid : (p : Pair) → IsTreatment p.left p.right Split → AreRigid p.left p.right
  split-rigid p (IsTreatment.same_heads r e) = r

  -- What solves a node solves what a step makes of it.
  pub step-solved : (A : Algebra) (maxidx : ℕ) (n m : Node) (V : Term → Type 0) → Applies A maxidx n (Goes m) → AreSolvedIn terms V n.pairs → AreSolvedIn terms V m.pairs
  step-solved A maxidx n m V (Applies.drops {front = front} {rest = rest} {p = p} first) h = dropped n.pairs front rest p V first.stands h
  step-solved A maxidx n m V (Applies.retypes {front = front} {rest = rest} {p = p} {T = T} {U = U} first r) h = absurd (differ-unsolved p T U first.treated (middle (SolvesPair terms) n.pairs front rest p first.stands h.solved))
  step-solved A maxidx n m V (Applies.puts {front = front} {rest = rest} {qs = qs} {p = p} {b = b} first long) h = put n.pairs front rest qs p V b first.stands first.treated long h
  step-solved A maxidx n m V (Applies.splits {front = front} {rest = rest} {p = p} first) h = split n.pairs front rest p V first.stands (split-rigid p first.treated) h
  step-solved A maxidx n m V (Applies.unifies {front = front} {rest = rest} {p = p} {T = T} {U = U} first r place) h =
      absurd (unify-unsolved p T U (middle IsLongPair n.pairs front rest p first.stands h.long) first.treated (middle (SolvesPair terms) n.pairs front rest p first.stands h.solved))

any-variables : (t : Term) → HasParts AnyTyp (λ v. Unit {0}) t
any-variables (Const c T) = tt
any-variables (Free x T) = tt
any-variables (Var x i T) = (tt, tt)
any-variables (Bound p) = tt
any-variables (Abs T b) = (tt, any-variables b)
any-variables (App f a) = (any-variables f, any-variables a)

pub sides-in_long : (ps : List Pair) → Each AreLongSides ps → Each IsLongPair ps
sides-in_long ps h = each_imply AreLongSides IsLongPair ps (λ p l. (long_form-long p.left p.left l.0, long_form-long p.right p.right l.1)) h

-- Pairs that a map solves, with sides in long form.
pub long-solved : (terms : Term → Term) (ps : List Pair) → Each AreLongSides ps → SolvesPairs terms ps → AreSolvedIn terms (λ v. Unit {0}) ps
long-solved terms ps h k = record {
  long = sides-in_long ps h;
  variables = each_of (HavePartsIn AnyTyp (λ v. Unit {0})) ps (λ p m. (any-variables p.left, any-variables p.right));
  solved = k;
}

pub steps_keep_solutions : StepsKeepSolutions
steps_keep_solutions A maxidx n m step long terms s h = (step-solved terms s A maxidx n m (λ v. Unit {0}) step (long-solved terms n.pairs long h)).solved
