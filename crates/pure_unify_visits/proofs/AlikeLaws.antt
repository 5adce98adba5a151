-- Long sides of one type and one head have as many arguments; and what a setting puts in has its variable's type.
use Rattle.std.proofs.Common.{◌≡◌, ℕ, suc, ◌+◌, List, [], ◌∷◌, ◌++◌, length, refl, ap, sym, subst, ◌∙◌, arith}
use Rattle.std.specs.Prelude.{Option, Some, IfSome}
use Rattle.pure_text.specs.Lists.{Each}
use Rattle.pure_definitions.specs.Types.Typ.{Typ, arrow}
use Rattle.pure_definitions.specs.Types.Order.{Algebra}
use Rattle.pure_definitions.specs.Terms.Term.{Term, Const, Free, Var, Bound, Abs, App}
use Rattle.pure_definitions.specs.Terms.Typing.{HasType}
use Rattle.pure_definitions.specs.Terms.Subst.{TypBind, TermBind, typ_instance, inst_typ, retyped_variable}
use Rattle.pure_definitions.specs.Reduction.Eta.{abstraction_count, arrow_count, HasSaturatedParts, IsEtaNormalForm}
use Rattle.pure_term_laws.proofs.TypingLaws.{typed-once}
use Rattle.pure_term_laws.proofs.TypingBoundLaws.{typing-instance}
use Rattle.pure_eta.proofs.KeptLaws.{steps_keep_type}
use Rattle.pure_norm.proofs.BetaLaws.{normal_form-keeps_type}
use Rattle.pure_logic.specs.Derivable.{Pair}
use Rattle.pure_tunify.specs.Settings.{composed}
use Rattle.pure_unify_definitions.specs.Fronts.{term_body, arguments, head, pair}
use Rattle.pure_unify_definitions.specs.Node.{Setting, Typs, with_setting, with_setting_put}
use Rattle.pure_unify_definitions.specs.LongSides.{Long, ComesTo, is_long, AllLong, AreLong, both_long}
use Rattle.pure_unify_definitions.specs.Treatment.{Put, Split, Unify, IsBareSide, left_bare, right_bare, IsTreatment, absent, same_heads, constants}
use Rattle.pure_unify_laws.proofs.HeadLaws.{head-long, unified-equal}
use Rattle.pure_unify_laws.proofs.SplitLaws.{spines-alike}
use Rattle.pure_unify_steps.specs.declared.node.Node.{Node}
use Rattle.pure_unify_nodes.specs.Long.{IsLongSide, IsLongPair}
use Rattle.pure_unify_steps.specs.Retyped.{ArePut}
use Rattle.pure_unify_steps.proofs.PutLaws.{retyping-respects}
use Rattle.pure_unify_visits.specs.Scanned.{HasAsMany, HasAsManyAt}

no_abstraction : (n : ℕ) → 0 ≡ 1 + n → ⊥
no_abstraction n e = absurd (omega arith)

-- the same below abstractions: as many on both sides, as the type has arrows
alike : (bs : List Typ) (l r : Term) (T : Typ) → HasType bs l T → HasType bs r T → abstraction_count l ≡ arrow_count T → abstraction_count r ≡ arrow_count T → HasSaturatedParts bs l → HasSaturatedParts bs r → head l ≡ head r
    → length (arguments (term_body l)) ≡ length (arguments (term_body r))
alike bs (Abs V b) (Abs W c) T h k m n p q e =
    let arrows : arrow V h.0 ≡ arrow W k.0 = h.2 ∙ sym k.2 in
    let binders : V ≡ W = cc in
    let ranges : h.0 ≡ k.0 = cc in
    let first : p.0.0 ≡ h.0 = typed-once (V ∷ bs) b p.0.0 h.0 p.0.1 h.1 in
    let second : q.0.0 ≡ h.0 = typed-once (W ∷ bs) c q.0.0 k.0 q.0.1 k.1 ∙ sym ranges in
    let moved : HasType (V ∷ bs) c h.0 = rw (binders, ranges) k.1 in
    let parts : HasSaturatedParts (V ∷ bs) c = rw binders q.1 in
    alike (V ∷ bs) b c h.0 h.1 moved (rw (sym first) p.0.2) (rw (sym second) q.0.2) p.1 parts e
alike bs (Abs V b) (Const c U) T h k m n p q e = absurd (no_abstraction (arrow_count h.0) (n ∙ ap arrow_count (sym h.2)))
alike bs (Abs V b) (Free c U) T h k m n p q e = absurd (no_abstraction (arrow_count h.0) (n ∙ ap arrow_count (sym h.2)))
alike bs (Abs V b) (Var c i U) T h k m n p q e = absurd (no_abstraction (arrow_count h.0) (n ∙ ap arrow_count (sym h.2)))
alike bs (Abs V b) (Bound c) T h k m n p q e = absurd (no_abstraction (arrow_count h.0) (n ∙ ap arrow_count (sym h.2)))
alike bs (Abs V b) (App f a) T h k m n p q e = absurd (no_abstraction (arrow_count h.0) (n ∙ ap arrow_count (sym h.2)))
alike bs (Const c U) (Abs V b) T h k m n p q e = absurd (no_abstraction (arrow_count k.0) (m ∙ ap arrow_count (sym k.2)))
alike bs (Free c U) (Abs V b) T h k m n p q e = absurd (no_abstraction (arrow_count k.0) (m ∙ ap arrow_count (sym k.2)))
alike bs (Var c i U) (Abs V b) T h k m n p q e = absurd (no_abstraction (arrow_count k.0) (m ∙ ap arrow_count (sym k.2)))
alike bs (Bound c) (Abs V b) T h k m n p q e = absurd (no_abstraction (arrow_count k.0) (m ∙ ap arrow_count (sym k.2)))
alike bs (App f a) (Abs V b) T h k m n p q e = absurd (no_abstraction (arrow_count k.0) (m ∙ ap arrow_count (sym k.2)))
alike bs l r T h k m n p q e = spines-alike bs l r T h k e

as_many : (l r : Term) (T : Typ) → IsLongSide l → IsLongSide r → HasType [] l T → HasType [] r T → head l ≡ head r → length (arguments (term_body l)) ≡ length (arguments (term_body r))
as_many l r T f g h k e =
    let left : f.form.saturated.0 ≡ T = typed-once [] l f.form.saturated.0 T f.form.saturated.1 h in
    let right : g.form.saturated.0 ≡ T = typed-once [] r g.form.saturated.0 T g.form.saturated.1 k in
    alike [] l r T h k (f.form.saturated.2 ∙ ap arrow_count left) (g.form.saturated.2 ∙ ap arrow_count right) f.form.parts g.form.parts e

-- Sides that are split have as many arguments.
pub split_many : (p : Pair) → IsLongPair p → IsTreatment p.left p.right Split → HasAsMany p
split_many p h (same_heads g e) = as_many p.left p.right g.past.typed.typ h.0 h.1 g.past.typed.left g.past.typed.right e

-- A long form has its term's type.
comes_typed : (t u : Term) (T : Typ) → HasType [] t T → ComesTo t (Long u) → HasType [] u T
comes_typed t u T h (is_long {n = n} b l w) =
    let own : HasType [] n T = normal_form-keeps_type [] t n T b h in
    subst (λ (V : Typ). HasType [] u V) (typed-once [] n l.typ T l.typed own) l.long_typed

-- Sides that were put in stand where they stood.
record StandsAt (s : Setting) (p : Pair) (qs : List Pair) (count : ℕ) : Type 0 where
  before : List Pair
  at : Pair
  behind : List Pair
  stands : qs ≡ before ++ at ∷ behind
  place : length before ≡ count
  left : ComesTo (with_setting s p.left) (Long at.left)
  right : ComesTo (with_setting s p.right) (Long at.right)

placed : (s : Setting) (passed : List Pair) (p : Pair) (rest : List Pair) {qs : List Pair} → AreLong (with_setting_put s (passed ++ p ∷ rest)) (AllLong qs) → StandsAt s p qs (length passed)
placed s [] p rest (both_long {qs = qs} {l = l} {r = r} f g more) = record { before = []; at = pair l r; behind = qs; stands = refl; place = refl; left = f; right = g }
placed s (x ∷ passed) p rest (both_long {qs = qs} {l = l} {r = r} f g more) =
    let later = placed s passed p rest more in
    record { before = pair l r ∷ later.before; at = later.at; behind = later.behind; stands = ap (λ ps. pair l r ∷ ps) later.stands; place = ap (λ n. suc n) later.place; left = later.left; right = later.right }

retyped-side : (sets : List TypBind) (t u : Term) (T : Typ) → HasType [] t T → ComesTo (inst_typ (composed sets) t) (Long u) → HasType [] u (typ_instance (composed sets) T)
retyped-side sets t u T h c = comes_typed (inst_typ (composed sets) t) u (typ_instance (composed sets) T) (typing-instance (composed sets) (retyped_variable (composed sets)) (retyping-respects (composed sets)) [] t T h) c

-- So have those whose heads' types were unified, each in the place of its pair.
pub unify_many : (A : Algebra) (index from : ℕ) (T U : Typ) (passed : List Pair) (p : Pair) (rest qs : List Pair) → IsLongPair p → Each IsLongPair qs → IsTreatment p.left p.right (Unify T U) → ArePut A index from T U (passed ++ p ∷ rest) qs
    → HasAsManyAt qs (length passed)
unify_many A index from T U passed p rest qs long all (constants {c = c} g e k d) h =
    let there = placed (Typs h.sets) passed p rest h.long in
    let whole = subst (λ (ps : List Pair). Each IsLongPair ps) there.stands all in
    let own = each_right there.before there.at there.behind whole in
    let typs : typ_instance (composed h.sets) T ≡ typ_instance (composed h.sets) U = unified-equal T U h.unifies in
    let lefts = head-long (composed h.sets) p.left there.at.left c T there.left long.0.form.normal e in
    let rights = head-long (composed h.sets) p.right there.at.right c U there.right long.1.form.normal k in
    let heads : head there.at.left ≡ head there.at.right = lefts ∙ (ap (Const c) typs ∙ sym rights) in
    let first = retyped-side h.sets p.left there.at.left g.past.typed.typ g.past.typed.left there.left in
    let second = retyped-side h.sets p.right there.at.right g.past.typed.typ g.past.typed.right there.right in
    record {
      before = there.before;
      at = there.at;
      behind = there.behind;
      stands = there.stands;
      place = there.place;
      many = as_many there.at.left there.at.right (typ_instance (composed h.sets) g.past.typed.typ) own.0 own.1 first second heads;
    }
  where
    each_right : (before : List Pair) (at : Pair) (behind : List Pair) → Each IsLongPair (before ++ at ∷ behind) → IsLongPair at
    each_right [] at behind h = h.0
    each_right (x ∷ before) at behind h = each_right before at behind h.1

pub unify_there : (A : Algebra) (index from : ℕ) (T U : Typ) (passed : List Pair) (p : Pair) (rest : List Pair) (o : Option Node) (held : Node) (count : ℕ) → o ≡ Some held → IsLongPair p → IsTreatment p.left p.right (Unify T U)
    → IfSome o (λ m. ArePut A index from T U (passed ++ p ∷ rest) m.pairs.items) → IfSome o (λ m. Each IsLongPair m.pairs.items) → length passed ≡ count → HasAsManyAt held.pairs.items count
unify_there A index from T U passed p rest o held count e long t put all n =
    let made : ArePut A index from T U (passed ++ p ∷ rest) held.pairs.items = subst (λ (x : Option Node). IfSome x (λ m. ArePut A index from T U (passed ++ p ∷ rest) m.pairs.items)) e put in
    let sides : Each IsLongPair held.pairs.items = subst (λ (x : Option Node). IfSome x (λ m. Each IsLongPair m.pairs.items)) e all in
    subst (λ (k : ℕ). HasAsManyAt held.pairs.items k) n (unify_many A index from T U passed p rest held.pairs.items long sides t made)

-- What a bare variable becomes has its type.
image-typed : (x i : ℕ) (T X : Typ) (u bare other : Term) → HasType [] bare X → HasType [] other X → IsEtaNormalForm bare (Var x i T) → IsEtaNormalForm other u → HasType [] u T
image-typed x i T X u bare other h k f g =
    let variable : T ≡ X = steps_keep_type [] bare (Var x i T) X f.reduces h in
    subst (λ (V : Typ). HasType [] u V) (sym variable) (steps_keep_type [] other u X g.reduces k)

pub put_typed : (l r : Term) (b : TermBind) → IsTreatment l r (Put b) → HasType [] b.image b.typ
put_typed l r b (absent {x = x} {i = i} {T = T} {other = o} {u = u} t side free g) = by side
  where
    by : IsBareSide l r (Var x i T) o → HasType [] u T
    by (left_bare f e) = image-typed x i T t.typ u l r t.left t.right f.form (subst (λ (v : Term). IsEtaNormalForm v u) e g)
    by (right_bare none f e) = image-typed x i T t.typ u r l t.right t.left f.form (subst (λ (v : Term). IsEtaNormalForm v u) e g)
