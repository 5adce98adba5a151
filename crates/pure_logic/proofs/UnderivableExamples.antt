-- A proposition that isn't derivable alone: over a content without connectives each certified term may be taken as false, and then what a tree concludes from true hypotheses without promises is true.
use Rattle.std.proofs.Common.{◌≡◌, ℕ, List, [], ◌∷◌, ◌++◌, Bool, true, false, not, ◌||◌, cond, nat_eq, nat_lt, inl, inr, refl, ap, sym, ◌∙◌}
use Rattle.std.specs.Prelude.{◌+◌, ◌-◌, if◌then◌else◌}
use Rattle.pure_text.specs.Lists.{IsIn, Each}
use Rattle.pure_text.proofs.ListLaws.{each-left, each-right}
use Rattle.pure_definitions.specs.Names.{Label, all_name, imp_name, eq_name}
use Rattle.pure_definitions.specs.Types.Typ.{Typ, prop}
use Rattle.pure_definitions.specs.Terms.Term.{Term, Const, Free, Var, Bound, Abs, App, term_eq}
use Rattle.pure_definitions.specs.Terms.Bounds.{lift_term, subst_under, subst_bound, bind_under}
use Rattle.pure_definitions.specs.Declarations.Decl.{ConstDecl, AxiomDecl}
use Rattle.pure_definitions.specs.Declarations.Certified.{HasCertifiedParts}
use Rattle.pure_definitions.proofs.BindLemmas.{abstract_over-variable}
use Rattle.pure_logic.specs.Connectives.{all_of, all, imp, eq}
use Rattle.pure_logic.specs.Content.{IsContent, IsProposition, AreNamedAlike, AreLabelledAlike}
use Rattle.pure_logic.specs.Tree.{Tree, Axiom, Promise, Assume, AllIntro, AllElim, ImpliesIntro, ImpliesElim, Beta, Refl, Subst, Ext, Iff, hyps_of, rests_of}
use Rattle.pure_logic.specs.Concludes.{Concludes}
use Rattle.pure_logic.specs.Examples.Theory.{promised}
use Rattle.pure_logic.specs.Examples.Underivable.{stated, bare, UnderivableExample}
use Rattle.pure_logic.proofs.ChainLaws.{chain_is_derivable}
use Rattle.pure_logic.proofs.ConnectiveLaws.{certified_of, itself-instance}
use Rattle.pure_logic.proofs.ContentLaws.{named_alike, both_promises, named_alike-so, both_promises-so, apart-once}
use Rattle.pure_logic.proofs.DerivableLaws.{derivable_alone_exactly, promise_is_derivable}
use Rattle.pure_logic.proofs.DischargeLaws.{restored}

-- what a term is worth: a connective that waits for its arguments, or a truth value
data Worth : Type 0 where
  Implies : Worth
  ImpliedBy : Bool → Worth
  Equals : Worth
  EqualTo : Worth
  Every : Worth
  Truth : Bool → Worth

abbrev truth : Worth → Bool
truth (Truth b) = b
truth _ = false

abbrev applied : Worth → Worth → Worth
applied Implies w = ImpliedBy (truth w)
applied (ImpliedBy b) w = Truth (not b || truth w)
applied Equals w = EqualTo
applied EqualTo w = Truth true
applied Every w = Truth (truth w)
applied (Truth b) w = Truth false

abbrev const_worth : ℕ → Worth
const_worth c = if nat_eq c imp_name then Implies else (if nat_eq c eq_name then Equals else (if nat_eq c all_name then Every else Truth false))

-- Equations are true, a quantification is worth what its body is, and all but connectives is false.
abbrev worth : Term → Worth
worth (Const c T) = const_worth c
worth (Free x T) = Truth false
worth (Var x i T) = Truth false
worth (Bound n) = Truth false
worth (Abs T b) = worth b
worth (App f a) = applied (worth f) (worth a)

either-false : (b : Bool) (t u : Term) → worth t ≡ Truth false → worth u ≡ Truth false → worth (cond b t u) ≡ Truth false
either-false true t u h k = h
either-false false t u h k = k

worth-lift : (by from : ℕ) (t : Term) → worth (lift_term by from t) ≡ worth t
worth-lift by from (Const c T) = refl
worth-lift by from (Free x T) = refl
worth-lift by from (Var x i T) = refl
worth-lift by from (Bound p) = either-false (nat_lt p from) (Bound p) (Bound (p + by)) refl refl
worth-lift by from (Abs T b) = worth-lift by (from + 1) b
worth-lift by from (App f a) = λ l. applied (worth-lift by from f l) (worth-lift by from a l)

-- A body is worth the same with what is false in its bound variable's place.
worth-subst : (n : ℕ) (arg b : Term) → worth arg ≡ Truth false → worth (subst_under n arg b) ≡ worth b
worth-subst n arg (Const c T) h = refl
worth-subst n arg (Free x T) h = refl
worth-subst n arg (Var x i T) h = refl
worth-subst n arg (Bound p) h =
    either-false (nat_lt p n) (Bound p) (cond (nat_eq p n) (lift_term n 0 arg) (Bound (p - 1))) refl
    (either-false (nat_eq p n) (lift_term n 0 arg) (Bound (p - 1)) (worth-lift n 0 arg ∙ h) refl)
worth-subst n arg (Abs T b) h = worth-subst (n + 1) arg b h
worth-subst n arg (App f a) h = λ l. applied (worth-subst n arg f h l) (worth-subst n arg a h l)

worth-bind : (n : ℕ) (v t : Term) → worth (bind_under n v t) ≡ worth t
worth-bind n v (Const c T) = refl
worth-bind n v (Free x T) = either-false (term_eq v (Free x T)) (Bound n) (Free x T) refl refl
worth-bind n v (Var x i T) = either-false (term_eq v (Var x i T)) (Bound n) (Var x i T) refl refl
worth-bind n v (Bound p) = either-false (nat_lt p n) (Bound p) (Bound (p + 1)) refl refl
worth-bind n v (Abs T b) = worth-bind (n + 1) v b
worth-bind n v (App f a) = λ l. applied (worth-bind n v f l) (worth-bind n v a l)

only_const : (c : ℕ) (T : Typ) → IsIn (ConstDecl c T) bare.declarations → c ≡ 30
only_const c T (inl e) = absurd (cc)
only_const c T (inr (inl e)) = cc
only_const c T (inr (inr (inl e))) = absurd (cc)
only_const c T (inr (inr (inr absent))) = absurd absent

no_axiom : (n : ℕ) (A : Term) → ¬ IsIn (AxiomDecl n A) bare.declarations
no_axiom n A (inl e) = cc
no_axiom n A (inr (inl e)) = cc
no_axiom n A (inr (inr (inl e))) = cc
no_axiom n A (inr (inr (inr absent))) = absent

-- Each certified term is false.
certified-false : (t : Term) → HasCertifiedParts bare.declarations t → worth t ≡ Truth false
certified-false (Const c T) h = rw (only_const c h.1.0 h.1.1) refl
certified-false (Free x T) h = refl
certified-false (Var x i T) h = refl
certified-false (Bound n) h = refl
certified-false (Abs T b) h = certified-false b h.1
certified-false (App f a) h = rw (certified-false f h.0) refl

abbrev IsTrueTerm : Term → Type 0
IsTrueTerm A = truth (worth A) ≡ true

none-left : (xs ys : List Label) → (xs ++ ys) ≡ [] → xs ≡ []
none-left [] ys h = refl
none-left (x ∷ xs) ys h = absurd (cc)

none-right : (xs ys : List Label) → (xs ++ ys) ≡ [] → ys ≡ []
none-right [] ys h = h
none-right (x ∷ xs) ys h = absurd (cc)

implied : (a b : Bool) → (a ≡ true → b ≡ true) → (not a || b) ≡ true
implied true b h = h refl
implied false b h = refl

eliminated : (a b : Bool) → (not a || b) ≡ true → a ≡ true → b ≡ true
eliminated true b h k = h
eliminated false b h k = absurd (cc)

-- What a tree concludes from true hypotheses without promises is true.
sound : (d : Tree) (C : Term) → Concludes bare d C → Each IsTrueTerm (hyps_of d) → rests_of d ≡ [] → IsTrueTerm C
sound (Axiom n typs terms) C h hyps rests = absurd (no_axiom n h.0 h.1)
sound (Promise label typs terms) C h hyps rests = absurd (cc)
sound (Assume A) C h hyps rests = rw h.1 hyps.0
sound (AllIntro x d) C h hyps rests =
    let whole : worth C ≡ Truth (truth (worth h.1)) = ap worth (h.6 ∙ ap (all_of h.0) (abstract_over-variable h.1 x h.3)) ∙ ap (λ w. Truth (truth w)) (worth-bind 0 x h.1) in
    ap truth whole ∙ sound d h.1 h.2 hyps rests
sound (AllElim t d) C h hyps rests =
    ap (λ u. truth (worth u)) h.4 ∙ (ap truth (worth-subst 0 t h.1 (certified-false t h.3.certified.parts)) ∙ sound d (all h.0 h.1) h.2 hyps rests)
sound (ImpliesIntro A d) C h hyps rests =
    ap (λ u. truth (worth u)) h.3 ∙ implied (truth (worth A)) (truth (worth h.0)) (λ holds. sound d h.0 h.1 (restored IsTrueTerm A (hyps_of d) holds hyps) rests)
sound (ImpliesElim d e) C h hyps rests =
    eliminated (truth (worth h.0)) (truth (worth C)) (sound d (imp h.0 C) h.1 (each-left IsTrueTerm (hyps_of d) (hyps_of e) hyps) (none-left (rests_of d) (rests_of e) rests))
    (sound e h.0 h.2 (each-right IsTrueTerm (hyps_of d) (hyps_of e) hyps) (none-right (rests_of d) (rests_of e) rests))
sound (Beta redex) C h hyps rests = ap (λ u. truth (worth u)) h.6
sound (Refl t) C h hyps rests = ap (λ u. truth (worth u)) h.2
sound (Subst f x y) C h hyps rests =
    let left = worth-subst 0 x h.1 (certified-false x h.4.certified.parts) in
    let right = worth-subst 0 y h.1 (certified-false y h.5.certified.parts) in
    ap (λ u. truth (worth u)) h.6 ∙ implied (truth (worth (subst_bound h.1 x))) (truth (worth (subst_bound h.1 y))) (λ holds. ap truth right ∙ (sym (ap truth left) ∙ holds))
sound (Ext f g) C h hyps rests = ap (λ u. truth (worth u)) h.4 ∙ implied (truth (worth (all h.0 (eq h.1 (App f (Bound 0)) (App g (Bound 0)))))) true (λ holds. refl)
sound (Iff A B) C h hyps rests =
    ap (λ u. truth (worth u)) h.2 ∙ implied (truth (worth (imp A B))) (truth (worth (imp (imp B A) (eq prop A B)))) (λ holds. implied (truth (worth (imp B A))) true (λ also. refl))

stated-of : IsProposition bare stated
stated-of = certified_of bare stated prop ((inl refl, tt), (prop, inr (inl refl), itself-instance bare prop)) refl

bare_is_content : IsContent bare
bare_is_content = record {
  named_once = apart-once AreNamedAlike named_alike named_alike-so bare.declarations refl;
  labelled_once = apart-once AreLabelledAlike both_promises both_promises-so bare.declarations refl;
  well_formed = (tt, (tt, (record { proposition = stated-of; schematic = tt }, tt)));
  coregular = λ a b m. absurd m;
}

pub underivable_example : UnderivableExample
underivable_example = (
  bare_is_content,
  stated-of,
  record { tree = Assume stated; conclusion = stated; concludes = (stated-of, refl); under_pairs = refl; hyps = (inl refl, tt); rests = tt },
  promise_is_derivable bare 51 promised stated (inr (inr (inl refl))),
  chain_is_derivable bare (stated ∷ []) stated (stated-of, tt) (inl refl),
  λ h. (let k = (derivable_alone_exactly bare stated).0 h in let holds = sound k.0 stated k.1 (rw k.2 tt) k.3 in cc),
)
