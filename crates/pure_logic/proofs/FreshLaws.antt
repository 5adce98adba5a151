-- Fresh variables: a name above all names in terms; a map past an abstraction over a variable that is renamed to a fresh one; and a map that is changed at a variable that doesn't occur.
use Rattle.std.proofs.Common.{◌≡◌, ◌≤◌, ◌+◌, ℕ, List, [], ◌∷◌, map, Bool, true, false, cond, nat_lt, inl, inr, refl, ap, sym, ◌∙◌, arith}
use Rattle.pure_text.specs.Lists.{Each}
use Rattle.pure_definitions.specs.Types.Typ.{Typ}
use Rattle.pure_definitions.specs.Terms.Term.{Term, Const, Free, Var, Bound, Abs, App, term_eq}
use Rattle.pure_definitions.specs.Terms.Bounds.{IsClosed, subst_under, bind_under, Occurs}
use Rattle.pure_definitions.specs.Terms.Conditions.{IsVariable}
use Rattle.pure_definitions.specs.Terms.Subst.{typ_instance, term_instance}
use Rattle.pure_definitions.proofs.BindLemmas.{bind_under-same}
use Rattle.pure_definitions.proofs.LiftLaws.{subst-lift}
use Rattle.pure_term_laws.specs.LawsMaps.{AreImagesClosed, sent}
use Rattle.pure_term_laws.proofs.BoundLaws.{bind-subst}
use Rattle.pure_term_laws.proofs.MapLaws.{instance-sent_elsewhere}
use Rattle.pure_term_laws.proofs.TypingLaws.{lift-closed}

-- a number above the names of the term's fixed variables, and of those of a list of terms
abbrev pub above_names : Term → ℕ
above_names (Free x T) = x + 1
above_names (Abs T b) = above_names b
above_names (App f a) = above_names f + above_names a
above_names _ = 0

abbrev pub above_all : List Term → ℕ
above_all [] = 0
above_all (t ∷ ts) = above_names t + above_all ts

pub fresh-above : (n : ℕ) (T : Typ) (t : Term) → above_names t ≤ n → ¬ Occurs (Free n T) t
fresh-above n T (Const c U) h o = cc
fresh-above n T (Free x U) h o = let same : n ≡ x = cc in absurd (omega arith)
fresh-above n T (Var x i U) h o = cc
fresh-above n T (Bound p) h o = cc
fresh-above n T (Abs U b) h (inl e) = cc
fresh-above n T (Abs U b) h (inr o) = fresh-above n T b h o
fresh-above n T (App f a) h (inl e) = cc
fresh-above n T (App f a) h (inr (inl o)) = fresh-above n T f (omega arith) o
fresh-above n T (App f a) h (inr (inr o)) = fresh-above n T a (omega arith) o

pub fresh-above_all : (n : ℕ) (T : Typ) (ts : List Term) → above_all ts ≤ n → Each (λ t. ¬ Occurs (Free n T) t) ts
fresh-above_all n T [] h = tt
fresh-above_all n T (t ∷ ts) h = (fresh-above n T t (omega arith), fresh-above_all n T ts (omega arith))

-- Abstraction over a variable that doesn't occur changes no closed term.
pub bind-fresh : (n : ℕ) (w t : Term) → IsVariable w → IsClosed t → ¬ Occurs w t → bind_under n w t ≡ t
bind-fresh n w t is closed fresh =
    let still : subst_under n w t ≡ t = ap (subst_under n w) (sym (lift-closed 1 n t closed)) ∙ subst-lift n w t in
    ap (bind_under n w) (sym still) ∙ bind-subst n w t is fresh

module _ (typs : Typ → Typ) (terms : Term → Term) (closed : AreImagesClosed terms) (v w : Term) (is : IsVariable w) where
  renamed-chosen : (n : ℕ) (u : Term) (b : Bool) → term_instance typs terms u ≡ terms u → bind_under n w (terms u) ≡ terms u
      → term_instance typs terms (cond b (Bound n) u) ≡ bind_under n w (cond b w (terms u))
  renamed-chosen n u true whole still = sym (bind_under-same n w w is refl)
  renamed-chosen n u false whole still = whole ∙ sym still

  -- Maps past an abstraction over v, where v is renamed to a variable that doesn't occur in the instance.
  pub instance-renamed : (n : ℕ) (t : Term) → ¬ Occurs w (term_instance typs terms t) → term_instance typs terms (bind_under n v t) ≡ bind_under n w (term_instance typs (sent v w terms) t)
  instance-renamed n (Const c T) fresh = refl
  instance-renamed n (Free x T) fresh = renamed-chosen n (Free x T) (term_eq v (Free x T)) refl (bind-fresh n w (terms (Free x T)) is (closed.fixed x T) fresh)
  instance-renamed n (Var x i T) fresh = renamed-chosen n (Var x i T) (term_eq v (Var x i T)) refl (bind-fresh n w (terms (Var x i T)) is (closed.schematic x i T) fresh)
  instance-renamed n (Bound p) fresh = by_cases (nat_lt p n)
    where
      by_cases : (b : Bool) → term_instance typs terms (cond b (Bound p) (Bound (p + 1))) ≡ cond b (Bound p) (Bound (p + 1))
      by_cases true = refl
      by_cases false = refl
  instance-renamed n (Abs T b) fresh = ap (Abs (typ_instance typs T)) (instance-renamed (n + 1) b (λ o. fresh (inr o)))
  instance-renamed n (App f a) fresh = λ l. App (instance-renamed n f (λ o. fresh (inr (inl o))) l) (instance-renamed n a (λ o. fresh (inr (inr o))) l)

-- A map may be changed at a variable that doesn't occur in the term.
pub instances-unchanged : (typs : Typ → Typ) (terms : Term → Term) (v w : Term) (ts : List Term) → Each (λ t. ¬ Occurs v t) ts → map (term_instance typs (sent v w terms)) ts ≡ map (term_instance typs terms) ts
instances-unchanged typs terms v w [] none = refl
instances-unchanged typs terms v w (t ∷ ts) none = λ l. instance-sent_elsewhere typs terms v w t none.0 l ∷ instances-unchanged typs terms v w ts none.1 l
