-- Pairs with equal sides, and theorems without them.
use Rattle.std.proofs.Common.{◌≡◌, ◌⊎◌, ℕ, ◌+◌, ◌<◌, Bool, true, false, List, [], ◌∷◌, ◌++◌, length, get_or, take, inl, inr, refl, ap, sym, subst, ◌∙◌}
use Rattle.std.specs.Prelude.{if◌then◌else◌, Result, Ok, Err, IfOk}
use Rattle.std.proofs.lemmas.List.{append-nil}
use Rattle.pure_text.specs.Lists.{IsIn}
use Rattle.pure_text.proofs.ListLaws.{each_of, each_at}
use Rattle.pure_text.proofs.LoopLaws.{longer_by}
use Rattle.pure_definitions.specs.Terms.Term.{Term, term_eq}
use Rattle.pure_definitions.specs.Models.Equality.{term_eq-same}
use Rattle.pure_logic.specs.Content.{Content}
use Rattle.pure_logic.specs.Derivable.{Pair, Theorem, IsDerivable}
use Rattle.pure_equation_laws.specs.Equated.{AreEquated, IsPairEquated}
use Rattle.pure_equation_laws.specs.Laws.Proved.{IsCertifiedPair}
use Rattle.pure_goal_laws.proofs.PairLaws.{dropped_is_derivable}
use Rattle.pure_goal_laws.proofs.StateLaws.{pairs_are_certified}
use Rattle.pure_typ.specs.declared.grow.Grow.{Grow}
use Rattle.pure_typ.specs.declared.grow.Grow.TheVariants.{Big, Memory}
use Rattle.pure_theorem.specs.Facts.{IsTheoryContent}
use Rattle.pure_pairs.specs.Trivial.{without_trivial, dropped, IsTheoremGrown}

-- The loop: one pair more.
kept-if : (b : Bool) (p : Pair) (xs ys : List Pair) → (if b then (xs ++ ys) else (p ∷ (xs ++ ys))) ≡ (if b then xs else (p ∷ xs)) ++ ys
kept-if true p xs ys = refl
kept-if false p xs ys = refl

kept-append : (xs ys : List Pair) → without_trivial (xs ++ ys) ≡ without_trivial xs ++ without_trivial ys
kept-append [] ys = refl
kept-append (p ∷ xs) ys = ap (λ (zs : List Pair). if term_eq p.left p.right then zs else (p ∷ zs)) (kept-append xs ys) ∙ kept-if (term_eq p.left p.right) p (without_trivial xs) (without_trivial ys)

pub kept_turn : (ps : List Pair) (i : ℕ) (r : Pair) (old new : List Pair) → i < length ps → r ≡ get_or ps i r → old ≡ without_trivial (take i ps) → new ≡ old ++ without_trivial (r ∷ []) → new ≡ without_trivial (take (i + 1) ps)
kept_turn ps i r old new within read e f =
    f ∙ (ap (λ (zs : List Pair). zs ++ without_trivial (r ∷ [])) e ∙ (sym (kept-append (take i ps) (r ∷ [])) ∙ ap without_trivial (sym (longer_by ps i r within read))))

pub kept_one : (p q : Pair) (old new : List Pair) → term_eq p.left p.right ≡ false → q ≡ p → new ≡ old ++ q ∷ [] → new ≡ old ++ without_trivial (p ∷ [])
kept_one p q old new e f g = rw e (rw f at g)

pub kept_none : (p : Pair) (old : List Pair) → term_eq p.left p.right ≡ true → old ≡ old ++ without_trivial (p ∷ [])
kept_none p old e = rw e (sym (append-nil old))

-- What is kept stands among the pairs; and what isn't has equal sides.
in-if : (b : Bool) (p q : Pair) (xs ys : List Pair) → IsIn q (if b then xs else (p ∷ xs)) → (IsIn q xs → IsIn q ys) → IsIn q (p ∷ ys)
in-if true p q xs ys m f = inr (f m)
in-if false p q xs ys (inl e) f = inl e
in-if false p q xs ys (inr m) f = inr (f m)

in-kept : (ps : List Pair) (q : Pair) → IsIn q (without_trivial ps) → IsIn q ps
in-kept [] q m = absurd m
in-kept (p ∷ ps) q m = in-if (term_eq p.left p.right) p q (without_trivial ps) ps m (λ n. in-kept ps q n)

later-if : (b : Bool) (p q : Pair) (xs : List Pair) → IsIn q xs → IsIn q (if b then xs else (p ∷ xs))
later-if true p q xs m = m
later-if false p q xs m = inr m

here-if : (b : Bool) (p q : Pair) (xs : List Pair) → q ≡ p → (b ≡ true → p.left ≡ p.right) → IsIn q (if b then xs else (p ∷ xs)) ⊎ (q.left ≡ q.right)
here-if true p q xs e f = inr (subst (λ (r : Pair). r.left ≡ r.right) (sym e) (f refl))
here-if false p q xs e f = inl (inl e)

later-either : (b : Bool) (p q : Pair) (xs : List Pair) → IsIn q xs ⊎ (q.left ≡ q.right) → IsIn q (if b then xs else (p ∷ xs)) ⊎ (q.left ≡ q.right)
later-either b p q xs (inl m) = inl (later-if b p q xs m)
later-either b p q xs (inr e) = inr e

kept-or-equal : (ps : List Pair) (q : Pair) → IsIn q ps → IsIn q (without_trivial ps) ⊎ (q.left ≡ q.right)
kept-or-equal [] q m = absurd m
kept-or-equal (p ∷ ps) q (inl e) = here-if (term_eq p.left p.right) p q (without_trivial ps) e (λ f. term_eq-same p.left p.right f)
kept-or-equal (p ∷ ps) q (inr m) = later-either (term_eq p.left p.right) p q (without_trivial ps) (kept-or-equal ps q m)

pub equal-equated : (Q : Content) (others : List Pair) (p : Pair) → IsCertifiedPair Q p → p.left ≡ p.right → IsPairEquated Q.declarations others p
equal-equated Q others p (T, l, r) e =
    let own : AreEquated Q.declarations others [] T p.left p.left = AreEquated.same (record { parts = l.certified.parts; typed = l.typed }) in
    (T, subst (λ (t : Term). AreEquated Q.declarations others [] T p.left t) e own)

pub dropped-derivable : (Q : Content) → IsTheoryContent Q → (th : Theorem) → IsDerivable Q th → IsDerivable Q (dropped th)
dropped-derivable Q q th h =
    let certified = pairs_are_certified Q q.content q.above_pure th h in
    dropped_is_derivable Q q.content q.above_pure th (without_trivial th.pairs)
    (each_of (λ p. IsIn p th.pairs) (without_trivial th.pairs) (λ p m. in-kept th.pairs p m))
    (each_of (λ p. IsIn p (without_trivial th.pairs) ⊎ IsPairEquated Q.declarations (without_trivial th.pairs) p) th.pairs
    (λ p m. by p (kept-or-equal th.pairs p m) (each_at (IsCertifiedPair Q) th.pairs certified p m)))
    h
  where
    by : (p : Pair) → IsIn p (without_trivial th.pairs) ⊎ (p.left ≡ p.right) → IsCertifiedPair Q p → IsIn p (without_trivial th.pairs) ⊎ IsPairEquated Q.declarations (without_trivial th.pairs) p
    by p (inl m) c = inl m
    by p (inr e) c = inr (equal-equated Q (without_trivial th.pairs) p c e)

-- An answer with another word for what it gives, and what holds of what is given.
pub grown_along : (P R : Theorem → Type 0) → ((th : Theorem) → P th → R th) → (r : Result Theorem Grow) → IsTheoremGrown P r → IsTheoremGrown R r
grown_along P R f (Ok th) h = (f th h.0, h.1)
grown_along P R f (Err Big) h = (h.0, f h.0 h.1, h.2)
grown_along P R f (Err Memory) h = tt

pub grown_holds : (P D : Theorem → Type 0) → ((th : Theorem) → P th → D th) → (r : Result Theorem Grow) → IsTheoremGrown P r → IfOk r D
grown_holds P D f (Ok th) h = f th h.0
grown_holds P D f (Err fault) h = tt
