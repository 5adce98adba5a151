-- Sorts and domains under the class order, and what one more class or arity changes.
use Rattle.std.proofs.Common.{◌≡◌, ℕ, List, [], ◌∷◌, length, get_or, refl, inl, inr, ◌⊎◌, Option, Some, None, MatchOption, arith, length-append}
use Rattle.std.proofs.Math.ListN.{get_or-append}
use Rattle.std.proofs.Math.Seq.{get_or-append_seam}
use Rattle.pure_text.specs.Lists.{IsIn, Each, EachTwo}
use Rattle.pure_definitions.specs.Types.Order.{Class, Arity, Algebra, IsClassBelow, IsSortBelow, HasClassBelow, AreDomainsBelow}
use Rattle.pure_text.proofs.ListLaws.{each_of, any_of, in-append_left, in-append_right, in_split, any_some, each_at, any-append_left, any_decided, each_decided}
use Rattle.pure_definitions.proofs.OrderLaws.{below-more, domains_same, domains-trans, two_imply, HasMore, domains-more}
use Rattle.pure_order_tables.specs.Classes.{IsDeclared, Follows}
use Rattle.pure_order_tables.specs.Arities.{IsArityBelow, IsGreatest, IsGreatestIfAny, IsKnown, with_class, with_arity}
use Rattle.pure_order_tables.specs.Checks.{IsCovered, IsDecided}
use Rattle.pure_order_tables.specs.ArityTable.{IsPlace}
use Rattle.pure_order_tables.proofs.BelowLaws.{below-one_more}

-- with one more arity

pub same_order : (A : Algebra) (a : Arity) {c d : ℕ} → IsClassBelow A c d → IsClassBelow (with_arity A a) c d
same_order A a h = below-more A (with_arity A a) (λ k m. m) h

pub same_order_back : (A : Algebra) (a : Arity) {c d : ℕ} → IsClassBelow (with_arity A a) c d → IsClassBelow A c d
same_order_back A a h = below-more (with_arity A a) A (λ k m. m) h

pub same_domains : (A : Algebra) (a b c : Arity) → AreDomainsBelow A b c → AreDomainsBelow (with_arity A a) b c
same_domains A a b c h = domains-more A (with_arity A a) (λ k m. m) b c h

pub same_domains_back : (A : Algebra) (a b c : Arity) → AreDomainsBelow (with_arity A a) b c → AreDomainsBelow A b c
same_domains_back A a b c h = domains-more (with_arity A a) A (λ k m. m) b c h

pub further : (A : Algebra) (a : Arity) (k d : ℕ) (q : Arity) → IsArityBelow A k d q → IsArityBelow (with_arity A a) k d q
further A a k d q h = record { declared = in-append_left q A.arities (a ∷ []) h.declared; con = h.con; below = same_order A a h.below }

pub new_or_old : (A : Algebra) (a : Arity) (k d : ℕ) (q : Arity) → IsArityBelow (with_arity A a) k d q → (q ≡ a) ⊎ IsArityBelow A k d q
new_or_old A a k d q h = elim (in_split q A.arities (a ∷ []) h.declared) [
  | inl old ↦ inr (record { declared = old; con = h.con; below = same_order_back A a h.below })
  | inr w ↦ elim w [ inl e ↦ inl e | inr none ↦ absurd none ]
]

-- An old arity that is greatest with the new one is so without.
pub greatest_before : (A : Algebra) (a : Arity) (k d : ℕ) (q : Arity) → IsArityBelow A k d q → IsGreatest (with_arity A a) k d q → IsGreatest A k d q
greatest_before A a k d q is g = record { is = is; above = λ b m. same_domains_back A a b q (g.above b (further A a k d b m)) }

-- A place stays right where the new arity isn't the greatest.
pub kept_place : (A : Algebra) (a : Arity) (k d i : ℕ) → ¬ IsGreatest (with_arity A a) k d a → IsPlace A k d i → IsPlace (with_arity A a) k d i
kept_place A a k d i not p = record { within = omega (arith, length-append A.arities (a ∷ []), p.within); greatest = λ e. rw (get_or-append A.arities (a ∷ []) e i p.within) (kept e) }
  where
    kept : (e : Arity) → IsGreatestIfAny (with_arity A a) k d (get_or A.arities i e)
    kept e = record {
      is = further A a k d (get_or A.arities i e) (p.greatest e).is;
      above = λ b g. elim (new_or_old A a k d b g.is) [
        | inl same ↦ absurd (not (rw same at g))
        | inr old ↦ same_domains A a b (get_or A.arities i e) ((p.greatest e).above b (greatest_before A a k d b old g))
      ];
    }

-- A place stays right where the new arity is below the greatest.
pub kept_covered : (A : Algebra) (a : Arity) (d i : ℕ) → IsCovered A a.con d a.domains → IsPlace A a.con d i → IsPlace (with_arity A a) a.con d i
kept_covered A a d i covered p = record { within = omega (arith, length-append A.arities (a ∷ []), p.within); greatest = λ e. rw (get_or-append A.arities (a ∷ []) e i p.within) (kept (get_or A.arities i e) (p.greatest e)) }
  where
    over : (e : Arity) → IsGreatestIfAny A a.con d e → IsGreatest (with_arity A a) a.con d a → AreDomainsBelow A a e
    over e p g =
        let q = covered.0 in
        let is_greatest : IsGreatest A a.con d q = record { is = covered.1.is; above = λ b m. domains-trans A b a q (same_domains_back A a b a (g.above b (further A a a.con d b m))) covered.2 } in
        domains-trans A a q e covered.2 (p.above q is_greatest)

    kept : (e : Arity) → IsGreatestIfAny A a.con d e → IsGreatestIfAny (with_arity A a) a.con d e
    kept e p = record {
      is = further A a a.con d e p.is;
      above = λ b g. elim (new_or_old A a a.con d b g.is) [
        | inl same ↦ rw same (same_domains A a a e (over e p (rw same at g)))
        | inr old ↦ same_domains A a b e (p.above b (greatest_before A a a.con d b old g))
      ];
    }

-- The new arity has the place where it is above the greatest, if there is one.
pub new_place : (A : Algebra) (a : Arity) (k d : ℕ) → a.con ≡ k → IsClassBelow A a.class d → ((b : Arity) → IsGreatest A k d b → AreDomainsBelow A b a) → IsPlace (with_arity A a) k d (length A.arities)
new_place A a k d named below over = record { within = omega (arith, length-append A.arities (a ∷ [])); greatest = λ e. rw (get_or-append_seam A.arities a [] e) is_greatest }
  where
    is_greatest : IsGreatestIfAny (with_arity A a) k d a
    is_greatest = record {
      is = record { declared = in-append_right a A.arities (a ∷ []) (inl refl); con = named; below = same_order A a below };
      above = λ b g. elim (new_or_old A a k d b g.is) [
        | inl same ↦ rw same (domains_same (with_arity A a) a)
        | inr old ↦ same_domains A a b a (over b (greatest_before A a k d b old g))
      ];
    }

-- Where some arity isn't below it, the new one isn't the greatest.
pub not_greatest : (A : Algebra) (a : Arity) (k d : ℕ) (b : Arity) → IsArityBelow A k d b → ¬ AreDomainsBelow A b a → ¬ IsGreatest (with_arity A a) k d a
not_greatest A a k d b m not g = not (same_domains_back A a b a (g.above b (further A a k d b m)))

-- What a class has without the new arity it has with it, where that isn't for a class below.
pub kept_apart : (A : Algebra) (a : Arity) (k d : ℕ) (o : Option ℕ) → ¬ IsArityBelow (with_arity A a) k d a → MatchOption o ((q : Arity) → ¬ IsArityBelow A k d q) (IsPlace A k d)
    → MatchOption o ((q : Arity) → ¬ IsArityBelow (with_arity A a) k d q) (IsPlace (with_arity A a) k d)
kept_apart A a k d None not p = λ q h. elim (new_or_old A a k d q h) [ inl same ↦ not (rw same at h) | inr old ↦ p q old ]
kept_apart A a k d (Some i) not p = kept_place A a k d i (λ g. not g.is) p

-- with one more class

pub declared_in : (A : Algebra) (a : Arity) → Each (IsKnown A.classes) A.arities → IsIn a A.arities → IsKnown A.classes a
declared_in A a known m = each_at (IsKnown A.classes) A.arities known a m

not_the_new : (cs : List Class) (k : Class) (c : ℕ) → ¬ IsDeclared cs k.name → IsDeclared cs c → ¬ (c ≡ k.name)
not_the_new cs k c fresh m e = fresh (rw e at m)

pub has_more : (A : Algebra) (k : Class) → HasMore A (with_class A k)
has_more A k l m = in-append_left l A.classes (k ∷ []) m

pub below_before : (A : Algebra) (k : Class) → Follows [] A.classes → ¬ IsDeclared A.classes k.name → (c d : ℕ) → IsDeclared A.classes c → IsClassBelow (with_class A k) c d → IsClassBelow A c d
below_before A k f fresh c d m h = below-one_more A (with_class A k) k refl f fresh c d (not_the_new A.classes k c fresh m) h

pub domains_before : (A : Algebra) (k : Class) → Follows [] A.classes → ¬ IsDeclared A.classes k.name → (a b : Arity) → IsKnown A.classes a → AreDomainsBelow (with_class A k) a b → AreDomainsBelow A a b
domains_before A k f fresh a b known h = two_imply (with_class A k) A a.domains b.domains (Each (IsDeclared A.classes)) known.domains (λ s r ok t. each_of (HasClassBelow A s) r (λ d m.
    let c = any_some (λ x. IsClassBelow (with_class A k) x d) s (each_at (HasClassBelow (with_class A k) s) r t d m) in
    any_of (λ x. IsClassBelow A x d) c.0 s c.1 (below_before A k f fresh c.0 d (each_at (IsDeclared A.classes) s ok c.0 c.1) c.2))) h

arity_before : (A : Algebra) (l : Class) → Follows [] A.classes → ¬ IsDeclared A.classes l.name → Each (IsKnown A.classes) A.arities → (k d : ℕ) (q : Arity) → IsArityBelow (with_class A l) k d q → IsArityBelow A k d q
arity_before A l f fresh known k d q h = record { declared = h.declared; con = h.con; below = below_before A l f fresh q.class d (declared_in A q known h.declared).class h.below }

arity_after : (A : Algebra) (l : Class) (k d : ℕ) (q : Arity) → IsArityBelow A k d q → IsArityBelow (with_class A l) k d q
arity_after A l k d q h = record { declared = h.declared; con = h.con; below = below-more A (with_class A l) (has_more A l) h.below }

pub place_after : (A : Algebra) (l : Class) → Follows [] A.classes → ¬ IsDeclared A.classes l.name → Each (IsKnown A.classes) A.arities → (k d : ℕ) (o : Option ℕ) → MatchOption o ((q : Arity) → ¬ IsArityBelow A k d q) (IsPlace A k d) → MatchOption o ((q : Arity) → ¬ IsArityBelow (with_class A l) k d q) (IsPlace (with_class A l) k d)
place_after A l f fresh known k d None p = λ q h. p q (arity_before A l f fresh known k d q h)
place_after A l f fresh known k d (Some i) p = record {
  within = p.within;
  greatest = λ e. record {
    is = arity_after A l k d (get_or A.arities i e) (p.greatest e).is;
    above = λ b g. (let old = arity_before A l f fresh known k d b g.is in
        let greatest : IsGreatest A k d b = record { is = old; above = λ c m. domains_before A l f fresh c b (declared_in A c known m.declared) (g.above c (arity_after A l k d c m)) } in
        domains-more A (with_class A l) (has_more A l) b (get_or A.arities i e) ((p.greatest e).above b greatest));
  };
}

pub known_after : (A : Algebra) (l : Class) → Each (IsKnown A.classes) A.arities → Each (IsKnown (with_class A l).classes) A.arities
known_after A l known = each_of (IsKnown (with_class A l).classes) A.arities (λ a m. (let old = declared_in A a known m in record {
  domains = each_of (Each (IsDeclared (with_class A l).classes)) a.domains (λ s n. each_of (IsDeclared (with_class A l).classes) s (λ c o. any-append_left (λ x. x.name ≡ c) A.classes (l ∷ []) (each_at (IsDeclared A.classes) s (each_at (Each (IsDeclared A.classes)) a.domains old.domains s n) c o)));
  class = any-append_left (λ x. x.name ≡ a.class) A.classes (l ∷ []) old.class;
}))

-- Where the order of classes is decided, so is that of domains.

pub two_decided : (A : Algebra) → IsDecided A → (ss rs : List (List ℕ)) → EachTwo (IsSortBelow A) ss rs ⊎ ¬ EachTwo (IsSortBelow A) ss rs
two_decided A d [] [] = inl tt
two_decided A d [] (r ∷ rs) = inr (λ h. h)
two_decided A d (s ∷ ss) [] = inr (λ h. h)
two_decided A d (s ∷ ss) (r ∷ rs) = elim (each_decided (HasClassBelow A s) (λ c. any_decided (λ b. IsClassBelow A b c) (λ b. d b c) s) r) [
  | inl h ↦ elim (two_decided A d ss rs) [ inl t ↦ inl (h, t) | inr m ↦ inr (λ k. m k.1) ]
  | inr n ↦ inr (λ k. n k.0)
]
