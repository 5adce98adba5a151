-- Coregular algebras: the greatest arity for the classes below a class, and what one more arity has to pass.
use Rattle.std.proofs.Common.{◌≡◌, ℕ, List, [], ◌∷◌, ◌++◌, refl, ap, sym, subst, inl, inr, ◌⊎◌, ◌∙◌, ◌≤◌, Option, Some, None, MatchOption, arith, take, length, get_or, ◌+◌, ◌<◌}
use Rattle.std.proofs.lemmas.List.{map-append}
use Rattle.pure_order_tables.specs.declared.tables.ArityEntry.{ArityEntry}
use Rattle.pure_order_tables.specs.ArityView.{arity_of, arities_of}
use Rattle.std.proofs.lemmas.Bool.Decides.{eqb_tells}
use Rattle.pure_text.specs.Lists.{IsIn, Each}
use Rattle.pure_definitions.specs.Types.Order.{Class, Arity, Algebra, IsClassBelow, AreDomainsBelow, AreCompatible, IsCoregular}
use Rattle.pure_text.proofs.ListLaws.{each_of, in-map, read_in, in-append_left, in-append_right, in_split, any_imply, each_at, each-append, any-append_left, any-append_right}
use Rattle.pure_text.proofs.LoopLaws.{longer_by}
use Rattle.pure_order_tables.specs.Arities.{IsArityBelow, IsGreatest, IsGreatestIfAny, IsKnown, with_class, with_arity}
use Rattle.pure_order_tables.specs.Checks.{IsDirected, IsDecided, PassesAt, FailsAt, FindsAt}
use Rattle.pure_definitions.proofs.OrderLaws.{domains_same, domains-trans, domains-more, below-more}
use Rattle.pure_order_tables.proofs.ArityLaws.{same_order, same_order_back, same_domains, has_more, below_before}
use Rattle.pure_order_tables.specs.Classes.{IsDeclared, Follows}

-- In a coregular algebra the arities of a constructor for classes below a class are directed.
pub directed : (A : Algebra) → IsCoregular A → (k d : ℕ) → IsDirected A k d
directed A r k d a b m n =
    let join = (r a b m.declared n.declared (m.con ∙ sym n.con)).joined d m.below n.below in
    (join.0, record { declared = join.1.declared; con = join.1.con ∙ m.con; below = join.1.class }, join.1.first, join.1.second)

-- So there is a greatest one, if there is one at all.
pub greatest : (A : Algebra) → IsDecided A → (k d : ℕ) → IsDirected A k d → (a : Arity) → IsArityBelow A k d a → (q : Arity) × IsGreatest A k d q
greatest A decided k d join a m =
    let all = over A.arities (λ b n. n) in
    (all.0, record { is = all.1; above = λ b n. all.2 b n.declared n })
  where
    is_or_not : (b : Arity) → IsIn b A.arities → IsArityBelow A k d b ⊎ ¬ IsArityBelow A k d b
    is_or_not b n = elim (eqb_tells b.con k) [
      | inl w ↦ elim (decided b.class d) [ inl below ↦ inl (record { declared = n; con = w.1; below = below }) | inr other ↦ inr (λ h. other h.below) ]
      | inr w ↦ inr (λ h. w.1 h.con)
    ]

    with_one : (x : Arity) (xs : List Arity) → ((q : Arity) × IsArityBelow A k d q × ((b : Arity) → IsIn b xs → IsArityBelow A k d b → AreDomainsBelow A b q)) → IsArityBelow A k d x ⊎ ¬ IsArityBelow A k d x
        → (q : Arity) × IsArityBelow A k d q × ((b : Arity) → IsIn b (x ∷ xs) → IsArityBelow A k d b → AreDomainsBelow A b q)
    with_one x xs w (inl here) =
        let j = join x w.0 here w.1 in
        (j.0, j.1, λ b n h. elim n [ inl e ↦ rw e j.2 | inr later ↦ domains-trans A b w.0 j.0 (w.2 b later h) j.3 ])
    with_one x xs w (inr other) = (w.0, w.1, λ b n h. elim n [ inl e ↦ absurd (other (rw e at h)) | inr later ↦ w.2 b later h ])

    over : (bs : List Arity) → ((b : Arity) → IsIn b bs → IsIn b A.arities) → (q : Arity) × IsArityBelow A k d q × ((b : Arity) → IsIn b bs → IsArityBelow A k d b → AreDomainsBelow A b q)
    over [] among = (a, m, λ b n h. absurd n)
    over (x ∷ xs) among = with_one x xs (over xs (λ b n. among b (inr n))) (is_or_not x (among x (inl refl)))

pub candidate_greatest : (A : Algebra) → IsDecided A → (k d : ℕ) → IsDirected A k d → (q : Arity) → IsGreatestIfAny A k d q → IsGreatest A k d q
candidate_greatest A decided k d join q c =
    let g = greatest A decided k d join q c.is in
    record { is = c.is; above = λ b n. domains-trans A b g.0 q (g.1.above b n) (c.above g.0 g.1) }

pub compatible_back : (A : Algebra) (a b : Arity) → a.con ≡ b.con → AreCompatible A a b → AreCompatible A b a
compatible_back A a b con w = record {
  forth = w.back;
  back = w.forth;
  joined = λ d h k. (let j = w.joined d k h in (j.0, record { declared = j.1.declared; con = j.1.con ∙ con; class = j.1.class; first = j.1.second; second = j.1.first }));
}

pub compatible_self : (A : Algebra) (a : Arity) → IsIn a A.arities → AreCompatible A a a
compatible_self A a m = record {
  forth = λ h. domains_same A a;
  back = λ h. domains_same A a;
  joined = λ d h k. (a, record { declared = m; con = refl; class = h; first = domains_same A a; second = domains_same A a });
}

-- Arities that are compatible stay so with one more.
still_compatible : (A : Algebra) (a b c : Arity) → AreCompatible A b c → AreCompatible (with_arity A a) b c
still_compatible A a b c w = record {
  forth = λ h. same_domains A a b c (w.forth (same_order_back A a h));
  back = λ h. same_domains A a c b (w.back (same_order_back A a h));
  joined = λ d h k. (let j = w.joined d (same_order_back A a h) (same_order_back A a k) in
      (j.0, record { declared = in-append_left j.0 A.arities (a ∷ []) j.1.declared; con = j.1.con; class = same_order A a j.1.class; first = same_domains A a b j.0 j.1.first; second = same_domains A a c j.0 j.1.second }));
}

-- An arity that is compatible with all of its constructor keeps the algebra coregular.
pub coregular_with : (A : Algebra) → IsCoregular A → (a : Arity) → ((b : Arity) → IsIn b A.arities → b.con ≡ a.con → AreCompatible (with_arity A a) a b) → IsCoregular (with_arity A a)
coregular_with A r a all b c m n con = elim (in_split b A.arities (a ∷ []) m) [
  | inl old ↦ elim (in_split c A.arities (a ∷ []) n) [
    | inl old' ↦ still_compatible A a b c (r b c old old' con)
    | inr w ↦ elim w [ inl e ↦ rw e (compatible_back (with_arity A a) a b (rw e at (sym con)) (all b old (rw e at con))) | inr none ↦ absurd none ]
  ]
  | inr v ↦ elim v [
    | inl e ↦ elim (in_split c A.arities (a ∷ []) n) [
      | inl old' ↦ rw e (all c old' (rw e at (sym con)))
      | inr w ↦ elim w [ inl f ↦ rw (e, f) (compatible_self (with_arity A a) a (in-append_right a A.arities (a ∷ []) (inl refl))) | inr none ↦ absurd none ]
    ]
    | inr none ↦ absurd none
  ]
]

-- one turn of the look for an arity that lacks something

pub found_pass : (Q : Arity → Type 0) (k : ℕ) (bs : List Arity) (o : Option ℕ) (b : Arity) → PassesAt Q k b → FindsAt Q k bs o → FindsAt Q k (bs ++ b ∷ []) o
found_pass Q k bs None b p f = each-append (PassesAt Q k) bs (b ∷ []) f (p, tt)
found_pass Q k bs (Some c) b p f = record {
  is = any-append_left (λ x. FailsAt Q k x × (x.class ≡ c)) bs (b ∷ []) f.is;
  least = each-append (λ x. FailsAt Q k x → c ≤ x.class) bs (b ∷ []) f.least ((λ h. absurd (h.fails (p h.con))), tt);
}

pub found_fail : (Q : Arity → Type 0) (k : ℕ) (bs : List Arity) (o : Option ℕ) (b : Arity) (c : ℕ) → FailsAt Q k b → c ≤ b.class → MatchOption o (c ≡ b.class) (λ d. (c ≤ d) × ((c ≡ d) ⊎ (c ≡ b.class))) → FindsAt Q k bs o → FindsAt Q k (bs ++ b ∷ []) (Some c)
found_fail Q k bs None b c h below is f = record {
  is = any-append_right (λ x. FailsAt Q k x × (x.class ≡ c)) bs (b ∷ []) (inl (h, sym is));
  least = each-append (λ x. FailsAt Q k x → c ≤ x.class) bs (b ∷ []) (each_of (λ x. FailsAt Q k x → c ≤ x.class) bs (λ x m n. absurd (n.fails (each_at (PassesAt Q k) bs f x m n.con)))) ((λ n. below), tt);
}
found_fail Q k bs (Some d) b c h below is f = record {
  is = elim is.1 [
    | inl e ↦ any-append_left (λ x. FailsAt Q k x × (x.class ≡ c)) bs (b ∷ []) (any_imply (λ x. FailsAt Q k x × (x.class ≡ d)) (λ x. FailsAt Q k x × (x.class ≡ c)) bs (λ x n. (n.0, n.1 ∙ sym e)) f.is)
    | inr e ↦ any-append_right (λ x. FailsAt Q k x × (x.class ≡ c)) bs (b ∷ []) (inl (h, sym e))
  ];
  least = each-append (λ x. FailsAt Q k x → c ≤ x.class) bs (b ∷ []) (each_of (λ x. FailsAt Q k x → c ≤ x.class) bs (λ x m n. (let low = each_at (λ x. FailsAt Q k x → d ≤ x.class) bs f.least x m n in let lower = is.0 in omega arith))) ((λ n. below), tt);
}

pub one_more_arity : (es : List ArityEntry) (i : ℕ) (e : ArityEntry) → i < length es → e ≡ get_or es i e → arities_of (take (i + 1) es) ≡ arities_of (take i es) ++ arity_of e ∷ []
one_more_arity es i e within read = ap arities_of (longer_by es i e within read) ∙ map-append arity_of (take i es) (e ∷ [])

-- The class of an arity of the table is declared.
pub declared_read : (cs : List Class) (es : List ArityEntry) (bs : List Arity) (i : ℕ) (e : ArityEntry) → i < length es → e ≡ get_or es i e → arities_of es ≡ bs → Each (IsKnown cs) bs → IsDeclared cs e.class
declared_read cs es bs i e within read are known = (each_at (IsKnown cs) bs known (arity_of e) (rw (← are) (in-map arity_of e es (read_in es i e within read)))).class

-- One more class keeps the algebra coregular.
pub coregular_with_class : (A : Algebra) (l : Class) → Follows [] A.classes → ¬ IsDeclared A.classes l.name → Each (IsKnown A.classes) A.arities → IsCoregular A → IsCoregular (with_class A l)
coregular_with_class A l f fresh known r a b m n con = record {
  forth = λ h. domains-more A (with_class A l) (has_more A l) a b (w.forth (before a b.class m h));
  back = λ h. domains-more A (with_class A l) (has_more A l) b a (w.back (before b a.class n h));
  joined = λ d h k. (let j = w.joined d (before a d m h) (before b d n k) in
      (j.0, record { declared = j.1.declared; con = j.1.con; class = below-more A (with_class A l) (has_more A l) j.1.class; first = domains-more A (with_class A l) (has_more A l) a j.0 j.1.first; second = domains-more A (with_class A l) (has_more A l) b j.0 j.1.second }));
}
  where
    w : AreCompatible A a b
    w = r a b m n con

    before : (x : Arity) (d : ℕ) → IsIn x A.arities → IsClassBelow (with_class A l) x.class d → IsClassBelow A x.class d
    before x d o h = below_before A l f fresh x.class d (each_at (IsKnown A.classes) A.arities known x o).class h

pub push_keeps : (A B : Algebra) (l : Class) (cs : List Class) → A ≡ B → cs ≡ A.classes ++ l ∷ [] → Follows [] A.classes → ¬ IsDeclared B.classes l.name → Each (IsKnown A.classes) A.arities → IsCoregular B → IsCoregular (record { classes = cs; arities = A.arities })
push_keeps A B l cs same longer f fresh known r = rw longer (coregular_with_class A l f (subst (λ (X : Algebra). ¬ IsDeclared X.classes l.name) (sym same) fresh) known (subst IsCoregular (sym same) r))
