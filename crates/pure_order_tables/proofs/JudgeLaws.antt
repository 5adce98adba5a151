-- The judgement of a new arity in a coregular algebra.
use Rattle.std.proofs.Common.{◌≡◌, ℕ, ◌+◌, ◌<◌, ◌≤◌, List, [], ◌∷◌, ◌++◌, length, refl, sym, inl, inr, ◌⊎◌, arith, Option, Some, None, MatchOption, Bool, IsTrue}
use Rattle.pure_text.specs.Lists.{IsIn, Each}
use Rattle.pure_text.proofs.ListLaws.{in-append_left, in-append_right, in_split, any_some, each_at, each_of}
use Rattle.pure_definitions.specs.Types.Order.{Arity, Algebra, IsClassBelow, AreDomainsBelow, IsJoin, AreCompatible, IsCoregular, itself}
use Rattle.pure_definitions.proofs.OrderLaws.{below-trans, below_same, domains_same, domains-trans}
use Rattle.pure_order_tables.specs.Rows.{Holds}
use Rattle.pure_order_tables.specs.Classes.{Follows, IsDeclared}
use Rattle.pure_order_tables.specs.ClassTable.{IsNumber, name_at}
use Rattle.pure_order_tables.specs.Arities.{IsArityBelow, IsGreatestIfAny, IsAboveGreatest, IsKnown, IsNotAbove, with_arity}
use Rattle.pure_order_tables.specs.Checks.{AreAllBelow, AreGreater, FailsAt, FindsAt, IsCovered, IsDecided, IsLeastInConflict, PassesAt}
use Rattle.pure_order_tables.specs.ArityTable.{IsPlace}
use Rattle.pure_order_tables.specs.Uncovered.{AreElsewhere, Clears, Extends, IsCoveredBy, IsUncovered}
use Rattle.pure_order_tables.proofs.ArityLaws.{same_order, same_order_back, same_domains, same_domains_back, two_decided}
use Rattle.pure_order_tables.proofs.BelowLaws.{declared_at, reaches}
use Rattle.pure_order_tables.proofs.ClassTableLaws.{last_or_before, number_of}
use Rattle.pure_order_tables.proofs.CoregularLaws.{directed, greatest, compatible_self, coregular_with}
use Rattle.pure_order_tables.proofs.ConflictLaws.{falls, joins}

pub extends_itself : (A : Algebra) → Extends A A
extends_itself A = record { classes = λ k m. m; up = λ q d e m h k. below-trans h k }

-- the number of a class above a declared one
number_above : (A : Algebra) → Follows [] A.classes → (c d : ℕ) → IsDeclared A.classes c → IsClassBelow A c d → (n : ℕ) × IsNumber A.classes d n
number_above A f c d known h = number_of A.classes d (elim (reaches A f h) [ inl e ↦ declared_at A.classes c d e known | inr m ↦ m ])

-- What some arity covers the greatest covers, if there is one.
covered_any : (A : Algebra) → IsDecided A → (a : Arity) (d : ℕ) → ((c : Arity) × IsGreatestIfAny A a.con d c) → IsCoveredBy A A a d → IsCovered A a.con d a.domains
covered_any A decided a d c w = elim (two_decided A decided w.0.domains c.0.domains) [
  | inl under ↦ (c.0, c.1, domains-trans A a w.0 c.0 w.2 under)
  | inr other ↦ (w.0, record { is = w.1; above = λ b g. absurd (other (domains-trans A w.0 b c.0 (g.above w.0 w.1) (c.1.above b g))) }, w.2)
]

-- The numbers before an end are gone through: at those in the row the new arity is the greatest, or something else holds.
pub record AreGreaterSoFar (A : Algebra) (a : Arity) (N : ℕ → Type 0) (row ds : List ℕ) (i : ℕ) : Type 0 where
  pub above : (d : ℕ) → IsIn d ds → IsClassBelow A a.class d × IsAboveGreatest A a.con d a.domains
  pub seen : (n : ℕ) → n < i → Holds row n → IsIn (name_at A.classes n) ds ⊎ N (name_at A.classes n)

pub greater_put : (A : Algebra) (a : Arity) (N : ℕ → Type 0) (row ds ds' : List ℕ) (i r : ℕ) → IsUncovered A A a row → Holds row i → r ≡ name_at A.classes i → ds' ≡ ds ++ r ∷ [] → IsAboveGreatest A a.con r a.domains → AreGreaterSoFar A a N row ds i → AreGreaterSoFar A a N row ds' (i + 1)
greater_put A a N row ds ds' i r u held is longer over s = rw longer (record {
  above = λ d m. elim (in_split d ds (r ∷ []) m) [
    | inl old ↦ s.above d old
    | inr w ↦ elim w [ inl e ↦ rw e (rw is (u.above i held).1, over) | inr none ↦ absurd none ]
  ];
  seen = λ n before h. elim (last_or_before n i before) [
    | inl early ↦ elim (s.seen n early h) [ inl m ↦ inl (in-append_left (name_at A.classes n) ds (r ∷ []) m) | inr other ↦ inr other ]
    | inr e ↦ inl (in-append_right (name_at A.classes n) ds (r ∷ []) (inl (rw e (sym is))))
  ];
})

pub greater_left : (A : Algebra) (a : Arity) (N : ℕ → Type 0) (row ds : List ℕ) (i r : ℕ) → r ≡ name_at A.classes i → N r → AreGreaterSoFar A a N row ds i → AreGreaterSoFar A a N row ds (i + 1)
greater_left A a N row ds i r is other s = record {
  above = s.above;
  seen = λ n before h. elim (last_or_before n i before) [ inl early ↦ s.seen n early h | inr e ↦ inr (rw (e, ← is) other) ];
}

pub greater_passed : (A : Algebra) (a : Arity) (N : ℕ → Type 0) (row ds : List ℕ) (i : ℕ) → ¬ Holds row i → AreGreaterSoFar A a N row ds i → AreGreaterSoFar A a N row ds (i + 1)
greater_passed A a N row ds i not s = record {
  above = s.above;
  seen = λ n before h. elim (last_or_before n i before) [ inl early ↦ s.seen n early h | inr e ↦ absurd (not (rw e at h)) ];
}

pub greater_all : (A : Algebra) → Follows [] A.classes → IsDecided A → ((k d : ℕ) (q : Arity) → IsArityBelow A k d q → (c : Arity) × IsGreatestIfAny A k d c) → (a : Arity) (N : ℕ → Type 0) (row ds : List ℕ) (i : ℕ) → IsDeclared A.classes a.class → IsUncovered A A a row → length A.classes ≤ i
    → ((d : ℕ) → N d → IsNotAbove A a.con d a.domains) → AreGreaterSoFar A a N row ds i → AreGreater A a ds
greater_all A f decided candidates a N row ds i known u end other s = record {
  above = s.above;
  kept = λ d h. (let n = number_above A f a.class d known h in
      elim (u.rest n.0 n.1.within (rw n.1.named h)) [
        | inl held ↦ elim (s.seen n.0 (let w = n.1.within in omega arith) held) [ inl m ↦ inl (rw n.1.named at m) | inr o ↦ inr (inr (other d (rw n.1.named at o))) ]
        | inr covered ↦ (let w : IsCoveredBy A A a d = rw n.1.named at covered in inr (inl (covered_any A decided a d (candidates a.con d w.0 w.1) w)))
      ]);
}

-- The constructor has no arity for classes below those in the row before an end.
abbrev pub IsBareBefore : Algebra → ℕ → List ℕ → ℕ → Type 0
IsBareBefore A k row end = (n : ℕ) → n < end → Holds row n → (q : Arity) → ¬ IsArityBelow A k (name_at A.classes n) q

pub bare_put : (A : Algebra) (k : ℕ) (row : List ℕ) (i r : ℕ) (place : Option ℕ) (b b' : Bool) → r ≡ name_at A.classes i → MatchOption place ((q : Arity) → ¬ IsArityBelow A k r q) (IsPlace A k r) → (IsTrue b' → IsTrue b × (place ≡ None)) → (IsTrue b → IsBareBefore A k row i) → IsTrue b' → IsBareBefore A k row (i + 1)
bare_put A k row i r place b b' is at next before t n within h = elim (last_or_before n i within) [
  | inl early ↦ before (next t).0 n early h
  | inr e ↦ rw (e, ← is) (rw (next t).1 at at)
]

pub bare_passed : (A : Algebra) (k : ℕ) (row : List ℕ) (i : ℕ) → ¬ Holds row i → IsBareBefore A k row i → IsBareBefore A k row (i + 1)
bare_passed A k row i not before n within h = elim (last_or_before n i within) [ inl early ↦ before n early h | inr e ↦ absurd (not (rw e at h)) ]

-- So its arities are elsewhere.
pub elsewhere : (A : Algebra) (k : ℕ) (row : List ℕ) → Each (IsKnown A.classes) A.arities → IsBareBefore A k row (length A.classes) → AreElsewhere A k row A.arities
elsewhere A k row known none = each_of (λ b. b.con ≡ k → (n : ℕ) × IsNumber A.classes b.class n × ¬ Holds row n) A.arities (λ b m con.
    let n = number_of A.classes b.class (each_at (IsKnown A.classes) A.arities known b m).class in
    (n.0, n.1, λ h. none n.0 n.1.within h b (record { declared = m; con = con; below = below_same A b.class (name_at A.classes n.0) (sym n.1.named) })))

-- Beside no arity of its constructor a new arity keeps the algebra coregular.
pub bare_coregular : (A : Algebra) → IsCoregular A → (a : Arity) → ((d : ℕ) (q : Arity) → ¬ IsArityBelow A a.con d q) → IsCoregular (with_arity A a)
bare_coregular A r a none = coregular_with A r a (λ b m con. absurd (none b.class b (record { declared = m; con = con; below = itself })))

-- In a coregular algebra all are below what is above the greatest.
pub all_below : (A : Algebra) → IsDecided A → IsCoregular A → (a : Arity) (d : ℕ) → IsAboveGreatest A a.con d a.domains → AreAllBelow A a d
all_below A decided r a d over b m =
    let g = greatest A decided a.con d (directed A r a.con d) b m in
    domains-trans A b g.0 a (g.1.above b m) (over g.0 g.1)

-- The new arity is the join where it is above the other.
new_join : (A : Algebra) (a b : Arity) (d : ℕ) → IsClassBelow A a.class d → AreDomainsBelow A b a → (q : Arity) × IsJoin (with_arity A a) a b d q
new_join A a b d h over = (a, record { declared = in-append_right a A.arities (a ∷ []) (inl refl); con = refl; class = same_order A a h; first = domains_same (with_arity A a) a; second = same_domains A a b a over })

old_join : (A : Algebra) → IsCoregular A → (a b : Arity) (d : ℕ) → IsIn b A.arities → b.con ≡ a.con → IsClassBelow A b.class d → IsCoveredBy A A a d → (q : Arity) × IsJoin (with_arity A a) a b d q
old_join A r a b d m con h covered = joins A A (A.arities ++ a ∷ []) (extends_itself A) r (λ q n. in-append_left q A.arities (a ∷ []) n) a b d m con h covered

-- An arity that is above all others where it isn't covered, and for whose classes there isn't another, keeps the algebra coregular.
pub fits_coregular : (A : Algebra) → Follows [] A.classes → IsDecided A → IsCoregular A → (a : Arity) (row ds : List ℕ) (i : ℕ) → IsDeclared A.classes a.class → IsUncovered A A a row → IsAboveGreatest A a.con a.class a.domains → AreElsewhere A a.con row A.arities → length A.classes ≤ i
    → AreGreaterSoFar A a (λ d. ⊥) row ds i → IsCoregular (with_arity A a)
fits_coregular A f decided r a row ds i known u own elsewhere end s = coregular_with A r a (λ b m con. record {
  forth = λ h. same_domains A a a b (forth b m con (same_order_back A a h));
  back = λ h. same_domains A a b a (all_below A decided r a a.class own b (record { declared = m; con = con; below = same_order_back A a h }));
  joined = λ d h k. joined b m con d (same_order_back A a h) (same_order_back A a k);
})
  where
    forth : (b : Arity) → IsIn b A.arities → b.con ≡ a.con → IsClassBelow A a.class b.class → AreDomainsBelow A a b
    forth b m con h =
        let n = each_at (λ b. b.con ≡ a.con → (n : ℕ) × IsNumber A.classes b.class n × ¬ Holds row n) A.arities elsewhere b m con in
        elim (u.rest n.0 n.1.within (rw n.1.named h)) [
          | inl held ↦ absurd (n.2 held)
          | inr covered ↦ falls A A (extends_itself A) r a b m con (rw n.1.named at covered)
        ]

    joined : (b : Arity) → IsIn b A.arities → b.con ≡ a.con → (d : ℕ) → IsClassBelow A a.class d → IsClassBelow A b.class d → (q : Arity) × IsJoin (with_arity A a) a b d q
    joined b m con d h k =
        let n = number_above A f a.class d known h in
        elim (u.rest n.0 n.1.within (rw n.1.named h)) [
          | inl held ↦ elim (s.seen n.0 (let w = n.1.within in omega arith) held) [
            | inl inside ↦ new_join A a b d h (all_below A decided r a d (s.above d (rw n.1.named at inside)).1 b (record { declared = m; con = con; below = k }))
            | inr nothing ↦ absurd nothing
          ]
          | inr covered ↦ old_join A r a b d m con k (rw n.1.named at covered)
        ]

-- What is clear of the new arity is compatible with it, and the other way round.
clear_compatible : (A : Algebra) → Follows [] A.classes → IsCoregular A → (a b : Arity) (row : List ℕ) → IsDeclared A.classes a.class → IsUncovered A A a row → IsIn b A.arities → b.con ≡ a.con → Clears A a row b → AreCompatible (with_arity A a) a b
clear_compatible A f r a b row known u m con w = record {
  forth = λ h. same_domains A a a b (w.forth (same_order_back A a h));
  back = λ h. same_domains A a b a (w.back (same_order_back A a h));
  joined = λ d h k. joined d (same_order_back A a h) (same_order_back A a k);
}
  where
    joined : (d : ℕ) → IsClassBelow A a.class d → IsClassBelow A b.class d → (q : Arity) × IsJoin (with_arity A a) a b d q
    joined d h k = elim w.joined [
      | inl none ↦ (let n = number_above A f a.class d known h in
          elim (u.rest n.0 n.1.within (rw n.1.named h)) [
            | inl held ↦ absurd (none (n.0, held, n.1.within, rw n.1.named k))
            | inr covered ↦ old_join A r a b d m con k (rw n.1.named at covered)
          ])
      | inr over ↦ new_join A a b d h over
    ]

compatible_clear : (A : Algebra) → IsDecided A → IsCoregular A → (a b : Arity) (row : List ℕ) → IsUncovered A A a row → AreCompatible (with_arity A a) a b → Clears A a row b
compatible_clear A decided r a b row u w = record {
  forth = λ h. same_domains_back A a a b (w.forth (same_order A a h));
  back = λ h. same_domains_back A a b a (w.back (same_order A a h));
  joined = elim (two_decided A decided b.domains a.domains) [
    | inl over ↦ inr over
    | inr other ↦ inl (λ t. at other t.0 t.1 (w.joined (name_at A.classes t.0) (same_order A a (u.above t.0 t.1).1) (same_order A a t.3)))
  ];
}
  where
    at : ¬ AreDomainsBelow A b a → (n : ℕ) → Holds row n → ((q : Arity) × IsJoin (with_arity A a) a b (name_at A.classes n) q) → ⊥
    at other n held j = elim (in_split j.0 A.arities (a ∷ []) j.1.declared) [
      | inl old ↦ u.bare r n held (j.0, record { declared = old; con = j.1.con; below = same_order_back A a j.1.class }, same_domains_back A a a j.0 j.1.first)
      | inr v ↦ elim v [ inl e ↦ other (same_domains_back A a b a (rw e at j.1.second)) | inr none ↦ absurd none ]
    ]

-- What the look for an arity that isn't clear of the new one finds.
pub judged : (A : Algebra) → Follows [] A.classes → IsDecided A → IsCoregular A → (a : Arity) (row : List ℕ) → IsDeclared A.classes a.class → IsUncovered A A a row → (o : Option ℕ) → FindsAt (Clears A a row) a.con A.arities o → MatchOption o (IsCoregular (with_arity A a)) (IsLeastInConflict (with_arity A a) a)
judged A f decided r a row known u None found = coregular_with A r a (λ b m con. clear_compatible A f r a b row known u m con (each_at (PassesAt (Clears A a row) a.con) A.arities found b m con))
judged A f decided r a row known u (Some c) found = record {
  is = (let w = any_some (λ x. FailsAt (Clears A a row) a.con x × (x.class ≡ c)) A.arities found.is in
      (w.0, record { declared = in-append_left w.0 A.arities (a ∷ []) w.1; con = w.2.0.con; conflict = λ k. w.2.0.fails (compatible_clear A decided r a w.0 row u k) }, w.2.1));
  least = λ b k. elim (in_split b A.arities (a ∷ []) k.declared) [
    | inl old ↦ each_at (λ x. FailsAt (Clears A a row) a.con x → c ≤ x.class) A.arities found.least b old (record { con = k.con; fails = λ p. k.conflict (clear_compatible A f r a b row known u old k.con p) })
    | inr w ↦ elim w [ inl e ↦ absurd (k.conflict (rw e (compatible_self (with_arity A a) a (in-append_right a A.arities (a ∷ []) (inl refl))))) | inr none ↦ absurd none ]
  ];
}
