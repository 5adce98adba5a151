-- Tables of sorts: what they have of a variable, and that they have the reduced union of its classes.
use Rattle.std.proofs.Common.{◌≡◌, ℕ, zero, suc, ◌+◌, ◌<◌, ◌≤◌, ◌⊎◌, Bool, true, false, List, [], ◌∷◌, ◌++◌, length, take, drop, get_or, nat_eq, if◌then◌else◌, inl, inr, refl, ap, sym, subst, ◌∙◌, append-nil, eq-eqb, arith}
use Rattle.std.proofs.Common.{eqb-true}
use Rattle.std.specs.List.Sorted.{IsStrictlyIncreasing}
use Rattle.pure_text.specs.Lists.{IsIn, Each}
use Rattle.pure_text.proofs.LoopLaws.{longer_by}
use Rattle.pure_text.proofs.ListLaws.{in_split, in-append_left, in-append_right, any-append_left, any-append_right, any_some, any_of}
use Rattle.pure_typ.specs.SortUnion.{IsSortUnion}
use Rattle.pure_definitions.specs.Types.Order.{Algebra, IsClassBelow}
use Rattle.pure_order.specs.Domains.{IsReduced, IsAboveAnother}
use Rattle.pure_elab.specs.declared.classes.WrittenClass.{WrittenClass}
use Rattle.pure_elab.specs.declared.sorts.VariableSort.{VariableSort}
use Rattle.pure_elab.specs.Written.{classes_at, IsReducedSort, AreSorts}
use Rattle.pure_elab.specs.Table.{sort_among, HasVariable, AreEntries, IsSortOf}

pub drop_here : {A : Type 0} (xs : List A) (i : ℕ) (x : A) → i < length xs → x ≡ get_or xs i x → drop i xs ≡ x ∷ drop (i + 1) xs
drop_here [] i x within is = absurd (omega arith)
drop_here (y ∷ ys) zero x within is = ap (λ z. z ∷ ys) (sym is)
drop_here (y ∷ ys) (suc i) x within is = let later : suc i + 1 ≡ suc (i + 1) = omega arith in rw later (drop_here ys i x (omega arith) is)

pub drop_none : {A : Type 0} (xs : List A) (i : ℕ) → length xs ≤ i → drop i xs ≡ []
drop_none [] zero full = refl
drop_none [] (suc i) full = refl
drop_none (x ∷ xs) zero full = absurd (omega arith)
drop_none (x ∷ xs) (suc i) full = drop_none xs i (omega arith)

chosen_by : {A : Type 0} (m n : ℕ) (x y : A) → m ≡ n → (if nat_eq m n then x else y) ≡ x
chosen_by m n x y e = by_test (nat_eq m n) (eq-eqb m n e)
  where
    by_test : (q : Bool) → q ≡ true → (if q then x else y) ≡ x
    by_test true t = refl
    by_test false t = absurd (cc)

passed_by : {A : Type 0} (m n : ℕ) (x y : A) → (m ≡ n → ⊥) → (if nat_eq m n then x else y) ≡ y
passed_by m n x y ne = by_test (nat_eq m n) (λ t. ne (eqb-true m n t))
  where
    by_test : (q : Bool) → (q ≡ true → ⊥) → (if q then x else y) ≡ y
    by_test true t = absurd (t refl)
    by_test false t = refl

pub sort_here : (es : List VariableSort) (i : ℕ) (e : VariableSort) (x : ℕ) → i < length es → e ≡ get_or es i e → e.name ≡ x → sort_among (drop i es) x ≡ e.sort
sort_here es i e x within is same = ap (λ l. sort_among l x) (drop_here es i e within is) ∙ chosen_by e.name x e.sort (sort_among (drop (i + 1) es) x) same

pub sort_next : (es : List VariableSort) (i : ℕ) (e : VariableSort) (x : ℕ) → i < length es → e ≡ get_or es i e → (e.name ≡ x → ⊥) → sort_among (drop (i + 1) es) x ≡ sort_among (drop i es) x
sort_next es i e x within is other = sym (ap (λ l. sort_among l x) (drop_here es i e within is) ∙ passed_by e.name x e.sort (sort_among (drop (i + 1) es) x) other)

pub sort_end : (es : List VariableSort) (i : ℕ) (x : ℕ) → length es ≤ i → sort_among (drop i es) x ≡ []
sort_end es i x full = ap (λ l. sort_among l x) (drop_none es i full)

-- the classes of the variable, one entry more
classes_snoc : (ws : List WrittenClass) (w : WrittenClass) (x : ℕ) (here : List ℕ) → classes_at (w ∷ []) x ≡ here → classes_at (ws ++ w ∷ []) x ≡ classes_at ws x ++ here
classes_snoc [] w x here e = e
classes_snoc (v ∷ vs) w x here e = by_test (nat_eq v.variable x) (classes_snoc vs w x here e)
  where
    by_test : (q : Bool) → classes_at (vs ++ w ∷ []) x ≡ classes_at vs x ++ here
        → (if q then v.class ∷ classes_at (vs ++ w ∷ []) x else classes_at (vs ++ w ∷ []) x) ≡ (if q then v.class ∷ classes_at vs x else classes_at vs x) ++ here
    by_test true h = ap (λ l. v.class ∷ l) h
    by_test false h = h

pub classes_turn : (ws : List WrittenClass) (i : ℕ) (w : WrittenClass) (x : ℕ) → i < length ws → w ≡ get_or ws i w → classes_at (take (i + 1) ws) x ≡ classes_at (take i ws) x ++ classes_at (w ∷ []) x
classes_turn ws i w x within is = ap (λ l. classes_at l x) (longer_by ws i w within is) ∙ classes_snoc (take i ws) w x (classes_at (w ∷ []) x) refl

-- A sort of classes with one class more.
pub one_class_more : (cs ds s u : List ℕ) (c : ℕ) → IsSortOf cs s → IsSortUnion s (c ∷ []) u → ds ≡ cs ++ c ∷ [] → IsSortOf ds u
one_class_more cs ds s u c of union more = subst (λ (l : List ℕ). IsSortOf l u) (sym more) (record { ascend = union.ascend; members = λ b. (there b, back b) })
  where
    there : (b : ℕ) → IsIn b u → IsIn b (cs ++ c ∷ [])
    there b m = from ((union.members b).0 m)
      where
        from : IsIn b s ⊎ IsIn b (c ∷ []) → IsIn b (cs ++ c ∷ [])
        from (inl left) = in-append_left b cs (c ∷ []) ((of.members b).0 left)
        from (inr right) = in-append_right b cs (c ∷ []) right

    back : (b : ℕ) → IsIn b (cs ++ c ∷ []) → IsIn b u
    back b m = (union.members b).1 (from (in_split b cs (c ∷ []) m))
      where
        from : IsIn b cs ⊎ IsIn b (c ∷ []) → IsIn b s ⊎ IsIn b (c ∷ [])
        from (inl left) = inl ((of.members b).1 left)
        from (inr right) = inr right

pub class_more : (w : WrittenClass) (x : ℕ) (cs s u : List ℕ) → w.variable ≡ x → IsSortUnion s (w.class ∷ []) u → IsSortOf cs s → IsSortOf (cs ++ classes_at (w ∷ []) x) u
class_more w x cs s u same union of = one_class_more cs (cs ++ classes_at (w ∷ []) x) s u w.class of union (ap (λ l. cs ++ l) (chosen_by w.variable x (w.class ∷ []) [] same))

pub class_same : (w : WrittenClass) (x : ℕ) (cs s : List ℕ) → (w.variable ≡ x → ⊥) → IsSortOf cs s → IsSortOf (cs ++ classes_at (w ∷ []) x) s
class_same w x cs s other of = subst (λ (l : List ℕ). IsSortOf l s) (sym (ap (λ l. cs ++ l) (passed_by w.variable x (w.class ∷ []) [] other) ∙ append-nil cs)) of

-- The reduced sort of a sort of classes is the reduced union of these.
pub reduced_union : (A : Algebra) (cs u r : List ℕ) → IsSortOf cs u → IsReduced A u r → IsStrictlyIncreasing r → IsReducedSort A cs r
reduced_union A cs u r of reduced ascend = record { reduced = λ c. (there c, back c); ascend = ascend }
  where
    other : (c : ℕ) (xs ys : List ℕ) → ((b : ℕ) → IsIn b xs → IsIn b ys) → IsAboveAnother A xs c → IsAboveAnother A ys c
    other c xs ys f any = let b = any_some (λ b. (¬ (b ≡ c)) × IsClassBelow A b c) xs any in any_of (λ b. (¬ (b ≡ c)) × IsClassBelow A b c) b.0 ys (f b.0 b.1) b.2

    there : (c : ℕ) → IsIn c r → IsIn c cs × (¬ IsAboveAnother A cs c)
    there c m = let h = (reduced c).0 m in ((of.members c).0 h.0, λ any. h.1 (other c cs u (λ b n. (of.members b).1 n) any))

    back : (c : ℕ) → IsIn c cs × (¬ IsAboveAnother A cs c) → IsIn c r
    back c h = (reduced c).1 ((of.members c).1 h.0, λ any. h.1 (other c u cs (λ b n. (of.members b).0 n) any))

pub no_classes : (s : List ℕ) → s ≡ [] → IsSortOf [] s
no_classes s e = subst (λ (l : List ℕ). IsSortOf [] l) (sym e) (record { ascend = λ k within. absurd (omega arith); members = λ c. (λ m. m, λ m. m) })

-- What a table has of a variable: the reduced union, or nothing where it doesn't have the variable.
abbrev pub Has : Algebra → List WrittenClass → (x : ℕ) → List VariableSort → Type 0
Has A written x es = IsReducedSort A (classes_at written x) (sort_among es x) ⊎ ((¬ HasVariable es x) × (sort_among es x ≡ []))

among : (A : Algebra) (written : List WrittenClass) (x : ℕ) (es : List VariableSort) → AreEntries A written es → Has A written x es
among A written x [] all = inr (λ m. m, refl)
among A written x (e ∷ es) all = by_name (eq_or_not e.name x) (among A written x es all.1)
  where
    eq_or_not : (m n : ℕ) → (m ≡ n) ⊎ (m ≡ n → ⊥)
    eq_or_not m n = by_test (nat_eq m n) refl
      where
        by_test : (q : Bool) → nat_eq m n ≡ q → (m ≡ n) ⊎ (m ≡ n → ⊥)
        by_test true t = inl (eqb-true m n t)
        by_test false t = inr (λ e. let yes = eq-eqb m n e in absurd (cc))

    by_name : (e.name ≡ x) ⊎ (e.name ≡ x → ⊥) → Has A written x es → Has A written x (e ∷ es)
    by_name (inl same) rest = inl (subst (λ (s : List ℕ). IsReducedSort A (classes_at written x) s) (sym (chosen_by e.name x e.sort (sort_among es x) same)) (subst (λ (n : ℕ). IsReducedSort A (classes_at written n) e.sort) same all.0))
    by_name (inr other) (inl reduced) = inl (subst (λ (s : List ℕ). IsReducedSort A (classes_at written x) s) (sym (passed_by e.name x e.sort (sort_among es x) other)) reduced)
    by_name (inr other) (inr none) = inr (not_here, passed_by e.name x e.sort (sort_among es x) other ∙ none.1)
      where
        not_here : (e.name ≡ x) ⊎ HasVariable es x → ⊥
        not_here (inl same) = other same
        not_here (inr m) = none.0 m

none_at : (table : List VariableSort) (x : ℕ) (ws : List WrittenClass) → (¬ HasVariable table x) → Each (λ w. HasVariable table w.variable) ws → classes_at ws x ≡ []
none_at table x [] absent all = refl
none_at table x (w ∷ ws) absent all =
    passed_by w.variable x (w.class ∷ classes_at ws x) (classes_at ws x) (λ same. absent (subst (λ (n : ℕ). HasVariable table n) same all.0))
    ∙ none_at table x ws absent all.1

empty_reduced : (A : Algebra) → IsReducedSort A [] []
empty_reduced A = record { reduced = λ c. (λ m. absurd m, λ m. m.0); ascend = λ k within. absurd (omega arith) }

pub table_has_sorts : (A : Algebra) (written : List WrittenClass) (table : List VariableSort) → AreEntries A written table → Each (λ w. HasVariable table w.variable) written → AreSorts A written (sort_among table)
table_has_sorts A written table entries all x = by_case (among A written x table entries)
  where
    by_case : Has A written x table → IsReducedSort A (classes_at written x) (sort_among table x)
    by_case (inl reduced) = reduced
    by_case (inr none) =
        subst (λ (s : List ℕ). IsReducedSort A (classes_at written x) s) (sym none.1)
        (subst (λ (cs : List ℕ). IsReducedSort A cs []) (sym (none_at table x written none.0 all)) (empty_reduced A))

-- An entry more keeps the variables of a table.
pub has_more : (table : List VariableSort) (e : VariableSort) (x : ℕ) → HasVariable table x → HasVariable (table ++ e ∷ []) x
has_more table e x m = any-append_left (λ f. f.name ≡ x) table (e ∷ []) m

pub has_new : (table : List VariableSort) (e : VariableSort) → HasVariable (table ++ e ∷ []) e.name
has_new table e = any-append_right (λ f. f.name ≡ e.name) table (e ∷ []) (inl refl)
