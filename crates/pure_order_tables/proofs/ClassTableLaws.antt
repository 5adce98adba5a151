-- A table of classes with one more class.
use Rattle.std.proofs.Common.{◌≡◌, ℕ, ◌+◌, ◌<◌, ◌≤◌, ◌/◌, ◌%◌, zero, suc, List, [], ◌∷◌, ◌++◌, length, get_or, refl, sym, ap, subst, inl, inr, ◌⊎◌, ◌↔◌, Option, Some, None, MatchOption, ◌∙◌, arith, length-append, Bool, true}
use Rattle.std.specs.Prelude.{◌==◌}
use Rattle.std.proofs.Math.ListN.{get_or-append}
use Rattle.std.proofs.Math.Seq.{get_or-append_seam}
use Rattle.std.proofs.lemmas.List.{length-map}
use Rattle.std.specs.List.Sorted.{IsStrictlyIncreasing}
use Rattle.std.specs.FinMap.{FinMap, empty, get, get-empty, insert}
use Rattle.std.specs.Ordering.{nat_cmp}
use Rattle.pure_text.specs.Lists.{IsIn, Each, AnyOf}
use Rattle.pure_definitions.specs.Types.Order.{Class, IsClassBelow, itself, along}
use Rattle.pure_text.proofs.ListLaws.{any_of, any_imply, each_imply, in-append_left, in-append_right, in_split, in_or_not, any_split, any_some, each_of, each_at, each-append, any-append_left, any-append_right}
use Rattle.std.proofs.lemmas.List.{map-append}
use Rattle.pure_order_tables.specs.declared.classes.ClassEntry.{ClassEntry}
use Rattle.pure_order_tables.specs.ClassView.{class_of, classes_of}
use Rattle.pure_order_tables.specs.Rows.{Holds}
use Rattle.pure_order_tables.specs.Classes.{IsDeclared, Follows, of_classes}
use Rattle.pure_order_tables.specs.ClassTable.{AreAllAbove, HasNumbers, IsClassTable, IsEntry, IsNewEntry, IsNewRow, IsNumber, IsOtherNamed, IsRow, NamedBefore, name_at, no_class}
use Rattle.std.proofs.lemmas.Bool.{eqb-true}
use Rattle.std.proofs.lemmas.Bool.Decides.{eqb_tells}
use Rattle.std.specs.Int.{bit_at}
use Rattle.pure_order_tables.specs.Checks.{IsDecided}
use Rattle.pure_order_tables.proofs.MapLaws.{get_after}
use Rattle.pure_order_tables.proofs.RowLaws.{held_within}
use Rattle.pure_definitions.proofs.OrderLaws.{below-trans, below-more, below_same}
use Rattle.pure_order_tables.proofs.BelowLaws.{below-one_more, below-undeclared, follows-one_more, declared, reaches}

from_new : (cs : List Class) (k : Class) → Follows [] cs → ¬ IsDeclared cs k.name → Each (IsDeclared cs) k.above → (c d : ℕ) → c ≡ k.name → IsClassBelow (of_classes (cs ++ k ∷ [])) c d → (d ≡ k.name) ⊎ AnyOf (λ b. IsClassBelow (of_classes cs) b d) k.above
from_new cs k f fresh known c d e itself = inl e
from_new cs k f fresh known c d e (along {b = b} i h) =
    let inside : IsIn b k.above = rw (is_new i.0 i.1 (i.2 ∙ e)) at i.3 in
    let old = below-one_more (of_classes cs) (of_classes (cs ++ k ∷ [])) k refl f fresh b d (not_new b (each_at (IsDeclared cs) k.above known b inside)) h in
    inr (any_of (λ x. IsClassBelow (of_classes cs) x d) b k.above inside old)
  where
    is_new : (l : Class) → IsIn l (cs ++ k ∷ []) → l.name ≡ k.name → l ≡ k
    is_new l m e = elim (in_split l cs (k ∷ []) m) [ inl a ↦ absurd (fresh (declared cs l k.name a e)) | inr w ↦ elim w [ inl same ↦ same | inr none ↦ absurd none ] ]

    not_new : (b : ℕ) → IsDeclared cs b → ¬ (b ≡ k.name)
    not_new b m e = fresh (rw (← e) m)

-- what is above a new class
new_above : (cs : List Class) (k : Class) → Follows [] cs → ¬ IsDeclared cs k.name → Each (IsDeclared cs) k.above → (names : List ℕ) → IsStrictlyIncreasing names
    → ((x : ℕ) → IsIn x names ↔ ((x ≡ k.name) ⊎ AnyOf (λ b. IsClassBelow (of_classes cs) b x) k.above)) → AreAllAbove (cs ++ k ∷ []) k.name names
new_above cs k f fresh known names up has = record { declared = any-append_right (λ l. l.name ≡ k.name) cs (k ∷ []) (inl refl); ascend = up; are = λ d. (there d, back d) }
  where
    old_to_new : (b d : ℕ) → IsClassBelow (of_classes cs) b d → IsClassBelow (of_classes (cs ++ k ∷ [])) b d
    old_to_new b d h = below-more (of_classes cs) (of_classes (cs ++ k ∷ [])) (λ l m. in-append_left l cs (k ∷ []) m) h

    there : (d : ℕ) → IsIn d names → IsClassBelow (of_classes (cs ++ k ∷ [])) k.name d
    there d m = elim ((has d).0 m) [
      | inl e ↦ rw e itself
      | inr w ↦ (let b = any_some (λ b. IsClassBelow (of_classes cs) b d) k.above w in along (k, in-append_right k cs (k ∷ []) (inl refl), refl, b.1) (old_to_new b.0 d b.2))
    ]

    back : (d : ℕ) → IsClassBelow (of_classes (cs ++ k ∷ [])) k.name d → IsIn d names
    back d h = (has d).1 (from_new cs k f fresh known k.name d refl h)

-- what is above an old class
old_above : (cs : List Class) (k : Class) → Follows [] cs → ¬ IsDeclared cs k.name → (c : ℕ) → ¬ (c ≡ k.name) → (names : List ℕ) → AreAllAbove cs c names → AreAllAbove (cs ++ k ∷ []) c names
old_above cs k f fresh c other names a = record {
  declared = any-append_left (λ l. l.name ≡ c) cs (k ∷ []) a.declared;
  ascend = a.ascend;
  are = λ d. (
    λ m. below-more (of_classes cs) (of_classes (cs ++ k ∷ [])) (λ l n. in-append_left l cs (k ∷ []) n) ((a.are d).0 m),
    λ h. (a.are d).1 (below-one_more (of_classes cs) (of_classes (cs ++ k ∷ [])) k refl f fresh c d other h),
  );
}

still_undeclared : (cs : List Class) (k : Class) (c : ℕ) → ¬ (c ≡ k.name) → ¬ IsDeclared cs c → ¬ IsDeclared (cs ++ k ∷ []) c
still_undeclared cs k c other none m = elim (any_split (λ l. l.name ≡ c) cs (k ∷ []) m) [ inl a ↦ none a | inr w ↦ elim w [ inl e ↦ other (sym e) | inr nothing ↦ nothing ] ]

-- names by numbers

pub name_kept : (cs ks : List Class) (n : ℕ) → n < length cs → name_at (cs ++ ks) n ≡ name_at cs n
name_kept cs ks n within = ap (λ (k : Class). k.name) (get_or-append cs ks no_class n within)

pub name_new : (cs : List Class) (k : Class) (n : ℕ) → n ≡ length cs → name_at (cs ++ k ∷ []) n ≡ k.name
name_new cs k n e = rw e (ap (λ (k : Class). k.name) (get_or-append_seam cs k [] no_class))

pub declared_at_number : (cs : List Class) (n : ℕ) → n < length cs → IsDeclared cs (name_at cs n)
declared_at_number [] n h = absurd (omega arith)
declared_at_number (k ∷ ks) zero h = inl refl
declared_at_number (k ∷ ks) (suc n) h = inr (declared_at_number ks n (omega arith))

pub declared_by : (cs : List Class) (c n : ℕ) → IsNumber cs c n → IsDeclared cs c
declared_by cs c n w = rw w.named at (declared_at_number cs n w.within)

pub number_of : (cs : List Class) (c : ℕ) → IsDeclared cs c → (n : ℕ) × IsNumber cs c n
number_of [] c m = absurd m
number_of (k ∷ ks) c m = elim m [
  | inl e ↦ (0, record { within = omega arith; named = e })
  | inr t ↦ (let w = number_of ks c t in (suc w.0, record { within = omega (arith, w.1.within); named = w.1.named }))
]

pub last_or_before : (m n : ℕ) → m < n + 1 → (m < n) ⊎ (m ≡ n)
last_or_before m n h = grind arith

pub inside : (cs : List Class) (k : Class) (n : ℕ) → n < length (cs ++ k ∷ []) → (n < length cs) ⊎ (n ≡ length cs)
inside cs k n h = last_or_before n (length cs) (omega (arith, length-append cs (k ∷ [])))

-- the row of an old class
old_row : (cs : List Class) (k : Class) → Follows [] cs → ¬ IsDeclared cs k.name → (c : ℕ) → ¬ (c ≡ k.name) → (words : List ℕ) → IsRow cs c words → IsRow (cs ++ k ∷ []) c words
old_row cs k f fresh c other words row n = (there, back)
  where
    there : Holds words n → (n < length (cs ++ k ∷ [])) × IsClassBelow (of_classes (cs ++ k ∷ [])) c (name_at (cs ++ k ∷ []) n)
    there h = let w = (row n).0 h in (omega (arith, length-append cs (k ∷ []), w.0), rw (name_kept cs (k ∷ []) n w.0) (below-more (of_classes cs) (of_classes (cs ++ k ∷ [])) (λ l m. in-append_left l cs (k ∷ []) m) w.1))

    back : ((n < length (cs ++ k ∷ [])) × IsClassBelow (of_classes (cs ++ k ∷ [])) c (name_at (cs ++ k ∷ []) n)) → Holds words n
    back w = elim (inside cs k n w.0) [
      | inl old ↦ (row n).1 (old, below-one_more (of_classes cs) (of_classes (cs ++ k ∷ [])) k refl f fresh c (name_at cs n) other (rw (name_kept cs (k ∷ []) n old) at w.1))
      | inr new ↦ (let below : IsClassBelow (of_classes cs) c k.name = below-one_more (of_classes cs) (of_classes (cs ++ k ∷ [])) k refl f fresh c k.name other (rw (name_new cs k n new) at w.1) in
          elim (reaches (of_classes cs) f below) [ inl e ↦ absurd (other e) | inr m ↦ absurd (fresh m) ])
    ]

-- the row of a new class
new_row : (cs : List Class) (k : Class) → Follows [] cs → ¬ IsDeclared cs k.name → Each (IsDeclared cs) k.above → (words : List ℕ) → IsNewRow cs k.above words → IsRow (cs ++ k ∷ []) k.name words
new_row cs k f fresh known words row n = (there, back)
  where
    there : Holds words n → (n < length (cs ++ k ∷ [])) × IsClassBelow (of_classes (cs ++ k ∷ [])) k.name (name_at (cs ++ k ∷ []) n)
    there h = elim ((row n).0 h) [
      | inl last ↦ (omega (arith, length-append cs (k ∷ []), last), rw (name_new cs k n last) itself)
      | inr some ↦ (let b = any_some (λ b. (n < length cs) × IsClassBelow (of_classes cs) b (name_at cs n)) k.above some in (
        omega (arith, length-append cs (k ∷ []), b.2.0),
        rw (name_kept cs (k ∷ []) n b.2.0) (along (k, in-append_right k cs (k ∷ []) (inl refl), refl, b.1) (below-more (of_classes cs) (of_classes (cs ++ k ∷ [])) (λ l m. in-append_left l cs (k ∷ []) m) b.2.1)),
      ))
    ]

    back : ((n < length (cs ++ k ∷ [])) × IsClassBelow (of_classes (cs ++ k ∷ [])) k.name (name_at (cs ++ k ∷ []) n)) → Holds words n
    back w = elim (inside cs k n w.0) [
      | inl old ↦ elim (from_new cs k f fresh known k.name (name_at cs n) refl (rw (name_kept cs (k ∷ []) n old) at w.1)) [
        | inl e ↦ absurd (fresh (rw e at (declared_at_number cs n old)))
        | inr some ↦ (row n).1 (inr (any_imply (λ b. IsClassBelow (of_classes cs) b (name_at cs n)) (λ b. (n < length cs) × IsClassBelow (of_classes cs) b (name_at cs n)) k.above (λ b h. (old, h)) some))
      ]
      | inr new ↦ (row n).1 (inl new)
    ]

-- The names by the row of a new class are those of the classes above it.
names_above : (cs : List Class) → Follows [] cs → (class : ℕ) (above words : List ℕ) → Each (IsDeclared cs) above → IsNewRow cs above words → (names : List ℕ) → ((x : ℕ) → IsIn x names ↔ ((x ≡ class) ⊎ NamedBefore cs words x (length cs)))
    → (x : ℕ) → IsIn x names ↔ ((x ≡ class) ⊎ AnyOf (λ b. IsClassBelow (of_classes cs) b x) above)
names_above cs f class above words known row names has x = (there, back)
  where
    some_at : (n : ℕ) → n < length cs → (n ≡ length cs) ⊎ AnyOf (λ b. (n < length cs) × IsClassBelow (of_classes cs) b (name_at cs n)) above → name_at cs n ≡ x → AnyOf (λ b. IsClassBelow (of_classes cs) b x) above
    some_at n within w e = elim w [
      | inl last ↦ absurd (omega arith)
      | inr some ↦ any_imply (λ b. (n < length cs) × IsClassBelow (of_classes cs) b (name_at cs n)) (λ b. IsClassBelow (of_classes cs) b x) above (λ b h. rw (← e) h.1) some
    ]

    there : IsIn x names → (x ≡ class) ⊎ AnyOf (λ b. IsClassBelow (of_classes cs) b x) above
    there m = elim ((has x).0 m) [ inl e ↦ inl e | inr w ↦ inr (some_at w.0 w.1 ((row w.0).0 w.2) w.3) ]

    declared_above : (b : ℕ) → IsIn b above → IsClassBelow (of_classes cs) b x → IsDeclared cs x
    declared_above b m h = elim (reaches (of_classes cs) f h) [ inl e ↦ rw (← e) (each_at (IsDeclared cs) above known b m) | inr d ↦ d ]

    back : (x ≡ class) ⊎ AnyOf (λ b. IsClassBelow (of_classes cs) b x) above → IsIn x names
    back w = elim w [
      | inl e ↦ (has x).1 (inl e)
      | inr some ↦
          let b = any_some (λ b. IsClassBelow (of_classes cs) b x) above some in
          let n = number_of cs x (declared_above b.0 b.1 b.2) in
          let held = (row n.0).1 (inr (any_imply (λ b. IsClassBelow (of_classes cs) b x) (λ b. (n.0 < length cs) × IsClassBelow (of_classes cs) b (name_at cs n.0)) above (λ b h. (n.1.within, rw n.1.named h)) some)) in
          (has x).1 (inr (n.0, n.1.within, held, n.1.named))
    ]

entry_kept : (cs : List Class) (k : Class) → Follows [] cs → ¬ IsDeclared cs k.name → (e : ClassEntry) → IsEntry cs e → IsEntry (cs ++ k ∷ []) e
entry_kept cs k f fresh e is =
    let other : ¬ (e.name ≡ k.name) = λ same. fresh (rw same at is.up.declared) in
    record { up = old_above cs k f fresh e.name other e.up.items is.up; row = old_row cs k f fresh e.name other e.row.items is.row }

number_kept : (cs : List Class) (k : Class) (c : ℕ) → ¬ (c ≡ k.name) → (o : Option ℕ) → MatchOption o (¬ IsDeclared cs c) (IsNumber cs c) → MatchOption o (¬ IsDeclared (cs ++ k ∷ []) c) (IsNumber (cs ++ k ∷ []) c)
number_kept cs k c other None m = still_undeclared cs k c other m
number_kept cs k c other (Some n) m = record { within = omega (arith, length-append cs (k ∷ []), m.within); named = name_kept cs (k ∷ []) n m.within ∙ m.named }

pub long_classes : (es : List ClassEntry) → length (classes_of es) ≡ length es
long_classes es = length-map es class_of

table-one_more : (es : List ClassEntry) (e : ClassEntry) (old : FinMap nat_cmp ℕ) → IsClassTable es old → ¬ IsDeclared (classes_of es) e.name → Each (IsDeclared (classes_of es)) e.above.items → IsNewRow (classes_of es) e.above.items e.row.items → IsStrictlyIncreasing e.up.items
    → ((x : ℕ) → IsIn x e.up.items ↔ ((x ≡ e.name) ⊎ NamedBefore (classes_of es) e.row.items x (length (classes_of es)))) → IsClassTable (es ++ e ∷ []) (insert old e.name (length (classes_of es)))
table-one_more es e old t fresh known row up has = record {
  ordered = rw longer (follows-one_more [] cs k t.ordered fresh known);
  entries = rw longer (each-append (IsEntry (cs ++ k ∷ [])) es (e ∷ []) (each_of (IsEntry (cs ++ k ∷ [])) es (λ x m. entry_kept cs k t.ordered fresh x (each_at (IsEntry cs) es t.entries x m))) (new_entry, tt));
  numbered = λ c. rw longer (elim (get_after old e.name (length cs) c) [
    | inl w ↦ rw w.1 (rw w.0 (record { within = omega (arith, length-append cs (k ∷ [])); named = name_new cs k (length cs) refl }))
    | inr w ↦ rw w.1 (number_kept cs k c w.0 (get old c) (t.numbered c))
  ]);
}
  where
    cs : List Class
    cs = classes_of es

    k : Class
    k = class_of e

    longer : classes_of (es ++ e ∷ []) ≡ cs ++ k ∷ []
    longer = map-append class_of es (e ∷ [])

    new_entry : IsEntry (cs ++ k ∷ []) e
    new_entry = record {
      up = new_above cs k t.ordered fresh known e.up.items up (names_above cs t.ordered e.name e.above.items e.row.items known row e.up.items has);
      row = new_row cs k t.ordered fresh known e.row.items row;
    }

-- the same of the classes that the table is seen as
pub table-one_new : (es : List ClassEntry) (e : ClassEntry) (k : Class) (value : List Class) (count : ℕ) (old : FinMap nat_cmp ℕ) → classes_of es ≡ value → count ≡ length value → IsClassTable es old → ¬ IsDeclared value k.name → Each (IsDeclared value) k.above → IsNewEntry value k e → IsClassTable (es ++ e ∷ []) (insert old k.name count)
table-one_new es e k value count old view counted t fresh known new =
    let back : k ≡ class_of e = sym new.class in
    rw (back, counted, ← view) (table-one_more es e old t
    (rw view (subst (λ (c : Class). ¬ IsDeclared value c.name) back fresh))
    (rw view (subst (λ (c : Class). Each (IsDeclared value) c.above) back known))
    (rw view (subst (λ (c : Class). IsNewRow value c.above e.row.items) back new.row)) new.ascend
    (rw view (subst (λ (c : Class). (x : ℕ) → IsIn x e.up.items ↔ ((x ≡ c.name) ⊎ NamedBefore value e.row.items x (length value))) back new.up)))

pub empty_classes : (es : List ClassEntry) (numbers : FinMap nat_cmp ℕ) → es ≡ [] → numbers ≡ empty → IsClassTable es numbers
empty_classes es numbers none no_numbers = rw (none, no_numbers) (record { ordered = tt; entries = tt; numbered = λ c. rw (get-empty {X = ℕ} nat_cmp c) (λ h. h) })

pub number_none : (es : List ClassEntry) (numbers : FinMap nat_cmp ℕ) (value : List Class) (c : ℕ) → classes_of es ≡ value → IsClassTable es numbers → get numbers c ≡ None → ¬ IsDeclared value c
number_none es numbers value c view t none = rw (← view) (rw none at (t.numbered c))

pub number_some : (es : List ClassEntry) (numbers : FinMap nat_cmp ℕ) (value : List Class) (c n : ℕ) → classes_of es ≡ value → IsClassTable es numbers → get numbers c ≡ Some n → IsNumber value c n
number_some es numbers value c n view t some = rw (← view) (rw some at (t.numbered c))

pub named_at : (es : List ClassEntry) (n : ℕ) (e : ClassEntry) → n < length es → e ≡ get_or es n e → IsNumber (classes_of es) e.name n
named_at es n e within read = record { within = omega (arith, long_classes es); named = at es n e within read }
  where
    at : (es : List ClassEntry) (n : ℕ) (e : ClassEntry) → n < length es → e ≡ get_or es n e → name_at (classes_of es) n ≡ e.name
    at [] n e within read = absurd (omega arith)
    at (x ∷ xs) zero e within read = rw read refl
    at (x ∷ xs) (suc n) e within read = at xs n e (omega arith) read

-- The order is decided by the names above a class.
pub decided : (es : List ClassEntry) (numbers : FinMap nat_cmp ℕ) → IsClassTable es numbers → IsDecided (of_classes (classes_of es))
decided es numbers t c d = by (get numbers c) (t.numbered c)
  where
    named : (P : ClassEntry → Type 0) (es : List ClassEntry) (c n : ℕ) → Each P es → IsNumber (classes_of es) c n → (e : ClassEntry) × (e.name ≡ c) × P e
    named P [] c n each w = absurd (omega (arith, w.within))
    named P (e ∷ es) c zero each w = (e, w.named, each.0)
    named P (e ∷ es) c (suc n) each w = named P es c n each.1 (record { within = omega (arith, w.within); named = w.named })

    by : (o : Option ℕ) → MatchOption o (¬ IsDeclared (classes_of es) c) (IsNumber (classes_of es) c) → IsClassBelow (of_classes (classes_of es)) c d ⊎ ¬ IsClassBelow (of_classes (classes_of es)) c d
    by None m = elim (eqb_tells c d) [ inl w ↦ inl (below_same (of_classes (classes_of es)) c d w.1) | inr w ↦ inr (λ h. w.1 (below-undeclared (of_classes (classes_of es)) c d m h)) ]
    by (Some n) m =
        let e = named (IsEntry (classes_of es)) es c n t.entries m in
        let are = e.2.up.are d in
        elim (in_or_not d e.0.up.items) [ inl n ↦ inl (rw e.1 at (are.0 n)) | inr n ↦ inr (λ h. n (are.1 (rw e.1 h))) ]

-- A declared class isn't below one that isn't declared.
pub not_reached : (cs : List Class) → Follows [] cs → (c d : ℕ) (e : ClassEntry) → e.name ≡ c → IsEntry cs e → ¬ IsDeclared cs d → ¬ IsClassBelow (of_classes cs) c d
not_reached cs f c d e named is none h = elim (reaches (of_classes cs) f h) [
  | inl same ↦ none (rw (← same, ← named) is.up.declared)
  | inr m ↦ none m
]

-- one turn of the union of rows

pub row_at : (cs : List Class) (e : ClassEntry) (c : ℕ) (words : List ℕ) → e.name ≡ c → words ≡ e.row.items → IsEntry cs e → IsRow cs c words
row_at cs e c words named same is = rw (← named, same) is.row

-- one turn of the gathering of numbers
pub number_only : (cs : List Class) (names words words' : List ℕ) (c n : ℕ) → IsIn c names → IsNumber cs c n → ((m : ℕ) → Holds words' m ↔ ((m ≡ n) ⊎ Holds words m)) → ((m : ℕ) → Holds words m → (m < length cs) × IsIn (name_at cs m) names)
    → (m : ℕ) → Holds words' m → (m < length cs) × IsIn (name_at cs m) names
number_only cs names words words' c n among is put before m h = elim ((put m).0 h) [ inl e ↦ rw e (is.within, rw is.named among) | inr o ↦ before m o ]

pub number_each : (cs : List Class) (read words words' : List ℕ) (n : ℕ) → ((m : ℕ) → Holds words' m ↔ ((m ≡ n) ⊎ Holds words m)) → Each (λ c. (m : ℕ) × IsNumber cs c m × Holds words m) read → Each (λ c. (m : ℕ) × IsNumber cs c m × Holds words' m) read
number_each cs read words words' n put before = each_imply (λ c. (m : ℕ) × IsNumber cs c m × Holds words m) (λ c. (m : ℕ) × IsNumber cs c m × Holds words' m) read (λ c w. (w.0, w.1, (put w.0).1 (inr w.2))) before

-- The row of a new class so far: the numbers from an end on of the classes above it have been seen. It goes up with the order.
pub record IsRowSoFar (cs : List Class) (above numbers row : List ℕ) (end : ℕ) : Type 0 where
  pub count : length row ≡ length cs / 64 + 1
  pub last : Holds row (length cs)
  pub only : (n : ℕ) → Holds row n → (n ≡ length cs) ⊎ AnyOf (λ b. (n < length cs) × IsClassBelow (of_classes cs) b (name_at cs n)) above
  pub closed : (m n : ℕ) → Holds row m → m < length cs → n < length cs → IsClassBelow (of_classes cs) (name_at cs m) (name_at cs n) → Holds row n
  pub seen : (m : ℕ) → Holds numbers m → end ≤ m → Holds row m

pub so_far_start : (cs : List Class) (above numbers empty row : List ℕ) (end : ℕ) → end ≡ length cs → HasNumbers cs above numbers → length row ≡ end / 64 + 1 → ((n : ℕ) → ¬ Holds empty n) → ((n : ℕ) → Holds row n ↔ ((n ≡ end) ⊎ Holds empty n)) → IsRowSoFar cs above numbers row end
so_far_start cs above numbers empty row end is has count none put = record {
  count = rw is at count;
  last = rw (← is) ((put end).1 (inl refl));
  only = λ n h. elim ((put n).0 h) [ inl e ↦ inl (e ∙ is) | inr o ↦ absurd (none n o) ];
  closed = λ m n h within. elim ((put m).0 h) [ inl e ↦ absurd (omega arith) | inr o ↦ absurd (none m o) ];
  seen = λ m h from. (let w = has.only m h in absurd (omega (arith, w.0, from, is)));
}

pub here_or_behind : (m n end : ℕ) → n + 1 ≡ end → n ≤ m → (m ≡ n) ⊎ (end ≤ m)
here_or_behind m n end is from = grind arith

pub so_far_put : (cs : List Class) (above numbers row other row' : List ℕ) (end number : ℕ) → HasNumbers cs above numbers → number + 1 ≡ end → Holds numbers number → IsRow cs (name_at cs number) other → ((n : ℕ) → Holds row' n ↔ (Holds row n ⊎ ((n / 64 < length row) × Holds other n))) → length row' ≡ length row
    → IsRowSoFar cs above numbers row end → IsRowSoFar cs above numbers row' number
so_far_put cs above numbers row other row' end number has is held theirs put long s = record {
  count = long ∙ s.count;
  last = (put (length cs)).1 (inl s.last);
  only = λ n h. elim ((put n).0 h) [
    | inl o ↦ s.only n o
    | inr w ↦ inr (any_of (λ b. (n < length cs) × IsClassBelow (of_classes cs) b (name_at cs n)) (name_at cs number) above (has.only number held).1 ((theirs n).0 w.1))
  ];
  closed = λ m n h m_within n_within below. elim ((put m).0 h) [
    | inl o ↦ (put n).1 (inl (s.closed m n o m_within n_within below))
    | inr w ↦ reach n n_within (below-trans ((theirs m).0 w.1).1 below)
  ];
  seen = λ m h from. elim (here_or_behind m number end is from) [
    | inl e ↦ reach m (has.only m h).0 (rw e itself)
    | inr behind ↦ (put m).1 (inl (s.seen m h behind))
  ];
}
  where
    reach : (n : ℕ) → n < length cs → IsClassBelow (of_classes cs) (name_at cs number) (name_at cs n) → Holds row' n
    reach n n_within below = (put n).1 (inr (rw s.count (omega (arith, n_within)), (theirs n).1 (n_within, below)))

pub so_far_kept : (cs : List Class) (above numbers row : List ℕ) (end number : ℕ) → number + 1 ≡ end → (¬ Holds numbers number) ⊎ Holds row number → IsRowSoFar cs above numbers row end → IsRowSoFar cs above numbers row number
so_far_kept cs above numbers row end number is held s = record {
  count = s.count;
  last = s.last;
  only = s.only;
  closed = s.closed;
  seen = λ m h from. elim (here_or_behind m number end is from) [
    | inl e ↦ elim held [ inl not ↦ absurd (not (rw e at h)) | inr there ↦ rw e there ]
    | inr behind ↦ s.seen m h behind
  ];
}

pub below_or_from : (m n : ℕ) → (m < n) ⊎ (n ≤ m)
below_or_from m n = grind arith

-- Numbers that the row has already are passed.
pub so_far_passed : (cs : List Class) (above numbers row : List ℕ) (number end : ℕ) → ((m : ℕ) → end ≤ m → m < number → Holds numbers m → Holds row m) → IsRowSoFar cs above numbers row number → IsRowSoFar cs above numbers row end
so_far_passed cs above numbers row number end passed s = record {
  count = s.count;
  last = s.last;
  only = s.only;
  closed = s.closed;
  seen = λ m h from. elim (below_or_from m number) [ inl below ↦ passed m from below h | inr behind ↦ s.seen m h behind ];
}

pub so_far_all : (cs : List Class) (above numbers row : List ℕ) (end : ℕ) → HasNumbers cs above numbers → end ≤ 0 → IsRowSoFar cs above numbers row end → IsNewRow cs above row
so_far_all cs above numbers row end has over s n = (
  s.only n,
  λ w. elim w [
    | inl e ↦ rw e s.last
    | inr some ↦ (let b = any_some (λ b. (n < length cs) × IsClassBelow (of_classes cs) b (name_at cs n)) above some in
        let m = each_at (λ c. (m : ℕ) × IsNumber cs c m × Holds numbers m) above has.each b.0 b.1 in
        s.closed m.0 n (s.seen m.0 m.2 (omega arith)) m.1.within b.2.0 (rw m.1.named b.2.1))
  ],
)

-- the classes by the row of a new class

-- Where there is no lowest class, the row of a new class has no number but its own.
pub none_named : (cs : List Class) (above numbers words : List ℕ) → ((n : ℕ) → n < length cs → ¬ Holds numbers n) → HasNumbers cs above numbers → IsNewRow cs above words → (x : ℕ) → ¬ NamedBefore cs words x (length cs)
none_named cs above numbers words none has row x w = elim ((row w.0).0 w.2) [
  | inl last ↦ omega (arith, last, w.1)
  | inr some ↦ (let b = any_some (λ b. (w.0 < length cs) × IsClassBelow (of_classes cs) b (name_at cs w.0)) above some in
      let m = each_at (λ c. (m : ℕ) × IsNumber cs c m × Holds numbers m) above has.each b.0 b.1 in
      none m.0 m.1.within m.2)
]

holds_or_not : (words : List ℕ) (n : ℕ) → Holds words n ⊎ ¬ Holds words n
holds_or_not words n = elim (eqb_tells (bit_at (get_or words (n / 64) 0) (n % 64)) 1) [ inl w ↦ inl (record { bit = w.1 }) | inr w ↦ inr (λ h. w.1 h.bit) ]

-- The names above the lowest class, and those of the other numbers in the row.
pub named_both : (cs : List Class) → Follows [] cs → (above numbers words : List ℕ) (low : ℕ) (e : ClassEntry) → Holds numbers low → IsNumber cs e.name low → IsEntry cs e → HasNumbers cs above numbers → IsNewRow cs above words → (names names' : List ℕ) → names ≡ e.up.items → ((x : ℕ) → IsIn x names' ↔ (IsIn x names ⊎ IsOtherNamed cs words e.row.items x 0))
    → (x : ℕ) → IsIn x names' ↔ NamedBefore cs words x (length cs)
named_both cs f above numbers words low e held is entry has row names names' same put x = (there, back)
  where
    in_row : (n : ℕ) → n < length cs → IsClassBelow (of_classes cs) e.name (name_at cs n) → Holds words n
    in_row n within below = (row n).1 (inr (any_of (λ b. (n < length cs) × IsClassBelow (of_classes cs) b (name_at cs n)) e.name above (rw is.named at (has.only low held).1) (within, below)))

    above_lowest : IsClassBelow (of_classes cs) e.name x → NamedBefore cs words x (length cs)
    above_lowest below =
        let n = number_of cs x (elim (reaches (of_classes cs) f below) [ inl same ↦ rw (← same) entry.up.declared | inr m ↦ m ]) in
        (n.0, n.1.within, in_row n.0 n.1.within (rw n.1.named below), n.1.named)

    there : IsIn x names' → NamedBefore cs words x (length cs)
    there m = elim ((put x).0 m) [
      | inl up ↦ above_lowest ((entry.up.are x).0 (rw same at up))
      | inr w ↦ (w.number, w.is.within, w.held, w.is.named)
    ]

    back : NamedBefore cs words x (length cs) → IsIn x names'
    back w = elim (holds_or_not e.row.items w.0) [
      | inl seen ↦ (put x).1 (inl (rw same ((entry.up.are x).1 (rw w.3 at (((entry.row w.0).0 seen).1)))))
      | inr new ↦ (put x).1 (inr (record { number = w.0; is = record { within = w.1; named = w.3 }; held = w.2; other = new; from = omega arith }))
    ]

-- one turn of the putting of names

pub others_put : (cs : List Class) (row seen start names names' : List ℕ) (end number y : ℕ) → number + 1 ≡ end → number < length cs → y ≡ name_at cs number → Holds row number → ¬ Holds seen number → ((x : ℕ) → IsIn x names' ↔ ((x ≡ y) ⊎ IsIn x names)) → ((x : ℕ) → IsIn x names ↔ (IsIn x start ⊎ IsOtherNamed cs row seen x end))
    → (x : ℕ) → IsIn x names' ↔ (IsIn x start ⊎ IsOtherNamed cs row seen x number)
others_put cs row seen start names names' end number y is within named held new put before x = (
  λ m. elim ((put x).0 m) [
    | inl e ↦ inr (record { number = number; is = record { within = within; named = sym (e ∙ named) }; held = held; other = new; from = omega arith })
    | inr o ↦ elim ((before x).0 o) [ inl s ↦ inl s | inr w ↦ inr (record { number = w.number; is = w.is; held = w.held; other = w.other; from = (let f = w.from in omega (arith, f, is)) }) ]
  ],
  λ w. elim w [
    | inl s ↦ (put x).1 (inr ((before x).1 (inl s)))
    | inr o ↦ elim (here_or_behind o.number number end is o.from) [
      | inl e ↦ (put x).1 (inl (sym o.is.named ∙ ap (name_at cs) e ∙ sym named))
      | inr behind ↦ (put x).1 (inr ((before x).1 (inr (record { number = o.number; is = o.is; held = o.held; other = o.other; from = behind }))))
    ]
  ],
)

pub others_kept : (cs : List Class) (row seen start names : List ℕ) (end number : ℕ) → number + 1 ≡ end → (¬ Holds row number) ⊎ Holds seen number → ((x : ℕ) → IsIn x names ↔ (IsIn x start ⊎ IsOtherNamed cs row seen x end)) → (x : ℕ) → IsIn x names ↔ (IsIn x start ⊎ IsOtherNamed cs row seen x number)
others_kept cs row seen start names end number is held before x = (
  λ m. elim ((before x).0 m) [ inl s ↦ inl s | inr w ↦ inr (record { number = w.number; is = w.is; held = w.held; other = w.other; from = (let f = w.from in omega (arith, f, is)) }) ],
  λ w. elim w [
    | inl s ↦ (before x).1 (inl s)
    | inr o ↦ elim (here_or_behind o.number number end is o.from) [
      | inl e ↦ elim held [ inl not ↦ absurd (not (rw e at o.held)) | inr seen ↦ absurd (o.other (rw e seen)) ]
      | inr behind ↦ (before x).1 (inr (record { number = o.number; is = o.is; held = o.held; other = o.other; from = behind }))
    ]
  ],
)

pub others_passed : (cs : List Class) (row seen start names : List ℕ) (number end : ℕ) → end ≤ number → ((m : ℕ) → end ≤ m → m < number → Holds row m → Holds seen m) → ((x : ℕ) → IsIn x names ↔ (IsIn x start ⊎ IsOtherNamed cs row seen x number)) → (x : ℕ) → IsIn x names ↔ (IsIn x start ⊎ IsOtherNamed cs row seen x end)
others_passed cs row seen start names number end below passed before x = (
  λ m. elim ((before x).0 m) [ inl s ↦ inl s | inr w ↦ inr (record { number = w.number; is = w.is; held = w.held; other = w.other; from = (let f = w.from in omega (arith, f, below)) }) ],
  λ w. elim w [
    | inl s ↦ (before x).1 (inl s)
    | inr o ↦ elim (below_or_from o.number number) [
      | inl early ↦ absurd (o.other (passed o.number o.from early o.held))
      | inr behind ↦ (before x).1 (inr (record { number = o.number; is = o.is; held = o.held; other = o.other; from = behind }))
    ]
  ],
)

-- No classes have an empty row.
pub no_numbers : (cs : List Class) (names words : List ℕ) (b : Bool) → b ≡ (length names == 0) → b ≡ true → words ≡ [] → HasNumbers cs names words
no_numbers cs [] words b e t none = rw none (record { only = λ n h. absurd (let inside = held_within [] n h in omega (arith, inside)); each = tt })
no_numbers cs (c ∷ names) words b e t none = let long : length (c ∷ names) ≡ 0 = eqb-true (length (c ∷ names)) 0 (sym e ∙ t) in absurd (omega arith)
