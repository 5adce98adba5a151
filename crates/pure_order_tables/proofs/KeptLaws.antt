-- Rows of sorts.
use Rattle.std.proofs.Common.{◌≡◌, ◌↔◌, ◌⊎◌, ℕ, ◌+◌, ◌<◌, ◌≤◌, ◌/◌, zero, suc, List, [], ◌∷◌, ◌++◌, length, get_or, take, take_all, refl, sym, ap, subst, inl, inr, ◌∙◌, arith, Bool, IsTrue, Option, Some, None, length-append}
use Rattle.std.specs.Prelude.{slice_get}
use Rattle.std.specs.Global.{Vec}
use Rattle.std.specs.declared.alloc.Global.{Global}
use Rattle.std.specs.declared.sync.Arc.{Arc}
use Rattle.pure_text.specs.Lists.{Each, AnyOf}
use Rattle.pure_text.proofs.ListLaws.{any_some, any_of, any_imply, any-append_left, in-append_left, each_of, each_at, each_imply}
use Rattle.pure_text.proofs.LoopLaws.{any_turn, each_turn}
use Rattle.pure_definitions.specs.Types.Order.{Class, Algebra, IsClassBelow, HasClassBelow, IsSortBelow}
use Rattle.pure_definitions.proofs.OrderLaws.{below-trans, below-more, below_same}
use Rattle.pure_order_tables.specs.Rows.{Holds}
use Rattle.pure_order_tables.specs.Classes.{Follows, IsDeclared, of_classes}
use Rattle.pure_order_tables.specs.ClassTable.{IsNumber, name_at}
use Rattle.pure_order_tables.specs.Sorts.{AreUpWords}
use Rattle.pure_order_tables.specs.Uncovered.{IsUpRow}
use Rattle.pure_order_tables.specs.declared.tables.ArityEntry.{ArityEntry}
use Rattle.pure_order_tables.specs.ArityView.{arity_of}
use Rattle.pure_order_tables.specs.Kept.{AreKeptRows, IsKeptEntry, IsKeptRow, IsSortRow, words_in, words_of}
use Rattle.pure_order_tables.proofs.BelowLaws.{below-classes, below-one_more, declared_at, reaches}
use Rattle.pure_order_tables.proofs.ClassTableLaws.{declared_at_number, declared_by, inside, name_kept, name_new, number_of}
use Rattle.pure_order_tables.proofs.SortLaws.{lower_declared}

-- Of the numbers of classes the words hold those of the classes above one of the sort.
pub record HasRow (A : Algebra) (s words : List ℕ) : Type 0 where
  pub held : (n : ℕ) → n < length A.classes → Holds words n ↔ HasClassBelow A s (name_at A.classes n)

pub from_row : (A : Algebra) (s words : List ℕ) → IsSortRow A.classes s words → HasRow A s words
from_row A s words w = record {
  held = λ n within. (
    λ h. any_imply (λ b. IsClassBelow (of_classes A.classes) b (name_at A.classes n)) (λ b. IsClassBelow A b (name_at A.classes n)) s (λ b k. (below-classes A b (name_at A.classes n)).0 k) ((w.held n).0 h).1,
    λ some. (w.held n).1 (within, any_imply (λ b. IsClassBelow A b (name_at A.classes n)) (λ b. IsClassBelow (of_classes A.classes) b (name_at A.classes n)) s (λ b k. (below-classes A b (name_at A.classes n)).1 k) some),
  );
}

pub from_words : (A : Algebra) (s words : List ℕ) → length A.classes ≤ 4096 → AreUpWords A s words → HasRow A s words
from_words A s words most up = record {
  held = λ n within. (
    λ h. any_imply (λ b. IsDeclared A.classes b × IsClassBelow A b (name_at A.classes n)) (λ b. IsClassBelow A b (name_at A.classes n)) s (λ b w. w.1) ((up n (omega arith)).0 h).1,
    λ some. (up n (omega arith)).1 (within, any_imply (λ b. IsClassBelow A b (name_at A.classes n)) (λ b. IsDeclared A.classes b × IsClassBelow A b (name_at A.classes n)) s (λ b k. (known n within b k, k)) some),
  );
}
  where
    known : (n : ℕ) → n < length A.classes → (b : ℕ) → IsClassBelow A b (name_at A.classes n) → IsDeclared A.classes b
    known n within b k = elim (lower_declared A b (name_at A.classes n) k) [ inl e ↦ rw e (declared_at_number A.classes n within) | inr m ↦ m ]

-- One sort is below another where its row has the other's.
pub rows_below : (A : Algebra) (s r first second : List ℕ) (b : Bool) → HasRow A s first → IsSortRow A.classes r second → (IsTrue b ↔ ((n : ℕ) → Holds second n → Holds first n)) → IsTrue b ↔ IsSortBelow A s r
rows_below A s r first second b lower upper test = (λ t. there (test.0 t), λ h. test.1 (back h))
  where
    there : ((n : ℕ) → Holds second n → Holds first n) → IsSortBelow A s r
    there all = each_of (HasClassBelow A s) r (λ c m.
        let n = number_of A.classes c (each_at (IsDeclared A.classes) r upper.declared c m) in
        let held = (upper.held n.0).1 (n.1.within, any_of (λ b. IsClassBelow (of_classes A.classes) b (name_at A.classes n.0)) c r m (below_same (of_classes A.classes) c (name_at A.classes n.0) (sym n.1.named))) in
        rw n.1.named at ((lower.held n.0 n.1.within).0 (all n.0 held)))

    back : IsSortBelow A s r → (n : ℕ) → Holds second n → Holds first n
    back h n held =
        let w = (upper.held n).0 held in
        let x = any_some (λ b. IsClassBelow (of_classes A.classes) b (name_at A.classes n)) r w.1 in
        (lower.held n w.0).1 (any_imply (λ b. IsClassBelow A b x.0) (λ b. IsClassBelow A b (name_at A.classes n)) s (λ b k. below-trans k ((below-classes A x.0 (name_at A.classes n)).0 x.2)) (each_at (HasClassBelow A s) r h x.0 x.1))

pub class_in_row : (A : Algebra) (s words : List ℕ) (c n : ℕ) (b : Bool) → IsNumber A.classes c n → (IsTrue b ↔ Holds words n) → IsSortRow A.classes s words → IsTrue b ↔ HasClassBelow A s c
class_in_row A s words c n b is test w =
    let row = from_row A s words w in
    let at : Holds words n ↔ HasClassBelow A s c = rw is.named at (row.held n is.within) in
    (λ t. at.0 (test.0 t), λ h. test.1 (at.1 h))

pub class_not_in_row : (A : Algebra) → Follows [] A.classes → (s words : List ℕ) (c : ℕ) → ¬ IsDeclared A.classes c → IsSortRow A.classes s words → ¬ HasClassBelow A s c
class_not_in_row A f s words c not w some =
    let x = any_some (λ b. IsClassBelow A b c) s some in
    elim (reaches A f x.2) [ inl e ↦ not (declared_at A.classes x.0 c e (each_at (IsDeclared A.classes) s w.declared x.0 x.1)) | inr m ↦ not m ]

-- The row is that of the classes read so far.
pub record IsSortRowSoFar (A : Algebra) (s row : List ℕ) (i : ℕ) : Type 0 where
  pub count : length row ≡ length A.classes / 64 + 1
  pub sort : IsSortRow A.classes (take i s) row

pub row_start : (A : Algebra) (s row : List ℕ) → length row ≡ length A.classes / 64 + 1 → ((n : ℕ) → ¬ Holds row n) → IsSortRowSoFar A s row 0
row_start A s row count none = record { count = count; sort = record { declared = tt; held = λ n. (λ h. absurd (none n h), λ w. absurd w.1) } }

pub row_put : (A : Algebra) (s row row' other : List ℕ) (i c number : ℕ) → i < length s → c ≡ get_or s i c → IsNumber A.classes c number → IsUpRow A (name_at A.classes number) other → ((n : ℕ) → Holds row' n ↔ (Holds row n ⊎ ((n / 64 < length row) × Holds other n))) → length row' ≡ length row
    → IsSortRowSoFar A s row i → IsSortRowSoFar A s row' (i + 1)
row_put A s row row' other i c number within read is up put long so = record {
  count = long ∙ so.count;
  sort = record {
    declared = each_turn (IsDeclared A.classes) s i c within read so.sort.declared (declared_by A.classes c number is);
    held = λ n. (
      λ h. elim ((put n).0 h) [
        | inl o ↦ (let w = (so.sort.held n).0 o in (w.0, (turn n).1 (inl w.1)))
        | inr w ↦ (let v = (up n).0 w.1 in (v.0, (turn n).1 (inr (rw is.named at ((below-classes A (name_at A.classes number) (name_at A.classes n)).1 v.1)))))
      ],
      λ w. elim ((turn n).0 w.1) [
        | inl old ↦ (put n).1 (inl ((so.sort.held n).1 (w.0, old)))
        | inr new ↦ (put n).1 (inr (room n w.0, (up n).1 (w.0, rw is.named ((below-classes A c (name_at A.classes n)).0 new))))
      ],
    );
  };
}
  where
    turn : (n : ℕ) → AnyOf (λ b. IsClassBelow (of_classes A.classes) b (name_at A.classes n)) (take (i + 1) s) ↔ (AnyOf (λ b. IsClassBelow (of_classes A.classes) b (name_at A.classes n)) (take i s) ⊎ IsClassBelow (of_classes A.classes) c (name_at A.classes n))
    turn n = any_turn (λ b. IsClassBelow (of_classes A.classes) b (name_at A.classes n)) s i c within read

    room : (n : ℕ) → n < length A.classes → n / 64 < length row
    room n few = rw so.count (omega (arith, few))

below_along : (A : Algebra) (b c d : ℕ) → c ≡ d → IsClassBelow A b c → IsClassBelow A b d
below_along A b c d e h = rw (← e) h

pub row_held : (A : Algebra) (s row : List ℕ) (i c number : ℕ) → i < length s → c ≡ get_or s i c → IsNumber A.classes c number → Holds row number → IsSortRowSoFar A s row i → IsSortRowSoFar A s row (i + 1)
row_held A s row i c number within read is there so = record {
  count = so.count;
  sort = record {
    declared = each_turn (IsDeclared A.classes) s i c within read so.sort.declared (declared_by A.classes c number is);
    held = λ n. (
      λ h. (let w = (so.sort.held n).0 h in (w.0, (turn n).1 (inl w.1))),
      λ w. elim ((turn n).0 w.1) [
        | inl old ↦ (so.sort.held n).1 (w.0, old)
        | inr new ↦ (let b = any_some (λ b. IsClassBelow (of_classes A.classes) b (name_at A.classes number)) (take i s) ((so.sort.held number).0 there).1 in
            (so.sort.held n).1 (w.0, any_of (λ b. IsClassBelow (of_classes A.classes) b (name_at A.classes n)) b.0 (take i s) b.1 (below-trans (below_along (of_classes A.classes) b.0 (name_at A.classes number) c is.named b.2) new)))
      ],
    );
  };
}
  where
    turn : (n : ℕ) → AnyOf (λ b. IsClassBelow (of_classes A.classes) b (name_at A.classes n)) (take (i + 1) s) ↔ (AnyOf (λ b. IsClassBelow (of_classes A.classes) b (name_at A.classes n)) (take i s) ⊎ IsClassBelow (of_classes A.classes) c (name_at A.classes n))
    turn n = any_turn (λ b. IsClassBelow (of_classes A.classes) b (name_at A.classes n)) s i c within read

pub row_all : (A : Algebra) (s row : List ℕ) (i : ℕ) → length s ≤ i → IsSortRowSoFar A s row i → IsKeptRow A.classes s row
row_all A s row i end so = record { row = λ some. rw (take_all i s end) at so.sort }

pub empty_kept : (cs : List Class) (s words : List ℕ) → words ≡ [] → IsKeptRow cs s words
empty_kept cs s words none = record { row = λ some. absurd (omega (arith, ap length none)) }

-- One more class changes no row.
pub row_more : (cs : List Class) (k : Class) → Follows [] cs → ¬ IsDeclared cs k.name → (s words : List ℕ) → IsSortRow cs s words → IsSortRow (cs ++ k ∷ []) s words
row_more cs k f fresh s words row = record {
  declared = each_imply (IsDeclared cs) (IsDeclared (cs ++ k ∷ [])) s (λ c m. any-append_left (λ l. l.name ≡ c) cs (k ∷ []) m) row.declared;
  held = λ n. (there n, back n);
}
  where
    there : (n : ℕ) → Holds words n → (n < length (cs ++ k ∷ [])) × HasClassBelow (of_classes (cs ++ k ∷ [])) s (name_at (cs ++ k ∷ []) n)
    there n h =
        let w = (row.held n).0 h in (
          omega (arith, length-append cs (k ∷ []), w.0),
          rw (name_kept cs (k ∷ []) n w.0) (any_imply (λ b. IsClassBelow (of_classes cs) b (name_at cs n)) (λ b. IsClassBelow (of_classes (cs ++ k ∷ [])) b (name_at cs n)) s
              (λ b m. below-more (of_classes cs) (of_classes (cs ++ k ∷ [])) (λ l i. in-append_left l cs (k ∷ []) i) m) w.1),
        )

    back : (n : ℕ) → (n < length (cs ++ k ∷ [])) × HasClassBelow (of_classes (cs ++ k ∷ [])) s (name_at (cs ++ k ∷ []) n) → Holds words n
    back n w =
        let b = any_some (λ b. IsClassBelow (of_classes (cs ++ k ∷ [])) b (name_at (cs ++ k ∷ []) n)) s w.1 in
        let known = each_at (IsDeclared cs) s row.declared b.0 b.1 in
        let other : ¬ (b.0 ≡ k.name) = λ e. fresh (declared_at cs b.0 k.name e known) in
        elim (inside cs k n w.0) [
          | inl old ↦ (row.held n).1 (old, any_of (λ b. IsClassBelow (of_classes cs) b (name_at cs n)) b.0 s b.1 (below-one_more (of_classes cs) (of_classes (cs ++ k ∷ [])) k refl f fresh b.0 (name_at cs n) other (below_along (of_classes (cs ++ k ∷ [])) b.0 (name_at (cs ++ k ∷ []) n) (name_at cs n) (name_kept cs (k ∷ []) n old) b.2)))
          | inr new ↦ (let below : IsClassBelow (of_classes cs) b.0 k.name = below-one_more (of_classes cs) (of_classes (cs ++ k ∷ [])) k refl f fresh b.0 k.name other (below_along (of_classes (cs ++ k ∷ [])) b.0 (name_at (cs ++ k ∷ []) n) k.name (name_new cs k n new) b.2) in
              elim (reaches (of_classes cs) f below) [ inl e ↦ absurd (other e) | inr m ↦ absurd (fresh m) ])
        ]

pub kept_more : (cs : List Class) (k : Class) → Follows [] cs → ¬ IsDeclared cs k.name → (es : List ArityEntry) → Each (IsKeptEntry cs) es → Each (IsKeptEntry (cs ++ k ∷ [])) es
kept_more cs k f fresh es kept = each_imply (IsKeptEntry cs) (IsKeptEntry (cs ++ k ∷ [])) es (λ e h. record { at = λ i. record { row = λ some. row_more cs k f fresh (get_or (arity_of e).domains i []) (words_in e.rows i) ((h.at i).row some) } }) kept

-- copies of arities

pub kept_copy : (cs : List Class) (e g : ArityEntry) → arity_of g ≡ arity_of e → ((i : ℕ) → words_in g.rows i ≡ words_in e.rows i) → IsKeptEntry cs e → IsKeptEntry cs g
kept_copy cs e g same rows h = record {
  at = λ i. let P : List (List ℕ) → Type 0 = λ ss. IsKeptRow cs (get_or ss i []) (words_in g.rows i) in
      subst P (ap (λ a. a.domains) (sym same)) (rw (rows i) (h.at i));
}

pub kept_entry : (cs : List Class) (e g : ArityEntry) (ss : List (List ℕ)) (rows : Option (Arc (Vec (Vec ℕ)) Global)) → arity_of g ≡ arity_of e → g.rows ≡ rows → ss ≡ (arity_of e).domains → AreKeptRows cs ss rows → IsKeptEntry cs g
kept_entry cs e g ss rows same are read kept = record {
  at = λ i. let P : List (List ℕ) → Type 0 = λ xs. IsKeptRow cs (get_or xs i []) (words_in g.rows i) in
      subst P (read ∙ ap (λ a. a.domains) (sym same)) (rw are (kept.at i));
}

-- rows one after the other

get_front : {A : Type 0} (xs ys : List A) (j : ℕ) → j < length xs → slice_get (xs ++ ys) j ≡ slice_get xs j
get_front [] ys j h = absurd (omega arith)
get_front (x ∷ xs) ys zero h = refl
get_front (x ∷ xs) ys (suc j) h = get_front xs ys j (omega arith)

get_last : {A : Type 0} (xs : List A) (x : A) (j : ℕ) → j ≡ length xs → slice_get (xs ++ x ∷ []) j ≡ Some x
get_last [] x zero h = refl
get_last [] x (suc j) h = absurd (omega arith)
get_last (y ∷ xs) x zero h = absurd (omega arith)
get_last (y ∷ xs) x (suc j) h = get_last xs x j (omega arith)

get_past : {A : Type 0} (xs : List A) (j : ℕ) → length xs ≤ j → slice_get xs j ≡ None
get_past [] j h = refl
get_past (x ∷ xs) zero h = absurd (omega arith)
get_past (x ∷ xs) (suc j) h = get_past xs j (omega arith)

-- The rows are those of the sorts read so far.
pub record AreRowsSoFar (cs : List Class) (ss : List (List ℕ)) (rows : List (Vec ℕ)) (i : ℕ) : Type 0 where
  pub count : length rows ≡ i
  pub at : (j : ℕ) → j < i → IsKeptRow cs (get_or ss j []) (words_of (slice_get rows j))

default_any : {A : Type 0} (xs : List A) (i : ℕ) (d e : A) → i < length xs → get_or xs i d ≡ get_or xs i e
default_any [] i d e h = absurd (omega arith)
default_any (x ∷ xs) zero d e h = refl
default_any (x ∷ xs) (suc i) d e h = default_any xs i d e (omega arith)

pub rows_turn : (cs : List Class) (ss : List (List ℕ)) (rows rows' : List (Vec ℕ)) (i : ℕ) (s : List ℕ) (row : Vec ℕ) → i < length ss → s ≡ get_or ss i s → rows' ≡ rows ++ row ∷ [] → IsKeptRow cs s row.items → AreRowsSoFar cs ss rows i → AreRowsSoFar cs ss rows' (i + 1)
rows_turn cs ss rows rows' i s row within read longer kept so = rw longer (record {
  count = omega (arith, length-append rows (row ∷ []), so.count);
  at = λ j before. elim (last_or_earlier j i before) [
    | inl early ↦ rw (get_front rows (row ∷ []) j (omega (arith, so.count, early))) (so.at j early)
    | inr here ↦ (let found : get_or ss j [] ≡ s = rw here (default_any ss i [] s within ∙ sym read) in rw (get_last rows row j (here ∙ sym so.count), found) kept)
  ];
})
  where
    last_or_earlier : (m n : ℕ) → m < n + 1 → (m < n) ⊎ (m ≡ n)
    last_or_earlier m n h = grind arith

pub rows_all : (cs : List Class) (ss : List (List ℕ)) (rows : List (Vec ℕ)) (i j : ℕ) → length ss ≤ i → AreRowsSoFar cs ss rows i → IsKeptRow cs (get_or ss j []) (words_of (slice_get rows j))
rows_all cs ss rows i j end so = elim (before_or_not j i) [
  | inl before ↦ so.at j before
  | inr past ↦ rw (get_past rows j (omega (arith, so.count, past))) (empty_kept cs (get_or ss j []) [] refl)
]
  where
    before_or_not : (m n : ℕ) → (m < n) ⊎ (n ≤ m)
    before_or_not m n = grind arith

-- the row that is read beside a domain
pub kept_read : (cs : List Class) (ss read : List (List ℕ)) (rows : Option (Arc (Vec (Vec ℕ)) Global)) (i : ℕ) (s words : List ℕ) → read ≡ ss → i < length read → s ≡ get_or read i s → words ≡ words_in rows i → AreKeptRows cs ss rows → IsKeptRow cs s words
kept_read cs ss read rows i s words are within is row kept =
    let short : i < length ss = rw are at within in
    let found : get_or ss i [] ≡ s = default_any ss i [] s short ∙ ap (λ xs. get_or xs i s) (sym are) ∙ sym is in
    rw (row, ← found) (kept.at i)
