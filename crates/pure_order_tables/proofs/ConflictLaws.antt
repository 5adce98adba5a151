-- Conflicts between the arities of two coregular algebras.
use Rattle.std.proofs.Common.{◌≡◌, ◌⊎◌, ℕ, ◌<◌, ◌≤◌, ◌+◌, List, [], ◌∷◌, ◌++◌, min, max, length, get_or, take, refl, sym, ap, subst, inl, inr, ◌∙◌, arith, Option, Some, None, MatchOption}
use Rattle.pure_text.specs.Lists.{IsIn, Each, AnyOf}
use Rattle.pure_text.proofs.ListLaws.{any_some, any-append_left, any-append_right, each-append, each_at, each_imply, in-append_left, in-append_right, in_split}
use Rattle.pure_text.proofs.LoopLaws.{in_turn}
use Rattle.pure_definitions.specs.Types.Order.{Class, Arity, Algebra, IsClassBelow, itself, AreDomainsBelow, AreCompatible, IsJoin, IsCoregular}
use Rattle.pure_definitions.proofs.OrderLaws.{below-more, domains-more, domains-trans}
use Rattle.pure_order_tables.specs.declared.conflicts.Exposed.{Exposed}
use Rattle.pure_order_tables.specs.Rows.{Holds}
use Rattle.pure_order_tables.specs.Classes.{IsDeclared}
use Rattle.pure_order_tables.specs.ClassTable.{name_at}
use Rattle.pure_order_tables.specs.Arities.{IsKnown, IsUnion}
use Rattle.pure_order_tables.specs.Others.{AreWithOthers}
use Rattle.pure_order_tables.specs.Checks.{IsInConflict, IsLeastConflict, IsNotAfter}
use Rattle.pure_order_tables.specs.Uncovered.{Extends, IsCoveredBy}
use Rattle.pure_order_tables.specs.Exposed.{AreExposed, AreIn, AreSides, Clash, FindsClash, FindsConflict, HasBoth, IsExposed, IsLeastClash, names_in, with_arities}
use Rattle.pure_order_tables.proofs.BelowLaws.{declared_at, reaches}
use Rattle.pure_order_tables.proofs.ClassTableLaws.{number_of}
use Rattle.pure_order_tables.proofs.CoregularLaws.{compatible_back}
use Rattle.pure_order_tables.proofs.OtherLaws.{with_others}

-- The order is the same whatever the arities.

up : (V : Algebra) (bs : List Arity) {c d : ℕ} → IsClassBelow V c d → IsClassBelow (with_arities V bs) c d
up V bs h = below-more V (with_arities V bs) (λ k m. m) h

down : (V : Algebra) (bs : List Arity) {c d : ℕ} → IsClassBelow (with_arities V bs) c d → IsClassBelow V c d
down V bs h = below-more (with_arities V bs) V (λ k m. m) h

raised : (V : Algebra) (bs : List Arity) (a b : Arity) → AreDomainsBelow V a b → AreDomainsBelow (with_arities V bs) a b
raised V bs a b h = domains-more V (with_arities V bs) (λ k m. m) a b h

lowered : (V : Algebra) (bs : List Arity) (a b : Arity) → AreDomainsBelow (with_arities V bs) a b → AreDomainsBelow V a b
lowered V bs a b h = domains-more (with_arities V bs) V (λ k m. m) a b h

-- Two arities of one side are compatible.
side_compatible : (V B : Algebra) (bs : List Arity) → Extends V B → IsCoregular B → ((a : Arity) → IsIn a B.arities → IsIn a bs) → (a b : Arity) → IsIn a B.arities → IsIn b B.arities → a.con ≡ b.con → AreCompatible (with_arities V bs) a b
side_compatible V B bs ext r more a b m n con = record {
  forth = λ h. lift a b (w.forth (ext.up a a.class b.class m itself (down V bs h)));
  back = λ h. lift b a (w.back (ext.up b b.class a.class n itself (down V bs h)));
  joined = λ d h k. (let j = w.joined d (ext.up a a.class d m itself (down V bs h)) (ext.up b b.class d n itself (down V bs k)) in
      (j.0, record { declared = more j.0 j.1.declared; con = j.1.con; class = up V bs (below-more B V ext.classes j.1.class); first = lift a j.0 j.1.first; second = lift b j.0 j.1.second }));
}
  where
    w : AreCompatible B a b
    w = r a b m n con

    lift : (x y : Arity) → AreDomainsBelow B x y → AreDomainsBelow (with_arities V bs) x y
    lift x y h = raised V bs x y (domains-more B V ext.classes x y h)

-- An arity that is covered at the class of another falls below it.
pub falls : (V B : Algebra) → Extends V B → IsCoregular B → (a b : Arity) → IsIn b B.arities → b.con ≡ a.con → IsCoveredBy V B a b.class → AreDomainsBelow V a b
falls V B ext r a b m con w = domains-trans V a w.0 b w.2 (domains-more B V ext.classes w.0 b ((r w.0 b w.1.declared m (w.1.con ∙ sym con)).forth w.1.below))

-- An arity that is covered at a class has a join there with each other.
pub joins : (V B : Algebra) (bs : List Arity) → Extends V B → IsCoregular B → ((a : Arity) → IsIn a B.arities → IsIn a bs) → (a b : Arity) (d : ℕ) → IsIn b B.arities → b.con ≡ a.con → IsClassBelow V b.class d → IsCoveredBy V B a d → (q : Arity) × IsJoin (with_arities V bs) a b d q
joins V B bs ext r more a b d m con h w =
    let j = (r w.0 b w.1.declared m (w.1.con ∙ sym con)).joined d w.1.below (ext.up b b.class d m itself h) in (
      j.0,
      record {
        declared = more j.0 j.1.declared;
        con = j.1.con ∙ w.1.con;
        class = up V bs (below-more B V ext.classes j.1.class);
        first = raised V bs a j.0 (domains-trans V a w.0 j.0 w.2 (domains-more B V ext.classes w.0 j.0 j.1.first));
        second = raised V bs b j.0 (domains-more B V ext.classes b j.0 j.1.second);
      },
    )

join_back : (U : Algebra) (a b : Arity) (d : ℕ) → a.con ≡ b.con → ((q : Arity) × IsJoin U b a d q) → (q : Arity) × IsJoin U a b d q
join_back U a b d con j = (j.0, record { declared = j.1.declared; con = j.1.con ∙ sym con; class = j.1.class; first = j.1.second; second = j.1.first })

-- An arity of each side: where they don't clash they are compatible.
apart_compatible : (V A B : Algebra) (bs : List Arity) → AreSides V A B → HasBoth A B bs → (a b : Arity) (e f : Exposed) → IsIn a A.arities → IsIn b B.arities → a.con ≡ b.con → IsExposed V B a e → IsExposed V A b f → ¬ Clash e f → AreCompatible (with_arities V bs) a b
apart_compatible V A B bs s both a b e f m n con x y apart = record {
  forth = λ h. raised V bs a b (falls V B s.right s.right_coregular a b n (sym con) (at_second (down V bs h)));
  back = λ h. raised V bs b a (falls V A s.left s.left_coregular b a m con (at_first (down V bs h)));
  joined = λ d h k. at d (down V bs h) (down V bs k);
}
  where
    same : e.con ≡ f.con
    same = sym x.con ∙ con ∙ y.con

    at_second : IsClassBelow V a.class b.class → IsCoveredBy V B a b.class
    at_second h = elim (x.row.rest f.number y.number.within (rw y.number.named h)) [ inl held ↦ absurd (apart (same, inl held)) | inr w ↦ rw y.number.named at w ]

    at_first : IsClassBelow V b.class a.class → IsCoveredBy V A b a.class
    at_first h = elim (y.row.rest e.number x.number.within (rw x.number.named h)) [ inl held ↦ absurd (apart (same, inr (inl held))) | inr w ↦ rw x.number.named at w ]

    known : (d : ℕ) → IsClassBelow V a.class d → IsDeclared V.classes d
    known d h = elim (reaches V s.ordered h) [ inl e ↦ declared_at V.classes a.class d e (each_at (IsKnown V.classes) A.arities s.left_known a m).class | inr k ↦ k ]

    at : (d : ℕ) → IsClassBelow V a.class d → IsClassBelow V b.class d → (q : Arity) × IsJoin (with_arities V bs) a b d q
    at d h k =
        let w = number_of V.classes d (known d h) in
        elim (x.row.rest w.0 w.1.within (rw w.1.named h)) [
          | inr covered ↦ joins V B bs s.right s.right_coregular (λ q o. (both q).1 (inr o)) a b d n (sym con) k (rw w.1.named at covered)
          | inl held ↦ elim (y.row.rest w.0 w.1.within (rw w.1.named k)) [
            | inr covered ↦ join_back (with_arities V bs) a b d con (joins V A bs s.left s.left_coregular (λ q o. (both q).1 (inl o)) b a d m con h (rw w.1.named at covered))
            | inl too ↦ absurd (apart (same, inr (inr (w.0, held, too))))
          ]
        ]

-- Where they clash they aren't.
clash_conflict : (V A B : Algebra) (bs : List Arity) → AreSides V A B → HasBoth A B bs → (a b : Arity) (e f : Exposed) → IsIn a A.arities → IsIn b B.arities → IsExposed V B a e → IsExposed V A b f → a.con ≡ b.con → Clash e f → ¬ AreCompatible (with_arities V bs) a b
clash_conflict V A B bs s both a b e f m n x y con clash w = elim clash.1 [
  | inl held ↦ first held
  | inr v ↦ elim v [ inl held ↦ second held | inr t ↦ third t.0 t.1 t.2 ]
]
  where
    first : Holds e.row.items f.number → ⊥
    first held =
        let below : IsClassBelow V a.class b.class = rw y.number.named at (x.row.above f.number held).1 in
        let covered : IsCoveredBy V B a b.class = (b, record { declared = n; con = sym con; below = itself }, lowered V bs a b (w.forth (up V bs below))) in
        x.row.bare s.right_coregular f.number held (rw y.number.named covered)

    second : Holds f.row.items e.number → ⊥
    second held =
        let below : IsClassBelow V b.class a.class = rw x.number.named at (y.row.above e.number held).1 in
        let covered : IsCoveredBy V A b a.class = (a, record { declared = m; con = con; below = itself }, lowered V bs b a (w.back (up V bs below))) in
        y.row.bare s.left_coregular e.number held (rw x.number.named covered)

    third : (p : ℕ) → Holds e.row.items p → Holds f.row.items p → ⊥
    third p h k =
        let j = w.joined (name_at V.classes p) (up V bs (x.row.above p h).1) (up V bs (y.row.above p k).1) in
        elim ((both j.0).0 j.1.declared) [
          | inl left ↦ y.row.bare s.left_coregular p k (j.0, record { declared = left; con = j.1.con ∙ con; below = s.left.up j.0 j.0.class (name_at V.classes p) left itself (down V bs j.1.class) }, lowered V bs b j.0 j.1.second)
          | inr right ↦ x.row.bare s.right_coregular p h (j.0, record { declared = right; con = j.1.con; below = s.right.up j.0 j.0.class (name_at V.classes p) right itself (down V bs j.1.class) }, lowered V bs a j.0 j.1.first)
        ]

-- They are compatible, or both sides have what their conflicts rest on.
cross : (V A B : Algebra) (bs : List Arity) → AreSides V A B → HasBoth A B bs → (es fs : List Exposed) → AreExposed V A B es → AreExposed V B A fs → (a b : Arity) → IsIn a A.arities → IsIn b B.arities → a.con ≡ b.con
    → AreCompatible (with_arities V bs) a b ⊎ ((e f : Exposed) × IsIn e es × IsIn f fs × IsExposed V B a e × IsExposed V A b f)
cross V A B bs s both es fs xs ys a b m n con = elim (each_at (λ a. IsIn a B.arities ⊎ AnyOf (IsExposed V B a) es) A.arities xs.all a m) [
  | inl shared ↦ inl (side_compatible V B bs s.right s.right_coregular (λ q o. (both q).1 (inr o)) a b shared n con)
  | inr some ↦ elim (each_at (λ b. IsIn b A.arities ⊎ AnyOf (IsExposed V A b) fs) B.arities ys.all b n) [
    | inl shared ↦ inl (side_compatible V A bs s.left s.left_coregular (λ q o. (both q).1 (inl o)) a b m shared con)
    | inr more ↦ (let e = any_some (IsExposed V B a) es some in let f = any_some (IsExposed V A b) fs more in inr (e.0, f.0, e.1, f.1, e.2, f.2))
  ]
]

-- The order of names is transitive.
after_trans : (k c d l e f m g h : ℕ) → IsNotAfter k c d l e f → IsNotAfter l e f m g h → IsNotAfter k c d m g h
after_trans k c d l e f m g h p q = grind arith

-- One pair more that clashes or doesn't, and the same pairs in other words.

pub clash_kept : (P P' : Exposed → Exposed → Type 0) (x y : Exposed) (o : Option (ℕ × ℕ × ℕ)) → ((e f : Exposed) → P e f → P' e f) → ((e f : Exposed) → P' e f → P e f ⊎ ((e ≡ x) × (f ≡ y))) → ¬ Clash x y → FindsClash P o → FindsClash P' o
clash_kept P P' x y None more split not found = λ e f m. elim (split e f m) [ inl old ↦ found e f old | inr new ↦ rw (new.0, new.1) not ]
clash_kept P P' x y (Some t) more split not found = record {
  is = (let w = found.is in (w.0, w.1, more w.0 w.1 w.2, w.3, w.4));
  least = λ e f m. elim (split e f m) [ inl old ↦ found.least e f old | inr new ↦ inl (rw (new.0, new.1) not) ];
}

pub clash_put : (P P' : Exposed → Exposed → Type 0) (x y : Exposed) (o : Option (ℕ × ℕ × ℕ)) (r : ℕ × ℕ × ℕ) → ((e f : Exposed) → P e f → P' e f) → ((e f : Exposed) → P' e f → P e f ⊎ ((e ≡ x) × (f ≡ y))) → P' x y → Clash x y
    → IsNotAfter r.0 r.1 r.2 x.con (min x.class y.class) (max x.class y.class) → MatchOption o (r ≡ names_in x y) (λ t. IsNotAfter r.0 r.1 r.2 t.0 t.1 t.2 × ((r ≡ t) ⊎ (r ≡ names_in x y))) → FindsClash P o → FindsClash P' (Some r)
clash_put P P' x y None r more split there clash within one found = record {
  is = (x, y, there, clash, one);
  least = λ e f m. elim (split e f m) [ inl old ↦ inl (found e f old) | inr new ↦ inr (rw (new.0, new.1) within) ];
}
clash_put P P' x y (Some t) r more split there clash within one found = record {
  is = elim one.1 [ inl same ↦ (let w = found.is in (w.0, w.1, more w.0 w.1 w.2, w.3, same ∙ w.4)) | inr new ↦ (x, y, there, clash, new) ];
  least = λ e f m. elim (split e f m) [
    | inl old ↦ elim (found.least e f old) [ inl apart ↦ inl apart | inr after ↦ inr (after_trans r.0 r.1 r.2 t.0 t.1 t.2 e.con (min e.class f.class) (max e.class f.class) one.0 after) ]
    | inr new ↦ inr (rw (new.0, new.1) within)
  ];
}

pub clash_same : (P P' : Exposed → Exposed → Type 0) (o : Option (ℕ × ℕ × ℕ)) → ((e f : Exposed) → P e f → P' e f) → ((e f : Exposed) → P' e f → P e f) → FindsClash P o → FindsClash P' o
clash_same P P' None more back found = λ e f m. found e f (back e f m)
clash_same P P' (Some t) more back found = record {
  is = (let w = found.is in (w.0, w.1, more w.0 w.1 w.2, w.3, w.4));
  least = λ e f m. found.least e f (back e f m);
}

-- The pairs gone through: of the first arities before a place with all second ones, and of the one there with second ones before a place.
abbrev pub AreSeen : List Exposed → ℕ → Exposed → List Exposed → ℕ → Exposed → Exposed → Type 0
AreSeen es i x fs j e f = AreIn (take i es) fs e f ⊎ ((e ≡ x) × IsIn f (take j fs))

pub seen_start : (es : List Exposed) (i : ℕ) (x : Exposed) (fs : List Exposed) (o : Option (ℕ × ℕ × ℕ)) → FindsClash (AreIn (take i es) fs) o → FindsClash (AreSeen es i x fs 0) o
seen_start es i x fs o found = clash_same (AreIn (take i es) fs) (AreSeen es i x fs 0) o (λ e f m. inl m) (λ e f m. elim m [ inl old ↦ old | inr new ↦ absurd new.1 ]) found

pub seen_more : (es : List Exposed) (i : ℕ) (x : Exposed) (fs : List Exposed) (j : ℕ) (y e f : Exposed) → j < length fs → y ≡ get_or fs j y → AreSeen es i x fs j e f → AreSeen es i x fs (j + 1) e f
seen_more es i x fs j y e f within read m = elim m [ inl old ↦ inl old | inr new ↦ inr (new.0, (in_turn f fs j y within read).1 (inl new.1)) ]

pub seen_split : (es : List Exposed) (i : ℕ) (x : Exposed) (fs : List Exposed) (j : ℕ) (y e f : Exposed) → j < length fs → y ≡ get_or fs j y → AreSeen es i x fs (j + 1) e f → AreSeen es i x fs j e f ⊎ ((e ≡ x) × (f ≡ y))
seen_split es i x fs j y e f within read m = elim m [
  | inl old ↦ inl (inl old)
  | inr new ↦ elim ((in_turn f fs j y within read).0 new.1) [ inl before ↦ inl (inr (new.0, before)) | inr here ↦ inr (new.0, here) ]
]

pub seen_here : (es : List Exposed) (i : ℕ) (x : Exposed) (fs : List Exposed) (j : ℕ) (y : Exposed) → j < length fs → y ≡ get_or fs j y → AreSeen es i x fs (j + 1) x y
seen_here es i x fs j y within read = inr (refl, (in_turn y fs j y within read).1 (inr refl))

pub seen_all : (es : List Exposed) (i : ℕ) (x : Exposed) (fs : List Exposed) (j : ℕ) (o : Option (ℕ × ℕ × ℕ)) → i < length es → x ≡ get_or es i x → take j fs ≡ fs → FindsClash (AreSeen es i x fs j) o → FindsClash (AreIn (take (i + 1) es) fs) o
seen_all es i x fs j o within read all found = clash_same (AreSeen es i x fs j) (AreIn (take (i + 1) es) fs) o there back found
  where
    there : (e f : Exposed) → AreSeen es i x fs j e f → AreIn (take (i + 1) es) fs e f
    there e f m = elim m [ inl old ↦ ((in_turn e es i x within read).1 (inl old.0), old.1) | inr new ↦ ((in_turn e es i x within read).1 (inr new.0), rw all at new.1) ]

    back : (e f : Exposed) → AreIn (take (i + 1) es) fs e f → AreSeen es i x fs j e f
    back e f m = elim ((in_turn e es i x within read).0 m.0) [ inl old ↦ inl (old, m.1) | inr here ↦ inr (here, rw all m.1) ]

-- one turn of the loop that looks for what a table lacks

pub lacked_kept : (V B : Algebra) (es : List Exposed) (bs : List Arity) (b : Arity) → IsIn b B.arities → Each (λ a. IsIn a B.arities ⊎ AnyOf (IsExposed V B a) es) bs → Each (λ a. IsIn a B.arities ⊎ AnyOf (IsExposed V B a) es) (bs ++ b ∷ [])
lacked_kept V B es bs b m all = each-append (λ a. IsIn a B.arities ⊎ AnyOf (IsExposed V B a) es) bs (b ∷ []) all (inl m, tt)

pub lacked_put : (V B : Algebra) (es es' : List Exposed) (e : Exposed) (bs : List Arity) (b : Arity) → es' ≡ es ++ e ∷ [] → IsExposed V B b e → Each (λ a. IsIn a B.arities ⊎ AnyOf (IsExposed V B a) es) bs → Each (λ a. IsIn a B.arities ⊎ AnyOf (IsExposed V B a) es') (bs ++ b ∷ [])
lacked_put V B es es' e bs b longer is all = rw longer (each-append (λ a. IsIn a B.arities ⊎ AnyOf (IsExposed V B a) (es ++ e ∷ [])) bs (b ∷ [])
    (each_imply (λ a. IsIn a B.arities ⊎ AnyOf (IsExposed V B a) es) (λ a. IsIn a B.arities ⊎ AnyOf (IsExposed V B a) (es ++ e ∷ [])) bs (λ a w. elim w [ inl m ↦ inl m | inr some ↦ inr (any-append_left (IsExposed V B a) es (e ∷ []) some) ]) all)
    (inr (any-append_right (IsExposed V B b) es (e ∷ []) (inl is)), tt))

pub from_put : (V A B : Algebra) (es es' : List Exposed) (e : Exposed) (a : Arity) → es' ≡ es ++ e ∷ [] → IsIn a A.arities → IsExposed V B a e → Each (λ e. (a : Arity) × IsIn a A.arities × IsExposed V B a e) es → Each (λ e. (a : Arity) × IsIn a A.arities × IsExposed V B a e) es'
from_put V A B es es' e a longer m is from = rw longer (each-append (λ e. (a : Arity) × IsIn a A.arities × IsExposed V B a e) es (e ∷ []) from ((a, m, is), tt))

-- What the look for the least clash finds.

-- Names in order are not after the same in another order.
ordered_first : (k c d l x y : ℕ) → IsNotAfter k c d l (min x y) (max x y) → IsNotAfter k c d l x y
ordered_first k c d l x y p = grind arith

ordered_second : (k c d l x y : ℕ) → IsNotAfter k c d l (min x y) (max x y) → IsNotAfter k c d l y x
ordered_second k c d l x y p = grind arith

-- Any two arities: they are compatible, or in both orders after what is found.
least_pair : (V A B : Algebra) (bs : List Arity) → AreSides V A B → HasBoth A B bs → (es fs : List Exposed) → AreExposed V A B es → AreExposed V B A fs → (t : ℕ × ℕ × ℕ) → IsLeastClash (AreIn es fs) t → (a b : Arity) → IsIn a A.arities → IsIn b B.arities → a.con ≡ b.con
    → AreCompatible (with_arities V bs) a b ⊎ (IsNotAfter t.0 t.1 t.2 a.con a.class b.class × IsNotAfter t.0 t.1 t.2 b.con b.class a.class)
least_pair V A B bs s both es fs xs ys t found a b m n con = elim (cross V A B bs s both es fs xs ys a b m n con) [
  | inl fine ↦ inl fine
  | inr w ↦ elim (found.least w.0 w.1 (w.2, w.3)) [
    | inl apart ↦ inl (apart_compatible V A B bs s both a b w.0 w.1 m n con w.4 w.5 apart)
    | inr after ↦
        let here : IsNotAfter t.0 t.1 t.2 a.con (min a.class b.class) (max a.class b.class) = rw (w.4.con, w.4.class, w.5.class) after in
        inr (ordered_first t.0 t.1 t.2 a.con a.class b.class here, rw (← con) (ordered_second t.0 t.1 t.2 a.con a.class b.class here))
  ]
]

pub conflict_found : (V A B : Algebra) → AreSides V A B → (es fs : List Exposed) (o : Option (ℕ × ℕ × ℕ)) → AreExposed V A B es → AreExposed V B A fs → FindsClash (AreIn es fs) o → FindsConflict V A B o
conflict_found V A B s es fs None xs ys none bs both = λ a b m n con. elim ((both a).0 m) [
  | inl left ↦ elim ((both b).0 n) [
    | inl too ↦ side_compatible V A bs s.left s.left_coregular (λ q o. (both q).1 (inl o)) a b left too con
    | inr right ↦ apart a b left right con
  ]
  | inr right ↦ elim ((both b).0 n) [
    | inl left ↦ compatible_back (with_arities V bs) b a (sym con) (apart b a left right (sym con))
    | inr too ↦ side_compatible V B bs s.right s.right_coregular (λ q o. (both q).1 (inr o)) a b right too con
  ]
]
  where
    apart : (a b : Arity) → IsIn a A.arities → IsIn b B.arities → a.con ≡ b.con → AreCompatible (with_arities V bs) a b
    apart a b m n con = elim (cross V A B bs s both es fs xs ys a b m n con) [
      | inl fine ↦ fine
      | inr w ↦ apart_compatible V A B bs s both a b w.0 w.1 m n con w.4 w.5 (none w.0 w.1 (w.2, w.3))
    ]
conflict_found V A B s es fs (Some t) xs ys found bs both = record { is = pair; ordered = in_order; least = first }
  where
    e : Exposed
    e = found.is.0

    f : Exposed
    f = found.is.1

    x : (a : Arity) × IsIn a A.arities × IsExposed V B a e
    x = each_at (λ e. (a : Arity) × IsIn a A.arities × IsExposed V B a e) es xs.from e found.is.2.0

    y : (a : Arity) × IsIn a B.arities × IsExposed V A a f
    y = each_at (λ e. (a : Arity) × IsIn a B.arities × IsExposed V A a e) fs ys.from f found.is.2.1

    con : x.0.con ≡ y.0.con
    con = x.2.con ∙ found.is.3.0 ∙ sym y.2.con

    conflict : ¬ AreCompatible (with_arities V bs) x.0 y.0
    conflict = clash_conflict V A B bs s both x.0 y.0 e f x.1 y.1 x.2 y.2 con found.is.3

    first_name : t.0 ≡ e.con
    first_name = ap (λ (u : ℕ × ℕ × ℕ). u.0) found.is.4

    lower : t.1 ≡ min e.class f.class
    lower = ap (λ (u : ℕ × ℕ × ℕ). u.1) found.is.4

    upper : t.2 ≡ max e.class f.class
    upper = ap (λ (u : ℕ × ℕ × ℕ). u.2) found.is.4

    by_order : (m n : ℕ) → ((min m n ≡ m) × (max m n ≡ n)) ⊎ ((min m n ≡ n) × (max m n ≡ m))
    by_order m n = grind arith

    pair : (a b : Arity) × IsIn a bs × IsInConflict (with_arities V bs) a b × (a.con ≡ t.0) × (a.class ≡ t.1) × (b.class ≡ t.2)
    pair = elim (by_order e.class f.class) [
      | inl v ↦ (x.0, y.0, (both x.0).1 (inl x.1), record { declared = (both y.0).1 (inr y.1); con = sym con; conflict = conflict }, x.2.con ∙ sym first_name, x.2.class ∙ sym v.0 ∙ sym lower, y.2.class ∙ sym v.1 ∙ sym upper)
      | inr v ↦ (y.0, x.0, (both y.0).1 (inr y.1), record { declared = (both x.0).1 (inl x.1); con = con; conflict = λ k. conflict (compatible_back (with_arities V bs) y.0 x.0 (sym con) k) }, sym con ∙ x.2.con ∙ sym first_name, y.2.class ∙ sym v.0 ∙ sym lower, x.2.class ∙ sym v.1 ∙ sym upper)
    ]

    in_order : t.1 ≤ t.2
    in_order = omega (arith, lower, upper)

    first : (a b : Arity) → IsIn a bs → IsInConflict (with_arities V bs) a b → IsNotAfter t.0 t.1 t.2 a.con a.class b.class
    first a b m c = elim ((both a).0 m) [
      | inl left ↦ elim ((both b).0 c.declared) [
        | inl too ↦ absurd (c.conflict (side_compatible V A bs s.left s.left_coregular (λ q o. (both q).1 (inl o)) a b left too (sym c.con)))
        | inr right ↦ elim (least_pair V A B bs s both es fs xs ys t found a b left right (sym c.con)) [ inl fine ↦ absurd (c.conflict fine) | inr after ↦ after.0 ]
      ]
      | inr right ↦ elim ((both b).0 c.declared) [
        | inl left ↦ elim (least_pair V A B bs s both es fs xs ys t found b a left right c.con) [ inl fine ↦ absurd (c.conflict (compatible_back (with_arities V bs) b a c.con fine)) | inr after ↦ after.1 ]
        | inr too ↦ absurd (c.conflict (side_compatible V B bs s.right s.right_coregular (λ q o. (both q).1 (inr o)) a b right too (sym c.con)))
      ]
    ]

-- The union of two algebras that is in conflict, and one that isn't.
pub union_conflict : (A B C V : Algebra) (ks : List Class) (o : Option (ℕ × ℕ × ℕ)) (t : ℕ × ℕ × ℕ) → C ≡ A → ks ≡ B.classes → AreWithOthers C.classes ks V.classes → o ≡ Some t → FindsConflict V A B o → (U : Algebra) × IsUnion A B U × IsLeastConflict U t.0 t.1 t.2
union_conflict A B C V ks o t same read joined is found = (with_arities V (A.arities ++ B.arities), record { classes = with_others A.classes B.classes V.classes (rw (← same, ← read) joined); arities = both }, rw is at (found (A.arities ++ B.arities) both))
  where
    both : HasBoth A B (A.arities ++ B.arities)
    both a = (λ m. in_split a A.arities B.arities m, λ m. elim m [ inl left ↦ in-append_left a A.arities B.arities left | inr right ↦ in-append_right a A.arities B.arities right ])

pub union_coregular : (V A B U : Algebra) (o : Option (ℕ × ℕ × ℕ)) → ((t : ℕ × ℕ × ℕ) → ¬ (o ≡ Some t)) → U.classes ≡ V.classes → IsUnion A B U → FindsConflict V A B o → IsCoregular U
union_coregular V A B U None not same union found = subst (λ (cs : List Class). IsCoregular (record { classes = cs; arities = U.arities })) (sym same) (found U.arities union.arities)
union_coregular V A B U (Some t) not same union found = absurd (not t refl)
