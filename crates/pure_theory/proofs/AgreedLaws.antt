-- Whether parents agree, and whether theories are told apart.
use Rattle.std.proofs.Common.{◌≡◌, ◌≢◌, ◌↔◌, ℕ, ◌+◌, ◌<◌, List, [], ◌∷◌, ◌++◌, length, Bool, true, false, IsTrue, refl, sym, ◌∙◌, inl, inr, take, add-one, arith}
use Rattle.std.proofs.lemmas.Bool.{eqb-true}
use Rattle.std.specs.Prelude.{Some, slice_get, ◌==◌}
use Rattle.std.specs.declared.alloc.Global.{Global}
use Rattle.std.specs.declared.sync.Arc.{Arc}
use Rattle.pure_text.specs.Lists.{IsIn, Each, AnyOf}
use Rattle.pure_text.proofs.ListLaws.{in_split, any_split, any-append_left, any-append_right, each_at, each_of, each_imply}
use Rattle.pure_definitions.specs.Declarations.Decl.{Decl}
use Rattle.pure_order.specs.OrderTables.Others.{AreWithOthers}
use Rattle.pure_order.proofs.OrderTables.OtherLaws.{with_others}
use Rattle.pure_logic.specs.Content.{TheoryId, Content, AreNamedAlike, AreLabelledAlike, IsContent}
use Rattle.pure_logic.specs.Beginning.{theory_eq, AreToldApart, IsNewOver}
use Rattle.pure_logic.specs.Laws.Contents.{AreAgreed}
use Rattle.pure_logic.proofs.AncestorLaws.{theory_eq-same, theory_eq-itself}
use Rattle.pure_theory_tables.specs.Named.{AreNamedOnce}
use Rattle.pure_theory_tables.specs.Agreement.{AreAlike, AreOnce, Fits}
use Rattle.pure_theory_tables.proofs.GetLaws.{take_next}
use Rattle.pure_theory.specs.Begin.{contents, AreTold, IsNewBeside}
use Rattle.pure_theory.specs.Stage.{IsSound}
use Rattle.pure_theory.proofs.NamesakeLaws.{named_back, labelled_back}
use Rattle.pure_theory.proofs.MergeLaws.{any-take, get_any}

-- The declaration is one of a parent.
abbrev pub IsOf : List Content → Decl → Type 0
IsOf parents d = AnyOf (λ Q. IsIn d Q.declarations) parents

-- The parents agree, and the list has exactly what they declare.
pub record HasAgreed (parents : List Content) (merged : List Decl) : Type 0 where
  pub agreed : AreAgreed parents
  pub has : (d : Decl) → IsIn d merged ↔ IsOf parents d

pub agreed_once : (parents : List Content) (merged : List Decl) → HasAgreed parents merged → AreOnce merged
agreed_once parents merged h d e m n alike = elim alike [
  | inl a ↦ h.agreed.named_once d e ((h.has d).0 m) ((h.has e).0 n) a
  | inr l ↦ h.agreed.labelled_once d e ((h.has d).0 m) ((h.has e).0 n) l
]

-- A relation that is like being alike, and holds between no two declarations of the parents, nor of one more, nor between one of these and one of those, but between one and itself.
module _ (R : Decl → Decl → Type 0) (back : (d e : Decl) → R d e → R e d) (alike : (d e : Decl) → R d e → AreAlike d e) (parents : List Content) (merged : List Decl) (h : HasAgreed parents merged) (P : Content) (fits : Each (Fits merged) P.declarations) where
  fits_at : (d e : Decl) → IsIn d P.declarations → IsOf parents e → R d e → d ≡ e
  fits_at d e m n r = each_at (Fits merged) P.declarations fits d m e ((h.has e).1 n) (alike d e r)

  one_more : ((x y : Decl) → IsOf parents x → IsOf parents y → R x y → x ≡ y) → ((x y : Decl) → IsIn x P.declarations → IsIn y P.declarations → R x y → x ≡ y)
      → (x y : Decl) → IsOf (parents ++ P ∷ []) x → IsOf (parents ++ P ∷ []) y → R x y → x ≡ y
  one_more old new x y m n r = elim (any_split (λ Q. IsIn x Q.declarations) parents (P ∷ []) m) [
    | inl a ↦ elim (any_split (λ Q. IsIn y Q.declarations) parents (P ∷ []) n) [
      | inl b ↦ old x y a b r
      | inr b ↦ elim b [ inl q ↦ sym (fits_at y x q a (back x y r)) | inr none ↦ absurd none ]
    ]
    | inr a ↦ elim a [
      | inl p ↦ elim (any_split (λ Q. IsIn y Q.declarations) parents (P ∷ []) n) [
        | inl b ↦ fits_at x y p b r
        | inr b ↦ elim b [ inl q ↦ new x y p q r | inr none ↦ absurd none ]
      ]
      | inr none ↦ absurd none
    ]
  ]

named_is_alike : (d e : Decl) → AreNamedAlike d e → AreAlike d e
named_is_alike d e a = inl a

labelled_is_alike : (d e : Decl) → AreLabelledAlike d e → AreAlike d e
labelled_is_alike d e l = inr l

-- One more parent, with which the list agrees.
more_agreed : (parents : List Content) (merged : List Decl) → HasAgreed parents merged → (P : Content) → IsContent P → Each (Fits merged) P.declarations → AreAgreed (parents ++ P ∷ [])
more_agreed parents merged h P content fits = record {
  named_once = one_more AreNamedAlike named_back named_is_alike parents merged h P fits h.agreed.named_once content.named_once;
  labelled_once = one_more AreLabelledAlike labelled_back labelled_is_alike parents merged h P fits h.agreed.labelled_once content.labelled_once;
}

-- What is in the list with what the parent declares beside it.
more_has : (parents : List Content) (merged : List Decl) → HasAgreed parents merged → (P : Content) (more : List Decl) → AreWithOthers merged P.declarations more → (d : Decl) → IsIn d more ↔ IsOf (parents ++ P ∷ []) d
more_has parents merged h P more w d = (
  λ m. elim ((with_others merged P.declarations more w d).0 m) [
    | inl a ↦ any-append_left (λ Q. IsIn d Q.declarations) parents (P ∷ []) ((h.has d).0 a)
    | inr b ↦ any-append_right (λ Q. IsIn d Q.declarations) parents (P ∷ []) (inl b)
  ],
  λ m. (with_others merged P.declarations more w d).1 (elim (any_split (λ Q. IsIn d Q.declarations) parents (P ∷ []) m) [
    | inl a ↦ inl ((h.has d).1 a)
    | inr b ↦ elim b [ inl p ↦ inr p | inr none ↦ absurd none ]
  ]),
)

module _ (parents : List Content) (i : ℕ) (P : Content) (held : slice_get parents i ≡ Some P) (merged : List Decl) (h : HasAgreed (take i parents) merged) where
  longer : take (i + 1) parents ≡ take i parents ++ P ∷ []
  longer = rw add-one (take_next parents i P held)

  -- One turn: the parent fits.
  pub agreed_turn : IsSound P → Each (Fits merged) P.declarations → (more : List Decl) → AreWithOthers merged P.declarations more → HasAgreed (take (i + 1) parents) more
  agreed_turn sound fits more w = rw longer (record {
    agreed = more_agreed (take i parents) merged h P sound.content fits;
    has = more_has (take i parents) merged h P more w;
  })

  pub turn_named : IsSound P → Each (Fits merged) P.declarations → AreNamedOnce (merged ++ P.declarations)
  turn_named sound fits d e m n a = (more_agreed (take i parents) merged h P sound.content fits).named_once d e (from d m) (from e n) a
    where
      from : (x : Decl) → IsIn x (merged ++ P.declarations) → IsOf (take i parents ++ P ∷ []) x
      from x k = elim (in_split x merged P.declarations k) [
        | inl a ↦ any-append_left (λ Q. IsIn x Q.declarations) (take i parents) (P ∷ []) ((h.has x).0 a)
        | inr b ↦ any-append_right (λ Q. IsIn x Q.declarations) (take i parents) (P ∷ []) (inl b)
      ]

  -- It fits where all agree.
  pub fits_where_agreed : AreAgreed parents → Each (Fits merged) P.declarations
  fits_where_agreed all = each_of (Fits merged) P.declarations (λ d m e n alike.
      let here = get_any (λ Q. IsIn d Q.declarations) parents i P held m in
      let there = any-take (λ Q. IsIn e Q.declarations) parents i ((h.has e).0 n) in
      elim alike [ inl a ↦ all.named_once d e here there a | inr l ↦ all.labelled_once d e here there l ])

-- One parent agrees with itself.
pub agreed_first : (parents : List Content) (P : Content) (merged : List Decl) → slice_get parents 0 ≡ Some P → IsSound P → merged ≡ P.declarations → HasAgreed (take 1 parents) merged
agreed_first parents P merged held sound same =
    let one : take 1 parents ≡ P ∷ [] = take_next parents 0 P held in
    rw (one, same) (record {
      agreed = record {
        named_once = λ x y m n a. sound.content.named_once x y (only x m) (only y n) a;
        labelled_once = λ x y m n l. sound.content.labelled_once x y (only x m) (only y n) l;
      };
      has = λ d. (λ m. inl m, only d);
    })
  where
    only : (d : Decl) → IsOf (P ∷ []) d → IsIn d P.declarations
    only d m = elim m [ inl p ↦ p | inr none ↦ absurd none ]

-- Whether there are parents.
pub no_parents : (parents : List (Arc Content Global)) (b : Bool) → b ≡ (length parents == 0) → b ≡ true → contents parents ≡ []
no_parents [] b e t = refl
no_parents (p ∷ ps) b e t = let none : length (p ∷ ps) ≡ 0 = eqb-true (length (p ∷ ps)) 0 (sym e ∙ t) in absurd (omega arith)

pub some_parents : (parents : List (Arc Content Global)) (b : Bool) → b ≡ (length parents == 0) → b ≡ false → ¬ (contents parents ≡ [])
some_parents [] b e f h = let yes : b ≡ true = e in absurd (cc)
some_parents (p ∷ ps) b e f h = absurd (cc)

-- Of two theories: they are the same, or have nothing in common.
pub told_same : (t u : TheoryId) → theory_eq t u ≡ true → AreTold t u
told_same t u h = let same = theory_eq-same t u h in record { by_name = λ e. same; by_index = λ e. same }

pub told_other : (t u : TheoryId) (b : Bool) → theory_eq t u ≡ false → (IsTrue b ↔ ((t.name ≢ u.name) × (t.index ≢ u.index))) → IsTrue b ↔ AreTold t u
told_other t u b other h = (
  λ k. let parts = h.0 k in record { by_name = λ e. absurd (parts.0 e); by_index = λ e. absurd (parts.1 e) },
  λ k. h.1 (λ e. differ (k.by_name e), λ e. differ (k.by_index e)),
)
  where
    differ : t ≡ u → ⊥
    differ same = let yes : theory_eq t u ≡ true = rw same (theory_eq-itself u) in absurd (cc)

pub each_told : (ts : List TheoryId) → Each (λ t. Each (AreTold t) ts) ts ↔ AreToldApart ts
each_told ts = (
  λ h. record {
    by_name = λ t u m n e. (each_at (AreTold t) ts (each_at (λ v. Each (AreTold v) ts) ts h t m) u n).by_name e;
    by_index = λ t u m n e. (each_at (AreTold t) ts (each_at (λ v. Each (AreTold v) ts) ts h t m) u n).by_index e;
  },
  λ h. each_of (λ v. Each (AreTold v) ts) ts (λ t m. each_of (AreTold t) ts (λ u n. record { by_name = h.by_name t u m n; by_index = h.by_index t u m n })),
)

pub each_new : (t : TheoryId) (ts : List TheoryId) → Each (IsNewBeside t) ts ↔ IsNewOver t ts
each_new t ts = (
  λ h. record {
    index = each_imply (IsNewBeside t) (λ u. u.index < t.index) ts (λ u k. k.0) h;
    name = each_imply (IsNewBeside t) (λ u. u.name ≢ t.name) ts (λ u k. k.1) h;
  },
  λ h. each_of (IsNewBeside t) ts (λ u m. (each_at (λ v. v.index < t.index) ts h.index u m, each_at (λ v. v.name ≢ t.name) ts h.name u m)),
)
