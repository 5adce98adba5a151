-- Lists of types by their lengths.
use Rattle.std.proofs.Common.{◌≡◌, ℕ, ◌-◌, true, false, List, [], ◌∷◌, ◌++◌, length, get_or, take, drop, refl, ap, ◌∙◌, arith, append_assoc}
use Rattle.std.specs.Prelude.{nat_eq, codes}
use Rattle.std.proofs.lemmas.List.{take_all, length-drop}
use Rattle.pure_definitions.specs.Types.Typ.{Typ, Con, typs_of}
use Rattle.pure_print.specs.NameText.{typ_name_text}
use Rattle.pure_print.specs.TypText.{is_arrow_of, is_arrow, in_parentheses, typ_text, more_typs_text}
use Rattle.pure_text.proofs.Joins.{joined_3, joined_5}

pub arrow-two : (k : ℕ) (ts : List Typ) → length ts ≡ 2 → is_arrow_of k (typs_of ts) ≡ nat_eq k 0
arrow-two k [] e = absurd (omega arith)
arrow-two k (s ∷ []) e = absurd (omega arith)
arrow-two k (s ∷ t ∷ []) e = refl
arrow-two k (s ∷ t ∷ u ∷ us) e = absurd (omega arith)

pub arrow-other : (k : ℕ) (ts : List Typ) → (length ts ≡ 2 → ⊥) → is_arrow_of k (typs_of ts) ≡ false
arrow-other k [] e = refl
arrow-other k (s ∷ []) e = refl
arrow-other k (s ∷ t ∷ []) e = absurd (e refl)
arrow-other k (s ∷ t ∷ u ∷ us) e = refl

pub rest-taken : (ts : List Typ) → take (length ts - 1) (drop 1 ts) ≡ drop 1 ts
rest-taken ts = take_all (length ts - 1) (drop 1 ts) (omega (arith, length-drop 1 ts))

-- The text of a constructor applied to types is what was written behind the old text.

pub one-written : (texts : List (List ℕ)) (k : ℕ) (ts : List Typ) (t : Typ) (old t1 t2 t3 : List ℕ) → length ts ≡ 1 → t ≡ get_or ts 0 t
    → t1 ≡ old ++ in_parentheses (is_arrow t) (typ_text texts t) → t2 ≡ t1 ++ 32 ∷ [] → t3 ≡ t2 ++ typ_name_text texts k → t3 ≡ old ++ typ_text texts (Con k (typs_of ts))
one-written texts k [] t old t1 t2 t3 one at e1 e2 e3 = absurd (omega arith)
one-written texts k (s ∷ []) t old t1 t2 t3 one at e1 e2 e3 =
    rw (← at) (joined_3 old t1 t2 t3 (in_parentheses (is_arrow t) (typ_text texts t)) (32 ∷ []) (typ_name_text texts k) e1 e2 e3)
one-written texts k (s ∷ u ∷ us) t old t1 t2 t3 one at e1 e2 e3 = absurd (omega arith)

pub arrow-written : (texts : List (List ℕ)) (k : ℕ) (ts : List Typ) (s t : Typ) (old t1 t2 t3 : List ℕ) → is_arrow_of k (typs_of ts) ≡ true → s ≡ get_or ts 0 s → t ≡ get_or ts 1 t
    → t1 ≡ old ++ in_parentheses (is_arrow s) (typ_text texts s) → t2 ≡ t1 ++ codes " => " → t3 ≡ t2 ++ typ_text texts t → t3 ≡ old ++ typ_text texts (Con k (typs_of ts))
arrow-written texts k [] s t old t1 t2 t3 arrow first second e1 e2 e3 = cc
arrow-written texts k (s' ∷ []) s t old t1 t2 t3 arrow first second e1 e2 e3 = cc
arrow-written texts k (s' ∷ t' ∷ ts) s t old t1 t2 t3 arrow first second e1 e2 e3 =
    rw (arrow, ← first, ← second) (joined_3 old t1 t2 t3 (in_parentheses (is_arrow s) (typ_text texts s)) (codes " => ") (typ_text texts t) e1 e2 e3)

pub several-written : (texts : List (List ℕ)) (k : ℕ) (ts : List Typ) (t : Typ) (old t1 t2 t3 t4 t5 : List ℕ) → is_arrow_of k (typs_of ts) ≡ false → (length ts ≡ 0 → ⊥) → (length ts ≡ 1 → ⊥) → t ≡ get_or ts 0 t
    → t1 ≡ old ++ 40 ∷ [] → t2 ≡ t1 ++ typ_text texts t → t3 ≡ t2 ++ more_typs_text texts (typs_of (drop 1 ts)) → t4 ≡ t3 ++ codes ") " → t5 ≡ t4 ++ typ_name_text texts k → t5 ≡ old ++ typ_text texts (Con k (typs_of ts))
several-written texts k [] t old t1 t2 t3 t4 t5 other some more at e1 e2 e3 e4 e5 = absurd (some refl)
several-written texts k (s ∷ []) t old t1 t2 t3 t4 t5 other some more at e1 e2 e3 e4 e5 = absurd (more refl)
several-written texts k (s ∷ u ∷ us) t old t1 t2 t3 t4 t5 other some more at e1 e2 e3 e4 e5 =
    let whole : t5 ≡ old ++ (40 ∷ (typ_text texts t ++ (more_typs_text texts (typs_of (u ∷ us)) ++ (codes ") " ++ typ_name_text texts k)))) =
    joined_5 old t1 t2 t3 t4 t5 (40 ∷ []) (typ_text texts t) (more_typs_text texts (typs_of (u ∷ us))) (codes ") ") (typ_name_text texts k) e1 e2 e3 e4 e5 in
    rw (other, ← at) (whole ∙ ap (λ x. old ++ (40 ∷ (typ_text texts t ++ (44 ∷ 32 ∷ x)))) (append_assoc (typ_text texts u) (more_typs_text texts (typs_of us)) (codes ") " ++ typ_name_text texts k)))
