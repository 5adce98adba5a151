-- What the tables of the rows' theory have: behind a place, what the whole has, as long as nothing was found.
use Rattle.std.proofs.Common.{◌≡◌, ℕ, zero, suc, ◌+◌, ◌<◌, ◌≤◌, Bool, true, false, List, [], ◌∷◌, length, drop, get_or, Some, None, nat_eq, bytes_eq, if◌then◌else◌, refl, ap, sym, ◌∙◌, arith}
use Rattle.pure_elab_rows.specs.declared.theory.Written.{Written}
use Rattle.pure_elab_rows.specs.declared.theory.Counted.{Counted}
use Rattle.pure_elab_rows.specs.declared.theory.Constant.{Constant}
use Rattle.pure_elab_rows.specs.Theory.{name_among, count_among, typ_among}

pub drop_here : {A : Type 0} (xs : List A) (i : ℕ) (x : A) → i < length xs → x ≡ get_or xs i x → drop i xs ≡ x ∷ drop (i + 1) xs
drop_here [] i x within is = absurd (omega arith)
drop_here (y ∷ ys) zero x within is = ap (λ z. z ∷ ys) (sym is)
drop_here (y ∷ ys) (suc i) x within is = let later : suc i + 1 ≡ suc (i + 1) = omega arith in rw later (drop_here ys i x (omega arith) is)

pub drop_none : {A : Type 0} (xs : List A) (i : ℕ) → length xs ≤ i → drop i xs ≡ []
drop_none [] zero full = refl
drop_none [] (suc i) full = refl
drop_none (x ∷ xs) zero full = absurd (omega arith)
drop_none (x ∷ xs) (suc i) full = drop_none xs i (omega arith)

taken : {A : Type 0} (b : Bool) (x y : A) → b ≡ true → (if b then x else y) ≡ x
taken b x y t = rw t refl

passed : {A : Type 0} (b : Bool) (x y : A) → b ≡ false → (if b then x else y) ≡ y
passed b x y t = rw t refl

pub name_here : (es : List Written) (i : ℕ) (e : Written) (x : List ℕ) → i < length es → e ≡ get_or es i e → bytes_eq e.text x ≡ true → name_among (drop i es) x ≡ Some e.name
name_here es i e x within is t = ap (λ l. name_among l x) (drop_here es i e within is) ∙ taken (bytes_eq e.text x) (Some e.name) (name_among (drop (i + 1) es) x) t

pub name_next : (es : List Written) (i : ℕ) (e : Written) (x : List ℕ) → i < length es → e ≡ get_or es i e → bytes_eq e.text x ≡ false → name_among (drop (i + 1) es) x ≡ name_among (drop i es) x
name_next es i e x within is t = sym (ap (λ l. name_among l x) (drop_here es i e within is) ∙ passed (bytes_eq e.text x) (Some e.name) (name_among (drop (i + 1) es) x) t)

pub name_end : (es : List Written) (i : ℕ) (x : List ℕ) → length es ≤ i → name_among (drop i es) x ≡ None
name_end es i x full = ap (λ l. name_among l x) (drop_none es i full)

pub count_here : (es : List Counted) (i : ℕ) (e : Counted) (x : ℕ) → i < length es → e ≡ get_or es i e → nat_eq e.name x ≡ true → count_among (drop i es) x ≡ Some e.count
count_here es i e x within is t = ap (λ l. count_among l x) (drop_here es i e within is) ∙ taken (nat_eq e.name x) (Some e.count) (count_among (drop (i + 1) es) x) t

pub count_next : (es : List Counted) (i : ℕ) (e : Counted) (x : ℕ) → i < length es → e ≡ get_or es i e → nat_eq e.name x ≡ false → count_among (drop (i + 1) es) x ≡ count_among (drop i es) x
count_next es i e x within is t = sym (ap (λ l. count_among l x) (drop_here es i e within is) ∙ passed (nat_eq e.name x) (Some e.count) (count_among (drop (i + 1) es) x) t)

pub count_end : (es : List Counted) (i : ℕ) (x : ℕ) → length es ≤ i → count_among (drop i es) x ≡ None
count_end es i x full = ap (λ l. count_among l x) (drop_none es i full)

pub typ_here : (es : List Constant) (i : ℕ) (e : Constant) (x : ℕ) → i < length es → e ≡ get_or es i e → nat_eq e.name x ≡ true → typ_among (drop i es) x ≡ Some e.typ
typ_here es i e x within is t = ap (λ l. typ_among l x) (drop_here es i e within is) ∙ taken (nat_eq e.name x) (Some e.typ) (typ_among (drop (i + 1) es) x) t

pub typ_next : (es : List Constant) (i : ℕ) (e : Constant) (x : ℕ) → i < length es → e ≡ get_or es i e → nat_eq e.name x ≡ false → typ_among (drop (i + 1) es) x ≡ typ_among (drop i es) x
typ_next es i e x within is t = sym (ap (λ l. typ_among l x) (drop_here es i e within is) ∙ passed (nat_eq e.name x) (Some e.typ) (typ_among (drop (i + 1) es) x) t)

pub typ_end : (es : List Constant) (i : ℕ) (x : ℕ) → length es ≤ i → typ_among (drop i es) x ≡ None
typ_end es i x full = ap (λ l. typ_among l x) (drop_none es i full)
