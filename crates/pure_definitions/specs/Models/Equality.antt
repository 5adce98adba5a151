-- The mutual list of types stands for a list; the tests of types and of terms are equality.
use Rattle.std.proofs.Common.{◌≡◌, ℕ, ◌&&◌, Bool, true, List, [], ◌∷◌, ap, refl, sym, ◌↔◌}
use Rattle.std.proofs.lemmas.Bool.{eqb-true, eq-eqb}
use Rattle.std.specs.Cmp.{first_so, second_so, IsEquivalence, both_ways}
use Rattle.std.specs.Cmp.Derive.{both_true}
use Rattle.std.specs.Cmp.Lexicographic.{bytes_decides}
use Rattle.std.specs.Prelude.{nat_eq}
use Rattle.pure_definitions.specs.Types.Typ.{sort_eq, Typ, TFree, TVar, Con, Typs, none, also, typs_of, typ_list, typ_eq, typs_eq}
use Rattle.pure_definitions.specs.Terms.Term.{Term, Const, Free, Var, Bound, Abs, App, term_eq}

pub typ_list-typs_of : (ts : List Typ) → typ_list (typs_of ts) ≡ ts
typ_list-typs_of [] = refl
typ_list-typs_of (t ∷ ts) = ap (λ us. t ∷ us) (typ_list-typs_of ts)

pub typs_of-typ_list : (ts : Typs) → typs_of (typ_list ts) ≡ ts
typs_of-typ_list none = refl
typs_of-typ_list (also t ts) = ap (also t) (typs_of-typ_list ts)

pub sort_eq-same : (s r : List ℕ) → sort_eq s r ≡ true → s ≡ r
sort_eq-same s r h = (bytes_decides s r).0 h

pub sort_eq-itself : (s : List ℕ) → sort_eq s s ≡ true
sort_eq-itself s = (bytes_decides s s).1 refl

nat_eq-itself : (n : ℕ) → nat_eq n n ≡ true
nat_eq-itself n = eq-eqb n n refl

mutual
  pub typ_eq-same : (T U : Typ) → typ_eq T U ≡ true → T ≡ U
  typ_eq-same (TFree x s) (TFree y r) h =
      let n = eqb-true x y (first_so (nat_eq x y) (sort_eq s r) h) in
      let m = sort_eq-same s r (second_so (nat_eq x y) (sort_eq s r) h) in
      λ l. TFree (n l) (m l)
  typ_eq-same (TVar x i s) (TVar y j r) h =
      let n = eqb-true x y (first_so (nat_eq x y) (nat_eq i j && sort_eq s r) h) in
      let rest = second_so (nat_eq x y) (nat_eq i j && sort_eq s r) h in
      let o = eqb-true i j (first_so (nat_eq i j) (sort_eq s r) rest) in
      let m = sort_eq-same s r (second_so (nat_eq i j) (sort_eq s r) rest) in
      λ l. TVar (n l) (o l) (m l)
  typ_eq-same (Con k ts) (Con m us) h =
      let n = eqb-true k m (first_so (nat_eq k m) (typs_eq ts us) h) in
      let rest = typs_eq-same ts us (second_so (nat_eq k m) (typs_eq ts us) h) in
      λ l. Con (n l) (rest l)
  typ_eq-same _ _ h = absurd (cc)

  pub typs_eq-same : (ts us : Typs) → typs_eq ts us ≡ true → ts ≡ us
  typs_eq-same none none h = refl
  typs_eq-same (also t ts) (also u us) h =
      let head = typ_eq-same t u (first_so (typ_eq t u) (typs_eq ts us) h) in
      let tail = typs_eq-same ts us (second_so (typ_eq t u) (typs_eq ts us) h) in
      λ l. also (head l) (tail l)
  typs_eq-same _ _ h = absurd (cc)

mutual
  pub typ_eq-itself : (T : Typ) → typ_eq T T ≡ true
  typ_eq-itself (TFree x s) = both_true (nat_eq-itself x) (sort_eq-itself s)
  typ_eq-itself (TVar x i s) = both_true (nat_eq-itself x) (both_true (nat_eq-itself i) (sort_eq-itself s))
  typ_eq-itself (Con k ts) = both_true (nat_eq-itself k) (typs_eq-itself ts)

  pub typs_eq-itself : (ts : Typs) → typs_eq ts ts ≡ true
  typs_eq-itself none = refl
  typs_eq-itself (also t ts) = both_true (typ_eq-itself t) (typs_eq-itself ts)

pub term_eq-same : (t u : Term) → term_eq t u ≡ true → t ≡ u
term_eq-same (Const c T) (Const d U) h =
    let n = eqb-true c d (first_so (nat_eq c d) (typ_eq T U) h) in
    let m = typ_eq-same T U (second_so (nat_eq c d) (typ_eq T U) h) in
    λ l. Const (n l) (m l)
term_eq-same (Free x T) (Free y U) h =
    let n = eqb-true x y (first_so (nat_eq x y) (typ_eq T U) h) in
    let m = typ_eq-same T U (second_so (nat_eq x y) (typ_eq T U) h) in
    λ l. Free (n l) (m l)
term_eq-same (Var x i T) (Var y j U) h =
    let n = eqb-true x y (first_so (nat_eq x y) (nat_eq i j && typ_eq T U) h) in
    let rest = second_so (nat_eq x y) (nat_eq i j && typ_eq T U) h in
    let o = eqb-true i j (first_so (nat_eq i j) (typ_eq T U) rest) in
    let m = typ_eq-same T U (second_so (nat_eq i j) (typ_eq T U) rest) in
    λ l. Var (n l) (o l) (m l)
term_eq-same (Bound m) (Bound n) h = ap Bound (eqb-true m n h)
term_eq-same (Abs T b) (Abs U c) h =
    let n = typ_eq-same T U (first_so (typ_eq T U) (term_eq b c) h) in
    let m = term_eq-same b c (second_so (typ_eq T U) (term_eq b c) h) in
    λ l. Abs (n l) (m l)
term_eq-same (App f a) (App g b) h =
    let n = term_eq-same f g (first_so (term_eq f g) (term_eq a b) h) in
    let m = term_eq-same a b (second_so (term_eq f g) (term_eq a b) h) in
    λ l. App (n l) (m l)
term_eq-same _ _ h = absurd (cc)

pub term_eq-itself : (t : Term) → term_eq t t ≡ true
term_eq-itself (Const c T) = both_true (nat_eq-itself c) (typ_eq-itself T)
term_eq-itself (Free x T) = both_true (nat_eq-itself x) (typ_eq-itself T)
term_eq-itself (Var x i T) = both_true (nat_eq-itself x) (both_true (nat_eq-itself i) (typ_eq-itself T))
term_eq-itself (Bound n) = nat_eq-itself n
term_eq-itself (Abs T b) = both_true (typ_eq-itself T) (term_eq-itself b)
term_eq-itself (App f a) = both_true (term_eq-itself f) (term_eq-itself a)

pub typ_eq-is_equality : (T U : Typ) → (typ_eq T U ≡ true) ↔ (T ≡ U)
typ_eq-is_equality T U = (typ_eq-same T U, λ e. rw (← e) (typ_eq-itself T))

pub term_eq-is_equality : (t u : Term) → (term_eq t u ≡ true) ↔ (t ≡ u)
term_eq-is_equality t u = (term_eq-same t u, λ e. rw (← e) (term_eq-itself t))

-- A test that is equality is an equivalence.
equality_equiv : {K : Type 0} (E : K → K → Bool) → ((x y : K) → (E x y ≡ true) ↔ (x ≡ y)) → IsEquivalence E
equality_equiv E same = record {
  refl = λ x. (same x x).1 refl;
  symm = λ x y. both_ways (E x y) (E y x) (λ h. (same y x).1 (sym ((same x y).0 h))) (λ h. (same x y).1 (sym ((same y x).0 h)));
  congr = λ x y z h. ap (λ v. E v z) ((same x y).0 h);
}

pub typ_eq-equiv : IsEquivalence typ_eq
typ_eq-equiv = equality_equiv typ_eq typ_eq-is_equality

pub term_eq-equiv : IsEquivalence term_eq
term_eq-equiv = equality_equiv term_eq term_eq-is_equality
