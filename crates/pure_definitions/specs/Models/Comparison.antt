-- The order of types and of terms: by the rank of the constructor, and then by the parts, from the left. It has no meaning beyond keeping lists of them in one order.
use Rattle.std.specs.Prelude.{◌≡◌, ◌↔◌, ℕ, Bool, true, List, [], ◌∷◌, refl}
use Rattle.std.proofs.Common.{ap, sym, ◌∙◌}
use Rattle.std.specs.declared.cmp.Ordering.{Ordering}
use Rattle.std.specs.declared.cmp.Ordering.TheVariants.{Less, Equal, Greater}
use Rattle.std.specs.Ordering.{nat_cmp, ordering_then, ordering_reverse, is_eq, eq_by_cmp}
use Rattle.std.specs.Cmp.{IsTotalOrder, nat_cmp_total, tied_itself, ranks, both_ways, Equal-is}
use Rattle.std.specs.Cmp.Lexicographic.{slice_cmp}
use base.Stored.{Gv, gnil, gnum, gcons}
use Rattle.pure_definitions.specs.Types.Typ.{Typ, TFree, TVar, Con, Typs, none, also, typ_eq}
use Rattle.pure_definitions.specs.Terms.Term.{Term, Const, Free, Var, Bound, Abs, App, term_eq}
use Rattle.pure_definitions.specs.Models.Equality.{typ_eq-is_equality, term_eq-is_equality}
use Rattle.pure_definitions.specs.Models.Codes.{sort_code, typ_code, typs_code, term_code, typ_code-same, term_code-same}

abbrev pub typ_rank : Typ → ℕ
typ_rank (TFree x s) = 0
typ_rank (TVar x i s) = 1
typ_rank (Con k ts) = 2

abbrev mutual
  pub typ_cmp : Typ → Typ → Ordering
  typ_cmp (TFree x s) (TFree y r) = ordering_then (nat_cmp x y) (slice_cmp nat_cmp s r)
  typ_cmp (TVar x i s) (TVar y j r) = ordering_then (nat_cmp x y) (ordering_then (nat_cmp i j) (slice_cmp nat_cmp s r))
  typ_cmp (Con k ts) (Con m us) = ordering_then (nat_cmp k m) (typs_cmp ts us)
  typ_cmp T U = nat_cmp (typ_rank T) (typ_rank U)

  pub typs_cmp : Typs → Typs → Ordering
  typs_cmp none none = Equal
  typs_cmp none (also u us) = Less
  typs_cmp (also t ts) none = Greater
  typs_cmp (also t ts) (also u us) = ordering_then (typ_cmp t u) (typs_cmp ts us)

abbrev pub term_rank : Term → ℕ
term_rank (Const c T) = 0
term_rank (Free x T) = 1
term_rank (Var x i T) = 2
term_rank (Bound n) = 3
term_rank (Abs T b) = 4
term_rank (App f a) = 5

abbrev pub term_cmp : Term → Term → Ordering
term_cmp (Const c T) (Const d U) = ordering_then (nat_cmp c d) (typ_cmp T U)
term_cmp (Free x T) (Free y U) = ordering_then (nat_cmp x y) (typ_cmp T U)
term_cmp (Var x i T) (Var y j U) = ordering_then (nat_cmp x y) (ordering_then (nat_cmp i j) (typ_cmp T U))
term_cmp (Bound m) (Bound n) = nat_cmp m n
term_cmp (Abs T b) (Abs U c) = ordering_then (typ_cmp T U) (term_cmp b c)
term_cmp (App f a) (App g b) = ordering_then (term_cmp f g) (term_cmp a b)
term_cmp t u = nat_cmp (term_rank t) (term_rank u)

-- The laws come from the codes, which have the same order.
abbrev code_cmp : Gv → Gv → Ordering
code_cmp gnil gnil = Equal
code_cmp gnil (gnum n) = Less
code_cmp gnil (gcons c d) = Less
code_cmp (gnum m) gnil = Greater
code_cmp (gnum m) (gnum n) = nat_cmp m n
code_cmp (gnum m) (gcons c d) = Less
code_cmp (gcons a b) gnil = Greater
code_cmp (gcons a b) (gnum n) = Greater
code_cmp (gcons a b) (gcons c d) = ordering_then (code_cmp a c) (code_cmp b d)

then-reverse : (r s : Ordering) → ordering_then (ordering_reverse r) (ordering_reverse s) ≡ ordering_reverse (ordering_then r s)
then-reverse Less s = refl
then-reverse Equal s = refl
then-reverse Greater s = refl

code_cmp-reverse : (x y : Gv) → code_cmp x y ≡ ordering_reverse (code_cmp y x)
code_cmp-reverse gnil gnil = refl
code_cmp-reverse gnil (gnum n) = refl
code_cmp-reverse gnil (gcons c d) = refl
code_cmp-reverse (gnum m) gnil = refl
code_cmp-reverse (gnum m) (gnum n) = nat_cmp_total.antisymm m n
code_cmp-reverse (gnum m) (gcons c d) = refl
code_cmp-reverse (gcons a b) gnil = refl
code_cmp-reverse (gcons a b) (gnum n) = refl
code_cmp-reverse (gcons a b) (gcons c d) = (λ l. ordering_then (code_cmp-reverse a c l) (code_cmp-reverse b d l)) ∙ then-reverse (code_cmp c a) (code_cmp d b)

code_cmp-itself : (x : Gv) → code_cmp x x ≡ Equal
code_cmp-itself gnil = refl
code_cmp-itself (gnum n) = tied_itself nat_cmp_total n
code_cmp-itself (gcons a b) = λ l. ordering_then (code_cmp-itself a l) (code_cmp-itself b l)

nat_cmp-same : (m n : ℕ) → nat_cmp m n ≡ Equal → m ≡ n
nat_cmp-same m n h = rw h at (ranks m n)

first-equal : (r s : Ordering) → ordering_then r s ≡ Equal → r ≡ Equal
first-equal Less s h = h
first-equal Equal s h = refl
first-equal Greater s h = h

second-equal : (r s : Ordering) → ordering_then r s ≡ Equal → s ≡ Equal
second-equal Less s h = absurd (cc)
second-equal Equal s h = h
second-equal Greater s h = absurd (cc)

code_cmp-same : (x y : Gv) → code_cmp x y ≡ Equal → x ≡ y
code_cmp-same gnil gnil h = refl
code_cmp-same (gnum m) (gnum n) h = ap gnum (nat_cmp-same m n h)
code_cmp-same (gcons a b) (gcons c d) h =
    let p = code_cmp-same a c (first-equal (code_cmp a c) (code_cmp b d) h) in
    let q = code_cmp-same b d (second-equal (code_cmp a c) (code_cmp b d) h) in
    λ l. gcons (p l) (q l)
code_cmp-same _ _ h = absurd (cc)

-- `then` of a first comparison, which is transitive and whose ties are equal, and of a second
then-chain : (a b c : Gv) (p q s : Ordering) → (code_cmp a b ≡ Less → code_cmp b c ≡ Less → code_cmp a c ≡ Less) → (p ≡ Less → q ≡ Less → s ≡ Less)
    → ordering_then (code_cmp a b) p ≡ Less → ordering_then (code_cmp b c) q ≡ Less → ordering_then (code_cmp a c) s ≡ Less
then-chain a b c p q s first second h k = by (code_cmp a b) (code_cmp b c) refl refl h k
  where
    by : (r t : Ordering) → code_cmp a b ≡ r → code_cmp b c ≡ t → ordering_then r p ≡ Less → ordering_then t q ≡ Less → ordering_then (code_cmp a c) s ≡ Less
    by Less Less e f m n = rw (first e f) refl
    by Less Equal e f m n = let same = code_cmp-same b c f in let g : code_cmp a c ≡ Less = rw same at e in rw g refl
    by Equal Less e f m n = let same = code_cmp-same a b e in let g : code_cmp a c ≡ Less = rw (← same) at f in rw g refl
    by Equal Equal e f m n = let same = code_cmp-same a b e in let g : code_cmp a c ≡ Equal = rw (← same) at f in rw g (second m n)
    by _ _ e f m n = absurd (cc)

code_cmp-chain : (x y z : Gv) → code_cmp x y ≡ Less → code_cmp y z ≡ Less → code_cmp x z ≡ Less
code_cmp-chain gnil (gnum n) (gnum o) h k = refl
code_cmp-chain gnil (gnum n) (gcons e f) h k = refl
code_cmp-chain gnil (gcons c d) (gcons e f) h k = refl
code_cmp-chain (gnum m) (gnum n) (gnum o) h k = nat_cmp_total.trans m n o h k
code_cmp-chain (gnum m) (gnum n) (gcons e f) h k = refl
code_cmp-chain (gnum m) (gcons c d) (gcons e f) h k = refl
code_cmp-chain (gcons a b) (gcons c d) (gcons e f) h k =
    then-chain a c e (code_cmp b d) (code_cmp d f) (code_cmp b f) (code_cmp-chain a c e) (code_cmp-chain b d f) h k
code_cmp-chain _ _ _ h k = absurd (cc)

code_cmp-total : IsTotalOrder code_cmp
code_cmp-total = record { antisymm = code_cmp-reverse; trans = code_cmp-chain; congr = λ x y z h. ap (λ v. code_cmp v z) (code_cmp-same x y h) }

sort_cmp-code : (s r : List ℕ) → slice_cmp nat_cmp s r ≡ code_cmp (sort_code s) (sort_code r)
sort_cmp-code [] [] = refl
sort_cmp-code [] (d ∷ ds) = refl
sort_cmp-code (c ∷ cs) [] = refl
sort_cmp-code (c ∷ cs) (d ∷ ds) = ap (ordering_then (nat_cmp c d)) (sort_cmp-code cs ds)

mutual
  typ_cmp-code : (T U : Typ) → typ_cmp T U ≡ code_cmp (typ_code T) (typ_code U)
  typ_cmp-code (TFree x s) (TFree y r) = ap (ordering_then (nat_cmp x y)) (sort_cmp-code s r)
  typ_cmp-code (TVar x i s) (TVar y j r) = ap (λ o. ordering_then (nat_cmp x y) (ordering_then (nat_cmp i j) o)) (sort_cmp-code s r)
  typ_cmp-code (Con k ts) (Con m us) = ap (ordering_then (nat_cmp k m)) (typs_cmp-code ts us)
  typ_cmp-code _ _ = refl

  typs_cmp-code : (ts us : Typs) → typs_cmp ts us ≡ code_cmp (typs_code ts) (typs_code us)
  typs_cmp-code none none = refl
  typs_cmp-code none (also u us) = refl
  typs_cmp-code (also t ts) none = refl
  typs_cmp-code (also t ts) (also u us) = λ l. ordering_then (typ_cmp-code t u l) (typs_cmp-code ts us l)

term_cmp-code : (t u : Term) → term_cmp t u ≡ code_cmp (term_code t) (term_code u)
term_cmp-code (Const c T) (Const d U) = ap (ordering_then (nat_cmp c d)) (typ_cmp-code T U)
term_cmp-code (Free x T) (Free y U) = ap (ordering_then (nat_cmp x y)) (typ_cmp-code T U)
term_cmp-code (Var x i T) (Var y j U) = ap (λ o. ordering_then (nat_cmp x y) (ordering_then (nat_cmp i j) o)) (typ_cmp-code T U)
term_cmp-code (Bound m) (Bound n) = refl
term_cmp-code (Abs T b) (Abs U c) = λ l. ordering_then (typ_cmp-code T U l) (term_cmp-code b c l)
term_cmp-code (App f a) (App g b) = λ l. ordering_then (term_cmp-code f g l) (term_cmp-code a b l)
term_cmp-code _ _ = refl

total_by_code : {K : Type 0} (code : K → Gv) (R : K → K → Ordering) → ((x y : K) → R x y ≡ code_cmp (code x) (code y)) → IsTotalOrder R
total_by_code code R e = record {
  antisymm = λ x y. e x y ∙ (code_cmp-reverse (code x) (code y) ∙ ap ordering_reverse (sym (e y x)));
  trans = λ x y z h k. e x z ∙ code_cmp-chain (code x) (code y) (code z) (sym (e x y) ∙ h) (sym (e y z) ∙ k);
  congr = λ x y z h. e x z ∙ (code_cmp-total.congr (code x) (code y) (code z) (sym (e x y) ∙ h) ∙ sym (e y z));
}

-- A test of equality and a comparison whose ties are equal agree.
ties_by_equality : {K : Type 0} (E : K → K → Bool) (R : K → K → Ordering) → ((x y : K) → (E x y ≡ true) ↔ (x ≡ y)) → IsTotalOrder R → ((x y : K) → R x y ≡ Equal → x ≡ y)
    → (x y : K) → E x y ≡ eq_by_cmp R x y
ties_by_equality E R same o ties x y =
    both_ways (E x y) (is_eq (R x y))
    (λ h. ap is_eq (ap (λ v. R v y) ((same x y).0 h) ∙ tied_itself o y))
    (λ h. (same x y).1 (ties x y ((Equal-is (R x y)).0 h)))

pub typ_cmp-total : IsTotalOrder typ_cmp
typ_cmp-total = total_by_code typ_code typ_cmp typ_cmp-code

pub typ_cmp-ties : (T U : Typ) → typ_eq T U ≡ eq_by_cmp typ_cmp T U
typ_cmp-ties = ties_by_equality typ_eq typ_cmp typ_eq-is_equality typ_cmp-total
    (λ T U h. typ_code-same T U (code_cmp-same (typ_code T) (typ_code U) (sym (typ_cmp-code T U) ∙ h)))

pub term_cmp-total : IsTotalOrder term_cmp
term_cmp-total = total_by_code term_code term_cmp term_cmp-code

pub term_cmp-ties : (t u : Term) → term_eq t u ≡ eq_by_cmp term_cmp t u
term_cmp-ties = ties_by_equality term_eq term_cmp term_eq-is_equality term_cmp-total
    (λ t u h. term_code-same t u (code_cmp-same (term_code t) (term_code u) (sym (term_cmp-code t u) ∙ h)))
