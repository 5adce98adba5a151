-- Equality modulo pairs, and the first difference.
use Rattle.std.proofs.Common.{◌≡◌, ◌≢◌, ◌⊎◌, ℕ, ◌+◌, ◌<◌, Bool, true, false, ◌&&◌, ◌||◌, List, [], ◌∷◌, length, get_or, Option, Some, None, inl, inr, refl, ap, sym, subst, ◌∙◌, arith}
use Rattle.std.specs.Prelude.{if◌then◌else◌}
use Rattle.std.specs.Cmp.{first_so, second_so}
use Rattle.std.specs.Cmp.Derive.{both_true}
use Rattle.pure_text.specs.Lists.{IsIn, Each}
use Rattle.pure_text.proofs.ListLaws.{read_in}
use Rattle.pure_definitions.specs.Types.Typ.{Typ, typ_eq}
use Rattle.pure_definitions.specs.Terms.Term.{Term, Abs, App, term_eq}
use Rattle.pure_definitions.specs.Terms.Typing.{node_count}
use Rattle.pure_definitions.specs.Terms.Limits.{cut_off}
use Rattle.pure_definitions.specs.Models.Equality.{typ_eq-same, typ_eq-itself, term_eq-same, term_eq-itself}
use Rattle.pure_logic.specs.Derivable.{Pair}
use Rattle.pure_pairs.specs.Modulo.{closed_over, AreSides, AreListed, AreListedUnder, AreEqualModulo, equal, listed, bodies, applied, AreAlike, DiffersAt, here, in_body, in_function, in_argument}
use Rattle.pure_pairs.specs.Difference.{is_either_way, is_listed, unless_listed, at_node, further, at_applications, difference}
use Rattle.pure_pairs.specs.Answer.{DiffersFrom, IsDifference}

either : (a b : Bool) → (a || b) ≡ true → (a ≡ true) ⊎ (b ≡ true)
either true b e = inl refl
either false b e = inr e

neither : (a b : Bool) → a ≡ false → b ≡ false → (a || b) ≡ false
neither true b e f = absurd (cc)
neither false b e f = f

or-left : (a b : Bool) → a ≡ true → (a || b) ≡ true
or-left true b e = refl
or-left false b e = absurd (cc)

or-right : (a b : Bool) → b ≡ true → (a || b) ≡ true
or-right true b e = refl
or-right false b e = e

-- What holds of both outcomes of a choice holds of the choice.
chosen : {A : Type 0} (P : A → Type 0) (b : Bool) (x y : A) → (b ≡ true → P x) → (b ≡ false → P y) → P (if b then x else y)
chosen P true x y f g = f refl
chosen P false x y f g = g refl

-- Terms below abstractions over the same binders are equal where those are.
pub closed_over-same : (bs : List Typ) (t u : Term) → closed_over bs t ≡ closed_over bs u → t ≡ u
closed_over-same [] t u e = e
closed_over-same (T ∷ bs) t u e = let inside : Abs T t ≡ Abs T u = closed_over-same bs (Abs T t) (Abs T u) e in cc

sides : (p : Pair) (t u : Term) → (term_eq p.left t && term_eq p.right u) ≡ true → AreSides p t u
sides p t u e = (term_eq-same p.left t (first_so (term_eq p.left t) (term_eq p.right u) e), term_eq-same p.right u (second_so (term_eq p.left t) (term_eq p.right u) e))

are-sides : (p : Pair) (t u : Term) → AreSides p t u → (term_eq p.left t && term_eq p.right u) ≡ true
are-sides p t u s = both_true {s = term_eq p.left t} {t = term_eq p.right u} (subst (λ (v : Term). term_eq p.left v ≡ true) s.0 (term_eq-itself p.left)) (subst (λ (v : Term). term_eq p.right v ≡ true) s.1 (term_eq-itself p.right))

either-way : (p : Pair) (t u : Term) → is_either_way p t u ≡ true → AreSides p t u ⊎ AreSides p u t
either-way p t u e = by (either (term_eq p.left t && term_eq p.right u) (term_eq p.left u && term_eq p.right t) e)
  where
    by : ((term_eq p.left t && term_eq p.right u) ≡ true) ⊎ ((term_eq p.left u && term_eq p.right t) ≡ true) → AreSides p t u ⊎ AreSides p u t
    by (inl f) = inl (sides p t u f)
    by (inr f) = inr (sides p u t f)

listed-further : (p : Pair) (ps : List Pair) (t u : Term) → (is_listed ps t u ≡ true → AreListed ps t u) → (is_either_way p t u ≡ true) ⊎ (is_listed ps t u ≡ true) → AreListed (p ∷ ps) t u
listed-further p ps t u rest (inl e) = inl (either-way p t u e)
listed-further p ps t u rest (inr e) = inr (rest e)

listed-as : (ps : List Pair) (t u : Term) → is_listed ps t u ≡ true → AreListed ps t u
listed-as [] t u e = absurd (cc)
listed-as (p ∷ ps) t u e = listed-further p ps t u (λ f. listed-as ps t u f) (either (is_either_way p t u) (is_listed ps t u) e)

as-listed : (ps : List Pair) (t u : Term) → AreListed ps t u → is_listed ps t u ≡ true
as-listed [] t u m = absurd m
as-listed (p ∷ ps) t u (inl (inl s)) = or-left (is_either_way p t u) (is_listed ps t u) (or-left (term_eq p.left t && term_eq p.right u) (term_eq p.left u && term_eq p.right t) (are-sides p t u s))
as-listed (p ∷ ps) t u (inl (inr s)) = or-left (is_either_way p t u) (is_listed ps t u) (or-right (term_eq p.left t && term_eq p.right u) (term_eq p.left u && term_eq p.right t) (are-sides p u t s))
as-listed (p ∷ ps) t u (inr m) = or-right (is_either_way p t u) (is_listed ps t u) (as-listed ps t u m)

unlisted : (ps : List Pair) (t u : Term) → is_listed ps t u ≡ false → ¬ AreListed ps t u
unlisted ps t u e m = let f : is_listed ps t u ≡ true = as-listed ps t u m in absurd (cc)

-- The loop over the pairs.
pub listed-here : (ps : List Pair) (t u : Term) (r : Pair) → IsIn r ps → is_either_way r t u ≡ true → is_listed ps t u ≡ true
listed-here [] t u r m e = absurd m
listed-here (p ∷ ps) t u r (inl f) e = let same : is_either_way p t u ≡ true = subst (λ (q : Pair). is_either_way q t u ≡ true) f e in or-left (is_either_way p t u) (is_listed ps t u) same
listed-here (p ∷ ps) t u r (inr m) e = or-right (is_either_way p t u) (is_listed ps t u) (listed-here ps t u r m e)

pub listed-at : (ps : List Pair) (t u : Term) (i : ℕ) (r : Pair) → i < length ps → r ≡ get_or ps i r → is_either_way r t u ≡ true → is_listed ps t u ≡ true
listed-at ps t u i r within read e = listed-here ps t u r (read_in ps i r within read) e

pub none_listed : (ps : List Pair) (t u : Term) → Each (λ p. is_either_way p t u ≡ false) ps → is_listed ps t u ≡ false
none_listed [] t u each = refl
none_listed (p ∷ ps) t u each = neither (is_either_way p t u) (is_listed ps t u) each.0 (none_listed ps t u each.1)

-- The function gives the first difference.
cut-one : (inside : ℕ) → cut_off (cut_off inside + 1) ≡ cut_off (inside + 1)
cut-one inside = omega arith

cut-argument : (inside n : ℕ) → cut_off (cut_off inside + cut_off (cut_off n + 1)) ≡ cut_off (inside + (n + 1))
cut-argument inside n = omega arith

unless-listed-answers : (ps : List Pair) (bs : List Typ) (t u : Term) (place cut : ℕ) → cut ≡ cut_off place → (¬ AreListedUnder ps bs t u → DiffersAt ps bs t u place) → IsDifference ps bs t u (unless_listed ps bs t u cut)
unless-listed-answers ps bs t u place cut e differs =
    chosen (IsDifference ps bs t u) (is_listed ps (closed_over bs t) (closed_over bs u)) None (Some cut)
    (λ holds. listed (listed-as ps (closed_over bs t) (closed_over bs u) holds))
    (λ fails. (place, differs (unlisted ps (closed_over bs t) (closed_over bs u) fails), e))

at_node-answers : (ps : List Pair) (bs : List Typ) (t u : Term) → ¬ AreAlike t u → IsDifference ps bs t u (at_node ps bs t u)
at_node-answers ps bs t u other =
    chosen (IsDifference ps bs t u) (term_eq t u) None (unless_listed ps bs t u 0)
    (λ holds. subst (λ (v : Term). AreEqualModulo ps bs t v) (term_eq-same t u holds) equal)
    (λ fails. unless-listed-answers ps bs t u 0 0 refl (λ free. here (differ fails) free other))
  where
    differ : term_eq t u ≡ false → t ≢ u
    differ fails same = let holds : term_eq t u ≡ true = rw same (term_eq-itself u) in absurd (cc)

further-answers : (ps : List Pair) (bs : List Typ) (T : Typ) (b c : Term) (found : Option ℕ) → IsDifference ps (T ∷ bs) b c found → IsDifference ps bs (Abs T b) (Abs T c) (further ps bs (Abs T b) (Abs T c) 1 found)
further-answers ps bs T b c None same = bodies same
further-answers ps bs T b c (Some cut) (inside, differs, e) =
    unless-listed-answers ps bs (Abs T b) (Abs T c) (inside + 1) (cut_off (cut + 1)) (rw e (cut-one inside)) (λ free. in_body free differs)

bodies-answer : (ps : List Pair) (bs : List Typ) (T U : Typ) (b c : Term) (found : Option ℕ) → T ≡ U → IsDifference ps (T ∷ bs) b c found → IsDifference ps bs (Abs T b) (Abs U c) (further ps bs (Abs T b) (Abs U c) 1 found)
bodies-answer ps bs T U b c found e answer = subst (λ (V : Typ). IsDifference ps bs (Abs T b) (Abs V c) (further ps bs (Abs T b) (Abs V c) 1 found)) e (further-answers ps bs T b c found answer)

argument-answers : (ps : List Pair) (bs : List Typ) (f g a b : Term) (second : Option ℕ) → AreEqualModulo ps bs f g → IsDifference ps bs a b second
    → IsDifference ps bs (App f a) (App g b) (further ps bs (App f a) (App g b) (cut_off (cut_off (node_count f) + 1)) second)
argument-answers ps bs f g a b None same answer = applied same answer
argument-answers ps bs f g a b (Some cut) same (inside, differs, e) =
    unless-listed-answers ps bs (App f a) (App g b) (inside + (node_count f + 1)) (cut_off (cut + cut_off (cut_off (node_count f) + 1))) (rw e (cut-argument inside (node_count f)))
    (λ free. in_argument free same differs)

applications-answer : (ps : List Pair) (bs : List Typ) (f g a b : Term) (first second : Option ℕ) → IsDifference ps bs f g first → IsDifference ps bs a b second
    → IsDifference ps bs (App f a) (App g b) (at_applications ps bs (App f a) (App g b) f first second)
applications-answer ps bs f g a b None second same answer = argument-answers ps bs f g a b second same answer
applications-answer ps bs f g a b (Some cut) second (inside, differs, e) answer =
    unless-listed-answers ps bs (App f a) (App g b) (inside + 1) (cut_off (cut + 1)) (rw e (cut-one inside)) (λ free. in_function free differs)

pub difference-answers : (ps : List Pair) (bs : List Typ) (t u : Term) → IsDifference ps bs t u (difference ps bs t u)
difference-answers ps bs (Abs T b) (Abs U c) =
    chosen (IsDifference ps bs (Abs T b) (Abs U c)) (typ_eq T U) (further ps bs (Abs T b) (Abs U c) 1 (difference ps (T ∷ bs) b c)) (at_node ps bs (Abs T b) (Abs U c))
    (λ holds. bodies-answer ps bs T U b c (difference ps (T ∷ bs) b c) (typ_eq-same T U holds) (difference-answers ps (T ∷ bs) b c))
    (λ fails. at_node-answers ps bs (Abs T b) (Abs U c) (differ fails))
  where
    differ : typ_eq T U ≡ false → T ≢ U
    differ fails same = let holds : typ_eq T U ≡ true = rw same (typ_eq-itself U) in absurd (cc)
difference-answers ps bs (App f a) (App g b) = applications-answer ps bs f g a b (difference ps bs f g) (difference ps bs a b) (difference-answers ps bs f g) (difference-answers ps bs a b)
difference-answers ps bs t u = at_node-answers ps bs t u (λ alike. alike)

as-either : (ps : List Pair) (bs : List Typ) (t u : Term) (found : Option ℕ) → IsDifference ps bs t u found → AreEqualModulo ps bs t u ⊎ ((place : ℕ) × DiffersAt ps bs t u place)
as-either ps bs t u None same = inl same
as-either ps bs t u (Some cut) (place, differs, e) = inr (place, differs)

pub equal_or_differs : (ps : List Pair) (bs : List Typ) (t u : Term) → AreEqualModulo ps bs t u ⊎ ((place : ℕ) × DiffersAt ps bs t u place)
equal_or_differs ps bs t u = as-either ps bs t u (difference ps bs t u) (difference-answers ps bs t u)

-- What equality, and a difference, say of two terms.
abbrev HasEqualParts : List Pair → List Typ → (t u : Term) → Type 0
HasEqualParts ps bs (Abs T b) (Abs U c) = (T ≡ U) × AreEqualModulo ps (T ∷ bs) b c
HasEqualParts ps bs (App f a) (App g b) = AreEqualModulo ps bs f g × AreEqualModulo ps bs a b
HasEqualParts ps bs _ _ = ⊥

abbrev SaysEqual : List Pair → List Typ → (t u : Term) → Type 0
SaysEqual ps bs t u = (t ≡ u) ⊎ (AreListedUnder ps bs t u ⊎ HasEqualParts ps bs t u)

says-equal : {ps : List Pair} {bs : List Typ} {t u : Term} → AreEqualModulo ps bs t u → SaysEqual ps bs t u
says-equal equal = inl refl
says-equal (listed m) = inr (inl m)
says-equal (bodies e) = inr (inr (refl, e))
says-equal (applied e f) = inr (inr (e, f))

abbrev HasDifference : List Pair → List Typ → (t u : Term) → (place : ℕ) → Type 0
HasDifference ps bs (Abs T b) (Abs U c) place = (T ≡ U) × ((inside : ℕ) × DiffersAt ps (T ∷ bs) b c inside × (place ≡ inside + 1))
HasDifference ps bs (App f a) (App g b) place = ((inside : ℕ) × DiffersAt ps bs f g inside × (place ≡ inside + 1))
    ⊎ (AreEqualModulo ps bs f g × ((inside : ℕ) × DiffersAt ps bs a b inside × (place ≡ inside + (node_count f + 1))))
HasDifference ps bs _ _ place = ⊥

abbrev SaysDifferent : List Pair → List Typ → (t u : Term) → (place : ℕ) → Type 0
SaysDifferent ps bs t u place = (¬ AreListedUnder ps bs t u) × (((place ≡ 0) × ((t ≢ u) × (¬ AreAlike t u))) ⊎ HasDifference ps bs t u place)

says-different : {ps : List Pair} {bs : List Typ} {t u : Term} {place : ℕ} → DiffersAt ps bs t u place → SaysDifferent ps bs t u place
says-different (here d l a) = (l, inl (refl, (d, a)))
says-different (in_body {inside = inside} l d) = (l, inr (refl, (inside, d, refl)))
says-different (in_function {inside = inside} l d) = (l, inr (inl (inside, d, refl)))
says-different (in_argument {inside = inside} l s d) = (l, inr (inr (s, (inside, d, refl))))

-- Equality excludes a difference.
abs-not_both : (ps : List Pair) (bs : List Typ) (T U : Typ) (b c : Term) (place : ℕ) → ((inside : ℕ) → DiffersAt ps (T ∷ bs) b c inside → AreEqualModulo ps (T ∷ bs) b c → ⊥)
    → SaysDifferent ps bs (Abs T b) (Abs U c) place → SaysEqual ps bs (Abs T b) (Abs U c) → ⊥
abs-not_both ps bs T U b c place rest (l, d) (inr (inl m)) = l m
abs-not_both ps bs T U b c place rest (l, inl (z, (d, a))) (inl e) = d e
abs-not_both ps bs T U b c place rest (l, inl (z, (d, a))) (inr (inr (same, e))) = a same
abs-not_both ps bs T U b c place rest (l, inr (same, (inside, d, p))) (inl e) =
    let inner : b ≡ c = cc in rest inside d (subst (λ (v : Term). AreEqualModulo ps (T ∷ bs) b v) inner equal)
abs-not_both ps bs T U b c place rest (l, inr (same, (inside, d, p))) (inr (inr (again, e))) = rest inside d e

app-not_both : (ps : List Pair) (bs : List Typ) (f g a b : Term) (place : ℕ) → ((inside : ℕ) → DiffersAt ps bs f g inside → AreEqualModulo ps bs f g → ⊥) → ((inside : ℕ) → DiffersAt ps bs a b inside → AreEqualModulo ps bs a b → ⊥)
    → SaysDifferent ps bs (App f a) (App g b) place → SaysEqual ps bs (App f a) (App g b) → ⊥
app-not_both ps bs f g a b place first second (l, d) (inr (inl m)) = l m
app-not_both ps bs f g a b place first second (l, inl (z, (d, n))) (inl e) = d e
app-not_both ps bs f g a b place first second (l, inl (z, (d, n))) (inr (inr (e, k))) = n tt
app-not_both ps bs f g a b place first second (l, inr (inl (inside, d, p))) (inl e) =
    let inner : f ≡ g = cc in first inside d (subst (λ (v : Term). AreEqualModulo ps bs f v) inner equal)
app-not_both ps bs f g a b place first second (l, inr (inl (inside, d, p))) (inr (inr (e, k))) = first inside d e
app-not_both ps bs f g a b place first second (l, inr (inr (s, (inside, d, p)))) (inl e) =
    let inner : a ≡ b = cc in second inside d (subst (λ (v : Term). AreEqualModulo ps bs a v) inner equal)
app-not_both ps bs f g a b place first second (l, inr (inr (s, (inside, d, p)))) (inr (inr (e, k))) = second inside d k

leaf-not_both : (ps : List Pair) (bs : List Typ) (t u : Term) (place : ℕ) → (HasDifference ps bs t u place → ⊥) → (HasEqualParts ps bs t u → ⊥) → SaysDifferent ps bs t u place → SaysEqual ps bs t u → ⊥
leaf-not_both ps bs t u place n m (l, inr d) e = n d
leaf-not_both ps bs t u place n m (l, inl (z, (d, a))) (inl e) = d e
leaf-not_both ps bs t u place n m (l, inl (z, (d, a))) (inr (inl k)) = l k
leaf-not_both ps bs t u place n m (l, inl (z, (d, a))) (inr (inr p)) = m p

not-both : (ps : List Pair) (bs : List Typ) (t u : Term) (place : ℕ) → DiffersAt ps bs t u place → AreEqualModulo ps bs t u → ⊥
not-both ps bs (Abs T b) (Abs U c) place d e = abs-not_both ps bs T U b c place (λ inside f g. not-both ps (T ∷ bs) b c inside f g) (says-different d) (says-equal e)
not-both ps bs (App f a) (App g b) place d e = app-not_both ps bs f g a b place (λ inside h k. not-both ps bs f g inside h k) (λ inside h k. not-both ps bs a b inside h k) (says-different d) (says-equal e)
not-both ps bs t u place d e = leaf-not_both ps bs t u place (λ p. p) (λ p. p) (says-different d) (says-equal e)

pub not_both : (ps : List Pair) (bs : List Typ) (t u : Term) (place : ℕ) → AreEqualModulo ps bs t u → ¬ DiffersAt ps bs t u place
not_both ps bs t u place same differs = not-both ps bs t u place differs same

-- There is one place at most.
abs-one_place : (ps : List Pair) (bs : List Typ) (T U : Typ) (b c : Term) (one other : ℕ) → ((n m : ℕ) → DiffersAt ps (T ∷ bs) b c n → DiffersAt ps (T ∷ bs) b c m → n ≡ m)
    → SaysDifferent ps bs (Abs T b) (Abs U c) one → SaysDifferent ps bs (Abs T b) (Abs U c) other → one ≡ other
abs-one_place ps bs T U b c one other rest (l, inl (z, (d, a))) (m, inl (w, (e, k))) = z ∙ sym w
abs-one_place ps bs T U b c one other rest (l, inl (z, (d, a))) (m, inr (same, e)) = absurd (a same)
abs-one_place ps bs T U b c one other rest (l, inr (same, d)) (m, inl (w, (e, k))) = absurd (k same)
abs-one_place ps bs T U b c one other rest (l, inr (same, (inside, d, p))) (m, inr (again, (within, e, q))) = p ∙ (ap (λ n. n + 1) (rest inside within d e) ∙ sym q)

app-one_place : (ps : List Pair) (bs : List Typ) (f g a b : Term) (one other : ℕ) → ((n m : ℕ) → DiffersAt ps bs f g n → DiffersAt ps bs f g m → n ≡ m) → ((n m : ℕ) → DiffersAt ps bs a b n → DiffersAt ps bs a b m → n ≡ m)
    → SaysDifferent ps bs (App f a) (App g b) one → SaysDifferent ps bs (App f a) (App g b) other → one ≡ other
app-one_place ps bs f g a b one other first second (l, inl (z, (d, n))) (m, inl (w, (e, k))) = z ∙ sym w
app-one_place ps bs f g a b one other first second (l, inl (z, (d, n))) (m, inr e) = absurd (n tt)
app-one_place ps bs f g a b one other first second (l, inr d) (m, inl (w, (e, k))) = absurd (k tt)
app-one_place ps bs f g a b one other first second (l, inr (inl (inside, d, p))) (m, inr (inl (within, e, q))) = p ∙ (ap (λ n. n + 1) (first inside within d e) ∙ sym q)
app-one_place ps bs f g a b one other first second (l, inr (inl (inside, d, p))) (m, inr (inr (s, e))) = absurd (not-both ps bs f g inside d s)
app-one_place ps bs f g a b one other first second (l, inr (inr (s, d))) (m, inr (inl (within, e, q))) = absurd (not-both ps bs f g within e s)
app-one_place ps bs f g a b one other first second (l, inr (inr (s, (inside, d, p)))) (m, inr (inr (r, (within, e, q)))) = p ∙ (ap (λ n. n + (node_count f + 1)) (second inside within d e) ∙ sym q)

leaf-one_place : (ps : List Pair) (bs : List Typ) (t u : Term) (one other : ℕ) → ((n : ℕ) → HasDifference ps bs t u n → ⊥) → SaysDifferent ps bs t u one → SaysDifferent ps bs t u other → one ≡ other
leaf-one_place ps bs t u one other n (l, inl (z, d)) (m, inl (w, e)) = z ∙ sym w
leaf-one_place ps bs t u one other n (l, inr d) (m, e) = absurd (n one d)
leaf-one_place ps bs t u one other n (l, inl d) (m, inr e) = absurd (n other e)

pub one_place : (ps : List Pair) (bs : List Typ) (t u : Term) (one other : ℕ) → DiffersAt ps bs t u one → DiffersAt ps bs t u other → one ≡ other
one_place ps bs (Abs T b) (Abs U c) one other d e = abs-one_place ps bs T U b c one other (λ n m f g. one_place ps (T ∷ bs) b c n m f g) (says-different d) (says-different e)
one_place ps bs (App f a) (App g b) one other d e = app-one_place ps bs f g a b one other (λ n m h k. one_place ps bs f g n m h k) (λ n m h k. one_place ps bs a b n m h k) (says-different d) (says-different e)
one_place ps bs t u one other d e = leaf-one_place ps bs t u one other (λ n p. p) (says-different d) (says-different e)

-- What the call answers.
pub answer_equal : (ps : List Pair) (t u : Term) → None ≡ difference ps [] t u → AreEqualModulo ps [] t u
answer_equal ps t u e = subst (λ (o : Option ℕ). IsDifference ps [] t u o) (sym e) (difference-answers ps [] t u)

pub answer_differs : (ps : List Pair) (t u : Term) (cut : ℕ) → Some cut ≡ difference ps [] t u → DiffersFrom ps [] t u cut
answer_differs ps t u cut e = subst (λ (o : Option ℕ). IsDifference ps [] t u o) (sym e) (difference-answers ps [] t u)
