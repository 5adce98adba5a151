-- A pair has one treatment at most.
use Rattle.std.proofs.Common.{◌≡◌, ◌≢◌, ◌⊎◌, ℕ, ◌+◌, [], Bool, true, false, ◌&&◌, ◌||◌, inl, inr, refl, sym, subst, ◌∙◌}
use Rattle.std.specs.Cmp.{second_so}
use Rattle.pure_definitions.specs.Types.Typ.{Typ}
use Rattle.pure_definitions.specs.Terms.Term.{Term, Const, Free, Var, Bound, Abs, App, term_eq}
use Rattle.pure_definitions.specs.Terms.Bounds.{Occurs}
use Rattle.pure_definitions.specs.Terms.Typing.{HasType}
use Rattle.pure_definitions.specs.Models.Equality.{term_eq-same}
use Rattle.pure_definitions.specs.Reduction.Eta.{IsEtaNormalForm}
use Rattle.pure_term_laws.proofs.TypingLaws.{typed-once}
use Rattle.pure_term_laws.proofs.EtaNormalLaws.{one_eta_normal_form}
use Rattle.pure_unify_definitions.specs.Fronts.{front, head, is_flexible}
use Rattle.pure_unify_definitions.specs.Firm.{is_firm_head, stands_in, stands_in_arguments, occurs_firmly}
use Rattle.pure_unify_definitions.specs.Node.{bind}
use Rattle.pure_unify_definitions.specs.Treatment.{Treatment, Drop, Differ, Fail, Put, Split, Unify, Leave, IsBareSide, left_bare, right_bare, AreOfOneTyp, AreApart, IsTreatment, equal, differ, firm, absent, same_heads, constants, clash, left}

pub either : (a b : Bool) → (a || b) ≡ true → (a ≡ true) ⊎ (b ≡ true)
either true b e = inl refl
either false b e = inr e

pub front-occurs : (t : Term) → Occurs (front t) t
front-occurs (App f a) = inr (inl (front-occurs f))
front-occurs (Const c T) = refl
front-occurs (Free x T) = refl
front-occurs (Var x i T) = refl
front-occurs (Bound p) = refl
front-occurs (Abs T b) = inl refl

at-front : (v f : Term) → term_eq v (front f) ≡ true → Occurs v f
at-front v f e = subst (λ (u : Term). Occurs u f) (sym (term_eq-same v (front f) e)) (front-occurs f)

in_arguments : (v f a : Term) (b c : Bool) → (b || c) ≡ true → (b ≡ true → Occurs v f) → (c ≡ true → Occurs v a) → Occurs v (App f a)
in_arguments v f a b c e g h = by (either b c e)
  where
    by : (b ≡ true) ⊎ (c ≡ true) → Occurs v (App f a)
    by (inl d) = inr (inl (g d))
    by (inr d) = inr (inr (h d))

in_application : (v : Term) (n : ℕ) (f a : Term) → (term_eq v (front f) ≡ true) ⊎ ((is_firm_head n (front f) && (stands_in_arguments v n f || stands_in v n a)) ≡ true)
    → (stands_in_arguments v n f ≡ true → Occurs v f) → (stands_in v n a ≡ true → Occurs v a) → Occurs v (App f a)
in_application v n f a (inl e) g h = inr (inl (at-front v f e))
in_application v n f a (inr e) g h = in_arguments v f a (stands_in_arguments v n f) (stands_in v n a) (second_so (is_firm_head n (front f)) (stands_in_arguments v n f || stands_in v n a) e) g h

mutual
  stands-occurs : (v : Term) (n : ℕ) (t : Term) → stands_in v n t ≡ true → Occurs v t
  stands-occurs v n (Abs T b) e = inr (stands-occurs v (n + 1) b e)
  stands-occurs v n (App f a) e =
      in_application v n f a (either (term_eq v (front f)) (is_firm_head n (front f) && (stands_in_arguments v n f || stands_in v n a)) e)
      (λ h. arguments-occur v n f h) (λ h. stands-occurs v n a h)
  stands-occurs v n (Const c T) e = term_eq-same v (Const c T) e
  stands-occurs v n (Free x T) e = term_eq-same v (Free x T) e
  stands-occurs v n (Var x i T) e = term_eq-same v (Var x i T) e
  stands-occurs v n (Bound p) e = term_eq-same v (Bound p) e

  arguments-occur : (v : Term) (n : ℕ) (t : Term) → stands_in_arguments v n t ≡ true → Occurs v t
  arguments-occur v n (App f a) e = in_arguments v f a (stands_in_arguments v n f) (stands_in v n a) e (λ h. arguments-occur v n f h) (λ h. stands-occurs v n a h)
  arguments-occur v n (Const c T) e = absurd (cc)
  arguments-occur v n (Free x T) e = absurd (cc)
  arguments-occur v n (Var x i T) e = absurd (cc)
  arguments-occur v n (Bound p) e = absurd (cc)
  arguments-occur v n (Abs T b) e = absurd (cc)

pub firm-occurs : (v t : Term) → occurs_firmly v t ≡ true → Occurs v t
firm-occurs v (Abs T b) e = inr (firm-occurs v b e)
firm-occurs v (Const c T) e = arguments-occur v 0 (Const c T) (second_so (is_firm_head 0 (front (Const c T))) (stands_in_arguments v 0 (Const c T)) e)
firm-occurs v (Free x T) e = arguments-occur v 0 (Free x T) (second_so (is_firm_head 0 (front (Free x T))) (stands_in_arguments v 0 (Free x T)) e)
firm-occurs v (Var x i T) e = arguments-occur v 0 (Var x i T) (second_so (is_firm_head 0 (front (Var x i T))) (stands_in_arguments v 0 (Var x i T)) e)
firm-occurs v (Bound p) e = arguments-occur v 0 (Bound p) (second_so (is_firm_head 0 (front (Bound p))) (stands_in_arguments v 0 (Bound p)) e)
firm-occurs v (App f a) e = arguments-occur v 0 (App f a) (second_so (is_firm_head 0 (front (App f a))) (stands_in_arguments v 0 (App f a)) e)

-- The side that is looked at is one.
pub bare-once : (l r v w o p : Term) → IsBareSide l r v o → IsBareSide l r w p → (v ≡ w) × (o ≡ p)
bare-once l r v w o p (left_bare b e) (left_bare c f) = (one_eta_normal_form l v w b.form c.form, e ∙ sym f)
bare-once l r v w o p (left_bare b e) (right_bare n c f) = absurd (n v b)
bare-once l r v w o p (right_bare n b e) (left_bare c f) = absurd (n w c)
bare-once l r v w o p (right_bare n b e) (right_bare m c f) = (one_eta_normal_form r v w b.form c.form, e ∙ sym f)

-- What each treatment says, by the rules that come before it.
data ByVariable (v other : Term) : Treatment → Type 0 where
  is_firm : {how : Treatment} → occurs_firmly v other ≡ true → how ≡ Fail → ByVariable v other how
  is_absent : {how : Treatment} (x i : ℕ) (T : Typ) (u : Term) → v ≡ Var x i T → ¬ Occurs v other → IsEtaNormalForm other u → how ≡ Put (bind x i T u) → ByVariable v other how

data ByHeads (l r : Term) : Treatment → Type 0 where
  are_same : {how : Treatment} → head l ≡ head r → how ≡ Split → ByHeads l r how
  are_constants : {how : Treatment} (c : ℕ) (T U : Typ) → head l ≡ Const c T → head r ≡ Const c U → T ≢ U → how ≡ Unify T U → ByHeads l r how
  are_apart : {how : Treatment} → AreApart (head l) (head r) → how ≡ Fail → ByHeads l r how

data Later (l r : Term) : Treatment → Type 0 where
  by_variable : {how : Treatment} (v other : Term) → IsBareSide l r v other → ByVariable v other how → Later l r how
  by_heads : {how : Treatment} → ((v other : Term) → IsBareSide l r v other → (occurs_firmly v other ≡ false) × Occurs v other) → (is_flexible l || is_flexible r) ≡ false → ByHeads l r how → Later l r how
  by_none : {how : Treatment} → ((v other : Term) → IsBareSide l r v other → (occurs_firmly v other ≡ false) × Occurs v other) → (is_flexible l || is_flexible r) ≡ true → how ≡ Leave → Later l r how

data Sorted (l r : Term) : Treatment → Type 0 where
  by_equality : {how : Treatment} → l ≡ r → how ≡ Drop → Sorted l r how
  by_typs : {how : Treatment} (T U : Typ) → HasType [] l T → HasType [] r U → T ≢ U → how ≡ Differ T U → Sorted l r how
  by_later : {how : Treatment} → AreOfOneTyp l r → Later l r how → Sorted l r how

sorted : (l r : Term) (how : Treatment) → IsTreatment l r how → Sorted l r how
sorted l r how (equal e) = by_equality e refl
sorted l r how (differ {T = T} {U = U} h k n) = by_typs T U h k n refl
sorted l r how (firm {v = v} {other = o} t s e) = by_later t (by_variable v o s (is_firm e refl))
sorted l r how (absent {x = x} {i = i} {T = T} {other = o} {u = u} t s n f) = by_later t (by_variable (Var x i T) o s (is_absent x i T u refl n f refl))
sorted l r how (same_heads g e) = by_later g.past.typed (by_heads g.past.occurring g.neither (are_same e refl))
sorted l r how (constants {c = c} {T = T} {U = U} g e f n) = by_later g.past.typed (by_heads g.past.occurring g.neither (are_constants c T U e f n refl))
sorted l r how (clash g a) = by_later g.past.typed (by_heads g.past.occurring g.neither (are_apart a refl))
sorted l r how (left p e) = by_later p.typed (by_none p.occurring e refl)

variable-once : (v o : Term) (one other : Treatment) → ByVariable v o one → ByVariable v o other → one ≡ other
variable-once v o one other (is_firm e f) (is_firm g h) = f ∙ sym h
variable-once v o one other (is_firm e f) (is_absent x i T u g n k h) = absurd (n (firm-occurs v o e))
variable-once v o one other (is_absent x i T u g n k h) (is_firm e f) = absurd (n (firm-occurs v o e))
variable-once v o one other (is_absent x i T u g n k h) (is_absent y j U w e m l f) =
    let image : u ≡ w = one_eta_normal_form o u w k l in
    let variables : Var x i T ≡ Var y j U = sym g ∙ e in
    let name : x ≡ y = cc in
    let index : i ≡ j = cc in
    let typ : T ≡ U = cc in
    h ∙ ((λ l. Put (bind (name l) (index l) (typ l) (image l))) ∙ sym f)

heads-once : (l r : Term) (one other : Treatment) → ByHeads l r one → ByHeads l r other → one ≡ other
heads-once l r one other (are_same e f) (are_same g h) = f ∙ sym h
heads-once l r one other (are_same e f) (are_constants c T U g k n h) = let same : Const c T ≡ Const c U = sym g ∙ (e ∙ k) in absurd (n (cc))
heads-once l r one other (are_same e f) (are_apart a h) = absurd (a.differ e)
heads-once l r one other (are_constants c T U g k n h) (are_same e f) = let same : Const c T ≡ Const c U = sym g ∙ (e ∙ k) in absurd (n (cc))
heads-once l r one other (are_constants c T U g k n h) (are_constants d V W e f m i) =
    let lefts : Const c T ≡ Const d V = sym g ∙ e in
    let rights : Const c U ≡ Const d W = sym k ∙ f in
    let first : T ≡ V = cc in
    let second : U ≡ W = cc in
    h ∙ ((λ l. Unify (first l) (second l)) ∙ sym i)
heads-once l r one other (are_constants c T U g k n h) (are_apart a e) = absurd (a.no_constants c T U g k)
heads-once l r one other (are_apart a h) (are_same e f) = absurd (a.differ e)
heads-once l r one other (are_apart a e) (are_constants c T U g k n h) = absurd (a.no_constants c T U g k)
heads-once l r one other (are_apart a e) (are_apart b f) = e ∙ sym f

-- A rule on variables applies, and it doesn't.
variable-passed : (v o : Term) (how : Treatment) → ByVariable v o how → (occurs_firmly v o ≡ false) × Occurs v o → ⊥
variable-passed v o how (is_firm e f) p = let other = p.0 in absurd (cc)
variable-passed v o how (is_absent x i T u g n k h) p = n p.1

later-once : (l r : Term) (one other : Treatment) → Later l r one → Later l r other → one ≡ other
later-once l r one other (by_variable v o s b) (by_variable w p t c) =
    let same = bare-once l r v w o p s t in
    let moved : ByVariable v o other = rw (same.0, same.1) c in
    variable-once v o one other b moved
later-once l r one other (by_variable v o s b) (by_heads p f h) = absurd (variable-passed v o one b (p v o s))
later-once l r one other (by_variable v o s b) (by_none p f h) = absurd (variable-passed v o one b (p v o s))
later-once l r one other (by_heads p f h) (by_variable v o s b) = absurd (variable-passed v o other b (p v o s))
later-once l r one other (by_heads p f h) (by_heads q g k) = heads-once l r one other h k
later-once l r one other (by_heads p f h) (by_none q g k) = absurd (cc)
later-once l r one other (by_none p f h) (by_variable v o s b) = absurd (variable-passed v o other b (p v o s))
later-once l r one other (by_none p f h) (by_heads q g k) = absurd (cc)
later-once l r one other (by_none p f h) (by_none q g k) = h ∙ sym k

-- Different types of equal sides, or of sides of one type.
equal-typed : (l r : Term) (T U : Typ) → l ≡ r → HasType [] l T → HasType [] r U → T ≡ U
equal-typed l r T U e h k = typed-once [] l T U h (subst (λ (t : Term). HasType [] t U) (sym e) k)

one-typed : (l r : Term) (T U : Typ) → AreOfOneTyp l r → HasType [] l T → HasType [] r U → T ≡ U
one-typed l r T U o h k = typed-once [] l T o.typ h o.left ∙ typed-once [] r o.typ U o.right k

sorted-once : (l r : Term) (one other : Treatment) → Sorted l r one → Sorted l r other → one ≡ other
sorted-once l r one other (by_equality e f) (by_equality g h) = f ∙ sym h
sorted-once l r one other (by_equality e f) (by_typs T U h k n g) = absurd (n (equal-typed l r T U e h k))
sorted-once l r one other (by_equality e f) (by_later o g) = absurd (o.differ e)
sorted-once l r one other (by_typs T U h k n g) (by_equality e f) = absurd (n (equal-typed l r T U e h k))
sorted-once l r one other (by_typs T U h k n g) (by_typs V W i j m f) =
    let first : T ≡ V = typed-once [] l T V h i in
    let second : U ≡ W = typed-once [] r U W k j in
    g ∙ ((λ l. Differ (first l) (second l)) ∙ sym f)
sorted-once l r one other (by_typs T U h k n g) (by_later o f) = absurd (n (one-typed l r T U o h k))
sorted-once l r one other (by_later o g) (by_equality e f) = absurd (o.differ e)
sorted-once l r one other (by_later o f) (by_typs T U h k n g) = absurd (n (one-typed l r T U o h k))
sorted-once l r one other (by_later o f) (by_later q g) = later-once l r one other f g

pub treatment-once : (l r : Term) (one other : Treatment) → IsTreatment l r one → IsTreatment l r other → one ≡ other
treatment-once l r one other f g = sorted-once l r one other (sorted l r one f) (sorted l r other g)
