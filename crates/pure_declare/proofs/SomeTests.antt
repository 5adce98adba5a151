-- What commands test is decided: whether a name is taken, whether an arity fits, and what a definition's body has.
use Rattle.std.proofs.Common.{◌≡◌, ◌≢◌, ◌⊎◌, ◌≤◌, ℕ, List, [], ◌∷◌, length, map, refl, sym, subst, inl, inr, arith}
use Rattle.std.specs.Prelude.{Ok, Err}
use Rattle.std.proofs.lemmas.Bool.Decides.{eqb_tells, leb_tells}
use Rattle.pure_text.specs.Lists.{IsIn, EachTwo, AnyOf}
use Rattle.pure_text.proofs.ListLaws.{any_some, any_of, any_decided, each_decided, each_of, each_at, in-append_left, in-map}
use Rattle.pure_definitions.specs.Types.Typ.{Typ, TFree, TVar, Con, Typs, none, also}
use Rattle.pure_definitions.specs.Types.Occurs.{OccursInTyp}
use Rattle.pure_definitions.specs.Types.Order.{Class, Arity, Algebra, IsClassBelow, IsSortBelow, AreDomainsBelow, IsJoin, AreCompatible, IsCoregular}
use Rattle.pure_definitions.specs.Terms.Term.{Term, Const, Free, Var, Bound, Abs, App}
use Rattle.pure_definitions.specs.Declarations.Decl.{Decl, ClassDecl, ConDecl, ConstDecl, AxiomDecl, PromiseDecl}
use Rattle.pure_order.specs.OrderTables.Classes.{Follows}
use Rattle.pure_order.specs.OrderTables.Arities.{with_arity}
use Rattle.pure_order.specs.OrderTables.Unknown.{HasArityFor}
use Rattle.pure_order.proofs.OrderTables.BelowLaws.{reaches}
use Rattle.pure_order.proofs.OrderTables.CoregularLaws.{coregular_with}
use Rattle.pure_tunify.proofs.DecidedLaws.{is_decided, sort_below_or_not, occurs_or_not}
use Rattle.pure_lookup.specs.Meaning.{Space, classes, constructors, constants, facts, IsDeclaredIn}
use Rattle.pure_theory.specs.Definitions.{HasVariable, HasExtra, HaveExtra, HasExtraTyp}
use Rattle.pure_statements.specs.declared.reason.Reason.TheVariants.{NotCoregular}
use Rattle.pure_declare.specs.Commands.{IsMiscounted, IsFitting}
use Rattle.pure_declare.proofs.SomeSteps.{Answered}

-- Of both, either and an implication.
pub both_or_not : (P R : Type 0) → P ⊎ (P → ⊥) → R ⊎ (R → ⊥) → (P × R) ⊎ (P × R → ⊥)
both_or_not P R (inl p) (inl r) = inl (p, r)
both_or_not P R (inl p) (inr nope) = inr (λ h. nope h.1)
both_or_not P R (inr nope) r = inr (λ h. nope h.0)

pub either_or_not : (P R : Type 0) → P ⊎ (P → ⊥) → R ⊎ (R → ⊥) → (P ⊎ R) ⊎ (P ⊎ R → ⊥)
either_or_not P R (inl p) r = inl (inl p)
either_or_not P R (inr nope) (inl r) = inl (inr r)
either_or_not P R (inr nope) (inr lacking) = inr (λ h. elim h [ inl p ↦ nope p | inr r ↦ lacking r ])

follows_or_not : (P R : Type 0) → P ⊎ (P → ⊥) → R ⊎ (R → ⊥) → (P → R) ⊎ ((P → R) → ⊥)
follows_or_not P R (inl p) (inl r) = inl (λ q. r)
follows_or_not P R (inl p) (inr nope) = inr (λ h. nope (h p))
follows_or_not P R (inr nope) r = inl (λ p. absurd (nope p))

same_or_not : (m n : ℕ) → (m ≡ n) ⊎ (m ≡ n → ⊥)
same_or_not m n = elim (eqb_tells m n) [ inl w ↦ inl w.1 | inr w ↦ inr w.1 ]

other_or_not : (m n : ℕ) → (m ≢ n) ⊎ (m ≢ n → ⊥)
other_or_not m n = elim (eqb_tells m n) [ inl w ↦ inr (λ h. h w.1) | inr w ↦ inl w.1 ]

-- The declaration gives the name a meaning in the name space.
abbrev Names : Space → ℕ → Decl → Type 0
Names classes n (ClassDecl k) = k.name ≡ n
Names constructors n (ConDecl k m) = k ≡ n
Names constants n (ConstDecl c T) = c ≡ n
Names facts n (AxiomDecl x A) = x ≡ n
Names facts n (PromiseDecl x l A) = x ≡ n
Names _ n _ = ⊥

names_or_not : (space : Space) (n : ℕ) (d : Decl) → Names space n d ⊎ (Names space n d → ⊥)
names_or_not classes n (ClassDecl k) = same_or_not k.name n
names_or_not constructors n (ConDecl k m) = same_or_not k n
names_or_not constants n (ConstDecl c T) = same_or_not c n
names_or_not facts n (AxiomDecl x A) = same_or_not x n
names_or_not facts n (PromiseDecl x l A) = same_or_not x n
names_or_not _ n _ = inr (λ h. h)

module _ (ds : List Decl) (n : ℕ) where
  named-declared : (space : Space) (d : Decl) → IsIn d ds → Names space n d → IsDeclaredIn space ds n
  named-declared classes (ClassDecl k) m e = (k, m, e)
  named-declared constructors (ConDecl k count) m e = (count, subst (λ j. IsIn (ConDecl j count) ds) e m)
  named-declared constants (ConstDecl c T) m e = (T, subst (λ j. IsIn (ConstDecl j T) ds) e m)
  named-declared facts (AxiomDecl x A) m e = inl (A, subst (λ j. IsIn (AxiomDecl j A) ds) e m)
  named-declared facts (PromiseDecl x l A) m e = inr (l, A, subst (λ j. IsIn (PromiseDecl j l A) ds) e m)
  named-declared _ _ m e = absurd e

  declared-named : (space : Space) → IsDeclaredIn space ds n → AnyOf (Names space n) ds
  declared-named classes (k, m, e) = any_of (Names classes n) (ClassDecl k) ds m e
  declared-named constructors (count, m) = any_of (Names constructors n) (ConDecl n count) ds m refl
  declared-named constants (T, m) = any_of (Names constants n) (ConstDecl n T) ds m refl
  declared-named facts (inl a) = any_of (Names facts n) (AxiomDecl n a.0) ds a.1 refl
  declared-named facts (inr p) = any_of (Names facts n) (PromiseDecl n p.0 p.1) ds p.2 refl

  -- The name is declared in the name space or isn't.
  pub declared_or_not : (space : Space) → IsDeclaredIn space ds n ⊎ (IsDeclaredIn space ds n → ⊥)
  declared_or_not space = elim (any_decided (Names space n) (names_or_not space n) ds) [
    | inl any ↦ (let d = any_some (Names space n) ds any in inl (named-declared space d.0 d.1 d.2))
    | inr nope ↦ inr (λ h. nope (declared-named space h))
  ]

-- The constructor is declared with another count or isn't.
abbrev HasOtherCount : ℕ → ℕ → Decl → Type 0
HasOtherCount k m (ConDecl l n) = (l ≡ k) × (n ≢ m)
HasOtherCount k m _ = ⊥

other_count_or_not : (k m : ℕ) (d : Decl) → HasOtherCount k m d ⊎ (HasOtherCount k m d → ⊥)
other_count_or_not k m (ConDecl l n) = both_or_not (l ≡ k) (n ≢ m) (same_or_not l k) (other_or_not n m)
other_count_or_not k m _ = inr (λ h. h)

miscounted-at : (ds : List Decl) (a : Arity) (d : Decl) → IsIn d ds → HasOtherCount a.con (length a.domains) d → IsMiscounted ds a
miscounted-at ds a (ConDecl l n) m h = (n, subst (λ j. IsIn (ConDecl j n) ds) h.0 m, h.1)
miscounted-at ds a _ m h = absurd h

pub miscounted_or_not : (ds : List Decl) (a : Arity) → IsMiscounted ds a ⊎ (IsMiscounted ds a → ⊥)
miscounted_or_not ds a = elim (any_decided (HasOtherCount a.con (length a.domains)) (other_count_or_not a.con (length a.domains)) ds) [
  | inl any ↦ (let d = any_some (HasOtherCount a.con (length a.domains)) ds any in inl (miscounted-at ds a d.0 d.1 d.2))
  | inr nope ↦ inr (λ h. nope (any_of (HasOtherCount a.con (length a.domains)) (ConDecl a.con h.0) ds h.1 (refl, h.2)))
]

pub arity_or_none : (A : Algebra) (k c : ℕ) → HasArityFor A k c ⊎ (HasArityFor A k c → ⊥)
arity_or_none A k c = any_decided (λ b. (b.con ≡ k) × (b.class ≡ c)) (λ b. both_or_not (b.con ≡ k) (b.class ≡ c) (same_or_not b.con k) (same_or_not b.class c)) A.arities

-- Lists are related or not.
two_or_not : {A B : Type 0} (R : A → B → Type 0) → ((a : A) (b : B) → R a b ⊎ (R a b → ⊥)) → (xs : List A) (ys : List B) → EachTwo R xs ys ⊎ (EachTwo R xs ys → ⊥)
two_or_not R dec [] [] = inl tt
two_or_not R dec [] (y ∷ ys) = inr (λ h. h)
two_or_not R dec (x ∷ xs) [] = inr (λ h. h)
two_or_not R dec (x ∷ xs) (y ∷ ys) = both_or_not (R x y) (EachTwo R xs ys) (dec x y) (two_or_not R dec xs ys)

module _ (A : Algebra) (ordered : Follows [] A.classes) where
  domains_or_not : (a b : Arity) → AreDomainsBelow A a b ⊎ (AreDomainsBelow A a b → ⊥)
  domains_or_not a b = two_or_not (IsSortBelow A) (sort_below_or_not A) a.domains b.domains

  -- The arity is a join for the class, wherever it stands.
  abbrev Joins : Arity → Arity → ℕ → Arity → Type 0
  Joins a b d q = ((q.con ≡ a.con) × IsClassBelow A q.class d) × (AreDomainsBelow A a q × AreDomainsBelow A b q)

  joins_or_not : (a b : Arity) (d : ℕ) (q : Arity) → Joins a b d q ⊎ (Joins a b d q → ⊥)
  joins_or_not a b d q =
      both_or_not ((q.con ≡ a.con) × IsClassBelow A q.class d) (AreDomainsBelow A a q × AreDomainsBelow A b q)
      (both_or_not (q.con ≡ a.con) (IsClassBelow A q.class d) (same_or_not q.con a.con) (is_decided A q.class d))
      (both_or_not (AreDomainsBelow A a q) (AreDomainsBelow A b q) (domains_or_not a q) (domains_or_not b q))

  -- Where the class is above those of both, some arity is a join.
  abbrev IsJoined : Arity → Arity → ℕ → Type 0
  IsJoined a b d = IsClassBelow A a.class d × IsClassBelow A b.class d → AnyOf (Joins a b d) A.arities

  joined_or_not : (a b : Arity) (d : ℕ) → IsJoined a b d ⊎ (IsJoined a b d → ⊥)
  joined_or_not a b d =
      follows_or_not (IsClassBelow A a.class d × IsClassBelow A b.class d) (AnyOf (Joins a b d) A.arities)
      (both_or_not (IsClassBelow A a.class d) (IsClassBelow A b.class d) (is_decided A a.class d) (is_decided A b.class d)) (any_decided (Joins a b d) (joins_or_not a b d) A.arities)

  abbrev above : Arity → List ℕ
  above a = a.class ∷ map (λ (k : Class). k.name) A.classes

  among-above : (a : Arity) (d : ℕ) → IsClassBelow A a.class d → IsIn d (above a)
  among-above a d h = elim (reaches A ordered h) [
    | inl same ↦ inl (sym same)
    | inr m ↦ (let k = any_some (λ (k : Class). k.name ≡ d) A.classes m in inr (subst (λ n. IsIn n (map (λ (k : Class). k.name) A.classes)) k.2 (in-map (λ (k : Class). k.name) k.0 A.classes k.1)))
  ]

  join-of : (a b : Arity) (d : ℕ) → AnyOf (Joins a b d) A.arities → (q : Arity) × IsJoin A a b d q
  join-of a b d any = let q = any_some (Joins a b d) A.arities any in (q.0, record { declared = q.1; con = q.2.0.0; class = q.2.0.1; first = q.2.1.0; second = q.2.1.1 })

  joined-by : (a b : Arity) (d : ℕ) → (q : Arity) × IsJoin A a b d q → AnyOf (Joins a b d) A.arities
  joined-by a b d (q, j) = any_of (Joins a b d) q A.arities j.declared ((j.con, j.class), (j.first, j.second))

  -- Two arities are compatible or not.
  compatible_or_not : (a b : Arity) → AreCompatible A a b ⊎ (AreCompatible A a b → ⊥)
  compatible_or_not a b = elim (follows_or_not (IsClassBelow A a.class b.class) (AreDomainsBelow A a b) (is_decided A a.class b.class) (domains_or_not a b)) [
    | inr nope ↦ inr (λ h. nope h.forth)
    | inl forth ↦ elim (follows_or_not (IsClassBelow A b.class a.class) (AreDomainsBelow A b a) (is_decided A b.class a.class) (domains_or_not b a)) [
      | inr nope ↦ inr (λ h. nope h.back)
      | inl back ↦ elim (each_decided (IsJoined a b) (joined_or_not a b) (above a)) [
        | inr nope ↦ inr (λ h. nope (each_of (IsJoined a b) (above a) (λ d m k. joined-by a b d (h.joined d k.0 k.1))))
        | inl each ↦ inl (record { forth = forth; back = back; joined = λ d h k. join-of a b d (each_at (IsJoined a b) (above a) each d (among-above a d h) (h, k)) })
      ]
    ]
  ]

-- Of these arities one has a least class, or there is none.
abbrev HasLeast : (Arity → Type 0) → List Arity → Type 0
HasLeast P bs = (b : Arity) × IsIn b bs × P b × ((c : Arity) → IsIn c bs → P c → b.class ≤ c.class)

least_or_none : (P : Arity → Type 0) → ((b : Arity) → P b ⊎ (P b → ⊥)) → (bs : List Arity) → HasLeast P bs ⊎ ((b : Arity) → IsIn b bs → P b → ⊥)
least_or_none P dec [] = inr (λ b m h. m)
least_or_none P dec (x ∷ xs) = by (dec x) (least_or_none P dec xs)
  where
    one : (c : Arity) → IsIn c (x ∷ xs) → (c ≡ x) ⊎ IsIn c xs
    one c m = m

    by : P x ⊎ (P x → ⊥) → HasLeast P xs ⊎ ((b : Arity) → IsIn b xs → P b → ⊥) → HasLeast P (x ∷ xs) ⊎ ((b : Arity) → IsIn b (x ∷ xs) → P b → ⊥)
    by (inr nope) (inl (b, m, h, least)) = inl (b, inr m, h, λ c n k. elim (one c n) [ inl e ↦ absurd (nope (subst P e k)) | inr later ↦ least c later k ])
    by (inr nope) (inr lacking) = inr (λ b m h. elim (one b m) [ inl e ↦ nope (subst P e h) | inr later ↦ lacking b later h ])
    by (inl h) (inr lacking) = inl (x, inl refl, h, λ c n k. elim (one c n) [ inl e ↦ subst (λ (y : Arity). x.class ≤ y.class) (sym e) (omega arith) | inr later ↦ absurd (lacking c later k) ])
    by (inl h) (inl (b, m, k, least)) = elim (leb_tells x.class b.class) [
      | inl w ↦ (let low = w.1 in inl (x, inl refl, h, λ c n j. elim (one c n) [ inl e ↦ subst (λ (y : Arity). x.class ≤ y.class) (sym e) (omega arith) | inr later ↦ (let far = least c later j in omega arith) ]))
      | inr w ↦ (let low = w.1 in inl (b, inr m, k, λ c n j. elim (one c n) [ inl e ↦ subst (λ (y : Arity). b.class ≤ y.class) (sym e) (omega arith) | inr later ↦ least c later j ]))
    ]

-- An arity fits, or is in conflict with one of a least class.
module _ (A : Algebra) (ordered : Follows [] A.classes) (coregular : IsCoregular A) (a : Arity) where
  abbrev Conflicts : Arity → Type 0
  Conflicts b = (b.con ≡ a.con) × (AreCompatible (with_arity A a) a b → ⊥)

  against : (b : Arity) → (AreCompatible (with_arity A a) a b → ⊥) ⊎ ((AreCompatible (with_arity A a) a b → ⊥) → ⊥)
  against b = elim (compatible_or_not (with_arity A a) ordered a b) [ inl h ↦ inr (λ nope. nope h) | inr nope ↦ inl nope ]

  conflicts_or_not : (b : Arity) → Conflicts b ⊎ (Conflicts b → ⊥)
  conflicts_or_not b = both_or_not (b.con ≡ a.con) (AreCompatible (with_arity A a) a b → ⊥) (same_or_not b.con a.con) (against b)

  fitting-by : HasLeast Conflicts (with_arity A a).arities ⊎ ((b : Arity) → IsIn b (with_arity A a).arities → Conflicts b → ⊥) → Answered (IsFitting A a)
  fitting-by (inl (b, m, h, least)) = (
    Err (NotCoregular a.con a.class b.class),
    (b.class, record { is = (b, record { declared = m; con = h.0; conflict = h.1 }, refl); least = λ c k. least c k.declared (k.con, k.conflict) }, refl),
  )
  fitting-by (inr lacking) = (Ok tt, coregular_with A coregular a (λ b m e. elim (compatible_or_not (with_arity A a) ordered a b) [ inl h ↦ h | inr nope ↦ absurd (lacking b (in-append_left b A.arities (a ∷ []) m) (e, nope)) ]))

  pub fitting-some : Answered (IsFitting A a)
  fitting-some = fitting-by (least_or_none Conflicts conflicts_or_not (with_arity A a).arities)

-- A term has a variable or none.
pub variable_or_none : (t : Term) → HasVariable t ⊎ (HasVariable t → ⊥)
variable_or_none (Const c T) = inr (λ h. h)
variable_or_none (Free x T) = inl tt
variable_or_none (Var x i T) = inl tt
variable_or_none (Bound n) = inr (λ h. h)
variable_or_none (Abs T b) = variable_or_none b
variable_or_none (App f a) = either_or_not (HasVariable f) (HasVariable a) (variable_or_none f) (variable_or_none a)

lacks_or_not : (v T : Typ) → (OccursInTyp v T → ⊥) ⊎ ((OccursInTyp v T → ⊥) → ⊥)
lacks_or_not v T = elim (occurs_or_not v T) [ inl o ↦ inr (λ nope. nope o) | inr nope ↦ inl nope ]

mutual
  extra_or_none : (T U : Typ) → HasExtra T U ⊎ (HasExtra T U → ⊥)
  extra_or_none T (TFree x s) = lacks_or_not (TFree x s) T
  extra_or_none T (TVar x i s) = lacks_or_not (TVar x i s) T
  extra_or_none T (Con k ts) = extras_or_none T ts

  extras_or_none : (T : Typ) (ts : Typs) → HaveExtra T ts ⊎ (HaveExtra T ts → ⊥)
  extras_or_none T none = inr (λ h. h)
  extras_or_none T (also t ts) = either_or_not (HasExtra T t) (HaveExtra T ts) (extra_or_none T t) (extras_or_none T ts)

-- A term has a type variable that the type lacks, or none.
pub extra_typ_or_none : (T : Typ) (t : Term) → HasExtraTyp T t ⊎ (HasExtraTyp T t → ⊥)
extra_typ_or_none T (Const c U) = extra_or_none T U
extra_typ_or_none T (Free x U) = extra_or_none T U
extra_typ_or_none T (Var x i U) = extra_or_none T U
extra_typ_or_none T (Bound n) = inr (λ h. h)
extra_typ_or_none T (Abs U b) = either_or_not (HasExtra T U) (HasExtraTyp T b) (extra_or_none T U) (extra_typ_or_none T b)
extra_typ_or_none T (App f a) = either_or_not (HasExtraTyp T f) (HasExtraTyp T a) (extra_typ_or_none T f) (extra_typ_or_none T a)
