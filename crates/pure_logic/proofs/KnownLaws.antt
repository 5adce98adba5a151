-- Whether the classes and type constructors of a sort or type are declared, decided; and maps that are read at such sorts and types alone.
use Rattle.std.proofs.Common.{◌≡◌, ℕ, List, [], ◌∷◌, Bool, true, false, nat_eq, inl, inr, ◌⊎◌, ap, refl}
use Rattle.std.proofs.lemmas.Bool.{eq-eqb, eqb-true}
use Rattle.pure_text.specs.Lists.{IsIn, Each}
use Rattle.pure_definitions.specs.Types.Typ.{Typ, TFree, TVar, Con, Typs, none, also, typs_count}
use Rattle.pure_definitions.specs.Terms.Term.{Term, Const, Free, Var, Bound, Abs, App}
use Rattle.pure_definitions.specs.Terms.Subst.{typ_instance, typs_instance, term_instance}
use Rattle.pure_definitions.specs.Declarations.Decl.{Decl, ClassDecl, ConDecl, IsDeclaredClass}
use Rattle.pure_definitions.specs.Declarations.Certified.{IsCertifiedTyp, AreCertifiedTyps, HasCertifiedParts}

abbrev pub Decided : Type 0 → Type 0
Decided P = P ⊎ (¬ P)

-- the first where P holds, else the second
abbrev pub chosen : {P A : Type 0} → Decided P → A → A → A
chosen (inl p) x y = x
chosen (inr n) x y = y

pub chosen-first : {P A : Type 0} (d : Decided P) (x y : A) → P → chosen d x y ≡ x
chosen-first (inl p) x y h = refl
chosen-first (inr n) x y h = absurd (n h)

pub chosen-has : {P A : Type 0} (Q : A → Type 0) (d : Decided P) (x y : A) → (P → Q x) → Q y → Q (chosen d x y)
chosen-has Q (inl p) x y first second = first p
chosen-has Q (inr n) x y first second = second

decided_both : {P Q : Type 0} → Decided P → Decided Q → Decided (P × Q)
decided_both (inl p) (inl q) = inl (p, q)
decided_both (inl p) (inr n) = inr (λ h. n h.1)
decided_both (inr n) d = inr (λ h. n h.0)

decided_each : {A : Type 0} (P : A → Type 0) → ((x : A) → Decided (P x)) → (xs : List A) → Decided (Each P xs)
decided_each P d [] = inl tt
decided_each P d (x ∷ xs) = decided_both (d x) (decided_each P d xs)

decided_equal : (m n : ℕ) → Decided (m ≡ n)
decided_equal m n = by (nat_eq m n) refl
  where
    by : (b : Bool) → nat_eq m n ≡ b → Decided (m ≡ n)
    by true e = inl (eqb-true m n e)
    by false e = inr (λ h. let t = eq-eqb m n h in absurd (cc))

-- membership in a longer list
decided_in : {A : Type 0} (x y : A) (ys : List A) → Decided (x ≡ y) → Decided (IsIn x ys) → Decided (IsIn x (y ∷ ys))
decided_in x y ys (inl e) d = inl (inl e)
decided_in x y ys (inr other) (inl m) = inl (inr m)
decided_in x y ys (inr other) (inr absent) = inr (λ h. elim h [ inl e ↦ other e | inr m ↦ absent m ])

decided_con : (ds : List Decl) (k n : ℕ) → Decided (IsIn (ConDecl k n) ds)
decided_con [] k n = inr (λ h. h)
decided_con (ConDecl l m ∷ ds) k n = decided_in (ConDecl k n) (ConDecl l m) ds (by (decided_both (decided_equal k l) (decided_equal n m))) (decided_con ds k n)
  where
    by : Decided ((k ≡ l) × (n ≡ m)) → Decided (ConDecl k n ≡ ConDecl l m)
    by (inl e) = inl (λ i. ConDecl (e.0 i) (e.1 i))
    by (inr other) = inr (λ e. other ((cc), (cc)))
decided_con (d ∷ ds) k n = decided_in (ConDecl k n) d ds (inr (λ e. cc)) (decided_con ds k n)

decided_class : (ds : List Decl) (c : ℕ) → Decided (IsDeclaredClass ds c)
decided_class [] c = inr (λ h. h.1)
decided_class (ClassDecl k ∷ ds) c = by (decided_equal k.name c) (decided_class ds c)
  where
    by : Decided (k.name ≡ c) → Decided (IsDeclaredClass ds c) → Decided (IsDeclaredClass (ClassDecl k ∷ ds) c)
    by (inl e) d = inl (k, inl refl, e)
    by (inr other) (inl h) = inl (h.0, inr h.1, h.2)
    by (inr other) (inr absent) = inr (λ h. elim h.1 [ inl e ↦ (let same : h.0 ≡ k = cc in other (rw (← same) h.2)) | inr m ↦ absent (h.0, m, h.2) ])
decided_class (d ∷ ds) c = by (decided_class ds c)
  where
    by : Decided (IsDeclaredClass ds c) → Decided (IsDeclaredClass (d ∷ ds) c)
    by (inl h) = inl (h.0, inr h.1, h.2)
    by (inr absent) = inr (λ h. elim h.1 [ inl e ↦ absurd (cc) | inr m ↦ absent (h.0, m, h.2) ])

-- Each class in the type is declared, and each constructor with the count of its arguments; the names of sorts may stand in any order.
abbrev mutual
  pub IsKnownTyp : List Decl → Typ → Type 0
  IsKnownTyp ds (TFree x s) = Each (IsDeclaredClass ds) s
  IsKnownTyp ds (TVar x i s) = Each (IsDeclaredClass ds) s
  IsKnownTyp ds (Con k ts) = IsIn (ConDecl k (typs_count ts)) ds × AreKnownTyps ds ts

  pub AreKnownTyps : List Decl → Typs → Type 0
  AreKnownTyps ds none = Unit {0}
  AreKnownTyps ds (also t ts) = IsKnownTyp ds t × AreKnownTyps ds ts

pub decided_sort : (ds : List Decl) (s : List ℕ) → Decided (Each (IsDeclaredClass ds) s)
decided_sort ds s = decided_each (IsDeclaredClass ds) (decided_class ds) s

mutual
  pub decided_typ : (ds : List Decl) (T : Typ) → Decided (IsKnownTyp ds T)
  decided_typ ds (TFree x s) = decided_sort ds s
  decided_typ ds (TVar x i s) = decided_sort ds s
  decided_typ ds (Con k ts) = decided_both (decided_con ds k (typs_count ts)) (decided_typs ds ts)

  decided_typs : (ds : List Decl) (ts : Typs) → Decided (AreKnownTyps ds ts)
  decided_typs ds none = inl tt
  decided_typs ds (also t ts) = decided_both (decided_typ ds t) (decided_typs ds ts)

mutual
  pub certified-known : (ds : List Decl) (T : Typ) → IsCertifiedTyp ds T → IsKnownTyp ds T
  certified-known ds (TFree x s) h = h.1
  certified-known ds (TVar x i s) h = h.1
  certified-known ds (Con k ts) h = (h.0, all_certified-known ds ts h.1)

  all_certified-known : (ds : List Decl) (ts : Typs) → AreCertifiedTyps ds ts → AreKnownTyps ds ts
  all_certified-known ds none h = tt
  all_certified-known ds (also t ts) h = (certified-known ds t h.0, all_certified-known ds ts h.1)

-- What is certified over other declarations and known to these is certified over these.
mutual
  pub known-certified : (ds es : List Decl) (T : Typ) → IsKnownTyp ds T → IsCertifiedTyp es T → IsCertifiedTyp ds T
  known-certified ds es (TFree x s) k h = (h.0, k)
  known-certified ds es (TVar x i s) k h = (h.0, k)
  known-certified ds es (Con c ts) k h = (k.0, all_known-certified ds es ts k.1 h.1)

  all_known-certified : (ds es : List Decl) (ts : Typs) → AreKnownTyps ds ts → AreCertifiedTyps es ts → AreCertifiedTyps ds ts
  all_known-certified ds es none k h = tt
  all_known-certified ds es (also t ts) k h = (known-certified ds es t k.0 h.0, all_known-certified ds es ts k.1 h.1)

-- the map that is read at known sorts alone, and leaves other variables as they are
abbrev pub restricted_typs : List Decl → (Typ → Typ) → Typ → Typ
restricted_typs ds typs (TFree x s) = chosen (decided_sort ds s) (typs (TFree x s)) (TFree x s)
restricted_typs ds typs (TVar x i s) = chosen (decided_sort ds s) (typs (TVar x i s)) (TVar x i s)
restricted_typs ds typs (Con k ts) = Con k ts

-- the map that is read at variables of known types alone, and leaves others as they are, but for their types
abbrev pub restricted_terms : List Decl → (Typ → Typ) → (Term → Term) → Term → Term
restricted_terms ds typs terms (Free x T) = chosen (decided_typ ds T) (terms (Free x T)) (Free x (typ_instance (restricted_typs ds typs) T))
restricted_terms ds typs terms (Var x i T) = chosen (decided_typ ds T) (terms (Var x i T)) (Var x i (typ_instance (restricted_typs ds typs) T))
restricted_terms ds typs terms t = t

mutual
  pub typ_instance-restricted : (ds : List Decl) (typs : Typ → Typ) (T : Typ) → IsKnownTyp ds T → typ_instance (restricted_typs ds typs) T ≡ typ_instance typs T
  typ_instance-restricted ds typs (TFree x s) k = chosen-first (decided_sort ds s) (typs (TFree x s)) (TFree x s) k
  typ_instance-restricted ds typs (TVar x i s) k = chosen-first (decided_sort ds s) (typs (TVar x i s)) (TVar x i s) k
  typ_instance-restricted ds typs (Con c ts) k = ap (Con c) (typs_instance-restricted ds typs ts k.1)

  typs_instance-restricted : (ds : List Decl) (typs : Typ → Typ) (ts : Typs) → AreKnownTyps ds ts → typs_instance (restricted_typs ds typs) ts ≡ typs_instance typs ts
  typs_instance-restricted ds typs none k = refl
  typs_instance-restricted ds typs (also t ts) k = λ l. also (typ_instance-restricted ds typs t k.0 l) (typs_instance-restricted ds typs ts k.1 l)

pub term_instance-restricted : (ds : List Decl) (typs : Typ → Typ) (terms : Term → Term) (t : Term) → HasCertifiedParts ds t
    → term_instance (restricted_typs ds typs) (restricted_terms ds typs terms) t ≡ term_instance typs terms t
term_instance-restricted ds typs terms (Const c T) h = ap (Const c) (typ_instance-restricted ds typs T (certified-known ds T h.0))
term_instance-restricted ds typs terms (Free x T) h = chosen-first (decided_typ ds T) (terms (Free x T)) (Free x (typ_instance (restricted_typs ds typs) T)) (certified-known ds T h)
term_instance-restricted ds typs terms (Var x i T) h = chosen-first (decided_typ ds T) (terms (Var x i T)) (Var x i (typ_instance (restricted_typs ds typs) T)) (certified-known ds T h)
term_instance-restricted ds typs terms (Bound n) h = refl
term_instance-restricted ds typs terms (Abs T b) h = λ l. Abs (typ_instance-restricted ds typs T (certified-known ds T h.0) l) (term_instance-restricted ds typs terms b h.1 l)
term_instance-restricted ds typs terms (App f a) h = λ l. App (term_instance-restricted ds typs terms f h.0 l) (term_instance-restricted ds typs terms a h.1 l)
