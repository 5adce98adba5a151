-- What unification makes of types over declared classes alone: the classes of its fresh variables are declared.
use Rattle.std.proofs.Common.{ℕ, ◌⊎◌, List, [], ◌∷◌, inl, inr, refl, sym, subst}
use Rattle.pure_text.specs.Lists.{IsIn, Each, AnyOf}
use Rattle.pure_text.proofs.ListLaws.{each_of, each_at, any_of, any_some, each_decided}
use Rattle.pure_definitions.specs.Types.Typ.{Typ, TFree, TVar, Con, Typs, none, also}
use Rattle.pure_definitions.specs.Types.Order.{Algebra, IsClassBelow, itself, along, HasClassBelow, IsOfClass, AreOfSorts, IsOfSort}
use Rattle.pure_definitions.proofs.OrderLaws.{sort_below-itself}
use Rattle.pure_definitions.specs.Terms.Subst.{TypBind, typ_instance, typs_instance}
use Rattle.pure_term_laws.proofs.SubstLaws.{typ_instance-identity}
use Rattle.pure_tunify.specs.Closed.{AreClosed}
use Rattle.pure_term_laws.proofs.MapLaws.{typ_instance-again}
use Rattle.pure_tunify.specs.Unifiers.{IsSubstitution}
use Rattle.pure_tunify.specs.Asks.{HasNoInstance}
use Rattle.pure_tunify.specs.Steps.{setting}
use Rattle.pure_tunify.specs.Procedure.{IsNeededSort, Narrows, fits, replace}
use Rattle.pure_tunify.proofs.MapLaws.{identity_is_substitution, after_is_substitution, setting_is_substitution}

module _ (A : Algebra) (D : ℕ → Type 0) (closed : AreClosed A D) where
  -- Each class in the type is declared.
  abbrev mutual
    pub HasDeclared : Typ → Type 0
    HasDeclared (TFree x s) = Each D s
    HasDeclared (TVar x i s) = Each D s
    HasDeclared (Con k ts) = HaveDeclared ts

    pub HaveDeclared : Typs → Type 0
    HaveDeclared none = Unit {0}
    HaveDeclared (also t ts) = HasDeclared t × HaveDeclared ts

  up : {b c : ℕ} → IsClassBelow A b c → D b → D c
  up itself d = d
  up (along {c = c} {b = b} i rest) d = up rest (closed.above c b i)

  down : {b c : ℕ} → IsClassBelow A b c → D c → D b
  down itself d = d
  down (along {c = c} {b = b} i rest) d = closed.below c b i

  abbrev keep : (c : ℕ) → D c ⊎ (D c → ⊥) → List ℕ → List ℕ
  keep c (inl d) cs = c ∷ cs
  keep c (inr n) cs = cs

  -- the declared classes of a sort
  abbrev clean : List ℕ → List ℕ
  clean [] = []
  clean (c ∷ cs) = keep c (closed.decided c) (clean cs)

  abbrev clean_variable : Typ → Typ
  clean_variable (TFree x s) = TFree x (clean s)
  clean_variable (TVar x i s) = TVar x i (clean s)
  clean_variable (Con k ts) = Con k ts

  kept_here : (P : ℕ → Type 0) (b : ℕ) (bs : List ℕ) (o : D b ⊎ (D b → ⊥)) → D b → P b → AnyOf P (keep b o bs)
  kept_here P b bs (inl d) e p = inl p
  kept_here P b bs (inr n) e p = absurd (n e)

  kept_there : (P : ℕ → Type 0) (b : ℕ) (bs : List ℕ) (o : D b ⊎ (D b → ⊥)) → AnyOf P bs → AnyOf P (keep b o bs)
  kept_there P b bs (inl d) any = inr any
  kept_there P b bs (inr n) any = any

  clean-below : (s : List ℕ) (c : ℕ) → D c → HasClassBelow A s c → HasClassBelow A (clean s) c
  clean-below [] c d any = any
  clean-below (b ∷ bs) c d (inl p) = kept_here (λ e. IsClassBelow A e c) b (clean bs) (closed.decided b) (down p d) p
  clean-below (b ∷ bs) c d (inr any) = kept_there (λ e. IsClassBelow A e c) b (clean bs) (closed.decided b) (clean-below bs c d any)

  kept-declared : (b : ℕ) (bs : List ℕ) (o : D b ⊎ (D b → ⊥)) → ((c : ℕ) → IsIn c bs → D c) → (c : ℕ) → IsIn c (keep b o bs) → D c
  kept-declared b bs (inl d) rest c (inl e) = subst D (sym e) d
  kept-declared b bs (inl d) rest c (inr m) = rest c m
  kept-declared b bs (inr n) rest c m = rest c m

  clean-declared : (s : List ℕ) (c : ℕ) → IsIn c (clean s) → D c
  clean-declared [] c m = absurd m
  clean-declared (b ∷ bs) c m = kept-declared b (clean bs) (closed.decided b) (λ c m. clean-declared bs c m) c m

  each_along : (P Q : ℕ → Type 0) → ((c : ℕ) → D c → P c → Q c) → (s : List ℕ) → Each D s → Each P s → Each Q s
  each_along P Q f [] d h = tt
  each_along P Q f (c ∷ cs) d h = (f c d.0 h.0, each_along P Q f cs d.1 h.1)

  mutual
    of_class-clean : (T : Typ) (c : ℕ) → D c → IsOfClass A T c → IsOfClass A (typ_instance clean_variable T) c
    of_class-clean (TFree x s) c d of = clean-below s c d of
    of_class-clean (TVar x i s) c d of = clean-below s c d of
    of_class-clean (Con k ts) c d of = (of.0, of.1, of.2, of.3, of_sorts-clean ts of.0.domains (closed.domains of.0 of.1) of.4)

    of_sorts-clean : (ts : Typs) (ss : List (List ℕ)) → Each (Each D) ss → AreOfSorts A ts ss → AreOfSorts A (typs_instance clean_variable ts) ss
    of_sorts-clean none [] d of = of
    of_sorts-clean none (s ∷ ss) d of = of
    of_sorts-clean (also t ts) [] d of = of
    of_sorts-clean (also t ts) (s ∷ ss) d of = (each_along (IsOfClass A t) (IsOfClass A (typ_instance clean_variable t)) (λ c e o. of_class-clean t c e o) s d.0 of.0, of_sorts-clean ts ss d.1 of.1)

  of_each-clean : (T : Typ) (s : List ℕ) → Each D s → IsOfSort A T s → IsOfSort A (typ_instance clean_variable T) s
  of_each-clean T s d of = each_along (IsOfClass A T) (IsOfClass A (typ_instance clean_variable T)) (λ c e o. of_class-clean T c e o) s d of

  -- A class that a cleaned type is of is declared.
  class_of_clean : (T : Typ) (c : ℕ) → IsOfClass A (typ_instance clean_variable T) c → D c
  class_of_clean (TFree x s) c of = let b = any_some (λ e. IsClassBelow A e c) (clean s) of in up b.2 (clean-declared s b.0 b.1)
  class_of_clean (TVar x i s) c of = let b = any_some (λ e. IsClassBelow A e c) (clean s) of in up b.2 (clean-declared s b.0 b.1)
  class_of_clean (Con k ts) c of = up of.3 (closed.class of.0 of.1)

  module _ (typs : Typ → Typ) (sub : IsSubstitution A typs) where
    abbrev pick : (q : List ℕ) → Each D q ⊎ (¬ Each D q) → (x i : ℕ) → Typ
    pick q (inl all) x i = typ_instance clean_variable (typs (TVar x i q))
    pick q (inr not) x i = TVar x i q

    -- the substitution, with undeclared classes left out of the images of variables without any
    abbrev cleaned : Typ → Typ
    cleaned (TFree x s) = TFree x s
    cleaned (TVar x i q) = pick q (each_decided D closed.decided q) x i
    cleaned (Con k ts) = Con k ts

    pick-respects : (q : List ℕ) (o : Each D q ⊎ (¬ Each D q)) (x i : ℕ) → IsOfSort A (pick q o x i) q
    pick-respects q (inl all) x i = of_each-clean (typs (TVar x i q)) q all (sub.respects.schematic x i q)
    pick-respects q (inr not) x i = sort_below-itself A q

    cleaned_is_substitution : IsSubstitution A cleaned
    cleaned_is_substitution = record {
      respects = record { fixed = λ x s. sort_below-itself A s; schematic = λ x i q. pick-respects q (each_decided D closed.decided q) x i };
      keeps = λ x s. refl;
    }

    pick-of : (q : List ℕ) (o : Each D q ⊎ (¬ Each D q)) (x i c : ℕ) → Each D q → D c → IsOfClass A (typs (TVar x i q)) c → IsOfClass A (pick q o x i) c
    pick-of q (inl all) x i c h d of = of_class-clean (typs (TVar x i q)) c d of
    pick-of q (inr not) x i c h d of = absurd (not h)

    pick-declared : (q : List ℕ) (o : Each D q ⊎ (¬ Each D q)) (x i c : ℕ) → Each D q → IsOfClass A (pick q o x i) c → D c
    pick-declared q (inl all) x i c h of = class_of_clean (typs (TVar x i q)) c of
    pick-declared q (inr not) x i c h of = absurd (not h)

    mutual
      of_class-cleaned : (T : Typ) (c : ℕ) → HasDeclared T → D c → IsOfClass A (typ_instance typs T) c → IsOfClass A (typ_instance cleaned T) c
      of_class-cleaned (TFree x s) c h d of = subst (λ (T : Typ). IsOfClass A T c) (sub.keeps x s) of
      of_class-cleaned (TVar x i q) c h d of = pick-of q (each_decided D closed.decided q) x i c h d of
      of_class-cleaned (Con k ts) c h d of = (of.0, of.1, of.2, of.3, of_sorts-cleaned ts of.0.domains h (closed.domains of.0 of.1) of.4)

      of_sorts-cleaned : (ts : Typs) (ss : List (List ℕ)) → HaveDeclared ts → Each (Each D) ss → AreOfSorts A (typs_instance typs ts) ss → AreOfSorts A (typs_instance cleaned ts) ss
      of_sorts-cleaned none [] h d of = of
      of_sorts-cleaned none (s ∷ ss) h d of = of
      of_sorts-cleaned (also t ts) [] h d of = of
      of_sorts-cleaned (also t ts) (s ∷ ss) h d of = (each_along (IsOfClass A (typ_instance typs t)) (IsOfClass A (typ_instance cleaned t)) (λ c e o. of_class-cleaned t c h.0 e o) s d.0 of.0, of_sorts-cleaned ts ss h.1 d.1 of.1)

    of_each-cleaned : (T : Typ) (s : List ℕ) → HasDeclared T → Each D s → IsOfSort A (typ_instance typs T) s → IsOfSort A (typ_instance cleaned T) s
    of_each-cleaned T s h d of = each_along (IsOfClass A (typ_instance typs T)) (IsOfClass A (typ_instance cleaned T)) (λ c e o. of_class-cleaned T c h e o) s d of

  -- What is needed of a variable of declared classes, for a type of them to be of a sort of them, is declared, where some instance is of the sort.
  needed_class : (t : Typ) (s : List ℕ) (y j : ℕ) (q r : List ℕ) → HasDeclared t → Each D s → Each D q → ¬ HasNoInstance A t s → IsNeededSort A t s (TVar y j q) r → (c : ℕ) → IsIn c r → D c
  needed_class t s y j q r h d e some need c m = decide (closed.decided c)
    where
      decide : D c ⊎ (D c → ⊥) → D c
      decide (inl known) = known
      decide (inr unknown) = absurd (some (λ typs sub of.
          let needs = (need.needed c).0 (any_of (λ b. IsClassBelow A b c) c r m itself) in
          unknown (pick-declared typs sub q (each_decided D closed.decided q) y j c e (needs (cleaned typs sub) (cleaned_is_substitution typs sub) (of_each-cleaned typs sub t s h d of)))))

  -- What is narrowed has an instance of the sort.
  some_instance : (index : ℕ) (s : List ℕ) {n m : ℕ} {t u : Typ} {xs : List TypBind} → Narrows A index s n t xs m u → ¬ HasNoInstance A t s
  some_instance index s (fits {t = t} of) never = never (λ v. v) (identity_is_substitution A) (subst (λ (T : Typ). IsOfSort A T s) (sym (typ_instance-identity t)) of)
  some_instance index s (replace {n = n} {t = t} y j q r first need rest) never = some_instance index s rest (λ typs sub of.
      never (λ v. typ_instance typs (setting y j q (TVar n index r) v)) (after_is_substitution A (setting y j q (TVar n index r)) typs set sub) (subst (λ (T : Typ). IsOfSort A T s) (typ_instance-again (setting y j q (TVar n index r)) typs t) of))
    where
      set : IsSubstitution A (setting y j q (TVar n index r))
      set = setting_is_substitution A y j q (TVar n index r) (each_of (HasClassBelow A r) q (λ c m. (need.needed c).1 (λ typs v of. each_at (IsOfClass A (typs (TVar y j q))) q (v.respects.schematic y j q) c m)))

  -- The sort to which a variable is narrowed is of declared classes.
  pub narrowed_sort : (index : ℕ) (s : List ℕ) (n m : ℕ) (t u : Typ) (more : List TypBind) (y j : ℕ) (q r : List ℕ) → HasDeclared t → Each D s → Each D q
      → IsNeededSort A t s (TVar y j q) r → Narrows A index s n t more m u → Each D r
  narrowed_sort index s n m t u more y j q r h d e need narrows = each_of D r (needed_class t s y j q r h d e (some_instance index s narrows) need)
