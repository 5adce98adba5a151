-- That none of some fixed variables is in a type or a term, by recursion and by what occurs.
use Rattle.std.proofs.Common.{◌≡◌, ◌∙◌, ◌↔◌, ℕ, Bool, true, false, not, List, [], ◌∷◌, IsTrue, refl, ap, inl, inr}
use Rattle.pure_text.specs.Lists.{Each}
use Rattle.pure_definitions.specs.Types.Typ.{Typ, TFree, TVar, Con, Typs, none, also, typs_of}
use Rattle.pure_definitions.specs.Types.Occurs.{OccursInTyp, OccursInTyps}
use Rattle.pure_definitions.specs.Terms.Term.{Term, Const, Free, Var, Bound, Abs, App}
use Rattle.pure_logic.specs.Laws.Maps.{HasNoneOf}
use Rattle.pure_inst.specs.Named.{is_named, LacksTyps, LackTyps, Lacks}
use Rattle.pure_inst.specs.Schematic.{generalisation}

pub each_lacks : (names : List ℕ) (ts : List Typ) → Each (LacksTyps names) ts ↔ LackTyps names (typs_of ts)
each_lacks names [] = (λ h. h, λ h. h)
each_lacks names (t ∷ ts) = let rest = each_lacks names ts in (λ h. (h.0, rest.0 h.1), λ h. (h.0, rest.1 h.1))

not_named : (b : Bool) → (b ≡ true → ⊥) → IsTrue (not b)
not_named true h = absurd (h refl)
not_named false h = refl

named_not : (b : Bool) → b ≡ true → IsTrue (not b) → ⊥
named_not true e h = cc
named_not false e h = cc

mutual
  lacked_typ : (names : List ℕ) (T : Typ) → LacksTyps names T → (x : ℕ) (s : List ℕ) → is_named names x ≡ true → ¬ OccursInTyp (TFree x s) T
  lacked_typ names (TFree y r) h x s named o =
      let same : TFree x s ≡ TFree y r = o in
      let name : y ≡ x = cc in
      named_not (is_named names y) (ap (is_named names) name ∙ named) h
  lacked_typ names (TVar y i r) h x s named o = let same : TFree x s ≡ TVar y i r = o in cc
  lacked_typ names (Con k ts) h x s named o = elim o [ inl e ↦ (let same : TFree x s ≡ Con k ts = e in cc) | inr m ↦ lacked_typs names ts h x s named m ]

  lacked_typs : (names : List ℕ) (ts : Typs) → LackTyps names ts → (x : ℕ) (s : List ℕ) → is_named names x ≡ true → ¬ OccursInTyps (TFree x s) ts
  lacked_typs names none h x s named o = o
  lacked_typs names (also t ts) h x s named o = elim o [ inl m ↦ lacked_typ names t h.0 x s named m | inr m ↦ lacked_typs names ts h.1 x s named m ]

mutual
  lacks_typ : (names : List ℕ) (T : Typ) → ((x : ℕ) (s : List ℕ) → is_named names x ≡ true → ¬ OccursInTyp (TFree x s) T) → LacksTyps names T
  lacks_typ names (TFree y r) h = not_named (is_named names y) (λ e. h y r e refl)
  lacks_typ names (TVar y i r) h = tt
  lacks_typ names (Con k ts) h = lacks_typs names ts (λ x s named o. h x s named (inr o))

  lacks_typs : (names : List ℕ) (ts : Typs) → ((x : ℕ) (s : List ℕ) → is_named names x ≡ true → ¬ OccursInTyps (TFree x s) ts) → LackTyps names ts
  lacks_typs names none h = tt
  lacks_typs names (also t ts) h = (lacks_typ names t (λ x s named o. h x s named (inl o)), lacks_typs names ts (λ x s named o. h x s named (inr o)))

module _ (tfrees frees : List ℕ) (index : ℕ) where
  abbrev IsSpared : Term → Type 0
  IsSpared = HasNoneOf (generalisation tfrees frees index)

  pub lacks-none : (t : Term) → Lacks tfrees frees t → IsSpared t
  lacks-none (Const c T) h = record {
    typs = λ x s named o. lacked_typ tfrees T h x s named o;
    terms = λ x U named o. (let same : Free x U ≡ Const c T = o in cc);
  }
  lacks-none (Free y T) h = record {
    typs = λ x s named o. lacked_typ tfrees T h.1 x s named o;
    terms = λ x U named o. (let same : Free x U ≡ Free y T = o in let name : y ≡ x = cc in named_not (is_named frees y) (ap (is_named frees) name ∙ named) h.0);
  }
  lacks-none (Var y i T) h = record {
    typs = λ x s named o. lacked_typ tfrees T h x s named o;
    terms = λ x U named o. (let same : Free x U ≡ Var y i T = o in cc);
  }
  lacks-none (Bound n) h = record {
    typs = λ x s named o. o;
    terms = λ x U named o. (let same : Free x U ≡ Bound n = o in cc);
  }
  lacks-none (Abs T b) h =
      let body = lacks-none b h.1 in
      record {
        typs = λ x s named o. elim o [ inl m ↦ lacked_typ tfrees T h.0 x s named m | inr m ↦ body.typs x s named m ];
        terms = λ x U named o. elim o [ inl e ↦ (let same : Free x U ≡ Abs T b = e in cc) | inr m ↦ body.terms x U named m ];
      }
  lacks-none (App f a) h =
      let function = lacks-none f h.0 in
      let argument = lacks-none a h.1 in
      record {
        typs = λ x s named o. elim o [ inl m ↦ function.typs x s named m | inr m ↦ argument.typs x s named m ];
        terms = λ x U named o. elim o [ inl e ↦ (let same : Free x U ≡ App f a = e in cc) | inr m ↦ elim m [ inl n ↦ function.terms x U named n | inr n ↦ argument.terms x U named n ] ];
      }

  pub none-lacks : (t : Term) → IsSpared t → Lacks tfrees frees t
  none-lacks (Const c T) h = lacks_typ tfrees T (λ x s named o. h.typs x s named o)
  none-lacks (Free y T) h = (not_named (is_named frees y) (λ e. h.terms y T e refl), lacks_typ tfrees T (λ x s named o. h.typs x s named o))
  none-lacks (Var y i T) h = lacks_typ tfrees T (λ x s named o. h.typs x s named o)
  none-lacks (Bound n) h = tt
  none-lacks (Abs T b) h = (lacks_typ tfrees T (λ x s named o. h.typs x s named (inl o)), none-lacks b (record { typs = λ x s named o. h.typs x s named (inr o); terms = λ x U named o. h.terms x U named (inr o) }))
  none-lacks (App f a) h = (
    none-lacks f (record { typs = λ x s named o. h.typs x s named (inl o); terms = λ x U named o. h.terms x U named (inr (inl o)) }),
    none-lacks a (record { typs = λ x s named o. h.typs x s named (inr o); terms = λ x U named o. h.terms x U named (inr (inr o)) }),
  )
