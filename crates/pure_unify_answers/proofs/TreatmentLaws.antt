-- Each pair of typed terms has a treatment, and each typed side comes to its long form or to a stop.
use Rattle.std.proofs.Common.{◌≡◌, ◌⊎◌, ℕ, List, [], ◌∷◌, Bool, true, false, ◌||◌, nat_eq, inl, inr, refl, ap, sym, subst, ◌∙◌, arith, eqb-true}
use Rattle.std.proofs.lemmas.Bool.{cases_lt}
use Rattle.pure_text.specs.Lists.{Each}
use Rattle.pure_definitions.specs.Types.Typ.{Typ}
use Rattle.pure_definitions.specs.Terms.Term.{Term, Const, Free, Var, Bound, Abs, App, term_eq, term_size, term_depth, max_size, max_depth, IsWithin}
use Rattle.pure_definitions.specs.Terms.Bounds.{Occurs}
use Rattle.pure_definitions.specs.Terms.Typing.{HasType}
use Rattle.pure_definitions.specs.Reduction.Beta.{IsBetaNormal, BetaAnswer, IsBetaAnswer, TooLarge, NormalForm, TooManySteps}
use Rattle.pure_definitions.specs.Reduction.Eta.{IsLongForm}
use Rattle.pure_definitions.specs.Models.Equality.{term_eq-same, term_eq-itself}
use Rattle.pure_definitions.specs.Declarations.Decl.{Decl}
use Rattle.pure_term_laws.proofs.BetaLaws.{some_beta_answer}
use Rattle.pure_term_laws.proofs.EtaNormalLaws.{one_eta_normal_form}
use Rattle.pure_eta.specs.EtaForm.{eta_form}
use Rattle.pure_eta.specs.LongTerm.{long_term}
use Rattle.pure_eta.proofs.EtaFormLaws.{eta_form-is}
use Rattle.pure_eta.proofs.LongLaws.{long_form-is}
use Rattle.pure_logic.specs.Derivable.{Pair}
use Rattle.pure_tunify.proofs.DecidedLaws.{same_or_not}
use Rattle.pure_equation_laws.specs.Equated.{IsTypedUnder}
use Rattle.pure_equation_laws.proofs.SidesLaws.{equated_are_typed}
use Rattle.pure_equation_laws.proofs.ReductionLaws.{beta_normal_form_is_equated}
use Rattle.pure_unify_definitions.specs.Fronts.{head, is_schematic, is_flexible}
use Rattle.pure_unify_definitions.specs.Firm.{occurs_firmly}
use Rattle.pure_unify_definitions.specs.Node.{bind}
use Rattle.pure_unify_definitions.specs.LongSides.{Side, Long, Ends, Steps, Big, ComesTo, is_long, has_steps, is_large, is_wide, Sides, AllLong, Stopped, AreLong, no_more, left_stops, right_stops, later_stops, both_long}
use Rattle.pure_unify_definitions.specs.Treatment.{Treatment, Drop, Differ, Fail, Put, Split, Unify, Leave, IsBare, IsBareSide, left_bare, right_bare, AreOfOneTyp, ArePastVariables, AreRigid, AreApart, IsTreatment, equal, differ, firm, absent, same_heads, constants, clash, left}
use Rattle.pure_unify_laws.specs.Reached.{AreSidesCertified}
use Rattle.pure_unify_laws.proofs.OneTreatment.{bare-once}

false_true : false ≡ true → ⊥
false_true e = cc

pub terms_same_or_not : (t u : Term) → (t ≡ u) ⊎ ¬ (t ≡ u)
terms_same_or_not t u = by (term_eq t u) refl
  where
    by : (b : Bool) → term_eq t u ≡ b → (t ≡ u) ⊎ ¬ (t ≡ u)
    by true e = inl (term_eq-same t u e)
    by false e = inr (λ same. false_true (sym e ∙ subst (λ (v : Term). term_eq t v ≡ true) same (term_eq-itself t)))

pub term_occurs_or_not : (v t : Term) → Occurs v t ⊎ ¬ Occurs v t
term_occurs_or_not v (Const c T) = terms_same_or_not v (Const c T)
term_occurs_or_not v (Free x T) = terms_same_or_not v (Free x T)
term_occurs_or_not v (Var x i T) = terms_same_or_not v (Var x i T)
term_occurs_or_not v (Bound n) = terms_same_or_not v (Bound n)
term_occurs_or_not v (Abs T b) = elim (terms_same_or_not v (Abs T b)) [
  | inl e ↦ inl (inl e)
  | inr other ↦ elim (term_occurs_or_not v b) [ inl o ↦ inl (inr o) | inr free ↦ inr (λ h. elim h [ inl e ↦ other e | inr o ↦ free o ]) ]
]
term_occurs_or_not v (App f a) = elim (terms_same_or_not v (App f a)) [
  | inl e ↦ inl (inl e)
  | inr other ↦ elim (term_occurs_or_not v f) [
    | inl o ↦ inl (inr (inl o))
    | inr away ↦ elim (term_occurs_or_not v a) [ inl o ↦ inl (inr (inr o)) | inr free ↦ inr (λ h. elim h [ inl e ↦ other e | inr o ↦ elim o [ inl p ↦ away p | inr q ↦ free q ] ]) ]
  ]
]

-- A term is a bare variable or not.
bare_or_not : (t : Term) → ((v : Term) × IsBare t v) ⊎ ((w : Term) → ¬ IsBare t w)
bare_or_not t = by (is_schematic (eta_form t)) refl
  where
    by : (b : Bool) → is_schematic (eta_form t) ≡ b → ((v : Term) × IsBare t v) ⊎ ((w : Term) → ¬ IsBare t w)
    by true e = inl (eta_form t, record { variable = e; form = eta_form-is t })
    by false e = inr (λ w h. false_true (sym e ∙ (ap is_schematic (one_eta_normal_form t (eta_form t) w (eta_form-is t) h.form) ∙ h.variable)))

bare_side_or_not : (l r : Term) → ((v : Term) × (other : Term) × IsBareSide l r v other) ⊎ ((v other : Term) → ¬ IsBareSide l r v other)
bare_side_or_not l r = elim (bare_or_not l) [
  | inl h ↦ inl (h.0, r, left_bare h.1 refl)
  | inr none ↦ elim (bare_or_not r) [
    | inl k ↦ inl (k.0, l, right_bare none k.1 refl)
    | inr nor ↦ inr (λ v other s. no_side none nor v other s)
  ]
]
  where
    no_side : ((w : Term) → ¬ IsBare l w) → ((w : Term) → ¬ IsBare r w) → (v other : Term) → IsBareSide l r v other → ⊥
    no_side none nor v other (left_bare b e) = none v b
    no_side none nor v other (right_bare n b e) = nor v b

bare_variable : (l r v other : Term) → IsBareSide l r v other → is_schematic v ≡ true
bare_variable l r v other (left_bare b e) = b.variable
bare_variable l r v other (right_bare n b e) = b.variable

-- Heads that differ are constants of one name, or apart.
heads_apart_or_not : (h k : Term) → ¬ (h ≡ k) → ((c : ℕ) × (T : Typ) × (U : Typ) × (h ≡ Const c T) × (k ≡ Const c U) × (¬ (T ≡ U))) ⊎ AreApart h k
heads_apart_or_not (Const c T) (Const d U) n = by (nat_eq c d) refl
  where
    by : (b : Bool) → nat_eq c d ≡ b → ((e : ℕ) × (V : Typ) × (W : Typ) × (Const c T ≡ Const e V) × (Const d U ≡ Const e W) × (¬ (V ≡ W))) ⊎ AreApart (Const c T) (Const d U)
    by true e =
        let same : c ≡ d = eqb-true c d e in
        inl (c, T, U, refl, ap (λ (x : ℕ). Const x U) (sym same), λ typs. n (λ i. Const (same i) (typs i)))
    by false e = inr (record { differ = n; no_constants = λ x V W f g. other_names x V W f g })
      where
        other_names : (x : ℕ) (V W : Typ) → Const c T ≡ Const x V → Const d U ≡ Const x W → ⊥
        other_names x V W f g =
            let first : c ≡ x = cc in
            let second : d ≡ x = cc in
            let same : c ≡ d = first ∙ sym second in
            false_true (sym e ∙ same_name c d same)
          where
            same_name : (c d : ℕ) → c ≡ d → nat_eq c d ≡ true
            same_name c d e = grind (arith)
heads_apart_or_not (Const c T) k n = inr (record { differ = n; no_constants = λ x V W f g. absurd (cc) })
heads_apart_or_not h k n = inr (record { differ = n; no_constants = λ x V W f g. absurd (cc) })

module _ (l r : Term) where
  -- where no rule before that of heads applies
  past_treated : ArePastVariables l r → (how : Treatment) × IsTreatment l r how
  past_treated past = by (is_flexible l || is_flexible r) refl
    where
      rigid_treated : AreRigid l r → (head l ≡ head r) ⊎ ¬ (head l ≡ head r) → (how : Treatment) × IsTreatment l r how
      rigid_treated rigid (inl e) = (Split, same_heads rigid e)
      rigid_treated rigid (inr n) = elim (heads_apart_or_not (head l) (head r) n) [
        | inl h ↦ (Unify h.1 h.2, constants rigid h.3 h.4 h.5)
        | inr apart ↦ (Fail, clash rigid apart)
      ]

      by : (b : Bool) → (is_flexible l || is_flexible r) ≡ b → (how : Treatment) × IsTreatment l r how
      by true e = (Leave, left past e)
      by false e = rigid_treated (record { past = past; neither = e }) (terms_same_or_not (head l) (head r))

  -- where a side is a bare variable
  bare_treated : AreOfOneTyp l r → (v other : Term) → IsBareSide l r v other → is_schematic v ≡ true → (how : Treatment) × IsTreatment l r how
  bare_treated typed (Var x i T) other side e = by (occurs_firmly (Var x i T) other) refl (term_occurs_or_not (Var x i T) other)
    where
      by : (b : Bool) → occurs_firmly (Var x i T) other ≡ b → Occurs (Var x i T) other ⊎ ¬ Occurs (Var x i T) other → (how : Treatment) × IsTreatment l r how
      by true f occurs = (Fail, firm typed side f)
      by false f (inr free) = (Put (bind x i T (eta_form other)), absent typed side free (eta_form-is other))
      by false f (inl occurs) = past_treated (record { typed = typed; occurring = λ w o s. again w o (bare-once l r (Var x i T) w other o side s) })
        where
          again : (w o : Term) → (Var x i T ≡ w) × (other ≡ o) → (occurs_firmly w o ≡ false) × Occurs w o
          again w o same = (
            subst (λ (z : Term). occurs_firmly z o ≡ false) same.0 (subst (λ (z : Term). occurs_firmly (Var x i T) z ≡ false) same.1 f),
            subst (λ (z : Term). Occurs z o) same.0 (subst (λ (z : Term). Occurs (Var x i T) z) same.1 occurs),
          )
  bare_treated typed (Const c T) other side e = absurd (false_true e)
  bare_treated typed (Free x T) other side e = absurd (false_true e)
  bare_treated typed (Bound n) other side e = absurd (false_true e)
  bare_treated typed (Abs T b) other side e = absurd (false_true e)
  bare_treated typed (App f a) other side e = absurd (false_true e)

  typed_treated : AreOfOneTyp l r → (how : Treatment) × IsTreatment l r how
  typed_treated typed = elim (bare_side_or_not l r) [
    | inl h ↦ bare_treated typed h.0 h.1 h.2 (bare_variable l r h.0 h.1 h.2)
    | inr none ↦ past_treated (record { typed = typed; occurring = λ v other s. absurd (none v other s) })
  ]

  -- Each pair of typed sides has a treatment.
  pub some_treatment : (T U : Typ) → HasType [] l T → HasType [] r U → (how : Treatment) × IsTreatment l r how
  some_treatment T U h k = elim (terms_same_or_not l r) [
    | inl e ↦ (Drop, equal e)
    | inr n ↦ elim (same_or_not T U) [
      | inr other ↦ (Differ T U, differ h k other)
      | inl e ↦ typed_treated (record { differ = n; typ = T; left = h; right = subst (λ (X : Typ). HasType [] r X) (sym e) k })
    ]
  ]

pub term_within_or_not : (t : Term) → IsWithin t ⊎ ¬ IsWithin t
term_within_or_not t = elim (cases_lt max_size (term_size t)) [
  | inl large ↦ inr (λ h. let size = h.size in omega arith)
  | inr small ↦ elim (cases_lt max_depth (term_depth t)) [ inl deep ↦ inr (λ h. let depth = h.depth in omega arith) | inr flat ↦ inl (record { size = small; depth = flat }) ]
]

module _ (ds : List Decl) where
  -- Each typed side comes to its long form or to a stop.
  some_side : (t : Term) → (T : Typ) × IsTypedUnder ds [] t T → (side : Side) × ComesTo t side
  some_side t typed = by (some_beta_answer t).0 (some_beta_answer t).1
    where
      long : (n : Term) → IsBetaAnswer t (NormalForm n) → IsLongForm n (long_term false [] n) → IsWithin (long_term false [] n) ⊎ ¬ IsWithin (long_term false [] n) → (side : Side) × ComesTo t side
      long n a is (inl within) = (Long (long_term false [] n), is_long a is within)
      long n a is (inr wide) = (Ends Big, is_wide a is wide)

      by : (answer : BetaAnswer) → IsBetaAnswer t answer → (side : Side) × ComesTo t side
      by TooLarge a = (Ends Big, is_large a)
      by TooManySteps a = (Ends Steps, has_steps a)
      by (NormalForm n) a =
          let normal : IsBetaNormal n = subst IsBetaNormal a.decided.2 a.decided.1 in
          let form = (equated_are_typed ds [] [] typed.0 t n (beta_normal_form_is_equated ds [] [] typed.0 t n typed.1 a)).1 in
          long n a (long_form-is n typed.0 form.typed normal) (term_within_or_not (long_term false [] n))

  -- So pairs come to their long forms, or to a stop.
  pub some_sides : (ps : List Pair) → Each (AreSidesCertified ds) ps → (sides : Sides) × AreLong ps sides
  some_sides [] h = (AllLong [], no_more)
  some_sides (p ∷ ps) h = by_left (some_side p.left h.0.0).0 (some_side p.left h.0.0).1 (some_side p.right h.0.1) (some_sides ps h.1)
    where
      by_rest : (l r : Term) → ComesTo p.left (Long l) → ComesTo p.right (Long r) → (rest : Sides) → AreLong ps rest → (sides : Sides) × AreLong (p ∷ ps) sides
      by_rest l r f g (AllLong qs) k = (AllLong (record { left = l; right = r } ∷ qs), both_long f g k)
      by_rest l r f g (Stopped s) k = (Stopped s, later_stops f g k)

      by_right : (l : Term) → ComesTo p.left (Long l) → (other : Side) → ComesTo p.right other → (rest : Sides) × AreLong ps rest → (sides : Sides) × AreLong (p ∷ ps) sides
      by_right l f (Ends s) g rest = (Stopped s, right_stops f g)
      by_right l f (Long r) g rest = by_rest l r f g rest.0 rest.1

      by_left : (side : Side) → ComesTo p.left side → (other : Side) × ComesTo p.right other → (rest : Sides) × AreLong ps rest → (sides : Sides) × AreLong (p ∷ ps) sides
      by_left (Ends s) f other rest = (Stopped s, left_stops f)
      by_left (Long l) f other rest = by_right l f other.0 other.1 rest
