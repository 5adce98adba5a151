-- A subgoal is read in one way, and a fact is one rule on a goal.
use Rattle.std.proofs.Common.{◌≡◌, ◌⊎◌, ℕ, ◌+◌, List, [], ◌∷◌, inl, inr, refl, sym, subst, ◌∙◌}
use Rattle.pure_definitions.specs.Types.Typ.{Typ}
use Rattle.pure_definitions.specs.Terms.Term.{Term, Var}
use Rattle.pure_definitions.specs.Terms.Bounds.{subst_bound}
use Rattle.pure_definitions.specs.Terms.Subst.{term_instance}
use Rattle.pure_term_laws.proofs.EtaLaws.{one_long_form}
use Rattle.pure_logic.specs.Connectives.{all, imp}
use Rattle.pure_logic.specs.Derivable.{Theorem}
use Rattle.pure_logic.specs.Laws.Maps.{raised_typs, raised_terms}
use Rattle.pure_goal_laws.specs.Prefix.{Item, Parameter, Hypothesis, behind}
use Rattle.pure_goal_steps.specs.State.{greatest_index}
use Rattle.pure_goal_steps.specs.Reading.{IsConclusion, IsRead, Strips, bare, quantified, supposed, IsRuleOf}

all-same : (T U : Typ) (b c : Term) → all T b ≡ all U c → (T ≡ U) × (b ≡ c)
all-same T U b c e = (cc, cc)

imp-same : (A B C D : Term) → imp A B ≡ imp C D → (A ≡ C) × (B ≡ D)
imp-same A B C D e = (cc, cc)

all-no-imp : (T : Typ) (b A B : Term) → all T b ≡ imp A B → ⊥
all-no-imp T b A B e = absurd (cc)

behind-once : (ps qs : List Item) (C D : Term) → behind ps C ≡ behind qs D → IsConclusion C → IsConclusion D → (ps ≡ qs) × (C ≡ D)
behind-once [] [] C D e c d = (refl, e)
behind-once [] (Parameter T ∷ qs) C D e c d = absurd (c.no_quantification T (behind qs D) e)
behind-once [] (Hypothesis A ∷ qs) C D e c d = absurd (c.no_implication A (behind qs D) e)
behind-once (Parameter T ∷ ps) [] C D e c d = absurd (d.no_quantification T (behind ps C) (sym e))
behind-once (Hypothesis A ∷ ps) [] C D e c d = absurd (d.no_implication A (behind ps C) (sym e))
behind-once (Parameter T ∷ ps) (Parameter U ∷ qs) C D e c d =
    let parts = all-same T U (behind ps C) (behind qs D) e in
    let rest = behind-once ps qs C D parts.1 c d in
    ((λ i. Parameter (parts.0 i) ∷ rest.0 i), rest.1)
behind-once (Parameter T ∷ ps) (Hypothesis A ∷ qs) C D e c d = absurd (all-no-imp T (behind ps C) A (behind qs D) e)
behind-once (Hypothesis A ∷ ps) (Parameter T ∷ qs) C D e c d = absurd (all-no-imp T (behind qs D) A (behind ps C) (sym e))
behind-once (Hypothesis A ∷ ps) (Hypothesis B ∷ qs) C D e c d =
    let parts = imp-same A (behind ps C) B (behind qs D) e in
    let rest = behind-once ps qs C D parts.1 c d in
    ((λ i. Hypothesis (parts.0 i) ∷ rest.0 i), rest.1)

pub read_once : (A : Term) (ps qs : List Item) (C D : Term) → IsRead A ps C → IsRead A qs D → (ps ≡ qs) × (C ≡ D)
read_once A ps qs C D f g = behind-once ps qs C D (sym f.stands ∙ g.stands) f.ends g.ends

-- How a rule is stripped: there is nothing to strip, or a quantified variable, or a premise.
record AtEnd (t : Term) (As : List Term) (C : Term) : Type 0 where
  ends : IsConclusion t
  none_left : As ≡ []
  same : C ≡ t

record AtAll (index name : ℕ) (t : Term) (As : List Term) (C : Term) : Type 0 where
  typ : Typ
  body : Term
  is : t ≡ all typ body
  rest : Strips index (name + 1) (subst_bound body (Var name index typ)) As C

record AtImp (index name : ℕ) (t : Term) (As : List Term) (C : Term) : Type 0 where
  premise : Term
  body : Term
  others : List Term
  is : t ≡ imp premise body
  premises : As ≡ premise ∷ others
  rest : Strips index name body others C

stripped-how : {index name : ℕ} {t C : Term} {As : List Term} → Strips index name t As C → AtEnd t As C ⊎ (AtAll index name t As C ⊎ AtImp index name t As C)
stripped-how (bare c) = inl (record { ends = c; none_left = refl; same = refl })
stripped-how (quantified {T = T} {B = B} s) = inr (inl (record { typ = T; body = B; is = refl; rest = s }))
stripped-how (supposed {A = A} {B = B} {As = As} s) = inr (inr (record { premise = A; body = B; others = As; is = refl; premises = refl; rest = s }))

abbrev AreSame : (As Bs : List Term) → (C D : Term) → Type 0
AreSame As Bs C D = (As ≡ Bs) × (C ≡ D)

at-end : {index name : ℕ} {t C D : Term} {Bs : List Term} → IsConclusion t → C ≡ t → AtEnd t Bs D ⊎ (AtAll index name t Bs D ⊎ AtImp index name t Bs D) → AreSame [] Bs C D
at-end c e (inl h) = (sym h.none_left, e ∙ sym h.same)
at-end c e (inr (inl h)) = absurd (c.no_quantification h.typ h.body h.is)
at-end c e (inr (inr h)) = absurd (c.no_implication h.premise h.body h.is)

at-all : {index name : ℕ} {C D : Term} {As Bs : List Term} (T : Typ) (B : Term) → (Strips index (name + 1) (subst_bound B (Var name index T)) Bs D → AreSame As Bs C D)
    → AtEnd (all T B) Bs D ⊎ (AtAll index name (all T B) Bs D ⊎ AtImp index name (all T B) Bs D) → AreSame As Bs C D
at-all T B rest (inl h) = absurd (h.ends.no_quantification T B refl)
at-all {index = index} {name = name} {D = D} {Bs = Bs} T B rest (inr (inl h)) =
    let parts = all-same T h.typ B h.body h.is in
    rest (subst (λ (b : Term). Strips index (name + 1) b Bs D) (λ i. subst_bound (sym parts.1 i) (Var name index (sym parts.0 i))) h.rest)
at-all T B rest (inr (inr h)) = absurd (all-no-imp T B h.premise h.body h.is)

at-imp : {index name : ℕ} {C D : Term} {As Bs : List Term} (A B : Term) → ((Cs : List Term) → Strips index name B Cs D → AreSame As Cs C D)
    → AtEnd (imp A B) Bs D ⊎ (AtAll index name (imp A B) Bs D ⊎ AtImp index name (imp A B) Bs D) → AreSame (A ∷ As) Bs C D
at-imp A B rest (inl h) = absurd (h.ends.no_implication A B refl)
at-imp A B rest (inr (inl h)) = absurd (all-no-imp h.typ h.body A B (sym h.is))
at-imp {index = index} {name = name} {D = D} A B rest (inr (inr h)) =
    let parts = imp-same A B h.premise h.body h.is in
    let same = rest h.others (subst (λ (b : Term). Strips index name b h.others D) (sym parts.1) h.rest) in
    ((λ i. parts.0 i ∷ same.0 i) ∙ sym h.premises, same.1)

pub strips-once : {index name : ℕ} {t C : Term} {As : List Term} → Strips index name t As C → (Bs : List Term) (D : Term) → Strips index name t Bs D → (As ≡ Bs) × (C ≡ D)
strips-once (bare c) Bs D g = at-end c refl (stripped-how g)
strips-once (quantified {T = T} {B = B} s) Bs D g = at-all T B (λ r. strips-once s Bs D r) (stripped-how g)
strips-once (supposed {A = A} {B = B} s) Bs D g = at-imp A B (λ Cs r. strips-once s Cs D r) (stripped-how g)

pub one_rule : (goal fact : Theorem) (As Bs : List Term) (C D : Term) → IsRuleOf goal fact As C → IsRuleOf goal fact Bs D → (As ≡ Bs) × (C ≡ D)
one_rule goal fact As Bs C D f g =
    let same : f.form ≡ g.form = one_long_form fact.prop f.form g.form f.long g.long in
    let by : ℕ = greatest_index goal + 1 in
    strips-once f.strips Bs D (subst (λ (t : Term). Strips (greatest_index goal + greatest_index fact + 2) 0 (term_instance (raised_typs by) (raised_terms by) t) Bs D) (sym same) g.strips)
