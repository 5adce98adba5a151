-- From what each rule answers to the treatment of a pair.
use Rattle.std.proofs.Common.{◌≡◌, ◌≢◌, ℕ, [], Bool, true, false, refl, ap, sym, subst, ◌∙◌, true≢false}
use Rattle.std.specs.Prelude.{Option, Some, None, Result, Ok, Err, IfOk, ◌||◌}
use Rattle.pure_definitions.specs.Types.Typ.{Typ}
use Rattle.pure_definitions.specs.Terms.Term.{Term, Const, Var}
use Rattle.pure_definitions.specs.Terms.Bounds.{Occurs}
use Rattle.pure_definitions.specs.Terms.Typing.{HasType}
use Rattle.pure_definitions.specs.Terms.Subst.{TermBind, term_variable}
use Rattle.pure_definitions.specs.Reduction.Eta.{IsEtaNormalForm}
use Rattle.pure_term_laws.proofs.EtaNormalLaws.{one_eta_normal_form}
use Rattle.pure_term_laws.proofs.TypingLaws.{typed-once}
use Rattle.pure_eta.proofs.KeptLaws.{steps_keep_type}
use Rattle.pure_logic.specs.Derivable.{Pair}
use Rattle.pure_unify_definitions.specs.Fronts.{head, is_flexible}
use Rattle.pure_unify_definitions.specs.Firm.{occurs_firmly}
use Rattle.pure_unify_definitions.specs.Treatment as rules
use Rattle.pure_unify_definitions.specs.Treatment.{IsBare, IsBareSide, left_bare, right_bare, AreOfOneTyp, ArePastVariables, AreRigid, AreApart, IsTreatment, equal, differ, firm, absent, same_heads, constants, clash, left}
use Rattle.pure_unify_nodes.specs.Long.{IsLongSide}
use Rattle.pure_unify_nodes.specs.OneTyp.{HaveOneTyp}
use Rattle.pure_unify_steps.specs.declared.treat.Treatment.{Treatment}
use Rattle.pure_unify_steps.specs.declared.treat.Treatment.TheVariants.{Dropped, Differ, Fail, Put, Split, Unify, Leave}
use Rattle.pure_unify_steps.specs.Treated.{seen, IsAgainst, IsBareAnswer, IsVariableAnswer, AreCompared, IsHeadsTreatment}

pub set_to : (l r v other : Term) (b : TermBind) → AreOfOneTyp l r → IsBareSide l r v other → term_variable b ≡ v → ¬ Occurs v other → IsEtaNormalForm other b.image → IsTreatment l r (rules.Put b)
set_to l r v other b one side e free form =
    absent {x = b.name} {i = b.index} {T = b.typ} {other = other} {u = b.image} one (subst (λ (w : Term). IsBareSide l r w other) (sym e) side) (subst (λ (w : Term). ¬ Occurs w other) (sym e) free) form

pub against_left : (l r v : Term) (o : Option Treatment) → IsBare l v → IsAgainst v r o → IsVariableAnswer l r o
against_left l r v None b h = here
  where
    here : (w other : Term) → IsBareSide l r w other → (occurs_firmly w other ≡ false) × Occurs w other
    here w other (left_bare c e) =
        let same : v ≡ w = one_eta_normal_form l v w b.form c.form in
        (ap (λ (t : Term). occurs_firmly w t) e ∙ (ap (λ (t : Term). occurs_firmly t r) (sym same) ∙ h.0), subst (λ (t : Term). Occurs w t) (sym e) (subst (λ (t : Term). Occurs t r) same h.1))
    here w other (right_bare n c e) = absurd (n v b)
against_left l r v (Some Fail) b h = λ one. firm one (left_bare b refl) h
against_left l r v (Some (Put d)) b h = λ one. set_to l r v r d one (left_bare b refl) h.0 h.1 h.2
against_left l r v (Some Dropped) b h = absurd h
against_left l r v (Some (Differ typs)) b h = absurd h
against_left l r v (Some Split) b h = absurd h
against_left l r v (Some (Unify typs)) b h = absurd h
against_left l r v (Some Leave) b h = absurd h

pub against_right : (l r v : Term) (o : Option Treatment) → IsBareAnswer l None → IsBare r v → IsAgainst v l o → IsVariableAnswer l r o
against_right l r v None n b h = here
  where
    here : (w other : Term) → IsBareSide l r w other → (occurs_firmly w other ≡ false) × Occurs w other
    here w other (left_bare c e) = absurd (n w c)
    here w other (right_bare m c e) =
        let same : v ≡ w = one_eta_normal_form r v w b.form c.form in
        (ap (λ (t : Term). occurs_firmly w t) e ∙ (ap (λ (t : Term). occurs_firmly t l) (sym same) ∙ h.0), subst (λ (t : Term). Occurs w t) (sym e) (subst (λ (t : Term). Occurs t l) same h.1))
against_right l r v (Some Fail) n b h = λ one. firm one (right_bare n b refl) h
against_right l r v (Some (Put d)) n b h = λ one. set_to l r v l d one (right_bare n b refl) h.0 h.1 h.2
against_right l r v (Some Dropped) n b h = absurd h
against_right l r v (Some (Differ typs)) n b h = absurd h
against_right l r v (Some Split) n b h = absurd h
against_right l r v (Some (Unify typs)) n b h = absurd h
against_right l r v (Some Leave) n b h = absurd h

pub against_neither : (l r : Term) → IsBareAnswer l None → IsBareAnswer r None → IsVariableAnswer l r None
against_neither l r n m v other (left_bare c e) = absurd (n v c)
against_neither l r n m v other (right_bare k c e) = absurd (m v c)

pub left_answer : {E : Type 0} (l r v : Term) (o : Result (Option Treatment) E) → IsBareAnswer l (Some v) → IfOk o (IsAgainst v r) → IfOk o (IsVariableAnswer l r)
left_answer l r v (Ok o) b h = against_left l r v o b h
left_answer l r v (Err e) b h = tt

pub right_answer : {E : Type 0} (l r v : Term) (o : Result (Option Treatment) E) → IsBareAnswer l None → IsBareAnswer r (Some v) → IfOk o (IsAgainst v l) → IfOk o (IsVariableAnswer l r)
right_answer l r v (Ok o) n b h = against_right l r v o n b h
right_answer l r v (Err e) n b h = tt

-- Sides in long form have types, so that they are of one type where they have no two.
pub one_typ : (l r : Term) → IsLongSide l → IsLongSide r → HaveOneTyp [] l r → AreCompared l r None
one_typ l r h k one = (h.form.typ, h.form.typed, subst (λ (T : Typ). HasType [] r T) (sym (one h.form.typ k.form.typ h.form.typed k.form.typed)) k.form.typed)

pub of_one_typ : (l r : Term) → l ≢ r → AreCompared l r None → AreOfOneTyp l r
of_one_typ l r n h = record { differ = n; typ = h.0; left = h.1; right = h.2 }

pub past : (l r : Term) → l ≢ r → AreCompared l r None → IsVariableAnswer l r None → ArePastVariables l r
past l r n h k = record { typed = of_one_typ l r n h; occurring = k }

or_left : (a b : Bool) → a ≡ true → (a || b) ≡ true
or_left true b e = refl
or_left false b e = absurd (true≢false (sym e))

or_right : (a b : Bool) → b ≡ true → (a || b) ≡ true
or_right true b e = refl
or_right false b e = e

or_neither : (a b : Bool) → a ≡ false → b ≡ false → (a || b) ≡ false
or_neither true b e f = absurd (true≢false e)
or_neither false b e f = f

pub left_flexible : (l r : Term) → is_flexible l ≡ true → ArePastVariables l r → IsTreatment l r rules.Leave
left_flexible l r e p = left p (or_left (is_flexible l) (is_flexible r) e)

pub right_flexible : (l r : Term) → is_flexible r ≡ true → ArePastVariables l r → IsTreatment l r rules.Leave
right_flexible l r e p = left p (or_right (is_flexible l) (is_flexible r) e)

pub rigid : (l r h k : Term) (how : Treatment) → is_flexible l ≡ false → is_flexible r ≡ false → h ≡ head l → k ≡ head r → IsHeadsTreatment h k how → ArePastVariables l r → IsTreatment l r (seen how)
rigid l r h k Split e f a b c p = same_heads (record { past = p; neither = or_neither (is_flexible l) (is_flexible r) e f }) (sym a ∙ (c ∙ b))
rigid l r h k (Unify typs) e f a b c p = constants (record { past = p; neither = or_neither (is_flexible l) (is_flexible r) e f }) (sym a ∙ c.1) (sym b ∙ c.2) c.3
rigid l r h k Fail e f a b c p =
    clash (record { past = p; neither = or_neither (is_flexible l) (is_flexible r) e f }) (subst (λ (t : Term). AreApart t (head r)) a (subst (λ (t : Term). AreApart h t) b c))
rigid l r h k Dropped e f a b c p = absurd c
rigid l r h k (Differ typs) e f a b c p = absurd c
rigid l r h k (Put d) e f a b c p = absurd c
rigid l r h k Leave e f a b c p = absurd c

-- The image that the rule of bare variables gives has its variable's type.
pub set_typed : (l r : Term) (b : TermBind) → IsTreatment l r (rules.Put b) → HasType [] b.image b.typ
set_typed l r b (absent {other = other} {u = u} one (left_bare c e) free form) =
    let variable = steps_keep_type [] l (term_variable b) one.typ c.form.reduces one.left in
    let image = steps_keep_type [] other u one.typ form.reduces (subst (λ (t : Term). HasType [] t one.typ) (sym e) one.right) in
    subst (λ (T : Typ). HasType [] u T) (sym variable) image
set_typed l r b (absent {other = other} {u = u} one (right_bare n c e) free form) =
    let variable = steps_keep_type [] r (term_variable b) one.typ c.form.reduces one.right in
    let image = steps_keep_type [] other u one.typ form.reduces (subst (λ (t : Term). HasType [] t one.typ) (sym e) one.left) in
    subst (λ (T : Typ). HasType [] u T) (sym variable) image

pub others_answer : {E : Type 0} (l r : Term) (o : Result Treatment E) → ArePastVariables l r → IfOk o (λ how. ArePastVariables l r → IsTreatment l r (seen how)) → IfOk o (λ how. IsTreatment l r (seen how))
others_answer l r (Ok how) p h = h p
others_answer l r (Err e) p h = tt
