-- Propositions and their long forms: what is asked of them where they are compared.
use Rattle.std.proofs.Common.{◌≡◌, ℕ, List, [], ◌∷◌, inl, inr, sym, subst, Option, None}
use Rattle.std.specs.Prelude.{Result, Ok, Err, IfOk}
use Rattle.pure_definitions.specs.Types.Typ.{Typ, prop}
use Rattle.pure_definitions.specs.Terms.Term.{Term, Var, IsWithin}
use Rattle.pure_definitions.specs.Terms.Bounds.{Occurs}
use Rattle.pure_definitions.specs.Terms.Typing.{HasType}
use Rattle.pure_definitions.specs.Reduction.Eta.{EtaStep, EtaReduces, IsLongForm}
use Rattle.pure_logic.specs.Derivable.{Pair}
use Rattle.pure_term_laws.proofs.EtaLaws.{one_long_form}
use Rattle.pure_term_laws.proofs.TypingLaws.{typed-once}
use Rattle.pure_eta.proofs.FormLaws.{long_form_of_long_form}
use Rattle.pure_unify_definitions.specs.Fronts.{pair}
use Rattle.pure_pattern_laws.specs.Answers.{AreReady}
use Rattle.pure_pattern_laws.proofs.SolvedLaws.{occurs-lift}
use Rattle.pure_find.specs.declared.standing.Standing.{Standing}
use Rattle.pure_find.specs.declared.standing.Standing.TheVariants.{Maybe}
use Rattle.pure_find.specs.Findings.{IsTidyProposition, IsLongProposition, IsLongFound, IsAnsweredBy}
use Rattle.pure_find.specs.Standings.{IsLongWithin, LacksLongForm, IsStanding, asked, lacking}

-- eta steps add no variable: a variable of a long form is one of the term
occurs-step : (x i : ℕ) (T : Typ) {t u : Term} → EtaStep t u → Occurs (Var x i T) t → Occurs (Var x i T) u
occurs-step x i T (EtaStep.contract {f = f} {g = g} e) (inl k) = absurd (cc)
occurs-step x i T (EtaStep.contract {f = f} {g = g} e) (inr (inl k)) = absurd (cc)
occurs-step x i T (EtaStep.contract {f = f} {g = g} e) (inr (inr (inl o))) = occurs-lift x i T 1 0 f (subst (Occurs (Var x i T)) e o)
occurs-step x i T (EtaStep.contract {f = f} {g = g} e) (inr (inr (inr k))) = absurd (cc)
occurs-step x i T (EtaStep.body k) (inl e) = absurd (cc)
occurs-step x i T (EtaStep.body k) (inr o) = inr (occurs-step x i T k o)
occurs-step x i T (EtaStep.function k) (inl e) = absurd (cc)
occurs-step x i T (EtaStep.function k) (inr (inl o)) = inr (inl (occurs-step x i T k o))
occurs-step x i T (EtaStep.function k) (inr (inr o)) = inr (inr o)
occurs-step x i T (EtaStep.argument k) (inl e) = absurd (cc)
occurs-step x i T (EtaStep.argument k) (inr (inl o)) = inr (inl o)
occurs-step x i T (EtaStep.argument k) (inr (inr o)) = inr (inr (occurs-step x i T k o))

occurs-reduct : (x i : ℕ) (T : Typ) {t u : Term} → EtaReduces t u → Occurs (Var x i T) t → Occurs (Var x i T) u
occurs-reduct x i T EtaReduces.done o = o
occurs-reduct x i T (EtaReduces.next k r) o = occurs-reduct x i T r (occurs-step x i T k o)

-- the long form of a proposition is one
pub long-proposition : (t u : Term) → IsTidyProposition t → IsLongForm t u → IsLongProposition u
long-proposition t u h long = record {
  typed = subst (HasType [] u) (typed-once [] t long.typ prop long.typed h.typed) long.long_typed;
  long = long_form_of_long_form t u long;
  variables = λ x i T o. h.variables x i T (occurs-reduct x i T long.reduces o);
}

-- a long form beyond the limits is the only one
pub lacks-long : (t u : Term) → IsLongForm t u → ¬ IsWithin u → LacksLongForm t
lacks-long t u long over v (other, within) = over (subst IsWithin (one_long_form t v u other long) within)

-- two such propositions may be compared
pub ready-pair : (p c : Term) → IsLongProposition p → IsLongProposition c → (ps : List Pair) → ps ≡ pair p c ∷ [] → AreReady 0 ps
ready-pair p c h k ps are = subst (AreReady 0) (sym are) (record {
  sides = (record { left = h.long; right = k.long; typ = prop; left_typ = h.typed; right_typ = k.typed }, tt);
  indexes = ((h.variables, k.variables), tt);
})

-- ---- answers about them

pub answered-by : {E : Type 0} (ps qs : List Pair) → ps ≡ qs → (r : Result Standing E) → IfOk r (IsAnsweredBy ps) → IfOk r (IsAnsweredBy qs)
answered-by ps qs same r h = subst (λ xs. IfOk r (IsAnsweredBy xs)) same h

-- a proposition without a long form within the limits
pub lacking-maybe : (P : Term) → LacksLongForm P → (C : Term) → IsStanding P C Maybe
lacking-maybe P none C = lacking (inl none)

pub statement-maybe : (P : Term) (long : Option Term) → long ≡ None → (C : Term) → IsLongFound C long → IsStanding P C Maybe
statement-maybe P long is C found = lacking (inr (subst (IsLongFound C) is found))

-- two that have one
pub compared-so : {E : Type 0} (P p c : Term) → IsLongWithin P p → (r : Result Standing E) → IfOk r (IsAnsweredBy (pair p c ∷ [])) → IfOk r (λ s. (C : Term) → IsLongWithin C c → IsStanding P C s)
compared-so P p c h (Ok s) is = λ C k. asked h k is.1 is.2
compared-so P p c h (Err fault) is = tt
