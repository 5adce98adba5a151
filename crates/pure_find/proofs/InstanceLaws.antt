-- A fact that matches has the statement as an instance, and one that doesn't hasn't.
use Rattle.std.proofs.Common.{◌≡◌, ◌∙◌, [], ◌∷◌, refl, sym, ap, subst}
use Rattle.pure_definitions.specs.Terms.Term.{Term, Const, Free, Var, Bound, Abs, App}
use Rattle.pure_definitions.specs.Terms.Subst.{term_image, inst_term}
use Rattle.pure_definitions.specs.Reduction.Eta.{IsLongForm}
use Rattle.pure_reduction.specs.LongForms.{HasLongForm, HaveOneLongForm}
use Rattle.pure_reduction.proofs.LongLaws.{long_form_of_normal}
use Rattle.pure_solutions.specs.Solutions.{IsTermSubstitution}
use Rattle.pure_solutions.proofs.SolutionLaws.{long-instance, fixed-stays}
use Rattle.pure_unify_definitions.specs.Fronts.{pair}
use Rattle.pure_pattern_laws.specs.Answers.{Answer, SchematicType, NotPattern, Unified, NoUnifier, Steps, Big, AreReady, IsPatternAnswer}
use Rattle.pure_pattern_laws.proofs.FreeLaws.{unifier_is_map}
use Rattle.pure_pattern_laws.proofs.GeneralLaws.{no_unifier_is_final}
use Rattle.pure_pattern_laws.proofs.SoundLaws.{unifier_solves}
use Rattle.pure_theory_run.specs.Declare.Tidy.{IsUnschematic}
use Rattle.pure_find.specs.declared.standing.Standing.{Standing}
use Rattle.pure_find.specs.declared.standing.Standing.TheVariants.{Match, NoMatch}
use Rattle.pure_find.specs.Standings.{IsStanding, asked, lacking, standing_by}
use Rattle.pure_find.specs.Findings.{IsTidyProposition}
use Rattle.pure_find.specs.Laws.{MatchIsInstance, NoMatchIsFinal, IsInstance, IsInstanceBy}
use Rattle.pure_find.proofs.BuiltLaws.{facts-tidy}
use Rattle.pure_find.proofs.LongPropositions.{long-proposition, ready-pair}
use Rattle.pure_find.proofs.NamedLaws.{states-tidy, tidy-statement}

-- a map that keeps fixed variables leaves a term without schematic variables as it is
unschematic-stays : (terms : Term → Term) → IsTermSubstitution terms → (t : Term) → IsUnschematic t → inst_term terms t ≡ t
unschematic-stays terms s (Const c T) h = refl
unschematic-stays terms s (Free x T) h = fixed-stays terms s x T
unschematic-stays terms s (Var x i T) h = absurd h.0
unschematic-stays terms s (Bound n) h = refl
unschematic-stays terms s (Abs T b) h = ap (Abs T) (unschematic-stays terms s b h.1)
unschematic-stays terms s (App f a) h = (λ i. App (unschematic-stays terms s f h.0 i) (unschematic-stays terms s a h.1 i))

-- ---- two propositions, the second without schematic variables

module _ (P C : Term) (tidy : IsTidyProposition P) (statement : IsTidyProposition C) (fixed : IsUnschematic C) where
  ready : (p c : Term) → IsLongForm P p → IsLongForm C c → AreReady 0 (pair p c ∷ [])
  ready p c h k = ready-pair p c (long-proposition P p tidy h) (long-proposition C c statement k) (pair p c ∷ []) refl

  -- under a map the long forms have one long form where the two have
  from-long : (p c : Term) → IsLongForm P p → IsLongForm C c → (terms : Term → Term) → IsTermSubstitution terms → HaveOneLongForm (inst_term terms p) (inst_term terms c) → HaveOneLongForm (inst_term terms P) C
  from-long p c h k terms s (w, first, second) = (
    w,
    (long-instance terms s P p w (long_form_of_normal P p h)).1 first,
    subst (λ t. HasLongForm t w) (unschematic-stays terms s C fixed) ((long-instance terms s C c w (long_form_of_normal C c k)).1 second),
  )

  to-long : (p c : Term) → IsLongForm P p → IsLongForm C c → (terms : Term → Term) → IsTermSubstitution terms → HaveOneLongForm (inst_term terms P) C → HaveOneLongForm (inst_term terms p) (inst_term terms c)
  to-long p c h k terms s (w, first, second) = (
    w,
    (long-instance terms s P p w (long_form_of_normal P p h)).0 first,
    (long-instance terms s C c w (long_form_of_normal C c k)).0 (subst (λ t. HasLongForm t w) (sym (unschematic-stays terms s C fixed)) second),
  )

  unified-instance : (p c : Term) → IsLongForm P p → IsLongForm C c → (answer : Answer) → IsPatternAnswer 0 (pair p c ∷ []) answer → Match ≡ standing_by answer → IsInstance P C
  unified-instance p c h k (Unified bs) is e =
      let solves = unifier_solves 0 (pair p c ∷ []) (ready p c h k) bs is in
      (bs, unifier_is_map 0 (pair p c ∷ []) (ready p c h k) bs is, record { substitution = solves.0; same = from-long p c h k (term_image bs) solves.0 solves.1.0 })
  unified-instance p c h k (SchematicType index) is e = absurd (cc)
  unified-instance p c h k (NotPattern index) is e = absurd (cc)
  unified-instance p c h k NoUnifier is e = absurd (cc)
  unified-instance p c h k Steps is e = absurd (cc)
  unified-instance p c h k Big is e = absurd (cc)

  not_unified-final : (p c : Term) → IsLongForm P p → IsLongForm C c → (answer : Answer) → IsPatternAnswer 0 (pair p c ∷ []) answer → NoMatch ≡ standing_by answer → (terms : Term → Term) → ¬ IsInstanceBy P C terms
  not_unified-final p c h k NoUnifier is e terms by =
      no_unifier_is_final 0 (pair p c ∷ []) (ready p c h k) is terms by.substitution (to-long p c h k terms by.substitution by.same, tt)
  not_unified-final p c h k (Unified bs) is e terms by = let no : ⊥ = cc in no
  not_unified-final p c h k (SchematicType index) is e terms by = let no : ⊥ = cc in no
  not_unified-final p c h k (NotPattern index) is e terms by = let no : ⊥ = cc in no
  not_unified-final p c h k Steps is e terms by = let no : ⊥ = cc in no
  not_unified-final p c h k Big is e terms by = let no : ⊥ = cc in no

  match-instance : (s : Standing) → IsStanding P C s → Match ≡ s → IsInstance P C
  match-instance s (asked {p = p} {c = c} {answer = answer} h k is stands) e = unified-instance p c h.0 k.0 answer is (e ∙ stands)
  match-instance s (lacking h) e = absurd (cc)

  no_match-final : (s : Standing) → IsStanding P C s → NoMatch ≡ s → (terms : Term → Term) → ¬ IsInstanceBy P C terms
  no_match-final s (asked {p = p} {c = c} {answer = answer} h k is stands) e = not_unified-final p c h.0 k.0 answer is (e ∙ stands)
  no_match-final s (lacking h) e = absurd (cc)

pub match_is_instance : MatchIsInstance
match_is_instance texts f p content fact there stands =
    match-instance fact.prop f.fixed (facts-tidy texts f.content (states-tidy f.content content p.tidy) fact there) (tidy-statement texts f p) p.statement.fixed Match stands refl

pub no_match_is_final : NoMatchIsFinal
no_match_is_final texts f p content fact there stands =
    no_match-final fact.prop f.fixed (facts-tidy texts f.content (states-tidy f.content content p.tidy) fact there) (tidy-statement texts f p) p.statement.fixed NoMatch stands refl
