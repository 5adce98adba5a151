-- What the answers of calls say.
use Rattle.std.proofs.Common.{◌≡◌, ℕ, List, refl, sym, subst}
use Rattle.std.specs.Prelude.{Result, Ok, Err, IfOk}
use Rattle.pure_text.specs.Lists.{Each}
use Rattle.pure_definitions.specs.Terms.Subst.{TermBind, IsTermMap}
use Rattle.pure_logic.specs.Derivable.{Pair}
use Rattle.pure_pattern_laws.specs.Patterns.{IsPatternPair, HasSchematicTyp}
use Rattle.pure_pattern_laws.specs.Steps.{start, Solved, Runs, given_binds}
use Rattle.pure_pattern_laws.specs.Answers as answers
use Rattle.pure_pattern_laws.specs.Answers.{AreReady, IsPatternAnswer}
use Rattle.pure_pattern_laws.specs.Laws.{IsMostGeneral}
use Rattle.pure_pattern_laws.proofs.SoundLaws.{unifier_solves}
use Rattle.pure_pattern_laws.proofs.GeneralLaws.{no_unifier_is_final, unifier_is_most_general}
use Rattle.pure_pattern_laws.proofs.FreeLaws.{unifier_is_map}
use Rattle.pure_pattern.specs.declared.fault.PatternFault.{PatternFault}
use Rattle.pure_pattern.specs.declared.fault.PatternFault.TheVariants.{SchematicType, NotPattern, NoUnifier, Steps, Big, Memory}
use Rattle.pure_pattern.specs.Followed.{IsDecided}
use Rattle.pure_pattern.specs.Answered.{IsAnswered, IsSolution, IsNoFinal}

-- Answers of steps are answers about pairs of patterns.
pub solved-answer : (maxidx : ℕ) (ps : List Pair) (all : List TermBind) → Each (λ p. ¬ HasSchematicTyp p) ps → Each IsPatternPair ps → Runs maxidx 0 (start ps) (Solved all) → IsPatternAnswer maxidx ps (answers.Unified (given_binds ps all))
solved-answer maxidx ps all plain patterns run = IsPatternAnswer.decided plain patterns run refl

pub halted-answer : (maxidx : ℕ) (ps : List Pair) (fault : PatternFault) → Each (λ p. ¬ HasSchematicTyp p) ps → Each IsPatternPair ps → IsDecided maxidx (start ps) (Err fault) → IsAnswered maxidx ps (Err fault)
halted-answer maxidx ps NoUnifier plain patterns k = IsPatternAnswer.decided plain patterns k refl
halted-answer maxidx ps Steps plain patterns k = IsPatternAnswer.decided plain patterns k refl
halted-answer maxidx ps Big plain patterns k = IsPatternAnswer.decided plain patterns k refl
halted-answer maxidx ps Memory plain patterns k = tt
halted-answer maxidx ps (SchematicType i) plain patterns k = absurd k
halted-answer maxidx ps (NotPattern i) plain patterns k = absurd k

pub given-map : (maxidx : ℕ) (ps : List Pair) (all given : List TermBind) → AreReady maxidx ps → Each (λ p. ¬ HasSchematicTyp p) ps → Each IsPatternPair ps → Runs maxidx 0 (start ps) (Solved all) → given ≡ given_binds ps all → IsTermMap given
given-map maxidx ps all given ready plain patterns run e = subst IsTermMap (sym e) (unifier_is_map maxidx ps ready (given_binds ps all) (solved-answer maxidx ps all plain patterns run))

-- What they say of solutions.
pub answer-solves : (maxidx : ℕ) (ps : List Pair) (r : Result (List TermBind) PatternFault) → AreReady maxidx ps → IsAnswered maxidx ps r → IfOk r (IsSolution ps)
answer-solves maxidx ps (Ok bs) ready h = (let k = unifier_solves maxidx ps ready bs h in record { substitution = k.0; solves = k.1 })
answer-solves maxidx ps (Err fault) ready h = tt

pub answer-most_general : (maxidx : ℕ) (ps : List Pair) (r : Result (List TermBind) PatternFault) → AreReady maxidx ps → IsAnswered maxidx ps r → IfOk r (IsMostGeneral ps)
answer-most_general maxidx ps (Ok bs) ready h = unifier_is_most_general maxidx ps ready bs h
answer-most_general maxidx ps (Err fault) ready h = tt

pub answer-final : (maxidx : ℕ) (ps : List Pair) (r : Result (List TermBind) PatternFault) → AreReady maxidx ps → IsAnswered maxidx ps r → IsNoFinal ps r
answer-final maxidx ps (Ok bs) ready h = tt
answer-final maxidx ps (Err NoUnifier) ready h =
    record { by_long = λ terms long. no_unifier_is_final maxidx ps ready h terms long.substitution; by_any = no_unifier_is_final maxidx ps ready h }
answer-final maxidx ps (Err Steps) ready h = tt
answer-final maxidx ps (Err Big) ready h = tt
answer-final maxidx ps (Err Memory) ready h = tt
answer-final maxidx ps (Err (SchematicType i)) ready h = tt
answer-final maxidx ps (Err (NotPattern i)) ready h = tt
