-- A lemma has one answer.
use Rattle.std.proofs.Common.{◌≡◌, ◌∙◌, List, [], ◌∷◌, inl, inr, refl, sym, ap, subst}
use Rattle.std.specs.Prelude.{◌⊎◌}
use Rattle.pure_text.specs.Lists.{IsIn}
use Rattle.pure_definitions.specs.Terms.Term.{Term}
use Rattle.pure_lookup.specs.Meaning.{built_texts}
use Rattle.pure_term_laws.proofs.EtaLaws.{one_long_form}
use Rattle.pure_unify_definitions.specs.Fronts.{pair}
use Rattle.pure_pattern_laws.specs.Answers.{IsPatternAnswer}
use Rattle.pure_pattern_laws.proofs.OnceLaws.{one_answer}
use Rattle.pure_find.specs.declared.standing.Standing.{Standing}
use Rattle.pure_find.specs.Facts.{Fact, facts_of}
use Rattle.pure_find.specs.Standings.{IsStanding, asked, lacking, standing_by, LacksLongForm, IsLongWithin}
use Rattle.pure_find.specs.Answers.{AreStandings}
use Rattle.pure_find.specs.Lines.{found_text, is_clean}
use Rattle.pure_find.specs.Findings.{IsTidyProposition}
use Rattle.pure_find.specs.Laws.{FoundOnce, BuiltAreNamed}
use Rattle.pure_find.proofs.BuiltLaws.{facts-tidy}
use Rattle.pure_find.proofs.LongPropositions.{long-proposition, ready-pair}
use Rattle.pure_find.proofs.NamedLaws.{states-tidy, tidy-statement}

lacks-none : (P C p c : Term) → IsLongWithin P p → IsLongWithin C c → LacksLongForm P ⊎ LacksLongForm C → ⊥
lacks-none P C p c h k (inl none) = none p h
lacks-none P C p c h k (inr none) = none c k

standing-once : (P C : Term) → IsTidyProposition P → IsTidyProposition C → (s r : Standing) → IsStanding P C s → IsStanding P C r → s ≡ r
standing-once P C tidy statement s r (asked {p = p} {c = c} {answer = a} h k is stands) (asked {p = q} {c = d} {answer = b} i l also others) =
    let first : q ≡ p = one_long_form P q p i.0 h.0 in
    let second : d ≡ c = one_long_form C d c l.0 k.0 in
    let here : IsPatternAnswer 0 (pair p c ∷ []) b = subst (λ (x : Term × Term). IsPatternAnswer 0 (pair x.0 x.1 ∷ []) b) (λ j. (first j, second j)) also in
    let ready = ready-pair p c (long-proposition P p tidy h.0) (long-proposition C c statement k.0) (pair p c ∷ []) refl in
    let same : a ≡ b = one_answer 0 (pair p c ∷ []) ready a b is here in
    stands ∙ (ap standing_by same ∙ sym others)
standing-once P C tidy statement s r (asked {p = p} {c = c} h k is stands) (lacking none) = absurd (lacks-none P C p c h k none)
standing-once P C tidy statement s r (lacking none) (asked {p = p} {c = c} h k is stands) = absurd (lacks-none P C p c h k none)
standing-once P C tidy statement s r (lacking none) (lacking also) = refl

standings-once : (C : Term) → IsTidyProposition C → (fs : List Fact) → ((f : Fact) → IsIn f fs → IsTidyProposition f.prop) → (ss rs : List Standing) → AreStandings C fs ss → AreStandings C fs rs → ss ≡ rs
standings-once C statement [] tidy [] [] h k = refl
standings-once C statement [] tidy (s ∷ ss) rs h k = absurd h
standings-once C statement [] tidy [] (r ∷ rs) h k = absurd k
standings-once C statement (f ∷ fs) tidy [] rs h k = absurd h
standings-once C statement (f ∷ fs) tidy (s ∷ ss) [] h k = absurd k
standings-once C statement (f ∷ fs) tidy (s ∷ ss) (r ∷ rs) h k =
    (λ i. standing-once f.prop C (tidy f (inl refl)) statement s r h.0 k.0 i ∷ standings-once C statement fs (λ g there. tidy g (inr there)) ss rs h.1 k.1 i)

pub found_once : FoundOnce
found_once texts f p content text other clean also a b =
    let same : a.standings ≡ b.standings = standings-once f.fixed (tidy-statement texts f p) (facts_of texts f.content) (facts-tidy texts f.content (states-tidy f.content content p.tidy)) a.standings b.standings a.are b.are in (
      a.text_is ∙ (ap (found_text (facts_of texts f.content)) same ∙ sym b.text_is),
      a.clean_is ∙ (ap is_clean same ∙ sym b.clean_is),
    )

pub built_are_named : BuiltAreNamed
unfolding built_texts
built_are_named = refl
