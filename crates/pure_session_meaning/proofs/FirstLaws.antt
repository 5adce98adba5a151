-- Where no command has haves, theories become what they became before.
use Rattle.std.proofs.Common.{◌≡◌, ℕ, List, [], ◌∷◌, ◌++◌, map, length, refl, sym, ap, ◌∙◌, subst, inl, inr, length-append, arith}
use Rattle.pure_text.specs.Lists.{IsIn, Each}
use Rattle.pure_text.proofs.ListLaws.{each_at, in-append_right}
use Rattle.pure_definitions.specs.Names.{Label}
use Rattle.pure_grammar.specs.Theories.TheoryText.{Span, Step, Have, Command, Class, TypeDecl, Arity, Const, Axiom, Definition, Lemma}
use Rattle.pure_logic.specs.Content.{Content}
use Rattle.pure_graph.specs.Order.{Loaded}
use Rattle.pure_session_laws.specs.Declare.Notes.{Note, Fork}
use Rattle.pure_session_laws.specs.Declare.Commands.{Place}
use Rattle.pure_session_laws.specs.Declare.Parts.{Part, Whole, Within, End}
use Rattle.pure_session_laws.specs.Declare.Fold.{HasParts, AreParts}
use Rattle.pure_session_laws.specs.Declare.Plain.{IsPlain}
use Rattle.pure_session_laws.specs.Declare.Bound.{IsNamedBy}
use Rattle.pure_session_laws.proofs.Declare.PlainLaws.{are_declared_plain}
use Rattle.pure_session_laws.specs.Loaded.{IsLoadedSession}
use Rattle.pure_session_laws.proofs.FollowingLaws.{at-in}
use Rattle.pure_session_meaning.specs.Verdicts.{Verdict, IsTheoryAt, Closes, barred, ran, AllClose, nothing, also}
use Rattle.pure_session_meaning.specs.Steps.{command_label}
use Rattle.pure_session_meaning.specs.First as first
use Rattle.pure_session_meaning.specs.First.{HasNoHaves, ClosesAsFirst, StatementsAsFirst, IsFirstFork, ForksAsFirst}
use Rattle.pure_session_meaning.proofs.ForkLaws.{IsLeft, fork-left, left-bound}

module _ (texts : List (List ℕ)) (theories : List Loaded) (none : Each HasNoHaves theories) where
  theory-plain : (index : ℕ) (theory : Loaded) → IsTheoryAt theories index theory → Each IsPlain theory.text.commands
  theory-plain index theory is_at = each_at HasNoHaves theories none theory (at-in theories is_at.0 theory is_at.2)

  mutual
    to-first : {index : ℕ} {v : Verdict} → Closes texts theories index v → first.Closes texts theories index v
    to-first (barred is_at all is) = first.barred is_at (all-first all) is
    to-first (ran {index = index} {theory = t} {first = Q} {last = R} {notes = notes} is_at all begins declared) =
        first.ran is_at (all-first all) begins ((are_declared_plain texts t.source index 0 Q t.text.commands notes R (theory-plain index t is_at)).0 declared)

    all-first : {indexes : List ℕ} {verdicts : List Verdict} → AllClose texts theories indexes verdicts → first.AllClose texts theories indexes verdicts
    all-first nothing = first.nothing
    all-first (also c cs) = first.also (to-first c) (all-first cs)

  mutual
    from-first : {index : ℕ} {v : Verdict} → first.Closes texts theories index v → Closes texts theories index v
    from-first (first.barred is_at all is) = barred is_at (all-again all) is
    from-first (first.ran {index = index} {theory = t} {first = Q} {last = R} {notes = notes} is_at all begins declared) =
        ran is_at (all-again all) begins ((are_declared_plain texts t.source index 0 Q t.text.commands notes R (theory-plain index t is_at)).1 declared)

    all-again : {indexes : List ℕ} {verdicts : List Verdict} → first.AllClose texts theories indexes verdicts → AllClose texts theories indexes verdicts
    all-again first.nothing = nothing
    all-again (first.also c cs) = also (from-first c) (all-again cs)

pub closes_as_first : ClosesAsFirst
closes_as_first texts theories none index v = (to-first texts theories none, from-first texts theories none)

pub statements_as_first : StatementsAsFirst
statements_as_first texts theories none notes = (
  λ s. record { verdicts = s.verdicts; are = λ place v at. to-first texts theories none (s.are place v at); all = s.all; notes_are = s.notes_are },
  λ s. record { verdicts = s.verdicts; are = λ place v at. from-first texts theories none (s.are place v at); all = s.all; notes_are = s.notes_are },
)

-- Of one part none was passed before.
only-part : (passed ahead : List Part) (part only : Part) → passed ++ part ∷ ahead ≡ only ∷ [] → passed ≡ []
only-part [] ahead part only e = refl
only-part (p ∷ ps) ahead part only e = absurd (omega (arith, ap length e, length-append ps (part ∷ ahead)))

-- A part that binds is a lemma's own end.
is-end : (passed ahead : List Part) (part : Part) (x : List ℕ) (span : Span) (script : List Step) → passed ++ part ∷ ahead ≡ End x span script ∷ [] → part ≡ End x span script
is-end [] ahead part x span script e = cc
is-end (p ∷ ps) ahead part x span script e = absurd (omega (arith, ap length e, length-append ps (part ∷ ahead)))

is-whole : (passed ahead : List Part) (part : Part) (command : Command) → passed ++ part ∷ ahead ≡ Whole command ∷ [] → part ≡ Whole command
is-whole [] ahead part command e = cc
is-whole (p ∷ ps) ahead part command e = absurd (omega (arith, ap length e, length-append ps (part ∷ ahead)))

-- A command without haves has one part, itself or its end.
pub data IsOnePart (command : Command) (parts : List Part) : Type 0 where
  as_whole : parts ≡ Whole command ∷ [] → IsOnePart command parts
  as_end : (x : List ℕ) (span : Span) (script : List Step) → parts ≡ End x span script ∷ [] → IsOnePart command parts

one-part : (P : Place) (command : Command) (parts : List Part) → IsPlain command → HasParts P command parts → IsOnePart command parts
one-part P (Class x above) parts plain h = as_whole h
one-part P (TypeDecl x params) parts plain h = as_whole h
one-part P (Arity con domains class) parts plain h = as_whole h
one-part P (Const x typ) parts plain h = as_whole h
one-part P (Axiom x prop) parts plain h = as_whole h
one-part P (Definition x typ prop) parts plain h = as_whole h
one-part P (Lemma x span haves script) parts plain (inl h) = as_end x span script (h.1 ∙ ap (λ (hs : List Have). map (Within x) hs ++ End x span script ∷ []) plain)
one-part P (Lemma x span haves script) parts plain (inr h) = as_whole h

none-left : (texts : List (List ℕ)) (source : List ℕ) (label : Label) (Q R : Content) (passed : List Part) (notes : List Note) → passed ≡ [] → AreParts texts source label 0 Q passed notes R → length notes ≡ 0
none-left texts source label Q R [] notes e h = ap length h.0
none-left texts source label Q R (p ∷ ps) notes e h = absurd (cc)

own-lemma : (texts : List (List ℕ)) (theory : List ℕ) (part other : Part) (f : Fork) → part ≡ other → IsNamedBy texts theory part f → IsNamedBy texts theory other f
own-lemma texts theory part other f e h = subst (λ (p : Part). IsNamedBy texts theory p f) e h

module _ (texts : List (List ℕ)) (theories : List Loaded) (session : IsLoadedSession texts theories) (index : ℕ) (notes : List Note) (f : Fork) (left : IsLeft texts theories index notes f) where
  first-fork : IsOnePart left.command (left.amid.passed ++ left.part ∷ left.amid.ahead) → IsFirstFork f
  first-fork (as_whole e) =
      let bound = left-bound texts theories session index notes f left in
      absurd (own-lemma texts bound.theory left.part (Whole left.command) f (is-whole left.amid.passed left.amid.ahead left.part left.command e) bound.named)
  first-fork (as_end x span script e) =
      let bound = left-bound texts theories session index notes f left in
      record {
        part = ap (λ (l : Label). l.part) bound.label_is ∙ none-left texts left.run.theory.source (command_label index (length left.run.done)) left.before left.now left.amid.passed left.inner (only-part left.amid.passed left.amid.ahead left.part (End x span script) e) left.amid.are;
        lemma = (own-lemma texts bound.theory left.part (End x span script) f (is-end left.amid.passed left.amid.ahead left.part x span script e) bound.named).1;
      }

  left-plain : Each HasNoHaves theories → IsPlain left.command
  left-plain none =
      each_at IsPlain left.run.theory.text.commands (theory-plain texts theories none index left.run.theory left.run.is_at) left.command
      (subst (λ (cs : List Command). IsIn left.command cs) (sym left.run.commands) (in-append_right left.command left.run.done (left.command ∷ left.left) (inl refl)))

pub forks_as_first : ForksAsFirst
forks_as_first texts theories session none f some =
    let left = fork-left texts theories some.0 some.1 f some.2 in
    first-fork texts theories session some.0 some.2.notes f left (one-part _ left.command (left.amid.passed ++ left.part ∷ left.amid.ahead) (left-plain texts theories session some.0 some.2.notes f left none) left.amid.has)
