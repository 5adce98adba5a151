-- What the call that runs a proof is given, and what it answers.
use Rattle.std.specs.Prelude.{◌≡◌, ◌≤◌, ℕ, List, Bool, true, false, count_by, Ok, Err}
use Rattle.pure_grammar.specs.Theories.TheoryText.{Step, Close}
use Rattle.pure_logic.specs.Content.{IsProposition}
use Rattle.pure_lookup.specs.Laws.{IsInSession}
use Rattle.pure_declare.specs.Notes.{Fork}
use Rattle.pure_declare.specs.Tidy.{IsTidy, IsTidyFork}
use Rattle.pure_method.specs.Facts.{theorem}
use Rattle.pure_method.specs.Proof.{IsProofIn}
use Rattle.pure_method.specs.Outcomes.{IsScript}
use Rattle.pure_method.specs.declared.outcome.Outcome.{Outcome}
use Rattle.pure_method.specs.declared.outcome.Outcome.TheVariants.{Proved, Fault}

-- each step has a number but that which closes subgoals
abbrev pub is_numbered : Step → Bool
is_numbered Close = false
is_numbered _ = true

-- What a proof is run on: a lemma over a content of a session, whose facts are as commands store them, and so is the lemma's statement, which is a proposition of the content. The last step of its script is the end, and no other is; and at most 1000 of its steps have numbers.
pub record IsProvable (texts : List (List ℕ)) (f : Fork) : Type 0 where
  pub in_session : IsInSession texts f.content
  pub tidy : IsTidy f.content
  pub statement : IsTidyFork f
  pub proposition : IsProposition f.content f.fixed
  pub script : IsScript f.script
  pub few : count_by is_numbered f.script ≤ 1000

-- The call's value is what comes of the lemma's proof, whose steps look facts up in the lemma that it is or stands in. Where the lemma is proved, it is the lemma's theorem, with its content: its statement with schematic variables, without hypotheses and pairs, which rests on the promises that the proof's steps name.
abbrev pub IsOutcomeOf : (texts : List (List ℕ)) → Fork → Outcome → Type 0
IsOutcomeOf texts f (Proved c) = IsProofIn texts f.content f.lemma f.fixed f.script (Ok c.theorem.rests) × (c ≡ record { content = f.content; theorem = theorem f.prop c.theorem.rests })
IsOutcomeOf texts f (Fault step fault) = IsProofIn texts f.content f.lemma f.fixed f.script (Err (record { step = step; fault = fault }))
