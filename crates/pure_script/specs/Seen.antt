-- A theory that was read, as contracts see it.
use Rattle.std.specs.Prelude.{ℕ, List, map}
use Rattle.std.specs.Global.{Vec}
use Rattle.pure_grammar.specs.Theories.TheoryText as tree
use Rattle.pure_script.specs.declared.theory.Span.{Span}
use Rattle.pure_script.specs.declared.theory.Step.{Step}
use Rattle.pure_script.specs.declared.theory.Step.TheVariants.{Rule, Erule, Drule, Assumption, Unfold, Prefer, Defer, Close, Done}
use Rattle.pure_script.specs.declared.theory.Have.{Have}
use Rattle.pure_script.specs.declared.theory.Command.{Command}
use Rattle.pure_script.specs.declared.theory.Command.TheVariants.{Class, TypeDecl, Arity, Const, Axiom, Definition, Lemma}
use Rattle.pure_script.specs.declared.theory.TheoryText.{TheoryText}

abbrev pub span : Span → tree.Span
span s = record { from = s.from; to = s.to }

-- the lists of a list of lists of names
abbrev pub sorts : List (Vec (List ℕ)) → List (List (List ℕ))
sorts = map (λ (v : Vec (List ℕ)). v.items)

abbrev pub seen_step : Step → tree.Step
seen_step (Rule x0) = tree.Rule x0
seen_step (Erule x0) = tree.Erule x0
seen_step (Drule x0) = tree.Drule x0
seen_step Assumption = tree.Assumption
seen_step (Unfold x0) = tree.Unfold x0
seen_step (Prefer x0) = tree.Prefer x0
seen_step Defer = tree.Defer
seen_step Close = tree.Close
seen_step Done = tree.Done

abbrev pub seen_steps : List Step → List tree.Step
seen_steps = map seen_step

abbrev pub seen_have : Have → tree.Have
seen_have h = record { name = h.name; prop = span h.prop; script = seen_steps h.script.items }

abbrev pub seen_command : Command → tree.Command
seen_command (Class x0 x1) = tree.Class x0 x1.items
seen_command (TypeDecl x0 x1) = tree.TypeDecl x0 x1
seen_command (Arity x0 x1 x2) = tree.Arity x0 (sorts x1.items) x2
seen_command (Const x0 x1) = tree.Const x0 (span x1)
seen_command (Axiom x0 x1) = tree.Axiom x0 (span x1)
seen_command (Definition x0 x1 x2) = tree.Definition x0 (span x1) (span x2)
seen_command (Lemma x0 x1 x2 x3) = tree.Lemma x0 (span x1) (map seen_have x2.items) (seen_steps x3.items)

abbrev pub seen_commands : List Command → List tree.Command
seen_commands = map seen_command

abbrev pub seen_theory : TheoryText → tree.TheoryText
seen_theory t = record { version = t.version; name = t.name; imports = t.imports.items; commands = seen_commands t.commands.items }
