use Rattle.std.proofs.Common.{◌∙◌, ap}
use Rattle.clap.specs.Simple.{App}
use Rattle.pure_words.specs.Line.{with_made}
use Rattle.pure_words.specs.declared.table.Subcommand.TheVariants.{Check, Generate, Places, Axioms, Graph, Show, Replay, Find, Try}
use Rattle.pure_words.proofs.line.line.Goals as goal

pub returns : goal.returns
returns c =
    c.in_ok-command-9.ensures ∙ ap (λ (a : App). with_made a Try)
    (c.in_ok-command-8.ensures ∙ ap (λ (a : App). with_made a Find)
    (c.in_ok-command-7.ensures ∙ ap (λ (a : App). with_made a Replay)
    (c.in_ok-command-6.ensures ∙ ap (λ (a : App). with_made a Show)
    (c.in_ok-command-5.ensures ∙ ap (λ (a : App). with_made a Graph)
    (c.in_ok-command-4.ensures ∙ ap (λ (a : App). with_made a Axioms)
    (c.in_ok-command-3.ensures ∙ ap (λ (a : App). with_made a Places)
    (c.in_ok-command-2.ensures ∙ ap (λ (a : App). with_made a Generate)
    (c.in_ok-command.ensures ∙ ap (λ (a : App). with_made a Check) c.bare.ensures))))))))
