use Rattle.pure_text.specs.Lists.{IsIn}
use Rattle.pure_script.specs.Seen.{seen_command}
use Rattle.pure_graph.specs.SessionNames.{full_names}
use Rattle.pure_session.proofs.SetLemmas.{gains-nothing, gains-turn, gains-end, gains-mapped}
use Rattle.pure_session.proofs.names.put_commands.Goals as goal

pub loop-command-init : goal.loop-command-init
loop-command-init c = gains-nothing c.args.texts.now _ (λ t n. n)

pub loop-command-preserved : goal.loop-command-preserved
loop-command-preserved c =
    gains-turn c.args.texts.now c.loop-command.texts c.put_command.new.texts (λ t command. IsIn t (full_names c.args.theory.now (seen_command command))) c.args.commands.now c.loop-command.command-index _
    c.loop-command-test.true c.command-item.is c.loop-command.invariant c.in_ok-put_command.ensures

pub returns : goal.returns
returns c =
    gains-mapped c.args.texts.now c.loop-command.texts (λ t command. IsIn t (full_names c.args.theory.now command)) seen_command c.args.commands.now
    (gains-end c.args.texts.now c.loop-command.texts (λ t command. IsIn t (full_names c.args.theory.now (seen_command command))) c.args.commands.now c.loop-command.command-index c.loop-command-test.false c.loop-command.invariant)
