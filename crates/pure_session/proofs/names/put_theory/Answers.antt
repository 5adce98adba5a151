use Rattle.pure_text.specs.Lists.{IsIn, AnyOf}
use Rattle.pure_script.specs.Seen.{seen_commands}
use Rattle.pure_graph.specs.SessionNames.{IsSpelled, full_names}
use Rattle.pure_session.proofs.SetLemmas.{gains-then}
use Rattle.pure_session.proofs.names.put_theory.Goals as goal

pub returns : goal.returns
returns c =
    rw (c.bytes.ensures, c.as_slice.ensures.value) at
    (gains-then c.args.texts.now c.put_source.new.texts c.put_commands.new.texts (IsSpelled c.bytes.result.now) (λ t. AnyOf (λ command. IsIn t (full_names c.args.loaded.now.name command)) (seen_commands c.as_slice.result.now))
    c.in_ok-put_source.ensures c.in_ok-put_commands.ensures)
