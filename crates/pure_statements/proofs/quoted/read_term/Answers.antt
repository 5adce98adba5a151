use Rattle.pure_script.specs.Seen.{span}
use Rattle.pure_statements.proofs.ChainLaws.{answers-failed}
use Rattle.pure_statements.proofs.QuotedLaws.{term-read, term-refused}
use Rattle.pure_statements.proofs.quoted.read_term.Goals as goal

pub returns-in_err-found : goal.returns-in_err-found
returns-in_err-found c = answers-failed _ _ _ c.from_residual.result c.in_err-found.ensures.failed c.from_residual.ensures.1

pub returns-in-Ok : goal.returns-in-Ok
returns-in-Ok c =
    term-read c.args.source.now (span c.args.at) c.as_slice.result.now c.in_ok-found.found.items c.as_slice.ensures.value c.in_ok-found.ensures.ok
    c.read_raw.result c.in-Ok.raw c.in-Ok.is c.read_raw.ensures.too_long c.in-Ok.ensures.ok

pub returns : goal.returns
returns c =
    term-refused c.args.source.now (span c.args.at) c.as_slice.result.now c.in_ok-found.found.items c.as_slice.ensures.value c.in_ok-found.ensures.ok
    c.read_raw.result c.in-Err.fault c.failed_reading.result c.in-Err.is c.read_raw.ensures.too_long c.in-Err.ensures.fault c.failed_reading.ensures
