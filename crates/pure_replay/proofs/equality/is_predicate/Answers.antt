use Rattle.pure_definitions.specs.Types.Typ.{arrow, prop}
use Rattle.pure_replay.specs.Step.{plain_content}
use Rattle.pure_replay.proofs.TableLaws.{same_typ}
use Rattle.pure_replay.proofs.equality.is_predicate.Goals as goal

pub returns-in-Some : goal.returns-in-Some
returns-in-Some c =
    same_typ (plain_content c.args.declared.now) c.args.t.now c.in-Some.typ (arrow c.args.domain.now prop) c.is_predicate_typ.result (rw c.in-Some.is at c.in_ok-certified_typ.ensures) c.is_predicate_typ.ensures
