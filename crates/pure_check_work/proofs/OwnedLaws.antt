-- Each promise is of the theory and of the command that the label of its lemma has.
use Rattle.std.proofs.Common.{◌≡◌, ℕ, length, take, refl, sym}
use Rattle.pure_table.specs.Method.Outcome.{IsOutcomeOf}
use Rattle.pure_table.proofs.SessionMeaning.LabelLaws.{fork-theory}
use Rattle.pure_core_end.specs.Promises.{promises_of}
use Rattle.pure_core_end.specs.Places.{IsPlaced}
use Rattle.pure_core_end.proofs.BeforeLaws.{goals-forked}
use Rattle.pure_check_work.specs.Relations.{shape_of, ForksAfter, ClosesAfter, is_fault}
use Rattle.pure_check_work.specs.Owned.{PromisesAreOwned}

pub promises_are_owned : PromisesAreOwned
promises_are_owned texts theories loaded s legal number p stands =
    let others : ℕ = length (promises_of p.theory (take number s.promises)) in
    let placed : IsPlaced s.promises number p.theory others = record { promise = p; stands = stands; theory_is = refl; count = refl } in
    let fork : ForksAfter texts theories p.theory others p.command p.goal =
    goals-forked (shape_of theories) (ForksAfter texts theories) (ClosesAfter texts theories) (IsOutcomeOf texts) is_fault s legal number p.theory others placed in
    record { theory_is = sym (fork-theory texts theories p.theory others p.goal fork.lemma); command_is = fork.command_is }
