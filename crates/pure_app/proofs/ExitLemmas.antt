-- From what the program's run says of its status to what its exit tells.
use Rattle.std.proofs.Common.{◌≡◌, ◌≢◌, ℕ, List, Option, Result, Ok, Err, IfOk, IfErr, ◌∙◌, ap}
use Rattle.pure_io.specs.declared.library.File as library
use Rattle.pure_check.specs.Answer.{IsUntaken, IsComplete, OnSilent, exit_number}
use Rattle.pure_check.specs.Asked.{IsLooking, IsTaken}
use Rattle.pure_check.specs.declared.status.Status.{Status}
use Rattle.pure_check.specs.declared.status.Status.TheVariants.{Usage, ReadFault, WriteFault}
use Rattle.pure_app.specs.Exit.{IsExit, IsStatus}
use Rattle.pure_app.specs.Written.{IsWritten}

-- where the system gave no arguments
pub exit-unread : {A E : Type 0} (args : Result A E) (status : Status) (unread : E → Status) (number : ℕ) → number ≡ exit_number status → IfErr args (λ error. status ≡ unread error) → IfErr args (λ error. number ≡ exit_number (unread error))
exit-unread (Ok given) status unread number is h = tt
exit-unread (Err error) status unread number is h = is ∙ ap exit_number h

-- and where it gave some
pub exit-given : {A E : Type 0} (args : Result A E) (words : A → List (List ℕ)) (status : Status) (told : Option (List library.File)) (IsUnlooked IsUnwritten ReadRose WriteRose : Type 0) (old new : Option (List ℕ)) (number : ℕ) → number ≡ exit_number status
    → IfOk args (λ given. IsTaken (words given) → status ≢ Usage)
    → IfOk args (λ given. ¬ IsTaken (words given) → IsUntaken status)
    → IfOk args (λ given. ¬ IsLooking (words given) → IsUnlooked × (status ≢ ReadFault))
    → OnSilent status IsUnwritten
    → IfOk args (λ given. IsWritten status told (words given) old new)
    → (status ≡ ReadFault → ReadRose) → (status ≡ WriteFault → WriteRose)
    → IfOk args (λ given. IsTaken (words given) → (IsLooking (words given) → ¬ ReadRose) → ¬ WriteRose → IsComplete status)
    → IfOk args (λ given. IsExit (IsStatus (words given) told IsUnlooked IsUnwritten ReadRose WriteRose old new) number)
exit-given (Ok given) words status told IsUnlooked IsUnwritten ReadRose WriteRose old new number is usage untaken unlooked unwritten wrote read_fault write_fault complete = record {
  status = status;
  such = record { usage = usage; untaken = untaken; unlooked = unlooked; unwritten = unwritten; wrote = wrote; read_fault = read_fault; write_fault = write_fault; complete = complete };
  number_is = is;
}
exit-given (Err error) words status told IsUnlooked IsUnwritten ReadRose WriteRose old new number is usage untaken unlooked unwritten wrote read_fault write_fault complete = tt
