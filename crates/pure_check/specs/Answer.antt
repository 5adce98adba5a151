-- What the program answers, and what it writes.
use Rattle.std.specs.Prelude.{◌≡◌, ◌⊎◌, ℕ, Bool, true, false, List, Option}
use Rattle.pure_io.specs.Outside.{Appends, AppendsProperPrefix}
use Rattle.pure_check.specs.declared.status.Status.{Status}
use Rattle.pure_check.specs.declared.status.Status.TheVariants.{Clean, Rows, Usage, ReadFault, WriteFault, Memory}

-- The whole of such a text was written, which is clean or isn't.
pub record WroteAll (IsMeaning : (text : List ℕ) → (clean : Bool) → Type 0) (clean : Bool) (old new : Option (List ℕ)) : Type 0 where
  pub text : List ℕ
  pub meaning : IsMeaning text clean
  pub written : Appends old new text

-- A proper part of such a text was written, from its beginning.
pub record WrotePart (IsMeaning : (text : List ℕ) → (clean : Bool) → Type 0) (old new : Option (List ℕ)) : Type 0 where
  pub text : List ℕ
  pub clean : Bool
  pub meaning : IsMeaning text clean
  pub written : AppendsProperPrefix old new text

-- what was written, by the status
abbrev pub WroteAnswer : Status → (IsMeaning : (text : List ℕ) → (clean : Bool) → Type 0) → (old new : Option (List ℕ)) → Type 0
WroteAnswer Clean IsMeaning old new = WroteAll IsMeaning true old new
WroteAnswer Rows IsMeaning old new = WroteAll IsMeaning false old new
WroteAnswer WriteFault IsMeaning old new = WrotePart IsMeaning old new
WroteAnswer Usage IsMeaning old new = new ≡ old
WroteAnswer ReadFault IsMeaning old new = new ≡ old
WroteAnswer Memory IsMeaning old new = new ≡ old

-- the words asked for no job, or memory ran out before they were read
abbrev pub IsUntaken : Status → Type 0
IsUntaken status = (status ≡ Usage) ⊎ (status ≡ Memory)

-- the work was done to its end, or memory ran out
abbrev pub IsComplete : Status → Type 0
IsComplete Clean = Unit {0}
IsComplete Rows = Unit {0}
IsComplete Memory = Unit {0}
IsComplete Usage = ⊥
IsComplete ReadFault = ⊥
IsComplete WriteFault = ⊥

-- a fact for the statuses with which nothing was written
abbrev pub OnSilent : Status → Type 0 → Type 0
OnSilent Clean P = Unit {0}
OnSilent Rows P = Unit {0}
OnSilent WriteFault P = Unit {0}
OnSilent Usage P = P
OnSilent ReadFault P = P
OnSilent Memory P = P

-- the status as the program's exit status
abbrev pub exit_number : Status → ℕ
exit_number Clean = 0
exit_number Rows = 1
exit_number Usage = 2
exit_number ReadFault = 3
exit_number WriteFault = 4
exit_number Memory = 5
