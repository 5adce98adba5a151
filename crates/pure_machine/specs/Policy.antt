-- What a machine is opened with: the theories by the numbers of their parents, and when groups of promises are cancelled (Wenzel, Parallel Proof Checking in Isabelle/Isar, 2009).
use Rattle.pure_machine.specs.declared.policy.Group.{Group}
use Rattle.pure_machine.specs.declared.policy.Cancel.{Cancel}
use Rattle.std.specs.Prelude.{ℕ, nat_eq, List, [], ◌∷◌, ◌++◌, Bool, if◌then◌else◌}

-- when groups are cancelled: the session when the first fault is kept, where `fail_fast` says so, and the groups that are listed
pub record Policy : Type 0 where
  pub fail_fast : Bool
  pub cancels : List Cancel

-- what a machine is opened with: the parents of each theory, of which the first has number 1, the policy, and how many workers there are
pub record Opening : Type 0 where
  pub shape : List (List ℕ)
  pub policy : Policy
  pub workers : ℕ

-- the group that a cancellation cancels when so many deliveries have been kept, if it does
abbrev pub due_one : Cancel → (kept : ℕ) → List Group
due_one c kept = if nat_eq c.after kept then (c.group ∷ []) else []

-- the groups that are cancelled when so many deliveries have been kept
abbrev pub due : List Cancel → (kept : ℕ) → List Group
due [] kept = []
due (c ∷ cs) kept = due_one c kept ++ due cs kept
