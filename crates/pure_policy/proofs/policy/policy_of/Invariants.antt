use Rattle.std.proofs.Common.{◌≡◌, ◌++◌, drop}
use Rattle.std.specs.List.{filter_map}
use Rattle.pure_session.specs.Waiting.{all_loaded}
use Rattle.pure_policy.specs.Policy.{cancel_of}
use Rattle.pure_policy.proofs.policy.policy_of.Given as goal

abbrev pub invariant-loop-cancel : goal.invariant-loop-cancel
invariant-loop-cancel l = l.list.items ++ filter_map (cancel_of (all_loaded l.theories)) (drop l.cancel-index l.cancels) ≡ filter_map (cancel_of (all_loaded l.theories)) l.cancels
