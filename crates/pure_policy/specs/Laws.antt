-- Laws of words and policies.
use Rattle.std.specs.Prelude.{◌≡◌, ◌≤◌, false, List, [], map}
use Rattle.pure_text.specs.Lists.{Each, AreDistinct}
use Rattle.pure_graph.specs.Order.{Loaded}
use Rattle.pure_policy_laws.specs.Heeded as heed
use Rattle.pure_policy_laws.specs.Heeded.{Lot}
use Rattle.pure_policy.specs.Asked.{Asked}
use Rattle.pure_policy.specs.Heeded.{IsPolicyHeeded}
use Rattle.pure_policy.specs.Policy.{policy_of}

-- What is cancelled as the policy of the words asks for is cancelled as the words do, where the theories have distinct names.
abbrev pub WordsAreHeeded : Type 0
WordsAreHeeded = (theories : List Loaded) → AreDistinct (map (λ (l : Loaded). l.name) theories) → (asked : Asked) (ls : List Lot) → heed.IsHeeded (policy_of theories asked) asked.workers ls → IsPolicyHeeded theories asked ls

-- Where no cancellation is asked for and no lemma is cancelled, that is as was asked.
abbrev pub NothingIsHeeded : Type 0
NothingIsHeeded = (theories : List Loaded) (asked : Asked) (ls : List Lot) → asked.fail_fast ≡ false → asked.cancels ≡ [] → 1 ≤ asked.workers → Each (λ (l : Lot). l.gone ≡ false) ls → IsPolicyHeeded theories asked ls

-- Where no cancellation is asked for, no lemma is cancelled.
abbrev pub NothingIsCancelled : Type 0
NothingIsCancelled = (theories : List Loaded) (asked : Asked) (ls : List Lot) → asked.fail_fast ≡ false → asked.cancels ≡ [] → IsPolicyHeeded theories asked ls → Each (λ (l : Lot). l.gone ≡ false) ls
