-- Promises that are fulfilled, by example.
use Rattle.std.specs.Prelude.{◌≡◌, ℕ, [], ◌∷◌, ◌++◌}
use Rattle.pure_text.specs.Lists.{IsIn}
use Rattle.pure_definitions.specs.Names.{Label}
use Rattle.pure_definitions.specs.Terms.Term.{Term}
use Rattle.pure_definitions.specs.Declarations.Decl.{PromiseDecl}
use Rattle.pure_logic.specs.Connectives.{imp}
use Rattle.pure_logic.specs.Content.{Content, IsContent, IsBelow}
use Rattle.pure_logic.specs.PureContent.{pure_content, pure_declarations, proposition_variable}
use Rattle.pure_logic.specs.Derivable.{IsDerivable, IsDerivableAlone}
use Rattle.pure_logic.specs.Fulfilment.{Fulfilment, Serves, left_after, AreServing, joined, AreFulfilments, AreInOrder}
use Rattle.pure_logic.specs.Examples.Contents.{content_of}

-- the promise made by a command of a theory
abbrev pub by_command : (command : ℕ) → Label
by_command n = record { theory = 1; command = n; part = 0 }

-- `?A ==> ?A`, promised four times
abbrev pub trivial : Term
trivial = imp (proposition_variable 0) (proposition_variable 0)

abbrev pub promising : Content
promising = content_of (pure_declarations ++ PromiseDecl 51 (by_command 1) trivial ∷ PromiseDecl 52 (by_command 2) trivial ∷ PromiseDecl 53 (by_command 3) trivial ∷ PromiseDecl 54 (by_command 4) trivial ∷ [])

-- The first is proved outright, the second from the first, and the third from the fourth, which isn't fulfilled.
abbrev pub first_fulfilled : Fulfilment
first_fulfilled = record { label = by_command 1; statement = trivial; content = promising; rests = [] }

abbrev pub second_fulfilled : Fulfilment
second_fulfilled = record { label = by_command 2; statement = trivial; content = promising; rests = by_command 1 ∷ [] }

abbrev pub third_fulfilled : Fulfilment
third_fulfilled = record { label = by_command 3; statement = trivial; content = promising; rests = by_command 4 ∷ [] }

-- So a theorem that rests on the second rests on none once both are fulfilled, the latest first, and is derivable alone. In the other order the first would be left; and of the third the fourth is.
abbrev pub FulfilledExample : Type 0
FulfilledExample = IsContent promising × IsDerivable promising (record { hyps = []; pairs = []; prop = trivial; rests = by_command 2 ∷ [] })
    × AreServing promising (second_fulfilled ∷ first_fulfilled ∷ []) (by_command 2 ∷ [])
    × (left_after (second_fulfilled ∷ first_fulfilled ∷ []) (by_command 2 ∷ []) ≡ []) × IsDerivableAlone promising trivial
    × (left_after (first_fulfilled ∷ second_fulfilled ∷ []) (by_command 2 ∷ []) ≡ by_command 1 ∷ [])
    × (left_after (third_fulfilled ∷ second_fulfilled ∷ first_fulfilled ∷ []) (by_command 3 ∷ by_command 2 ∷ []) ≡ by_command 4 ∷ [])

-- The first two are joined, and the third isn't, since it reaches the fourth; nor is the second where the first isn't behind it.
abbrev pub JoinedExample : Type 0
JoinedExample = AreFulfilments (third_fulfilled ∷ second_fulfilled ∷ first_fulfilled ∷ []) × AreInOrder (third_fulfilled ∷ second_fulfilled ∷ first_fulfilled ∷ [])
    × (joined (third_fulfilled ∷ second_fulfilled ∷ first_fulfilled ∷ []) ≡ second_fulfilled ∷ first_fulfilled ∷ []) × (joined (first_fulfilled ∷ second_fulfilled ∷ []) ≡ first_fulfilled ∷ [])
    × IsDerivableAlone second_fulfilled.content second_fulfilled.statement × (¬ IsIn third_fulfilled (joined (third_fulfilled ∷ second_fulfilled ∷ first_fulfilled ∷ [])))

-- `?A ==> ?A ==> ?A`
abbrev pub weakened : Term
weakened = imp (proposition_variable 0) trivial

-- Pure's content grows by the promise of `?A ==> ?A`, and then by that of `?A ==> ?A ==> ?A`.
abbrev pub one_promise : Content
one_promise = content_of (pure_declarations ++ PromiseDecl 51 (by_command 1) trivial ∷ [])

abbrev pub two_promises : Content
two_promises = content_of (pure_declarations ++ PromiseDecl 51 (by_command 1) trivial ∷ PromiseDecl 52 (by_command 2) weakened ∷ [])

-- The first is proved over Pure's content, and the second over that of the first promise, from it.
abbrev pub trivial_fulfilled : Fulfilment
trivial_fulfilled = record { label = by_command 1; statement = trivial; content = pure_content; rests = [] }

abbrev pub weakened_fulfilled : Fulfilment
weakened_fulfilled = record { label = by_command 2; statement = weakened; content = one_promise; rests = by_command 1 ∷ [] }

-- So both serve the content of both promises, in which a theorem that rests on the second rests on none once both are fulfilled.
-- The second doesn't serve Pure's content, which isn't above its own; nor does the statement of the second, under the label of the first, serve a content in which this label promises `?A ==> ?A`.
abbrev pub GrowingExample : Type 0
GrowingExample = (¬ IsBelow one_promise pure_content) × (¬ IsBelow two_promises one_promise)
    × IsContent two_promises × IsDerivable two_promises (record { hyps = []; pairs = []; prop = weakened; rests = by_command 2 ∷ [] })
    × AreServing two_promises (weakened_fulfilled ∷ trivial_fulfilled ∷ []) (by_command 2 ∷ [])
    × (left_after (weakened_fulfilled ∷ trivial_fulfilled ∷ []) (by_command 2 ∷ []) ≡ []) × IsDerivableAlone two_promises weakened
    × (¬ Serves weakened_fulfilled pure_content) × (¬ Serves (record trivial_fulfilled { statement = weakened }) one_promise)
