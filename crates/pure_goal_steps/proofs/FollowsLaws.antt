-- One outcome at most follows from an attempt, and from attempts.
use Rattle.std.proofs.Common.{◌≡◌, ℕ, List, [], ◌∷◌, Ok, Err, refl, ap, sym, subst, ◌∙◌}
use Rattle.pure_definitions.specs.Types.Order.{Algebra}
use Rattle.pure_definitions.specs.Terms.Term.{Term, IsWithin}
use Rattle.pure_logic.proofs.ConclusionLaws.{one_under_pairs}
use Rattle.pure_order_tables.specs.Classes.{IsAntisymmetric}
use Rattle.pure_unify_definitions.specs.LongSides.{Stop}
use Rattle.pure_unify_definitions.specs.Search as search
use Rattle.pure_unify_definitions.specs.Search.{Answer, Unified, Stopped}
use Rattle.pure_unify_laws.proofs.OneSides.{stop-once, form-once, form-not-stop}
use Rattle.pure_unify_laws.proofs.OneSearch.{search_has_one_answer}
use Rattle.pure_goal_steps.specs.State.{State, IsSmall, IsLarge}
use Rattle.pure_goal_steps.specs.Follows.{Outcome, stop_fault, Forms, AllLong, Halted, Come, no_more, first_stops, later_stops, all_long, Becomes, halted, large, small, Attempt, unified_pairs, Follows, FollowsBy, FollowsByFirst, none, passed, decided}

halted-same : (s r : Stop) → Halted s ≡ Halted r → s ≡ r
halted-same s r e = cc

all-long-same : (us vs : List Term) → AllLong us ≡ AllLong vs → us ≡ vs
all-long-same us vs e = cc

halted-not-long : (s : Stop) (us : List Term) → Halted s ≡ AllLong us → ⊥
halted-not-long s us e = absurd (cc)

pub come-once : (As : List Term) (one other : Forms) → Come As one → Come As other → one ≡ other
come-once [] one other no_more no_more = refl
come-once (A ∷ As) one other (first_stops {s = s} f) (first_stops {s = r} g) = ap Halted (stop-once A s r f g)
come-once (A ∷ As) one other (first_stops {s = s} f) (later_stops {S = S} g h) = absurd (form-not-stop A S s g f)
come-once (A ∷ As) one other (first_stops {s = s} f) (all_long {S = S} g h) = absurd (form-not-stop A S s g f)
come-once (A ∷ As) one other (later_stops {S = S} f k) (first_stops {s = r} g) = absurd (form-not-stop A S r f g)
come-once (A ∷ As) one other (later_stops {s = s} f k) (later_stops {s = r} g h) = come-once As (Halted s) (Halted r) k h
come-once (A ∷ As) one other (later_stops {s = s} f k) (all_long {Ss = Ss} g h) = absurd (halted-not-long s Ss (come-once As (Halted s) (AllLong Ss) k h))
come-once (A ∷ As) one other (all_long {S = S} f k) (first_stops {s = r} g) = absurd (form-not-stop A S r f g)
come-once (A ∷ As) one other (all_long {Ss = Ss} f k) (later_stops {s = r} g h) = absurd (halted-not-long r Ss (sym (come-once As (AllLong Ss) (Halted r) k h)))
come-once (A ∷ As) one other (all_long {S = S} {Ss = Ss} f k) (all_long {S = T} {Ss = Ts} g h) =
    λ i. AllLong (form-once A S T f g i ∷ all-long-same Ss Ts (come-once As (AllLong Ss) (AllLong Ts) k h) i)

small-not-large : (s : State) → IsSmall s → IsLarge s → ⊥
small-not-large s (p, f, w) (q, g, wide) = wide (subst IsWithin (one_under_pairs s.pairs _ p q f g) w)

-- What a state becomes, by what its subgoals come to.
data Turns (made : State) (outcome : Outcome) : Type 0 where
  stops : (s : Stop) → Come made.subgoals (Halted s) → outcome ≡ Err (stop_fault s) → Turns made outcome
  turns_large : (Ss : List Term) → Come made.subgoals (AllLong Ss) → IsLarge (record made { subgoals = Ss }) → outcome ≡ Err Rattle.pure_goal_steps.specs.declared.fault.StepFault.TheVariants.Big → Turns made outcome
  turns_small : (Ss : List Term) → Come made.subgoals (AllLong Ss) → IsSmall (record made { subgoals = Ss }) → outcome ≡ Ok (record made { subgoals = Ss }) → Turns made outcome

turned : {made : State} {outcome : Outcome} → Becomes made outcome → Turns made outcome
turned (halted {s = s} h) = stops s h refl
turned (large {Ss = Ss} h w) = turns_large Ss h w refl
turned (small {Ss = Ss} h w) = turns_small Ss h w refl

turns-once : (made : State) (one other : Outcome) → Turns made one → Turns made other → one ≡ other
turns-once made one other (stops s f e) (stops r g d) = e ∙ (ap (λ (t : Stop). Err (stop_fault t)) (halted-same s r (come-once made.subgoals (Halted s) (Halted r) f g)) ∙ sym d)
turns-once made one other (stops s f e) (turns_large Ss g w d) = absurd (halted-not-long s Ss (come-once made.subgoals (Halted s) (AllLong Ss) f g))
turns-once made one other (stops s f e) (turns_small Ss g w d) = absurd (halted-not-long s Ss (come-once made.subgoals (Halted s) (AllLong Ss) f g))
turns-once made one other (turns_large Ss f w e) (stops r g d) = absurd (halted-not-long r Ss (come-once made.subgoals (Halted r) (AllLong Ss) g f))
turns-once made one other (turns_large Ss f w e) (turns_large Ts g v d) = e ∙ sym d
turns-once made one other (turns_large Ss f w e) (turns_small Ts g v d) =
    let same = all-long-same Ts Ss (come-once made.subgoals (AllLong Ts) (AllLong Ss) g f) in
    absurd (small-not-large (record made { subgoals = Ss }) (subst (λ (Us : List Term). IsSmall (record made { subgoals = Us })) same v) w)
turns-once made one other (turns_small Ss f w e) (stops r g d) = absurd (halted-not-long r Ss (come-once made.subgoals (Halted r) (AllLong Ss) g f))
turns-once made one other (turns_small Ss f w e) (turns_large Ts g v d) =
    let same = all-long-same Ss Ts (come-once made.subgoals (AllLong Ss) (AllLong Ts) f g) in
    absurd (small-not-large (record made { subgoals = Ts }) (subst (λ (Us : List Term). IsSmall (record made { subgoals = Us })) same w) v)
turns-once made one other (turns_small Ss f w e) (turns_small Ts g v d) =
    e ∙ (ap (λ (Us : List Term). Ok (record made { subgoals = Us })) (all-long-same Ss Ts (come-once made.subgoals (AllLong Ss) (AllLong Ts) f g)) ∙ sym d)

pub becomes-once : (made : State) (one other : Outcome) → Becomes made one → Becomes made other → one ≡ other
becomes-once made one other f g = turns-once made one other (turned f) (turned g)

pub follows-once : (s : State) (others : List Term) (a : Attempt) (answer : Answer) (one other : Outcome) → Follows s others a answer one → Follows s others a answer other → one ≡ other
follows-once s others a (Unified u) one other f g = becomes-once _ one other f g
follows-once s others a search.NoUnifier one other f g = f ∙ sym g
follows-once s others a search.SearchBound one other f g = f ∙ sym g
follows-once s others a (Stopped r) one other f g = f ∙ sym g

module _ (A : Algebra) (anti : IsAntisymmetric A) (maxidx : ℕ) (s : State) (others : List Term) where
  pub followed-once : (a : Attempt) (one other : Outcome) → FollowsBy A maxidx s others a one → FollowsBy A maxidx s others a other → one ≡ other
  followed-once a one other f g =
      let same : f.answer ≡ g.answer = search_has_one_answer A anti maxidx (unified_pairs s a) f.answer g.answer f.unified g.unified in
      follows-once s others a f.answer one other f.follows (subst (λ (answer : Answer). Follows s others a answer other) (sym same) g.follows)

  pub first-once : (attempts : List Attempt) (one other : Outcome) → FollowsByFirst A maxidx s others attempts one → FollowsByFirst A maxidx s others attempts other → one ≡ other
  first-once [] one other none none = refl
  first-once (a ∷ rest) one other (passed u f) (passed v g) = first-once rest one other f g
  first-once (a ∷ rest) one other (passed u f) (decided {answer = answer} v n g) = absurd (n (search_has_one_answer A anti maxidx (unified_pairs s a) answer search.NoUnifier v u))
  first-once (a ∷ rest) one other (decided {answer = answer} u n f) (passed v g) = absurd (n (search_has_one_answer A anti maxidx (unified_pairs s a) answer search.NoUnifier u v))
  first-once (a ∷ rest) one other (decided {answer = answer} u n f) (decided {answer = second} v m g) =
      let same : answer ≡ second = search_has_one_answer A anti maxidx (unified_pairs s a) answer second u v in
      follows-once s others a answer one other f (subst (λ (k : Answer). Follows s others a k other) (sym same) g)
