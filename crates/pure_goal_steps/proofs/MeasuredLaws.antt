-- A state whose subgoals are in long form, but for new ones at the front, is decided by the measure of its one proposition alone.
use Rattle.std.proofs.Common.{◌≡◌, ◌⊎◌, ◌≤◌, List, [], ◌∷◌, ◌++◌, Ok, Err, inl, inr, refl, sym, subst, arith}
use Rattle.std.proofs.lemmas.Bool.{cases_lt}
use Rattle.pure_text.specs.Lists.{Each}
use Rattle.pure_definitions.specs.Terms.Term.{Term, term_size, term_depth, max_size, max_depth, IsWithin}
use Rattle.pure_definitions.specs.Reduction.Eta.{IsLongForm}
use Rattle.pure_logic.specs.Connectives.{imp, eq, protect, chain}
use Rattle.pure_logic.specs.Derivable.{Pair, IsUnderPairs}
use Rattle.pure_unify_definitions.specs.LongSides.{Big, Long, Ends, ComesTo, is_long, is_large}
use Rattle.pure_goal_steps.specs.State.{State, IsOneProposition}
use Rattle.pure_goal_steps.specs.Follows.{Forms, AllLong, Halted, Come, no_more, first_stops, later_stops, all_long, Becomes, halted, large, small}
use Rattle.pure_goal_steps.specs.declared.fault.StepFault.TheVariants as fault

-- A term in long form comes to itself within the limits, and else it is too large.
pub long-comes : (A : Term) → IsLongForm A A → IsWithin A → ComesTo A (Long A)
long-comes A f w = is_long (record { before = []; last = A; sequence = refl; undecided = tt; in_time = omega arith; decided = (w, f.normal, refl) }) f w

long-large : (A : Term) → ¬ IsWithin A → ComesTo A (Ends Big)
long-large A w = is_large (record { before = []; last = A; sequence = refl; undecided = tt; in_time = omega arith; decided = w })

within-or-not : (t : Term) → IsWithin t ⊎ ¬ IsWithin t
within-or-not t = elim (cases_lt max_size (term_size t)) [
  | inl wide ↦ inr (λ h. let size = h.size in omega arith)
  | inr short ↦ elim (cases_lt max_depth (term_depth t)) [ inl deep ↦ inr (λ h. let depth = h.depth in omega arith) | inr flat ↦ inl (record { size = short; depth = flat }) ]
]

pub imp-within : (A B : Term) → IsWithin (imp A B) → IsWithin A × IsWithin B
imp-within A B w = (record { size = smaller w.size; depth = lower w.depth }, record { size = smaller_too w.size; depth = lower_too w.depth })
  where
    smaller : term_size (imp A B) ≤ max_size → term_size A ≤ max_size
    smaller h = omega arith

    smaller_too : term_size (imp A B) ≤ max_size → term_size B ≤ max_size
    smaller_too h = omega arith

    lower : term_depth (imp A B) ≤ max_depth → term_depth A ≤ max_depth
    lower h = omega arith

    lower_too : term_depth (imp A B) ≤ max_depth → term_depth B ≤ max_depth
    lower_too h = omega arith

chain-within : (As : List Term) (G : Term) → IsWithin (chain As G) → Each IsWithin As
chain-within [] G w = tt
chain-within (A ∷ As) G w = let parts = imp-within A (chain As G) w in (parts.0, chain-within As G parts.1)

pub under-within : (ps : List Pair) (A q : Term) → IsUnderPairs ps A q → IsWithin q → IsWithin A
under-within [] A q f w = subst IsWithin f w
under-within (p ∷ ps) A q (T, B, h, f, e) w = under-within ps A B f (imp-within (eq T p.left p.right) B (subst IsWithin e w)).1

come-all : (others : List Term) → Each (λ A. IsLongForm A A) others → Each IsWithin others → Come others (AllLong others)
come-all [] l w = no_more
come-all (A ∷ As) l w = all_long (long-comes A l.0 w.0) (come-all As l.1 w.1)

-- Where one isn't within the limits, the first such stops.
come-large : (others : List Term) → Each (λ A. IsLongForm A A) others → (¬ Each IsWithin others) → Come others (Halted Big)
come-large [] l none = absurd (none tt)
come-large (A ∷ As) l none = by (within-or-not A) (λ f. come-large As l.1 f)
  where
    by : IsWithin A ⊎ ¬ IsWithin A → ((¬ Each IsWithin As) → Come As (Halted Big)) → Come (A ∷ As) (Halted Big)
    by (inl w) rest = later_stops (long-comes A l.0 w) (rest (λ ws. none (w, ws)))
    by (inr w) rest = first_stops (long-large A w)

all-within-or-not : (others : List Term) → Each IsWithin others ⊎ ¬ Each IsWithin others
all-within-or-not [] = inl tt
all-within-or-not (A ∷ As) = by (within-or-not A) (all-within-or-not As)
  where
    by : IsWithin A ⊎ ¬ IsWithin A → Each IsWithin As ⊎ ¬ Each IsWithin As → Each IsWithin (A ∷ As) ⊎ ¬ Each IsWithin (A ∷ As)
    by (inl w) (inl ws) = inl (w, ws)
    by (inl w) (inr ws) = inr (λ h. ws h.1)
    by (inr w) ws = inr (λ h. w h.0)

pub come-both : (front Fs others Os : List Term) → Come front (AllLong Fs) → Come others (AllLong Os) → Come (front ++ others) (AllLong (Fs ++ Os))
come-both [] [] others Os f g = g
come-both [] (F ∷ Fs) others Os f g = elim f [ ]
come-both (A ∷ As) [] others Os f g = elim f [ ]
come-both (A ∷ As) (F ∷ Fs) others Os (all_long c f) g = all_long c (come-both As Fs others Os f g)

come-behind : (front Fs others : List Term) → Come front (AllLong Fs) → Come others (Halted Big) → Come (front ++ others) (Halted Big)
come-behind [] [] others f g = g
come-behind [] (F ∷ Fs) others f g = elim f [ ]
come-behind (A ∷ As) [] others f g = elim f [ ]
come-behind (A ∷ As) (F ∷ Fs) others (all_long c f) g = later_stops c (come-behind As Fs others f g)

each-behind : (P : Term → Type 0) (xs ys : List Term) → Each P (xs ++ ys) → Each P ys
each-behind P [] ys h = h
each-behind P (x ∷ xs) ys h = each-behind P xs ys h.1

-- What is decided by the measure: the state is reached, or it is too large.
pub record IsDecidedBy (made new : State) (q : Term) : Type 0 where
  pub reached : IsWithin q → Becomes made (Ok new)
  pub too_large : (¬ IsWithin q) → Becomes made (Err fault.Big)

pub decided_by_measure : (made : State) (front Fs others : List Term) → made.subgoals ≡ front ++ others → Come front (AllLong Fs) → Each (λ A. IsLongForm A A) others
    → (q : Term) → IsOneProposition (record made { subgoals = Fs ++ others }) q → IsDecidedBy made (record made { subgoals = Fs ++ others }) q
decided_by_measure made front Fs others e f long q one =
    record {
      reached = λ w.
          let parts = chain-within (Fs ++ others) (protect made.statement) (under-within made.pairs (chain (Fs ++ others) (protect made.statement)) q one w) in
          small (put (AllLong (Fs ++ others)) (come-both front Fs others others f (come-all others long (each-behind IsWithin Fs others parts)))) (q, one, w);
      too_large = λ w. by w (all-within-or-not others);
    }
  where
    put : (forms : Forms) → Come (front ++ others) forms → Come made.subgoals forms
    put forms c = subst (λ (As : List Term). Come As forms) (sym e) c

    by : (¬ IsWithin q) → Each IsWithin others ⊎ ¬ Each IsWithin others → Becomes made (Err fault.Big)
    by w (inl ws) = large (put (AllLong (Fs ++ others)) (come-both front Fs others others f (come-all others long ws))) (q, one, w)
    by w (inr ws) = halted (put (Halted Big) (come-behind front Fs others f (come-large others long ws)))
