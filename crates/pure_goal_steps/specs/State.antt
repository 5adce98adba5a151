-- Goal states: what is to be proved, the subgoals that are left, and pairs that unification left (Isabelle/Isar Implementation manual, section 4.1). No theorem and no inference is in them.
use Rattle.std.specs.Prelude.{◌≡◌, ℕ, ◌-◌, List, []}
use Rattle.pure_text.specs.Lists.{Each}
use Rattle.pure_definitions.specs.Names.{Label}
use Rattle.pure_definitions.specs.Types.Typ.{Typ}
use Rattle.pure_definitions.specs.Terms.Term.{Term, IsWithin}
use Rattle.pure_definitions.specs.Terms.Typing.{HasType}
use Rattle.pure_definitions.specs.Reduction.Eta.{IsLongForm}
use Rattle.pure_logic.specs.Connectives.{chain, protect}
use Rattle.pure_logic.specs.Derivable.{Pair, Theorem, IsUnderPairs}
use Rattle.pure_unify_definitions.specs.Children.{IsFlexFlex}
use Rattle.pure_pairs.specs.Smash.{theorem_index_above}

-- a statement, the subgoals from which it follows, in order, and the pairs under whose equations it does
pub record State : Type 0 where
  pub statement : Term
  pub subgoals : List Term
  pub pairs : List Pair

-- the state's proposition: `A1 ==> .. ==> An ==> # C`, for the subgoals A1 to An and the statement C
abbrev pub proposition : State → Term
proposition s = chain s.subgoals (protect s.statement)

-- the state as a theorem, which rests on these promises
abbrev pub theorem_of : State → (rests : List Label) → Theorem
theorem_of s rests = record { hyps = []; pairs = s.pairs; prop = proposition s; rests = rests }

-- The theorem is that of the state, whatever it rests on: it has no hypotheses.
pub record IsTheoremOf (s : State) (th : Theorem) : Type 0 where
  pub hyps : th.hyps ≡ []
  pub same_pairs : th.pairs ≡ s.pairs
  pub prop : th.prop ≡ proposition s

-- The sides of the pair are flexible, in long form, and of one type.
pub record IsLeftPair (p : Pair) : Type 0 where
  pub flexible : IsFlexFlex p
  pub left_long : IsLongForm p.left p.left
  pub right_long : IsLongForm p.right p.right
  pub typ : Typ
  pub left_typed : HasType [] p.left typ
  pub right_typed : HasType [] p.right typ

-- The state is one that steps start from and lead to: its subgoals are in long form, and its pairs are such pairs.
pub record IsGoal (s : State) : Type 0 where
  pub long_subgoals : Each (λ A. IsLongForm A A) s.subgoals
  pub left_pairs : Each IsLeftPair s.pairs

-- The state's pairs and its proposition are this one proposition.
abbrev pub IsOneProposition : State → Term → Type 0
IsOneProposition s q = IsUnderPairs s.pairs (proposition s) q

-- That one proposition is within the limits; and it isn't.
abbrev pub IsSmall : State → Type 0
IsSmall s = (q : Term) × IsOneProposition s q × IsWithin q

abbrev pub IsLarge : State → Type 0
IsLarge s = (q : Term) × IsOneProposition s q × (¬ IsWithin q)

-- the greatest index of a schematic variable or of a schematic type variable in the theorem, 0 where there is none
abbrev pub greatest_index : Theorem → ℕ
greatest_index th = theorem_index_above th - 1
