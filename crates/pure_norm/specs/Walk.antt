-- A subterm reduced in its place in a whole term: what its steps lead to within the limits of the whole. The walk knows how many nodes are on the path above the subterm,
-- how many nodes more the whole may have, and how many steps are left.
use Rattle.std.specs.Prelude.{◌≡◌, ℕ, zero, suc, ◌+◌, ◌<◌, ◌≤◌, Some}
use Rattle.pure_definitions.specs.Terms.Term.{Term, term_size, term_depth, max_size, max_depth}
use Rattle.pure_definitions.specs.Terms.Bounds.{IsClosedUnder}
use Rattle.pure_definitions.specs.Reduction.Beta.{IsAbs, beta_step}
use Rattle.pure_norm.specs.declared.contract.Walk.{Walk}
use Rattle.pure_norm.specs.declared.fault.NormFault.{NormFault}
use Rattle.pure_norm.specs.declared.fault.NormFault.TheVariants.{Steps, Big, Memory}

-- what a walk looks for: an abstraction to apply, or the normal form
pub data Until : Type 0 where
  Abstraction : Until
  Normal : Until

-- A walk that looks for an abstraction pauses there; one that looks for the normal form pauses nowhere.
abbrev pub Pauses : Until → Term → Type 0
Pauses Abstraction t = IsAbs t
Pauses Normal t = ⊥

-- The term fits in its place: it has at most so many nodes, and below a path of so many it is within the limit of depth.
pub record Fits (nodes deep : ℕ) (t : Term) : Type 0 where
  pub few : term_size t ≤ nodes
  pub shallow : deep + term_depth t ≤ max_depth

-- So many steps lead from t to u; each term before u fits, and the walk doesn't pause there.
abbrev pub Leads : Until → (nodes deep : ℕ) → (t : Term) → (steps : ℕ) → (u : Term) → Type 0
Leads until nodes deep t zero u = t ≡ u
Leads until nodes deep t (suc n) u = Fits nodes deep t × (¬ Pauses until t) × ((v : Term) × (beta_step t ≡ Some v) × Leads until nodes deep v n u)

-- how many nodes a term in this place may have
abbrev pub nodes_at : Walk → Term → ℕ
nodes_at walk t = walk.room + term_size t

-- A walk can begin at the term: the whole is within the limits, and each loose bound variable of the term has its binder above it.
pub record CanWalk (deep : ℕ) (walk : Walk) (t : Term) : Type 0 where
  pub few : nodes_at walk t ≤ max_size
  pub shallow : deep + term_depth t ≤ max_depth
  pub closed : IsClosedUnder deep t

-- The walk has gone from t to u, which fits; the steps that it took are taken from those that were left, and what is left of room is what u leaves.
pub record Walked (until : Until) (deep : ℕ) (before now : Walk) (t u : Term) : Type 0 where
  pub taken : ℕ
  pub counted : taken + now.steps ≡ before.steps
  pub kept : nodes_at now u ≡ nodes_at before t
  pub shallow : deep + term_depth u ≤ max_depth
  pub leads : Leads until (nodes_at before t) deep t taken u

-- As many steps as are left, or fewer, lead to a term that doesn't fit.
pub record Outgrows (until : Until) (deep : ℕ) (before : Walk) (t : Term) : Type 0 where
  pub taken : ℕ
  pub last : Term
  pub in_time : taken ≤ before.steps
  pub leads : Leads until (nodes_at before t) deep t taken last
  pub large : ¬ Fits (nodes_at before t) deep last

-- One step more than are left leads on: the term before it fits, and isn't normal.
pub record RunsOut (until : Until) (deep : ℕ) (before : Walk) (t : Term) : Type 0 where
  pub taken : ℕ
  pub next : Term
  pub more : taken ≡ before.steps + 1
  pub leads : Leads until (nodes_at before t) deep t taken next

-- why a walk from t fails
abbrev pub Fails : (until : Until) → (deep : ℕ) → (before : Walk) → (t : Term) → NormFault → Type 0
Fails until deep before t Big = Outgrows until deep before t
Fails until deep before t Steps = RunsOut until deep before t
Fails until deep before t Memory = Unit {0}

-- The step from the redex t to u is taken: u fits.
pub record Contracted (deep : ℕ) (before now : Walk) (t u : Term) : Type 0 where
  pub step : beta_step t ≡ Some u
  pub counted : now.steps + 1 ≡ before.steps
  pub kept : nodes_at now u ≡ nodes_at before t
  pub shallow : deep + term_depth u ≤ max_depth

-- why the step from the redex t isn't taken: it leads to a term that doesn't fit, or no step is left
abbrev pub CannotContract : (deep : ℕ) → (before : Walk) → (t : Term) → NormFault → Type 0
CannotContract deep before t Big = (u : Term) × (beta_step t ≡ Some u) × (¬ Fits (nodes_at before t) deep u) × (0 < before.steps)
CannotContract deep before t Steps = (u : Term) × (beta_step t ≡ Some u) × (before.steps ≡ 0)
CannotContract deep before t Memory = Unit {0}
