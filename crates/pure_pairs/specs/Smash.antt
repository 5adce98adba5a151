-- Theorems whose pairs are smashed: the heads of the sides become constant functions (Isabelle/Isar Implementation manual, section 2.4).
use Rattle.std.specs.Prelude.{◌≡◌, ◌≢◌, ℕ, ◌+◌, max, List, [], ◌∷◌, map, length, drop, if◌then◌else◌}
use Rattle.pure_text.specs.Lists.{Each}
use Rattle.pure_definitions.specs.Types.Typ.{Typ}
use Rattle.pure_definitions.specs.Terms.Term.{Term, Const, Free, Var, Bound, Abs, App, term_eq}
use Rattle.pure_definitions.specs.Terms.Conditions.{variable_typ}
pub use Rattle.pure_definitions.specs.Terms.Measures.{typ_index_above, typs_index_above, term_index_above}
use Rattle.pure_definitions.specs.Models.Comparison.{term_cmp}
use Rattle.pure_logic.specs.Derivable.{Pair, Theorem}
use Rattle.pure_theorem.specs.Sets.{IsSetOf}
use Rattle.pure_unify_definitions.specs.Children.{IsFlexFlex}
use Rattle.pure_unify_definitions.specs.Fronts.{front, arguments, head, below, domains, range, pair}

-- one above the greatest index of a schematic variable of terms, of pairs and of a theorem, those of types among them; or 0
abbrev pub terms_index_above : List Term → ℕ
terms_index_above [] = 0
terms_index_above (t ∷ ts) = max (term_index_above t) (terms_index_above ts)

abbrev pub pairs_index_above : List Pair → ℕ
pairs_index_above [] = 0
pairs_index_above (p ∷ ps) = max (max (term_index_above p.left) (term_index_above p.right)) (pairs_index_above ps)

abbrev pub theorem_index_above : Theorem → ℕ
theorem_index_above th = max (terms_index_above th.hyps) (max (pairs_index_above th.pairs) (term_index_above th.prop))

-- The term with a variable become the constant function that takes arguments of the types Ts and gives c: each application of the variable is reduced, so that what is left of the function takes the arguments that weren't there.
abbrev pub with_constant : (variable : Term) → (Ts : List Typ) → (c : Term) → Term → Term
with_constant v Ts c (Const d T) = Const d T
with_constant v Ts c (Free x T) = Free x T
with_constant v Ts c (Var x i T) = if term_eq v (Var x i T) then below Ts c else Var x i T
with_constant v Ts c (Bound n) = Bound n
with_constant v Ts c (Abs T b) = Abs T (with_constant v Ts c b)
with_constant v Ts c (App f a) = if term_eq v (front f) then below (drop (length (arguments f) + 1) Ts) c else App (with_constant v Ts c f) (with_constant v Ts c a)

-- the term with the heads of both sides of a pair become constant functions that give the variable
abbrev pub with_constants : Pair → (variable : Term) → Term → Term
with_constants p c t = let l = head p.left in let r = head p.right in with_constant r (domains (variable_typ r)) c (with_constant l (domains (variable_typ l)) c t)

-- the common result type of the sides: the type in which the type of the left side's head ends
abbrev pub result_typ : Pair → Typ
result_typ p = range (variable_typ (head p.left))

-- the fresh variable of that type: its name has the number 0, and its index is one above the greatest of the theorem
abbrev pub fresh_variable : Theorem → Pair → Term
fresh_variable th p = Var 0 (theorem_index_above th) (result_typ p)

-- the other pair with the heads of a pair become constant functions
abbrev pub pair_with : Pair → (variable : Term) → Pair → Pair
pair_with p c q = pair (with_constants p c q.left) (with_constants p c q.right)

-- The theorem with the heads of a pair become constant functions that give the variable; these are its pairs before that.
pub record IsWithConstants (p : Pair) (c : Term) (pairs : List Pair) (th new : Theorem) : Type 0 where
  pub hyps : IsSetOf term_cmp (map (with_constants p c) th.hyps) new.hyps
  pub are_pairs : new.pairs ≡ map (pair_with p c) pairs
  pub prop : new.prop ≡ with_constants p c th.prop
  pub rests : new.rests ≡ th.rests

-- The pairs are taken in order: one with equal sides is dropped; of another the head variables become the constant functions that give one fresh variable, in the whole theorem. No pair is left.
pub data Smashes : Theorem → Theorem → Type 0 where
  no_pair : {th : Theorem} → th.pairs ≡ [] → Smashes th th
  trivial : {th smashed : Theorem} {p : Pair} {ps : List Pair} → th.pairs ≡ p ∷ ps → p.left ≡ p.right → Smashes (record th { pairs = ps }) smashed → Smashes th smashed
  constants : {th next smashed : Theorem} {p : Pair} {ps : List Pair} → th.pairs ≡ p ∷ ps → p.left ≢ p.right → IsWithConstants p (fresh_variable th p) ps th next → Smashes next smashed → Smashes th smashed

-- The theorem has no hypotheses and no schematic variable in its proposition, and its pairs are flexible on both sides: what is put for their heads stands in it nowhere.
pub record IsPlain (th : Theorem) : Type 0 where
  pub no_hyps : th.hyps ≡ []
  pub closed : term_index_above th.prop ≡ 0
  pub flexible : Each IsFlexFlex th.pairs

-- What the second theorem is smashed to the first is too, and it has one pair fewer.
pub record IsOneFewer (th next : Theorem) : Type 0 where
  pub goes_on : (smashed : Theorem) → Smashes next smashed → Smashes th smashed
  pub fewer : length next.pairs + 1 ≡ length th.pairs
