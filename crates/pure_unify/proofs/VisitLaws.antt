-- What a visit keeps, and what it leaves.
use Rattle.std.proofs.Common.{◌≡◌, ℕ, refl, ap, ◌∙◌}
use Rattle.pure_text.specs.Lists.{Each}
use Rattle.pure_definitions.specs.Types.Typ.{Typ}
use Rattle.pure_definitions.specs.Types.Order.{Algebra}
use Rattle.pure_unify_definitions.specs.Node.{Node}
use Rattle.pure_unify_definitions.specs.Retyping.{Next, Goes, IsRetyped, no_typing, beyond, two_same, side_stops, all_long}
use Rattle.pure_unify_definitions.specs.Simplification.{IsLeft, with_pairs, Applies, drops, retypes, fails, puts, put_stops, splits, unifies, unify_fails, unify_stops, Simplifies, simple, step, Simple, Visits, visited}

-- A step on types keeps the count of choices.
abbrev goes : Node → Next → Type 0
goes n (Goes m) = m.path.choices ≡ n.path.choices
goes n _ = Unit {0}

retyped-choices : (A : Algebra) (maxidx : ℕ) (n : Node) (T U : Typ) (next : Next) → IsRetyped A maxidx n T U next → goes n next
retyped-choices A maxidx n T U next (no_typing u) = tt
retyped-choices A maxidx n T U next (beyond u) = tt
retyped-choices A maxidx n T U next (two_same u s) = tt
retyped-choices A maxidx n T U next (side_stops u s l) = tt
retyped-choices A maxidx n T U next (all_long u s l) = refl

-- So does each step.
applied-choices : (A : Algebra) (maxidx : ℕ) (n : Node) (next : Next) → Applies A maxidx n next → goes n next
applied-choices A maxidx n next (drops f) = refl
applied-choices A maxidx n next (retypes {T = T} {U = U} f r) = retyped-choices A maxidx n T U next r
applied-choices A maxidx n next (fails f) = tt
applied-choices A maxidx n next (puts f l) = refl
applied-choices A maxidx n next (put_stops f l) = tt
applied-choices A maxidx n next (splits f) = refl
applied-choices A maxidx n next (unifies {T = T} {U = U} {m = m} f r s) = ap (λ (k : Node). k.path.choices) s.are ∙ retyped-choices A maxidx n T U (Goes m) r
applied-choices A maxidx n next (unify_fails f r) = tt
applied-choices A maxidx n next (unify_stops f r) = tt

simplified-choices : (A : Algebra) (maxidx : ℕ) (n m : Node) → Simplifies A maxidx n (Simple m) → m.path.choices ≡ n.path.choices
simplified-choices A maxidx n m (simple each) = refl
simplified-choices A maxidx n m (step {m = k} f s) = simplified-choices A maxidx k m s ∙ applied-choices A maxidx n (Goes k) f

pub visit_choices : (A : Algebra) (maxidx : ℕ) (n m : Node) → Visits A maxidx n (Simple m) → m.path.choices ≡ n.path.choices
visit_choices A maxidx n m (visited {qs = qs} l s) = simplified-choices A maxidx (with_pairs n qs) m s

-- No rule applies to the pairs of a simple node.
simplified-left : (A : Algebra) (maxidx : ℕ) (n m : Node) → Simplifies A maxidx n (Simple m) → Each IsLeft m.pairs
simplified-left A maxidx n m (simple each) = each
simplified-left A maxidx n m (step {m = k} f s) = simplified-left A maxidx k m s

pub visit_left : (A : Algebra) (maxidx : ℕ) (n m : Node) → Visits A maxidx n (Simple m) → Each IsLeft m.pairs
visit_left A maxidx n m (visited {qs = qs} l s) = simplified-left A maxidx (with_pairs n qs) m s
