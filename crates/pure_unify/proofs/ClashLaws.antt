-- A pair whose sides have rigid heads that are apart fails, and so does the root at it.
use Rattle.std.proofs.Common.{◌≡◌, ℕ, List, [], ◌∷◌, Bool, true, false, refl, ap, sym, subst, arith, true≢false}
use Rattle.std.specs.Prelude.{◌||◌}
use Rattle.pure_text.specs.Lists.{Each}
use Rattle.pure_definitions.specs.Types.Typ.{Typ}
use Rattle.pure_definitions.specs.Types.Order.{Algebra}
use Rattle.pure_definitions.specs.Terms.Term.{Term}
use Rattle.pure_definitions.specs.Terms.Typing.{HasType}
use Rattle.pure_logic.specs.Derivable.{Pair}
use Rattle.pure_unify_definitions.specs.Fronts.{head, is_flexible}
use Rattle.pure_unify_definitions.specs.Node.{Node, root}
use Rattle.pure_unify_definitions.specs.Treatment.{ArePastVariables, Fail, IsTreatment, equal, clash}
use Rattle.pure_unify_definitions.specs.Simplification.{with_pairs, drops, fails, Simplifies, step, failed, Failed, Visits, visited}
use Rattle.pure_unify_definitions.specs.Search.{over, node_fails, NoUnifier, IsUnifyAnswer}
use Rattle.pure_unify_nodes.specs.Long.{IsLongPair}
use Rattle.pure_unify_steps.proofs.BareLaws.{rigid_is_none}
use Rattle.pure_unify_steps.proofs.TreatLaws.{against_neither}
use Rattle.pure_unify_nodes.specs.OneTyp.{HaveOneTyp}
use Rattle.pure_unify_nodes.specs.SideAnswer.{AreSidesTyped}
use Rattle.pure_unify.proofs.OwnLaws.{own_pairs}
use Rattle.pure_unify.specs.Clashes.{AreRigidApart, IsClash, AreClashing, here, later}

clash_of : (p : Pair) → AreSidesTyped p → AreRigidApart (head p.left) (head p.right) → HaveOneTyp [] p.left p.right → IsClash p
clash_of p typed heads one = record {
  heads = heads;
  typ = typed.0.0;
  left = typed.0.1;
  right = subst (λ (T : Typ). HasType [] p.right T) (sym (one typed.0.0 typed.1.0 typed.0.1 typed.1.1)) typed.1.1;
}

-- The same, as the test of a pair tells it.
pub clash_told : (p : Pair) (l r h k : Term) → p.left ≡ l → p.right ≡ r → AreSidesTyped p → h ≡ head l → k ≡ head r → AreRigidApart h k → HaveOneTyp [] l r → IsClash p
clash_told p l r h k a b typed e f heads one =
    clash_of p typed
    (subst (λ (t : Term). AreRigidApart (head t) (head p.right)) (sym a)
    (subst (λ (t : Term). AreRigidApart (head l) (head t)) (sym b) (subst (λ (t : Term). AreRigidApart t (head r)) e (subst (λ (t : Term). AreRigidApart h t) f heads))))
    (subst (λ (t : Term). HaveOneTyp [] t p.right) (sym a) (subst (λ (t : Term). HaveOneTyp [] l t) (sym b) one))

-- The first pair of a list, and those behind it.
pub first_typed : (ps : List Pair) (p : Pair) (rest : List Pair) → ps ≡ p ∷ rest → Each AreSidesTyped ps → AreSidesTyped p
first_typed ps p rest e h = (subst (λ (qs : List Pair). Each AreSidesTyped qs) e h).0

pub rest_typed : (ps : List Pair) (p : Pair) (rest : List Pair) → ps ≡ p ∷ rest → Each AreSidesTyped ps → Each AreSidesTyped rest
rest_typed ps p rest e h = (subst (λ (qs : List Pair). Each AreSidesTyped qs) e h).1

pub first_clashes : (ps : List Pair) (p : Pair) (rest : List Pair) → ps ≡ p ∷ rest → IsClash p → AreClashing ps
first_clashes ps p rest e h = subst AreClashing (sym e) (here h)

pub later_clashes : (ps : List Pair) (p : Pair) (rest : List Pair) → ps ≡ p ∷ rest → p.left ≡ p.right → AreClashing rest → AreClashing ps
later_clashes ps p rest e same h = subst AreClashing (sym e) (later same h)

or_neither : (a b : Bool) → a ≡ false → b ≡ false → (a || b) ≡ false
or_neither true b e f = absurd (true≢false e)
or_neither false b e f = f

clash-treated : (p : Pair) → IsLongPair p → IsClash p → IsTreatment p.left p.right Fail
clash-treated p long h =
    let past : ArePastVariables p.left p.right = record {
      typed = record { differ = (λ e. h.heads.apart.differ (ap head e)); typ = h.typ; left = h.left; right = h.right };
      occurring = against_neither p.left p.right (rigid_is_none p.left long.0 h.heads.left) (rigid_is_none p.right long.1 h.heads.right);
    } in
    clash (record { past = past; neither = or_neither (is_flexible p.left) (is_flexible p.right) h.heads.left h.heads.right }) h.heads.apart

clashing-fails : (A : Algebra) (maxidx : ℕ) (ps : List Pair) (n : Node) → n.pairs ≡ ps → Each IsLongPair ps → AreClashing ps → Simplifies A maxidx n Failed
clashing-fails A maxidx [] n e long c = elim c [ ]
clashing-fails A maxidx (p ∷ ps) n e long (here c) = failed (fails {front = []} {rest = ps} {p = p} (record { stands = e; before = tt; treated = clash-treated p long.0 c }))
clashing-fails A maxidx (p ∷ ps) n e long (later same more) =
    step {m = with_pairs n ps} (drops {front = []} {rest = ps} {p = p} (record { stands = e; before = tt; treated = equal same })) (clashing-fails A maxidx ps (with_pairs n ps) refl long.1 more)

pub clashing_visit : (ps : List Pair) → AreClashing ps → Each IsLongPair ps → (A : Algebra) (maxidx : ℕ) → Visits A maxidx (root ps) Failed
clashing_visit ps c long A maxidx = visited {qs = ps} (own_pairs ps long) (clashing-fails A maxidx ps (root ps) refl long c)

pub root_fails : (A : Algebra) (maxidx : ℕ) (ps : List Pair) → Visits A maxidx (root ps) Failed → IsUnifyAnswer A maxidx ps NoUnifier
root_fails A maxidx ps v = node_fails (omega arith) v over
