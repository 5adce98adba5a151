-- What becomes of the head of a rigid side.
use Rattle.std.proofs.Common.{◌≡◌, ℕ, List, length, Result, None, Some, refl, sym, subst, ◌∙◌}
use Rattle.pure_definitions.specs.Types.Typ.{Typ}
use Rattle.pure_definitions.specs.Terms.Term.{Term, Bound}
use Rattle.pure_typ.specs.declared.grow.Grow.{Grow}
use Rattle.pure_unify_definitions.specs.Fronts.{domains}
use Rattle.pure_unify_definitions.specs.Children.{image_of}
use Rattle.pure_pattern_laws.specs.Places.{at_place}
use Rattle.pure_pattern_laws.specs.Treatment.{Never, IsWritten, own_bounds}
use Rattle.pure_pattern_laws.proofs.SomeLaws.{bounds-length}
use Rattle.pure_pattern_rules.specs.Treated.{IsAnswered}
use Rattle.pure_pattern_rules.specs.Parts.{IsSet, IsImageTyped, IsImitable, IsHeadTreated}
use Rattle.pure_pattern_rules.specs.declared.treatment.Treatment.{Treatment}
use Rattle.pure_pattern_rules.proofs.TreatedLaws.{answered, stands_not}

-- The head k is written as it is, and held as h.
pub written_typed : (index : ℕ) (T : Typ) (zs : List ℕ) (k w h : Term) (U : Typ) → k ≡ w → h ≡ k → IsWritten T zs w w U → IsImitable index T zs k → IsImageTyped index T h U
written_typed index T zs k w h U e f written can = subst (λ (t : Term). IsImageTyped index T t U) (sym f) (can.typed k U (subst (λ (t : Term). IsWritten T zs t t U) (sym e) written))

pub written_treated : (index x i : ℕ) (T : Typ) (zs : List ℕ) (k w h : Term) (U : Typ) (answer : Result Treatment Grow) → k ≡ w → h ≡ k → IsWritten T zs w w U
    → IsAnswered (IsSet x i T (image_of index (domains T) h (domains U))) answer → IsAnswered (IsHeadTreated index x i T zs k) answer
written_treated index x i T zs k w h U answer e f written set =
    let own : IsWritten T zs k k U = subst (λ (t : Term). IsWritten T zs t t U) (sym e) written in
    let same = subst (λ (t : Term). IsAnswered (IsSet x i T (image_of index (domains T) t (domains U))) answer) f set in
    answered (IsSet x i T (image_of index (domains T) k (domains U))) (IsHeadTreated index x i T zs k) answer (λ how s. IsHeadTreated.imitates own s) same

-- A bound variable to which the variable isn't applied escapes.
pub bound_typed : (index : ℕ) (T : Typ) (zs : List ℕ) (p q : ℕ) (U : Typ) (h : Term) → at_place p zs (own_bounds T) ≡ Some (Bound q) → at_place p zs (domains T) ≡ Some U → h ≡ Bound q → IsImitable index T zs (Bound p) → IsImageTyped index T h U
bound_typed index T zs p q U h e f same can = subst (λ (t : Term). IsImageTyped index T t U) (sym same) (can.typed (Bound q) U (IsWritten.bound e f))

pub bound_imitated : (index x i : ℕ) (T : Typ) (zs : List ℕ) (p q : ℕ) (U : Typ) (h : Term) (answer : Result Treatment Grow) → at_place p zs (own_bounds T) ≡ Some (Bound q) → at_place p zs (domains T) ≡ Some U → h ≡ Bound q
    → IsAnswered (IsSet x i T (image_of index (domains T) h (domains U))) answer → IsAnswered (IsHeadTreated index x i T zs (Bound p)) answer
bound_imitated index x i T zs p q U h answer e f same set =
    let moved = subst (λ (t : Term). IsAnswered (IsSet x i T (image_of index (domains T) t (domains U))) answer) same set in
    answered (IsSet x i T (image_of index (domains T) (Bound q) (domains U))) (IsHeadTreated index x i T zs (Bound p)) answer (λ how s. IsHeadTreated.imitates (IsWritten.bound e f) s) moved

pub escapes_domains : (index x i : ℕ) (T : Typ) (zs : List ℕ) (p : ℕ) → IsImitable index T zs (Bound p) → at_place p zs (domains T) ≡ None → IsHeadTreated index x i T zs (Bound p) Never
escapes_domains index x i T zs p can e = IsHeadTreated.escapes refl (stands_not p zs (domains T) can.many e)

pub escapes_bounds : (index x i : ℕ) (T : Typ) (zs : List ℕ) (p : ℕ) → IsImitable index T zs (Bound p) → at_place p zs (own_bounds T) ≡ None → IsHeadTreated index x i T zs (Bound p) Never
escapes_bounds index x i T zs p can e = IsHeadTreated.escapes refl (stands_not p zs (own_bounds T) (can.many ∙ sym (bounds-length (length (domains T)))) e)
