-- The sides of a pair: places of flexible ones, heads of rigid ones, and how deep their types are.
use Rattle.std.proofs.Common.{◌≡◌, ℕ, zero, ◌+◌, ◌<◌, inl, inr, ◌≤◌, ◌^◌, List, [], ◌∷◌, true, ap, ◌∙◌, arith, Some, nat_eq}
use Rattle.pure_definitions.specs.Types.Typ.{Typ, Con, none, also, typ_depth}
use Rattle.pure_definitions.specs.Terms.Term.{Term, Const, Free, Var, Bound, Abs, App, term_depth, IsWithin}
use Rattle.pure_unify_definitions.specs.Fronts.{term_body, front, head, is_flexible, domains, pair}
use Rattle.pure_unify_final.proofs.SideLaws as sides
use Rattle.pure_unify_final.proofs.SideLaws.{head-rigid}
use Rattle.pure_pattern_laws.specs.Patterns.{HasPlaces, IsPattern}
use Rattle.pure_pattern_laws.specs.Places.{at_place}
use Rattle.pure_pattern_laws.specs.Treatment.{IsFlexibleSide}
use Rattle.pure_pattern_laws.proofs.BuiltLaws.{below-of}
use Rattle.pure_pattern_laws.proofs.ImageLaws.{pattern-places}
use Rattle.pure_pattern_laws.proofs.ListLaws.{first-some}
use Rattle.pure_pattern_laws.proofs.KeepLaws.{body-pattern, flexible-side, imitation-typed, left-long, right-long}
use Rattle.pure_pattern_rules.specs.Flexible.{IsFlexibleAs}
use Rattle.pure_pattern_rules.specs.declared.flexible.Flexible.{Flexible}
use Rattle.pure_pattern_rules.specs.Parts.{IsRigidHead, IsImitable, AreFlexibleRigid}

-- The arguments of a flexible side are distinct bound variables.
pub side_places : (t : Term) → IsPattern t → is_flexible t ≡ true → (zs : List ℕ) × HasPlaces (term_body t) zs
side_places t p e = pattern-places (term_body t) e (body-pattern t p)

-- Heads are no deeper than their sides, and types in them less deep.
body-depth : (t : Term) → term_depth (term_body t) ≤ term_depth t
body-depth (Const c T) = omega arith
body-depth (Free x T) = omega arith
body-depth (Var x i T) = omega arith
body-depth (Bound n) = omega arith
body-depth (Abs T b) = let inside = body-depth b in omega arith
body-depth (App f a) = omega arith

front-depth : (t : Term) → term_depth (front t) ≤ term_depth t
front-depth (Const c T) = omega arith
front-depth (Free x T) = omega arith
front-depth (Var x i T) = omega arith
front-depth (Bound n) = omega arith
front-depth (Abs T b) = omega arith
front-depth (App f a) = let inside = front-depth f in omega arith

pub head_low : (t : Term) → IsWithin t → term_depth (head t) < 2 ^ 32
head_low t within = let body = body-depth t in let inside = front-depth (term_body t) in let small = within.depth in omega arith

pub typ_low : (t l : Term) (f : Flexible) → t ≡ l → IsWithin t → IsFlexibleAs l f → typ_depth f.typ < 2 ^ 32
typ_low t l f e within side =
    let low = head_low t within in
    let same : term_depth (head t) ≡ 1 + typ_depth f.typ = ap (λ (u : Term). term_depth (head u)) e ∙ ap term_depth side.variable in
    omega arith

-- A domain is less deep than the type.
pub domain_low : (p : ℕ) (zs : List ℕ) (T U : Typ) (n : ℕ) → at_place p zs (domains T) ≡ Some U → typ_depth T < n → typ_depth U < n
domain_low p (z ∷ zs) (Con zero (also A (also B none))) U n e h = elim (first-some (nat_eq p z) A U (at_place p zs (domains B)) e) [
  | inl k ↦ (let same = ap typ_depth k.1 in omega arith)
  | inr k ↦ domain_low p zs B U n k.1 (omega arith)
]
domain_low p [] T U n e h = absurd (cc)
domain_low p (z ∷ zs) T U n e h = absurd (cc)

-- The head of a rigid side.
as-rigid : (k : Term) → sides.IsRigidHead k → IsRigidHead k
as-rigid (Const c T) h = tt
as-rigid (Free x T) h = tt
as-rigid (Bound p) h = tt
as-rigid (Var x i T) h = absurd h
as-rigid (Abs T b) h = absurd h
as-rigid (App f a) h = absurd h

pub imitable : (index : ℕ) (f k : Term) (x i : ℕ) (T : Typ) (zs : List ℕ) → AreFlexibleRigid f k → IsFlexibleSide f x i T zs → IsImitable index T zs (head k)
imitable index f k x i T zs h side =
    let left = left-long (pair f k) h.long in
    let right = right-long (pair f k) h.long in
    let places = flexible-side f h.long.typ x i T zs (below-of [] f h.long.typ left) side in
    record {
      rigid = as-rigid (head k) (head-rigid k right.normal h.rigid);
      many = places.domains_long;
      typed = λ w U written. imitation-typed index f k h.long.typ x i T U zs w left right side written;
    }
