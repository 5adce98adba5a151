-- Putting types and terms into a room for nodes.
use Rattle.std.proofs.Common.{◌≡◌, ◌∙◌, sym, ℕ, zero, ◌+◌, ◌-◌, ◌<◌, ◌≤◌, max, List, length, get_or, take, Bool, false, refl, ap, arith}
use Rattle.std.specs.Prelude.{Option, Some, None}
use Rattle.pure_definitions.specs.Types.Typ.{Typ, Con, none, also, typ_size, typs_size, typ_depth, typs_depth, typs_of, arrow}
use Rattle.pure_definitions.specs.Terms.Term.{Term, Bound, App, term_size, term_depth, IsWithin}
use Rattle.pure_definitions.specs.Terms.Bounds.{lift_term}
use Rattle.pure_definitions.proofs.TermLemmas.{term_size-lift, term_depth-lift}
use Rattle.pure_eta.specs.LongTerm.{expanded, expanded_at}
use Rattle.pure_eta.specs.Fits.{Fits, added_size, expanded_depth, added_at, depth_at}
use Rattle.pure_eta.specs.declared.fits.Room.{Room}

-- An expanded term isn't less deep.
pub expanded_depth-ge : (T : Typ) (d : ℕ) → d ≤ expanded_depth T d
expanded_depth-ge (Con zero (also A (also B none))) d = omega (arith, expanded_depth-ge B (1 + max d (expanded_depth A 1)))
expanded_depth-ge T d = omega arith

pub depth_at-ge : (applied : Bool) (o : Option Typ) (d : ℕ) → d ≤ depth_at applied o d
depth_at-ge false (Some T) d = expanded_depth-ge T d
depth_at-ge applied o d = omega arith

-- A type of functions whose argument doesn't fit, or makes the application too deep, doesn't fit.
pub expansion-stops : (T A B : Typ) (left rest d : ℕ) → T ≡ arrow A B → rest + typ_size A ≡ left → 3 ≤ rest → Fits (rest - 3) (added_size A) (expanded_depth A 1) None
    → Fits left (added_size T) (expanded_depth T d) None
expansion-stops T A B left rest d e binder three stops = rw e (λ fits.
    let deep : 2000 < expanded_depth A 1 = stops (omega arith) in
    omega (arith, expanded_depth-ge B (1 + max d (expanded_depth A 1))))

pub expansion-too_deep : (T A B : Typ) (left inner d : ℕ) (room : Room) → T ≡ arrow A B → Fits inner (added_size A) (expanded_depth A 1) (Some room) → 2000 ≤ max d room.depth
    → Fits left (added_size T) (expanded_depth T d) None
expansion-too_deep T A B left inner d room e argument deep = rw e (λ fits.
    let is = argument.1 in
    omega (arith, expanded_depth-ge B (1 + max d (expanded_depth A 1))))

-- the size and the depth of an expanded term
pub expanded-size : (T : Typ) (t : Term) → term_size (expanded T t) ≡ term_size t + added_size T
expanded-size (Con zero (also A (also B none))) t =
    let body = expanded-size B (App (lift_term 1 0 t) (expanded A (Bound 0))) in
    let argument = expanded-size A (Bound 0) in
    let function = term_size-lift 1 0 t in
    omega arith
expanded-size T t = omega arith

pub expanded-depth : (T : Typ) (t : Term) → term_depth (expanded T t) ≡ expanded_depth T (term_depth t)
expanded-depth (Con zero (also A (also B none))) t =
    let body = expanded-depth B (App (lift_term 1 0 t) (expanded A (Bound 0))) in
    let argument = expanded-depth A (Bound 0) in
    let function = term_depth-lift 1 0 t in
    rw (body, argument, function) refl
expanded-depth T t = refl

pub expanded_at-size : (applied : Bool) (o : Option Typ) (t : Term) → term_size (expanded_at applied o t) ≡ term_size t + added_at applied o
expanded_at-size false (Some T) t = expanded-size T t
expanded_at-size applied o t = omega arith

pub expanded_at-depth : (applied : Bool) (o : Option Typ) (t : Term) → term_depth (expanded_at applied o t) ≡ depth_at applied o (term_depth t)
expanded_at-depth false (Some T) t = expanded-depth T t
expanded_at-depth applied o t = refl

-- What fits above the parts of a term, with what the term has more when it is expanded.
pub leaf-fits : (applied : Bool) (o : Option Typ) (u w : Term) (left S D : ℕ) (r : Option Room) → w ≡ expanded_at applied o u → term_size u ≡ 1 + S → term_depth u ≡ 1 + D
    → Fits left (1 + (S + added_at applied o)) (depth_at applied o (1 + D)) r → Fits left (term_size w) (term_depth w) r
leaf-fits applied o u w left S D r is e f h =
    let size : 1 + (S + added_at applied o) ≡ term_size w = rw is (omega (arith, expanded_at-size applied o u)) in
    let depth : depth_at applied o (1 + D) ≡ term_depth w = ap (depth_at applied o) (sym f) ∙ (sym (expanded_at-depth applied o u) ∙ ap term_depth (sym is)) in
    rw (size, depth) at h

-- The same after the parts have been put in.
pub front-fits : (applied : Bool) (o : Option Typ) (u w : Term) (left S D : ℕ) (room : Room) (r : Option Room) → w ≡ expanded_at applied o u → term_size u ≡ 1 + S → term_depth u ≡ 1 + D → Fits left S D (Some room)
    → Fits room.left (1 + added_at applied o) (depth_at applied o (1 + room.depth)) r → Fits left (term_size w) (term_depth w) r
front-fits applied o u w left S D room r is e f h k =
    let depth : depth_at applied o (1 + room.depth) ≡ depth_at applied o (1 + D) = ap (λ d. depth_at applied o (1 + d)) h.1 in
    leaf-fits applied o u w left S D r is e f (fits-after r _ _ _ _ h.0 (omega arith) depth k)
  where
    fits-after : (r : Option Room) (size depth a d : ℕ) → room.left + S ≡ left → S + a ≡ size → d ≡ depth → Fits room.left a d r → Fits left size depth r
    fits-after None size depth a d e f g k = λ fits. let deep : 2000 < d = k (omega arith) in omega arith
    fits-after (Some more) size depth a d e f g k = let x = k.0 in let y = k.1 in let z = k.2 in (omega arith, omega arith, omega arith)

-- Where the parts of a term don't fit, what it has more doesn't either.
pub front-stops : (applied : Bool) (o : Option Typ) (u w : Term) (left S D : ℕ) → w ≡ expanded_at applied o u → term_size u ≡ 1 + S → term_depth u ≡ 1 + D → Fits left S D None
    → Fits left (term_size w) (term_depth w) None
front-stops applied o u w left S D is e f stops = rw is (λ fits.
    let size = expanded_at-size applied o u in
    let depth = expanded_at-depth applied o u in
    let more = depth_at-ge applied o (term_depth u) in
    let deep : 2000 < D = stops (omega arith) in
    omega arith)

-- A function and its argument, one after the other.
pub both-fit : (left S D : ℕ) (function argument : Room) (T E : ℕ) → Fits left S D (Some function) → Fits function.left T E (Some argument)
    → Fits left (S + T) (max D E) (Some (record { left = argument.left; depth = max function.depth argument.depth }))
both-fit left S D function argument T E h k =
    let a = h.0 in let b = h.1 in let c = h.2 in let d = k.0 in let e = k.1 in let f = k.2 in
    (omega arith, omega arith, omega arith)

pub first-stops : (left S D T E : ℕ) → Fits left S D None → Fits left (S + T) (max D E) None
first-stops left S D T E stops = λ fits. let deep : 2000 < D = stops (omega arith) in omega arith

pub second-stops : (left S D : ℕ) (function : Room) (T E : ℕ) → Fits left S D (Some function) → Fits function.left T E None → Fits left (S + T) (max D E) None
second-stops left S D function T E h stops = λ fits. let a = h.0 in let deep : 2000 < E = stops (omega arith) in omega arith

-- What fits into the room of a term within the limits is within them, and what doesn't isn't.
pub room-within : (t : Term) (room : Room) → Fits 200000 (term_size t) (term_depth t) (Some room) → IsWithin t
room-within t room h = let size = h.0 in let depth = h.2 in record { size = omega arith; depth = omega arith }

pub no_room-not_within : (t : Term) → Fits 200000 (term_size t) (term_depth t) None → ¬ IsWithin t
no_room-not_within t stops within = let deep : 2000 < term_depth t = stops within.size in let low = within.depth in omega arith
