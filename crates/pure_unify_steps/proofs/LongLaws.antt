-- Sides in long form: what a side comes to is one, it comes to itself, and the arguments of one are.
use Rattle.std.proofs.Common.{◌≡◌, ℕ, ◌+◌, ◌≤◌, max, List, [], ◌∷◌, ◌++◌, refl, ap, sym, arith, length}
use Rattle.pure_text.specs.Lists.{Each}
use Rattle.pure_text.proofs.ListLaws.{each-append, each_imply}
use Rattle.pure_definitions.specs.Types.Typ.{Typ, arrow, typ_size, typ_depth}
use Rattle.pure_definitions.specs.Terms.Term.{Term, Const, Free, Var, Bound, Abs, App, term_size, term_depth, IsWithin}
use Rattle.pure_definitions.specs.Terms.Typing.{HasType}
use Rattle.pure_definitions.specs.Reduction.Beta.{IsBetaNormal, IsBetaAnswer, NormalForm}
use Rattle.pure_definitions.specs.Reduction.Eta.{done, abstraction_count, arrow_count, HasSaturatedParts, IsLongForm}
use Rattle.pure_term_laws.proofs.TypingLaws.{typed-once}
use Rattle.pure_logic.specs.Derivable.{Pair}
use Rattle.pure_unify_definitions.specs.Fronts.{abstractions, term_body, arguments, below, pair, pairs_below, argument_pairs}
use Rattle.pure_unify_definitions.specs.LongSides.{Long, ComesTo, is_long, Sides, AllLong, AreLong, no_more, both_long}
use Rattle.pure_unify_nodes.specs.SideAnswer.{IsTyped, AreSidesTyped}
use Rattle.pure_unify_nodes.specs.Long.{IsLongSide, IsLongPair}

pub comes_long : (t u : Term) → ComesTo t (Long u) → IsLongSide u
comes_long t u (is_long b l w) = record {
  form = record { typ = l.typ; typed = l.long_typed; long_typed = l.long_typed; reduces = done; normal = l.normal; saturated = l.saturated; parts = l.parts };
  within = w;
}

pub side_typed : (t : Term) → IsLongSide t → IsTyped t
side_typed t h = (h.form.typ, h.form.typed)

pub pairs_long : {ps qs : List Pair} → AreLong ps (AllLong qs) → Each IsLongPair qs
pairs_long no_more = tt
pairs_long (both_long {p = p} {l = l} {r = r} f g rest) = ((comes_long p.left l f, comes_long p.right r g), pairs_long rest)

-- A term in long form under binders, of a size and a depth at most these.
record IsLongIn (bs : List Typ) (size depth : ℕ) (t : Term) : Type 0 where
  typ : Typ
  typed : HasType bs t typ
  count : abstraction_count t ≡ arrow_count typ
  parts : HasSaturatedParts bs t
  normal : IsBetaNormal t
  small : term_size t ≤ size
  shallow : term_depth t ≤ depth

long_of : (t : Term) → IsLongSide t → IsLongIn [] (term_size t) (term_depth t) t
long_of t h = record { typ = h.form.saturated.0; typed = h.form.saturated.1; count = h.form.saturated.2; parts = h.form.parts; normal = h.form.normal; small = omega arith; shallow = omega arith }

side_of : (t : Term) (size depth : ℕ) → size ≤ 200000 → depth ≤ 2000 → IsLongIn [] size depth t → IsLongSide t
side_of t size depth few low h =
    let small = h.small in
    let shallow = h.shallow in
    record {
      form = record { typ = h.typ; typed = h.typed; long_typed = h.typed; reduces = done; normal = h.normal; saturated = (h.typ, h.typed, h.count); parts = h.parts };
      within = record { size = omega arith; depth = omega arith };
    }

close : (bs : List Typ) (V : Typ) (size depth : ℕ) (b : Term) → IsLongIn (V ∷ bs) size depth b → IsLongIn bs (1 + (typ_size V + size)) (1 + max (typ_depth V) depth) (Abs V b)
close bs V size depth b h =
    let small = h.small in
    let shallow = h.shallow in
    record {
      typ = arrow V h.typ;
      typed = (h.typ, h.typed, refl);
      count = ap (λ n. 1 + n) h.count;
      parts = ((h.typ, h.typed, h.count), h.parts);
      normal = h.normal;
      small = omega arith;
      shallow = omega arith;
    }

-- an argument of a term whose parts are in long form
argument-long : (bs : List Typ) (f a : Term) → HasSaturatedParts bs (App f a) → IsBetaNormal a → IsLongIn bs (term_size a) (term_depth a) a
argument-long bs f a p m = record { typ = p.1.0; typed = p.1.1; count = p.1.2; parts = p.2; normal = m; small = omega arith; shallow = omega arith }

wider : (bs : List Typ) (s d size depth : ℕ) (t : Term) → s ≤ size → d ≤ depth → IsLongIn bs s d t → IsLongIn bs size depth t
wider bs s d size depth t more deeper h =
    let small = h.small in
    let shallow = h.shallow in
    record { typ = h.typ; typed = h.typed; count = h.count; parts = h.parts; normal = h.normal; small = omega arith; shallow = omega arith }

wider_each : (bs : List Typ) (s d size depth : ℕ) (ts : List Term) → s ≤ size → d ≤ depth → Each (IsLongIn bs s d) ts → Each (IsLongIn bs size depth) ts
wider_each bs s d size depth ts more deeper h = each_imply (IsLongIn bs s d) (IsLongIn bs size depth) ts (λ t k. wider bs s d size depth t more deeper k) h

spine-long : (bs : List Typ) (t : Term) → HasSaturatedParts bs t → IsBetaNormal t → Each (IsLongIn bs (term_size t) (term_depth t)) (arguments t)
spine-long bs (App f a) p m =
    each-append (IsLongIn bs (term_size (App f a)) (term_depth (App f a))) (arguments f) (a ∷ [])
    (wider_each bs (term_size f) (term_depth f) (term_size (App f a)) (term_depth (App f a)) (arguments f) (omega arith) (omega arith) (spine-long bs f p.0 m.1))
    (wider bs (term_size a) (term_depth a) (term_size (App f a)) (term_depth (App f a)) a (omega arith) (omega arith) (argument-long bs f a p m.2), tt)
spine-long bs (Const c T) p m = tt
spine-long bs (Free x T) p m = tt
spine-long bs (Var x i T) p m = tt
spine-long bs (Bound n) p m = tt
spine-long bs (Abs T b) p m = tt

closed-each : (bs : List Typ) (V : Typ) (Ts : List Typ) (size depth : ℕ) → (ts : List Term) → Each (λ a. IsLongIn (V ∷ bs) size depth (below Ts a)) ts → Each (λ a. IsLongIn bs (1 + (typ_size V + size)) (1 + max (typ_depth V) depth) (below (V ∷ Ts) a)) ts
closed-each bs V Ts size depth [] h = tt
closed-each bs V Ts size depth (t ∷ ts) h = (close bs V size depth (below Ts t) h.0, closed-each bs V Ts size depth ts h.1)

arguments-long : (bs : List Typ) (t : Term) → HasSaturatedParts bs t → IsBetaNormal t → Each (λ a. IsLongIn bs (term_size t) (term_depth t) (below (abstractions t) a)) (arguments (term_body t))
arguments-long bs (Abs V b) p m = closed-each bs V (abstractions b) (term_size b) (term_depth b) (arguments (term_body b)) (arguments-long (V ∷ bs) b p.1 m)
arguments-long bs (App f a) p m = spine-long bs (App f a) p m
arguments-long bs (Const c T) p m = tt
arguments-long bs (Free x T) p m = tt
arguments-long bs (Var x i T) p m = tt
arguments-long bs (Bound n) p m = tt

sides_below : (t : Term) → IsLongSide t → Each (λ a. IsLongSide (below (abstractions t) a)) (arguments (term_body t))
sides_below t h =
    let few = h.within.size in
    let low = h.within.depth in
    each_imply (λ a. IsLongIn [] (term_size t) (term_depth t) (below (abstractions t) a)) (λ a. IsLongSide (below (abstractions t) a)) (arguments (term_body t))
    (λ a k. side_of (below (abstractions t) a) (term_size t) (term_depth t) few low k) (arguments-long [] t h.form.parts h.form.normal)

below-long : (Ts Us : List Typ) (ts us : List Term) → Each (λ a. IsLongSide (below Ts a)) ts → Each (λ a. IsLongSide (below Us a)) us → Each IsLongPair (pairs_below Ts Us ts us)
below-long Ts Us [] us h k = tt
below-long Ts Us (t ∷ ts) [] h k = tt
below-long Ts Us (t ∷ ts) (u ∷ us) h k = ((h.0, k.0), below-long Ts Us ts us h.1 k.1)

pub argument_pairs-long : (p : Pair) → IsLongPair p → Each IsLongPair (argument_pairs p.left p.right)
argument_pairs-long p h = below-long (abstractions p.left) (abstractions p.right) (arguments (term_body p.left)) (arguments (term_body p.right)) (sides_below p.left h.0) (sides_below p.right h.1)
