-- Sets of places.
use Rattle.std.proofs.Common.{ℕ, ◌+◌, ◌<◌, ◌/◌, inl, inr, List, length, arith, max, min}
use Rattle.std.proofs.lemmas.List.{length-set}
use Rattle.pure_order_tables.proofs.RowLaws.{with_bit, held_after}
use Rattle.pure_order.specs.Places.{IsPlaces}

pub places_after : (words : List ℕ) (from to place : ℕ) → IsPlaces words from to → place < 8192 → IsPlaces (with_bit words place) (min from place) (max to (place + 1))
places_after words from to place p within =
    let inside : place / 64 < length words = (let c = p.count in omega arith) in
    record {
      count = rw length-set p.count;
      start = λ other h. elim ((held_after words place inside other).0 h) [ inl e ↦ omega arith | inr k ↦ (let b = p.start other k in omega arith) ];
      end = λ other h. elim ((held_after words place inside other).0 h) [ inl e ↦ omega arith | inr k ↦ (let b = p.end other k in omega arith) ];
    }
