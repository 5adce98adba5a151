-- A list and what another has beside it.
use Rattle.std.proofs.Common.{◌≡◌, ◌↔◌, ◌⊎◌, List, [], ◌∷◌, ◌++◌, sym, ap, inl, inr, ◌∙◌, append_assoc, append-nil}
use Rattle.pure_text.specs.Lists.{IsIn}
use Rattle.pure_text.proofs.ListLaws.{in-append_left, in-append_right, in_split}
use Rattle.pure_order_tables.specs.Others.{AreOthers, none, there, new, AreWithOthers}

others_there : {T : Type 0} {xs ys zs : List T} (x : T) → AreOthers xs ys zs → IsIn x xs → AreOthers xs (ys ++ x ∷ []) zs
others_there x none m = there m none
others_there x (there n h) m = there n (others_there x h m)
others_there x (new n h) m = new n (others_there x h m)

others_new : {T : Type 0} {xs ys zs : List T} (x : T) → AreOthers xs ys zs → ¬ IsIn x xs → AreOthers xs (ys ++ x ∷ []) (zs ++ x ∷ [])
others_new x none m = new m none
others_new x (there n h) m = there n (others_new x h m)
others_new x (new n h) m = new n (others_new x h m)

others-in : {T : Type 0} {xs ys zs : List T} (k : T) → AreOthers xs ys zs → IsIn k zs → IsIn k ys
others-in k none m = m
others-in k (there n h) m = inr (others-in k h m)
others-in k (new n h) m = elim m [ inl e ↦ inl e | inr t ↦ inr (others-in k h t) ]

in-others : {T : Type 0} {xs ys zs : List T} (k : T) → AreOthers xs ys zs → IsIn k ys → IsIn k xs ⊎ IsIn k zs
in-others k none m = inr m
in-others k (there n h) m = elim m [ inl e ↦ inl (rw e n) | inr t ↦ in-others k h t ]
in-others k (new n h) m = elim m [ inl e ↦ inr (inl e) | inr t ↦ elim (in-others k h t) [ inl a ↦ inl a | inr b ↦ inr (inr b) ] ]

pub others_none : {T : Type 0} (xs : List T) → AreWithOthers xs [] xs
others_none xs = record { others = []; are = none; joined = sym (append-nil xs) }

-- one turn over the second list
pub others_kept : {T : Type 0} (xs ys ys' zs : List T) (x : T) → ys' ≡ ys ++ x ∷ [] → IsIn x xs → AreWithOthers xs ys zs → AreWithOthers xs ys' zs
others_kept xs ys ys' zs x longer m w = rw longer (record { others = w.others; are = others_there x w.are m; joined = w.joined })

pub others_put : {T : Type 0} (xs ys ys' zs zs' : List T) (x : T) → ys' ≡ ys ++ x ∷ [] → zs' ≡ zs ++ x ∷ [] → ¬ IsIn x xs → AreWithOthers xs ys zs → AreWithOthers xs ys' zs'
others_put xs ys ys' zs zs' x longer more m w = rw (longer, more) (record { others = w.others ++ x ∷ []; are = others_new x w.are m; joined = ap (λ us. us ++ x ∷ []) w.joined ∙ append_assoc xs w.others (x ∷ []) })

-- what is in the list with the others
pub with_others : {T : Type 0} (xs ys zs : List T) → AreWithOthers xs ys zs → (k : T) → IsIn k zs ↔ (IsIn k xs ⊎ IsIn k ys)
with_others xs ys zs w k = rw w.joined (
  λ m. elim (in_split k xs w.others m) [ inl a ↦ inl a | inr b ↦ inr (others-in k w.are b) ],
  λ m. elim m [
    | inl a ↦ in-append_left k xs w.others a
    | inr b ↦ elim (in-others k w.are b) [ inl a ↦ in-append_left k xs w.others a | inr c ↦ in-append_right k xs w.others c ]
  ],
)
