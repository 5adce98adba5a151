use Rattle.std.proofs.Common.{inl, inr}
use Rattle.pure_order_tables.proofs.classes.ClassTable.names_of.Goals as goal

pub returns-clause-has : goal.returns-clause-has
returns-clause-has c above has row x =
    let put = c.in_ok-put.ensures.has x in
    let named = c.in_ok-names.ensures.has above has row x in (
      λ m. elim (put.0 m) [ inl e ↦ inl e | inr o ↦ inr (named.0 o) ],
      λ w. elim w [ inl e ↦ put.1 (inl e) | inr v ↦ put.1 (inr (named.1 v)) ],
    )
