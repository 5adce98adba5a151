-- Tables by name, and one declaration more.
use Rattle.std.proofs.Common.{◌≡◌, ◌↔◌, ℕ, List, [], ◌∷◌, ◌++◌, refl, ap, sym, ◌∙◌, inl, inr}
use Rattle.std.proofs.lemmas.Bool.{cases_eq}
use Rattle.std.proofs.lemmas.Option.{same_Some, none-some}
use Rattle.std.specs.Prelude.{Option, Some, None}
use Rattle.std.specs.Ordering.{nat_cmp}
use Rattle.std.specs.FinMap.{FinMap, get, insert, empty, get-empty}
use Rattle.pure_text.specs.Lists.{IsIn}
use Rattle.pure_text.proofs.ListLaws.{in_split, in-append_left, in-append_right}
use Rattle.pure_definitions.specs.Declarations.Decl.{Decl}
use Rattle.pure_theory_tables.specs.Tables.{IsTableOf}
use Rattle.pure_theory_tables.proofs.MapLaws.{get_here, get_beside}

module _ {V : Type 0} (decl : ℕ → V → Decl) where
  pub no_table : IsTableOf decl empty []
  no_table = record { is = λ k v. (λ m. absurd m, λ e. absurd (none-some v (sym (get-empty nat_cmp k) ∙ e))) }

  pub absent : (table : FinMap nat_cmp V) (ds : List Decl) (k : ℕ) → IsTableOf decl table ds → get table k ≡ None → (v : V) → ¬ IsIn (decl k v) ds
  absent table ds k t none v m = none-some v (sym none ∙ (t.is k v).0 m)

  pub present : (table : FinMap nat_cmp V) (ds : List Decl) (k : ℕ) (v : V) → IsTableOf decl table ds → get table k ≡ Some v → (w : V) → IsIn (decl k w) ds ↔ (w ≡ v)
  present table ds k v t some w = (λ m. same_Some w v (sym ((t.is k w).0 m) ∙ some), λ e. (t.is k w).1 (some ∙ ap Some (sym e)))

  pub fresh : (table : FinMap nat_cmp V) (ds : List Decl) (k : ℕ) → IsTableOf decl table ds → ((v : V) → ¬ IsIn (decl k v) ds) → get table k ≡ None
  fresh table ds k t none = by (get table k) refl
    where
      by : (o : Option V) → get table k ≡ o → get table k ≡ None
      by None e = e
      by (Some v) e = absurd (none v ((t.is k v).1 e))

  -- a declaration that the table doesn't tell of
  pub other_kind : (table : FinMap nat_cmp V) (ds : List Decl) (d : Decl) → ((k : ℕ) (v : V) → ¬ (decl k v ≡ d)) → IsTableOf decl table ds → IsTableOf decl table (ds ++ d ∷ [])
  other_kind table ds d other t = record {
    is = λ k v. (
      λ m. elim (in_split (decl k v) ds (d ∷ []) m) [
        | inl old ↦ (t.is k v).0 old
        | inr new ↦ elim new [ inl e ↦ absurd (other k v e) | inr none ↦ absurd none ]
      ],
      λ e. in-append_left (decl k v) ds (d ∷ []) ((t.is k v).1 e),
    );
  }

  -- a declaration that it tells of, under a new name
  pub one_more : (table : FinMap nat_cmp V) (ds : List Decl) (k : ℕ) (v : V) → ((j : ℕ) (w : V) → decl j w ≡ decl k v → (j ≡ k) × (w ≡ v)) → get table k ≡ None → IsTableOf decl table ds → IsTableOf decl (insert table k v) (ds ++ decl k v ∷ [])
  one_more table ds k v same new t = record { is = λ j w. (there j w, back j w) }
    where
      there : (j : ℕ) (w : V) → IsIn (decl j w) (ds ++ decl k v ∷ []) → get (insert table k v) j ≡ Some w
      there j w m = elim (in_split (decl j w) ds (decl k v ∷ []) m) [
        | inl old ↦ get_beside table k v j (λ e. none-some w (sym new ∙ ap (get table) (sym e) ∙ (t.is j w).0 old)) ∙ (t.is j w).0 old
        | inr one ↦ elim one [
          | inl e ↦ ap (get (insert table k v)) (same j w e).0 ∙ get_here table k v ∙ ap Some (sym (same j w e).1)
          | inr none ↦ absurd none
        ]
      ]

      back : (j : ℕ) (w : V) → get (insert table k v) j ≡ Some w → IsIn (decl j w) (ds ++ decl k v ∷ [])
      back j w e = elim (cases_eq j k) [
        | inl here ↦
            let value : w ≡ v = same_Some w v (sym e ∙ ap (get (insert table k v)) here ∙ get_here table k v) in
            rw (here, value) (in-append_right (decl k v) ds (decl k v ∷ []) (inl refl))
        | inr beside ↦ in-append_left (decl j w) ds (decl k v ∷ []) ((t.is j w).1 (sym (get_beside table k v j beside) ∙ e))
      ]
