-- Entries at their places, and one more at the end.
use Rattle.std.proofs.Common.{◌≡◌, ℕ, zero, suc, ◌+◌, ◌<◌, ◌≤◌, List, [], ◌∷◌, ◌++◌, length, length-append, add-one, refl, ap, sym, ◌∙◌, inl, inr, arith}
use Rattle.std.proofs.lemmas.Bool.{cases_eq}
use Rattle.std.proofs.lemmas.Option.{slice_get_past, none-some}
use Rattle.std.specs.Prelude.{Option, Some, None, slice_get}
use Rattle.std.specs.Option.{option_map, option_to_list}
use Rattle.std.specs.Ordering.{nat_cmp}
use Rattle.std.specs.FinMap.{FinMap, get, len, insert, empty, get-empty, len-empty}
use Rattle.pure_definitions.specs.Declarations.Decl.{Decl}
use Rattle.pure_theory_tables.specs.declared.entry.Entry.{Entry}
use Rattle.pure_theory_tables.specs.View.{decl_of, first_of, in_order}
use Rattle.pure_theory_tables.specs.declared.index.Index.{Index}
use Rattle.pure_theory_tables.specs.Numbered.{AreNumbered}
use Rattle.pure_theory_tables.specs.Tables.{IsListOf, IsIndexOf, AreTables}
use Rattle.pure_theory_tables.proofs.MapLaws.{get_here, get_beside, one_longer}

at_end : {A : Type 0} (xs : List A) (x : A) → slice_get (xs ++ x ∷ []) (length xs) ≡ Some x
at_end [] x = refl
at_end (y ∷ ys) x = at_end ys x

not_at_end : {A : Type 0} (xs : List A) (x : A) (place : ℕ) → ¬ (place ≡ length xs) → slice_get (xs ++ x ∷ []) place ≡ slice_get xs place
not_at_end [] x zero other = absurd (other refl)
not_at_end [] x (suc place) other = refl
not_at_end (y ∷ ys) x zero other = refl
not_at_end (y ∷ ys) x (suc place) other = not_at_end ys x place (λ e. other (ap suc e))

nothing_mapped : {A B : Type 0} (f : A → B) (o : Option A) → None ≡ option_map f o → o ≡ None
nothing_mapped f None e = refl
nothing_mapped f (Some x) e = absurd (none-some (f x) e)

-- Nothing stands behind the end.
pub nothing_behind : (list : FinMap nat_cmp Entry) (ds : List Decl) → IsListOf list ds → get list (len list) ≡ None
nothing_behind list ds is =
    let long = is.long in
    let past : length ds ≤ len list = omega (arith, long) in
    nothing_mapped decl_of (get list (len list)) (sym (slice_get_past ds (len list) past) ∙ is.entries (len list))

pub nothing_at : (list : FinMap nat_cmp Entry) (ds : List Decl) (place : ℕ) → IsListOf list ds → get list place ≡ None → slice_get ds place ≡ None
nothing_at list ds place is none = is.entries place ∙ ap (option_map decl_of) none

pub entry_at : (list : FinMap nat_cmp Entry) (ds : List Decl) (place : ℕ) (e : Entry) → IsListOf list ds → get list place ≡ Some e → slice_get ds place ≡ Some (decl_of e)
entry_at list ds place e is some = is.entries place ∙ ap (option_map decl_of) some

pub one_listed : (list : FinMap nat_cmp Entry) (ds : List Decl) (e : Entry) → IsListOf list ds → IsListOf (insert list (len list) e) (ds ++ decl_of e ∷ [])
one_listed list ds e is = record { entries = each; long = longer }
  where
    here : slice_get (ds ++ decl_of e ∷ []) (len list) ≡ Some (decl_of e)
    here = rw (← is.long) (at_end ds (decl_of e))

    each : (place : ℕ) → slice_get (ds ++ decl_of e ∷ []) place ≡ option_map decl_of (get (insert list (len list) e) place)
    each place = elim (cases_eq place (len list)) [
      | inl same ↦ rw same (here ∙ ap (option_map decl_of) (sym (get_here list (len list) e)))
      | inr other ↦ not_at_end ds (decl_of e) place (λ p. other (p ∙ is.long)) ∙ is.entries place ∙ ap (option_map decl_of) (sym (get_beside list (len list) e place other))
    ]

    longer : length (ds ++ decl_of e ∷ []) ≡ len (insert list (len list) e)
    longer = length-append ds (decl_of e ∷ []) ∙ ap (λ n. n + 1) is.long ∙ sym (one_longer list (len list) e (nothing_behind list ds is))

same_first : (f g : ℕ → Option Entry) (n : ℕ) → ((k : ℕ) → k < n → f k ≡ g k) → first_of f n ≡ first_of g n
same_first f g zero same = refl
same_first f g (suc n) same =
    let front : first_of f n ≡ first_of g n = same_first f g n (λ k below. same k (omega (arith, below))) in
    let last : f n ≡ g n = same n (omega arith) in
    ap (λ (ds : List Decl). ds ++ option_to_list (option_map decl_of (f n))) front ∙ ap (λ (o : Option Entry). first_of g n ++ option_to_list (option_map decl_of o)) last

-- With an entry more at the end, the declarations are one more.
pub one_in_order : (list : FinMap nat_cmp Entry) (e : Entry) → IsListOf list (in_order list) → in_order (insert list (len list) e) ≡ in_order list ++ decl_of e ∷ []
one_in_order list e is =
    let longer : len (insert list (len list) e) ≡ suc (len list) = one_longer list (len list) e (nothing_behind list (in_order list) is) ∙ add-one _ in
    ap (first_of (get (insert list (len list) e))) longer
    ∙ ap (λ (o : Option Entry). first_of (get (insert list (len list) e)) (len list) ++ option_to_list (option_map decl_of o)) (get_here list (len list) e)
    ∙ ap (λ (ds : List Decl). ds ++ decl_of e ∷ []) (same_first (get (insert list (len list) e)) (get list) (len list) (λ k below. get_beside list (len list) e k (λ same. absurd (omega (arith, below, same)))))

pub none_listed : IsListOf empty []
none_listed = record { entries = λ place. ap (option_map decl_of) (sym (get-empty nat_cmp place)); long = sym (len-empty nat_cmp Entry) }

pub none_in_order : in_order empty ≡ []
none_in_order = ap (first_of (get empty)) (len-empty nat_cmp Entry)

-- The same, for a map and an entry that are equal to these.
pub grown_list : (list more : FinMap nat_cmp Entry) (place : ℕ) (held e : Entry) → place ≡ len list → held ≡ e → more ≡ insert list place held → IsListOf list (in_order list) → in_order more ≡ in_order list ++ decl_of e ∷ []
grown_list list more place held e last same is h = ap in_order (is ∙ ap (λ (n : ℕ). insert list n held) last ∙ ap (insert list (len list)) same) ∙ one_in_order list e h

pub grown_tables : (list more : FinMap nat_cmp Entry) (index : Index) (numbered : FinMap nat_cmp Entry) (place : ℕ) (held e : Entry) → place ≡ len list → held ≡ e → more ≡ insert list place held → IsListOf list (in_order list) → IsIndexOf index (in_order list ++ decl_of e ∷ []) → AreNumbered numbered (in_order list ++ decl_of e ∷ [])
    → AreTables more index numbered (in_order more)
grown_tables list more index numbered place held e last same is h indexed by_number =
    rw (grown_list list more place held e last same is h) (record { listed = rw (is, last, same) (one_listed list (in_order list) e h); indexed = indexed; by_number = by_number })
