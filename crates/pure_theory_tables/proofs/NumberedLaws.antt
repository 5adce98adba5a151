-- Classes and arities by their numbers, and one declaration more.
use Rattle.std.proofs.Common.{◌≡◌, ◌⊎◌, ℕ, List, [], ◌∷◌, ◌++◌, ap, sym, ◌∙◌, inl, inr}
use Rattle.std.proofs.lemmas.Bool.{cases_eq}
use Rattle.std.proofs.lemmas.Option.{same_Some, none-some}
use Rattle.std.specs.Prelude.{Some, None}
use Rattle.std.specs.Ordering.{nat_cmp}
use Rattle.std.specs.FinMap.{FinMap, get, insert, empty, get-empty}
use Rattle.pure_text.specs.Lists.{IsIn}
use Rattle.pure_text.proofs.ListLaws.{in_split, in-append_left, in-append_right}
use Rattle.pure_definitions.specs.Declarations.Decl.{Decl, ClassDecl, IsDeclaredClass}
use Rattle.pure_theory_tables.specs.declared.entry.Entry.{Entry}
use Rattle.pure_theory_tables.specs.Agreement.{IsOfClass}
use Rattle.pure_theory_tables.specs.Keys.{number_key}
use Rattle.pure_theory_tables.specs.Numbered.{AreNumbered}
use Rattle.pure_theory_tables.specs.View.{decl_of}
use Rattle.pure_theory_tables.proofs.MapLaws.{get_here, get_beside}

pub none_numbered : AreNumbered empty []
none_numbered = record { each = λ d key m. absurd m; held = λ key e some. absurd (none-some e (sym (get-empty nat_cmp key) ∙ some)) }

-- Entries of the list by their numbers are those of it with a declaration more, whose number has one, too.
pub one_numbered : (numbered more : FinMap nat_cmp Entry) (ds : List Decl) (d : Decl) → ((key : ℕ) → ¬ (get numbered key ≡ None) → ¬ (get more key ≡ None)) → ((key : ℕ) → number_key d ≡ Some key → ¬ (get more key ≡ None))
    → ((key : ℕ) (e : Entry) → get more key ≡ Some e → (decl_of e ≡ d) ⊎ (get numbered key ≡ Some e)) → AreNumbered numbered ds → AreNumbered more (ds ++ d ∷ [])
one_numbered numbered more ds d kept new only h = record {
  each = λ e key m keyed. elim (in_split e ds (d ∷ []) m) [
    | inl old ↦ kept key (h.each e key old keyed)
    | inr one ↦ elim one [ inl same ↦ new key (ap number_key (sym same) ∙ keyed) | inr none ↦ absurd none ]
  ];
  held = λ key e some. elim (only key e some) [
    | inl same ↦ in-append_right (decl_of e) ds (d ∷ []) (inl same)
    | inr old ↦ in-append_left (decl_of e) ds (d ∷ []) (h.held key e old)
  ];
}

-- A new number gets the entry, and the others keep theirs.
pub put_numbered : (numbered more : FinMap nat_cmp Entry) (key : ℕ) (e held : Entry) (ds : List Decl) → held ≡ e → more ≡ insert numbered key held → number_key (decl_of e) ≡ Some key → AreNumbered numbered ds → AreNumbered more (ds ++ decl_of e ∷ [])
put_numbered numbered more key e held ds same is keyed h = one_numbered numbered more ds (decl_of e) kept new only h
  where
    here : get more key ≡ Some e
    here = ap (λ (t : FinMap nat_cmp Entry). get t key) is ∙ get_here numbered key held ∙ ap Some same

    beside : (j : ℕ) → ¬ (j ≡ key) → get more j ≡ get numbered j
    beside j other = ap (λ (t : FinMap nat_cmp Entry). get t j) is ∙ get_beside numbered key held j other

    there : ¬ (get more key ≡ None)
    there none = none-some e (sym none ∙ here)

    kept : (j : ℕ) → ¬ (get numbered j ≡ None) → ¬ (get more j ≡ None)
    kept j had = elim (cases_eq j key) [
      | inl at ↦ (λ none. there (ap (get more) (sym at) ∙ none))
      | inr other ↦ (λ none. had (sym (beside j other) ∙ none))
    ]

    new : (j : ℕ) → number_key (decl_of e) ≡ Some j → ¬ (get more j ≡ None)
    new j k none = there (ap (get more) (same_Some key j (sym keyed ∙ k)) ∙ none)

    only : (j : ℕ) (f : Entry) → get more j ≡ Some f → (decl_of f ≡ decl_of e) ⊎ (get numbered j ≡ Some f)
    only j f some = elim (cases_eq j key) [
      | inl at ↦ inl (ap decl_of (same_Some f e (sym some ∙ ap (get more) at ∙ here)))
      | inr other ↦ inr (sym (beside j other) ∙ some)
    ]

-- A number that has an entry already.
pub kept_numbered : (numbered more : FinMap nat_cmp Entry) (key : ℕ) (held : Entry) (ds : List Decl) (d : Decl) → more ≡ numbered → get numbered key ≡ Some held → number_key d ≡ Some key → AreNumbered numbered ds → AreNumbered more (ds ++ d ∷ [])
kept_numbered numbered more key held ds d is some keyed h = one_numbered numbered more ds d (λ j old none. old (back j ∙ none)) new (λ j e found. inr (back j ∙ found)) h
  where
    back : (j : ℕ) → get numbered j ≡ get more j
    back j = ap (λ (t : FinMap nat_cmp Entry). get t j) (sym is)

    new : (j : ℕ) → number_key d ≡ Some j → ¬ (get more j ≡ None)
    new j e none = none-some held (sym none ∙ sym (back j) ∙ ap (get numbered) (same_Some j key (sym e ∙ keyed)) ∙ some)

-- A declaration of another kind.
pub other_numbered : (numbered more : FinMap nat_cmp Entry) (ds : List Decl) (d : Decl) → more ≡ numbered → number_key d ≡ None → AreNumbered numbered ds → AreNumbered more (ds ++ d ∷ [])
other_numbered numbered more ds d is none h = one_numbered numbered more ds d (λ j old gone. old (back j ∙ gone)) (λ j e. absurd (none-some j (sym none ∙ e))) (λ j e found. inr (back j ∙ found)) h
  where
    back : (j : ℕ) → get numbered j ≡ get more j
    back j = ap (λ (t : FinMap nat_cmp Entry). get t j) (sym is)

-- What has no number isn't in the list.
pub not_numbered : (numbered : FinMap nat_cmp Entry) (ds : List Decl) (d : Decl) (key : ℕ) → AreNumbered numbered ds → number_key d ≡ Some key → get numbered key ≡ None → ¬ IsIn d ds
not_numbered numbered ds d key h keyed none m = h.each d key m keyed none

pub class_not_numbered : (numbered : FinMap nat_cmp Entry) (ds : List Decl) (n : ℕ) → AreNumbered numbered ds → get numbered n ≡ None → ¬ IsDeclaredClass ds n
class_not_numbered numbered ds n h none k = not_numbered numbered ds (ClassDecl k.0) n h (ap Some k.2) none k.1

-- What an entry under a number holds is in the list.
pub same_numbered : (numbered : FinMap nat_cmp Entry) (ds : List Decl) (d : Decl) (key : ℕ) (e : Entry) → AreNumbered numbered ds → get numbered key ≡ Some e → decl_of e ≡ d → IsIn d ds
same_numbered numbered ds d key e h some same = rw (← same) (h.held key e some)

of_class : (ds : List Decl) (d : Decl) (n : ℕ) → IsIn d ds → IsOfClass d n → IsDeclaredClass ds n
of_class ds (ClassDecl k) n m h = (k, m, h)
of_class ds _ n m h = absurd h

pub class_numbered : (numbered : FinMap nat_cmp Entry) (ds : List Decl) (n key : ℕ) (e : Entry) → AreNumbered numbered ds → get numbered key ≡ Some e → IsOfClass (decl_of e) n → IsDeclaredClass ds n
class_numbered numbered ds n key e h some is = of_class ds (decl_of e) n (h.held key e some) is
