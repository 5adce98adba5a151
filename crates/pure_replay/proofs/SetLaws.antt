-- Sets of hypotheses, and the lists whose sets they are.
use Rattle.std.proofs.Common.{◌≡◌, List, [], ◌∷◌, ◌++◌, refl, subst, sym, inl, inr}
use Rattle.std.specs.Set.{sorted_merge}
use Rattle.std.specs.Prelude.{true}
use Rattle.pure_text.specs.Lists.{IsIn, Each}
use Rattle.pure_text.proofs.ListLaws.{each_of, each_at, in_split, in-append_left, in-append_right, none_in}
use Rattle.pure_definitions.specs.Terms.Term.{Term}
use Rattle.pure_definitions.specs.Models.Comparison.{term_cmp}
use Rattle.pure_logic.specs.Tree.{without}
use Rattle.pure_logic.proofs.DischargeLaws.{without-among}
use Rattle.pure_theorem.specs.Sets.{IsTermSet, IsSetOf}
use Rattle.pure_theorem.proofs.SetLaws.{no_terms, one_term, set-without, union_of_terms}

-- A set is that of itself.
pub same_set : (items all : List Term) → IsTermSet items → all ≡ items → IsSetOf term_cmp items all
same_set items all ascends e = record {
  ascends = subst IsTermSet (sym e) ascends;
  members = λ x. (λ m. subst (IsIn x) e m, λ m. subst (IsIn x) (sym e) m);
}

pub set_of_none : (all : List Term) → all ≡ [] → IsSetOf term_cmp [] all
set_of_none all e = same_set [] all no_terms e

pub set_of_one : (A : Term) (all : List Term) → all ≡ A ∷ [] → IsSetOf term_cmp (A ∷ []) all
set_of_one A all e = same_set (A ∷ []) all (one_term A) e

-- What each of a list has, each of its set has, and back.
pub each_in_set : (P : Term → Type 0) (items all : List Term) → IsSetOf term_cmp items all → Each P items → Each P all
each_in_set P items all s h = each_of P all (λ A m. each_at P items h A ((s.members A).0 m))

pub each_in_list : (P : Term → Type 0) (items all : List Term) → IsSetOf term_cmp items all → Each P all → Each P items
each_in_list P items all s h = each_of P items (λ A m. each_at P all h A ((s.members A).1 m))

pub set_without : (A : Term) (items all kept : List Term) → IsSetOf term_cmp items all → kept ≡ without A all → IsSetOf term_cmp (without A items) kept
set_without A items all kept s e = record {
  ascends = subst IsTermSet (sym e) (set-without A all s.ascends);
  members = λ x. (
    λ m. each_at (λ B. IsIn B (without A items)) (without A all) (without-among A items all (each_of (λ B. IsIn B items) all (λ B n. (s.members B).0 n))) x (subst (IsIn x) e m),
    λ m. subst (IsIn x) (sym e) (each_at (λ B. IsIn B (without A all)) (without A items) (without-among A all items (each_of (λ B. IsIn B all) items (λ B n. (s.members B).1 n))) x m),
  );
}

-- The set of two sets is that of their lists.
pub set_of_both : (xs ys left right all : List Term) → IsSetOf term_cmp xs left → IsSetOf term_cmp ys right → IsSetOf term_cmp (left ++ right) all → IsSetOf term_cmp (xs ++ ys) all
set_of_both xs ys left right all s t u = record {
  ascends = u.ascends;
  members = λ x. (
    λ m. elim (in_split x left right ((u.members x).0 m)) [ inl l ↦ in-append_left x xs ys ((s.members x).0 l) | inr r ↦ in-append_right x xs ys ((t.members x).0 r) ],
    λ m. (u.members x).1 (elim (in_split x xs ys m) [ inl l ↦ in-append_left x left right ((s.members x).1 l) | inr r ↦ in-append_right x left right ((t.members x).1 r) ]),
  );
}

pub united : (left right : List Term) → IsTermSet left → IsTermSet right → IsSetOf term_cmp (left ++ right) (sorted_merge term_cmp true left right)
united left right s t = union_of_terms left right (sorted_merge term_cmp true left right) refl s t

-- Where the set is empty, so is the list.
pub nothing_in : (items all : List Term) → IsSetOf term_cmp items all → all ≡ [] → items ≡ []
nothing_in items all s e = none_in items (each_of (λ x. IsIn x []) items (λ x m. subst (IsIn x) e ((s.members x).1 m)))
