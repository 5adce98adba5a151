-- What is asked of the variables of a type, and substitutions that meet it.
use Rattle.std.proofs.Common.{ℕ, List, [], ◌∷◌, ◌++◌, inl, inr, Bool, true, false, refl, sym, subst, cond}
use Rattle.pure_text.specs.Lists.{IsIn, Each}
use Rattle.pure_text.proofs.ListLaws.{each_of, each_at, any_of, in-append_left, in-append_right}
use Rattle.pure_definitions.specs.Types.Typ.{Typ, TFree, TVar, Con, typ_eq}
use Rattle.pure_definitions.specs.Types.Order.{Algebra, IsClassBelow, itself, HasClassBelow, IsSortBelow, IsOfSort}
use Rattle.pure_definitions.specs.Terms.Subst.{typ_instance}
use Rattle.pure_definitions.specs.Models.Equality.{typ_eq-itself}
use Rattle.pure_definitions.proofs.OrderLaws.{sort_below-itself}
use Rattle.pure_term_laws.proofs.SubstLaws.{typ_instance-identity}
use Rattle.pure_tunify.specs.declared.asks.Asked.{Asked}
use Rattle.pure_tunify.specs.Unifiers.{IsSubstitution}
use Rattle.pure_tunify.specs.Asks.{IsMet, AreAsked, HasNoInstance}
use Rattle.pure_tunify.specs.Steps.{Asks}
use Rattle.pure_tunify.proofs.MapLaws.{identity_is_substitution}

pub each_is_asked : (A : Algebra) (t : Typ) (s : List ℕ) (asked : List Asked) (a : Asked) → AreAsked A t s asked → IsIn a asked → Asks A t s (TVar a.name a.index a.sort) a.asked
each_is_asked A t s asked a are m typs sub of = each_at (IsMet A typs) asked ((are typs sub).0 of) a m

pub nothing_to_narrow : (A : Algebra) (t : Typ) (s : List ℕ) (asked : List Asked) → AreAsked A t s asked → Each (λ a. IsSortBelow A a.sort a.asked) asked → IsOfSort A t s
nothing_to_narrow A t s asked are below = rw (typ_instance-identity t) at ((are (λ v. v) (identity_is_substitution A)).1 below)

pub only_there : (A : Algebra) (t : Typ) (s : List ℕ) (asked : List Asked) → AreAsked A t s asked → IsOfSort A t s → Each (λ a. IsSortBelow A a.sort a.asked) asked
only_there A t s asked are of = (are (λ v. v) (identity_is_substitution A)).0 (rw (typ_instance-identity t) of)

-- the classes that are asked of a variable
abbrev pub asked_classes : Typ → List Asked → List ℕ
asked_classes v [] = []
asked_classes v (a ∷ asked) = cond (typ_eq v (TVar a.name a.index a.sort)) (a.asked ++ asked_classes v asked) (asked_classes v asked)

-- the map that gives each schematic variable all classes that are asked of it beside its own
abbrev pub meeting : List Asked → Typ → Typ
meeting asked (TVar x i s) = TVar x i (s ++ asked_classes (TVar x i s) asked)
meeting asked (TFree x s) = TFree x s
meeting asked (Con k ts) = Con k ts

below-more_classes : (A : Algebra) (s r : List ℕ) → ((c : ℕ) → IsIn c r → IsIn c s) → IsSortBelow A s r
below-more_classes A s r among = each_of (HasClassBelow A s) r (λ c m. any_of (λ b. IsClassBelow A b c) c s (among c m) itself)

pub meeting_is_substitution : (A : Algebra) (asked : List Asked) → IsSubstitution A (meeting asked)
meeting_is_substitution A asked = record {
  respects = record {
    fixed = λ x s. sort_below-itself A s;
    schematic = λ x i s. below-more_classes A (s ++ asked_classes (TVar x i s) asked) s (λ c m. in-append_left c s (asked_classes (TVar x i s) asked) m);
  };
  keeps = λ x s. refl;
}

in_later : (c : ℕ) (b : Bool) (xs ys : List ℕ) → IsIn c ys → IsIn c (cond b (xs ++ ys) ys)
in_later c true xs ys m = in-append_right c xs ys m
in_later c false xs ys m = m

asked_first : (b : Asked) (asked : List Asked) (c : ℕ) → IsIn c b.asked → IsIn c (asked_classes (TVar b.name b.index b.sort) (b ∷ asked))
asked_first b asked c k = rw (typ_eq-itself (TVar b.name b.index b.sort)) (in-append_left c b.asked (asked_classes (TVar b.name b.index b.sort) asked) k)

asked_among : (asked : List Asked) (a : Asked) → IsIn a asked → (c : ℕ) → IsIn c a.asked → IsIn c (asked_classes (TVar a.name a.index a.sort) asked)
asked_among [] a m c k = absurd m
asked_among (b ∷ asked) a (inl e) c k = subst (λ (x : Asked). IsIn c x.asked → IsIn c (asked_classes (TVar x.name x.index x.sort) (b ∷ asked))) (sym e) (asked_first b asked c) k
asked_among (b ∷ asked) a (inr m) c k =
    in_later c (typ_eq (TVar a.name a.index a.sort) (TVar b.name b.index b.sort)) b.asked (asked_classes (TVar a.name a.index a.sort) asked) (asked_among asked a m c k)

-- Under the map that meets what is asked, the type is of the sort.
pub meeting_meets : (A : Algebra) (t : Typ) (s : List ℕ) (asked : List Asked) → AreAsked A t s asked → IsOfSort A (typ_instance (meeting asked) t) s
meeting_meets A t s asked are = (are (meeting asked) (meeting_is_substitution A asked)).1 (each_of (IsMet A (meeting asked)) asked met)
  where
    met : (a : Asked) → IsIn a asked → IsMet A (meeting asked) a
    met a m = below-more_classes A (a.sort ++ asked_classes (TVar a.name a.index a.sort) asked) a.asked
        (λ c k. in-append_right c a.sort (asked_classes (TVar a.name a.index a.sort) asked) (asked_among asked a m c k))

pub asked_has_instance : (A : Algebra) (t : Typ) (s : List ℕ) (asked : List Asked) → AreAsked A t s asked → ¬ HasNoInstance A t s
asked_has_instance A t s asked are none = none (meeting asked) (meeting_is_substitution A asked) (meeting_meets A t s asked are)
