-- Types under the order of sorts, and the greatest domains.
use Rattle.std.proofs.Common.{◌≡◌, ℕ, List, [], ◌∷◌, ◌↔◌, Bool, IsTrue}
use Rattle.pure_text.specs.Lists.{EachTwo}
use Rattle.pure_definitions.specs.Types.Typ.{Typ, Con, Typs, typs_of}
use Rattle.pure_definitions.specs.Types.Order.{Arity, Algebra, IsOfClass, IsOfSort, AreOfSorts, IsCoregular}
use Rattle.pure_order_tables.specs.Arities.{IsGreatestIfAny}
use Rattle.pure_order_tables.specs.Checks.{IsDecided}
use Rattle.pure_order_tables.proofs.CoregularLaws.{directed, candidate_greatest}
use Rattle.pure_definitions.proofs.OrderLaws.{of_sorts_up}
use Rattle.pure_order.specs.Domains.{AreGreatestDomains}

pub greatest_domains : (A : Algebra) → IsDecided A → IsCoregular A → (k d : ℕ) (domains : List (List ℕ)) → ((q : Arity) × (q.domains ≡ domains) × IsGreatestIfAny A k d q) → AreGreatestDomains A k d domains
greatest_domains A decided r k d domains c = (c.0, c.1, candidate_greatest A decided k d (directed A r k d) c.0 c.2)

-- A constructor's type is of a class exactly where its arguments are of the greatest domains.
pub of_class_by_domains : (A : Algebra) (k d : ℕ) (domains : List (List ℕ)) → AreGreatestDomains A k d domains → (ts : Typs) → IsOfClass A (Con k ts) d ↔ AreOfSorts A ts domains
of_class_by_domains A k d domains g ts = rw (← g.1) (there, back)
  where
    there : IsOfClass A (Con k ts) d → AreOfSorts A ts g.0.domains
    there h = of_sorts_up A ts h.0.domains g.0.domains h.4 (g.2.above h.0 (record { declared = h.1; con = h.2; below = h.3 }))

    back : AreOfSorts A ts g.0.domains → IsOfClass A (Con k ts) d
    back h = (g.0, g.2.is.declared, g.2.is.con, g.2.is.below, h)

pub are_of_sorts : (A : Algebra) (ts : List Typ) (ss : List (List ℕ)) → AreOfSorts A (typs_of ts) ss ↔ EachTwo (IsOfSort A) ts ss
are_of_sorts A [] [] = (λ h. h, λ h. h)
are_of_sorts A [] (s ∷ ss) = (λ h. h, λ h. h)
are_of_sorts A (t ∷ ts) [] = (λ h. h, λ h. h)
are_of_sorts A (t ∷ ts) (s ∷ ss) = let rest = are_of_sorts A ts ss in (λ h. (h.0, rest.0 h.1), λ h. (h.0, rest.1 h.1))

-- An answer for a constructor's type, from whether its arguments are of the greatest domains.
pub con_answer : (A : Algebra) (k d : ℕ) (ts : List Typ) (domains : List (List ℕ)) (b : Bool) → ((us : Typs) → IsOfClass A (Con k us) d ↔ AreOfSorts A us domains) → (IsTrue b ↔ EachTwo (IsOfSort A) ts domains) → IsTrue b ↔ IsOfClass A (Con k (typs_of ts)) d
con_answer A k d ts domains b by test = (λ h. (by (typs_of ts)).1 ((are_of_sorts A ts domains).1 (test.0 h)), λ h. test.1 ((are_of_sorts A ts domains).0 ((by (typs_of ts)).0 h)))
