-- Tables that agree on the classes that both declare.
use Rattle.std.proofs.Common.{◌≡◌, ◌∙◌, ℕ, ◌<◌, List, length, get_or, refl, sym, ap, ◌↔◌, Bool, true, false, not, nat_eq, IsTrue}
use Rattle.std.proofs.lemmas.Bool.{eqb-true}
use Rattle.std.proofs.lemmas.Bool.Decides.{Decides-eqb}
use Rattle.std.proofs.lemmas.Slice.Eq.{slice_eq-Decides}
use Rattle.pure_text.specs.Lists.{IsIn, Each}
use Rattle.pure_text.proofs.ListLaws.{each_of, each_at, read_in, in-map}
use Rattle.pure_definitions.specs.Types.Typ.{sort_eq}
use Rattle.pure_definitions.specs.Types.Order.{Class}
use Rattle.pure_order_tables.specs.declared.classes.ClassEntry.{ClassEntry}
use Rattle.pure_order_tables.specs.ClassView.{class_of, classes_of}
use Rattle.pure_order_tables.specs.Classes.{Agree, IsSameIfNamed}

pub named_alike : (m n : ℕ) (b : Bool) → b ≡ not (nat_eq m n) → b ≡ false → m ≡ n
named_alike m n b e h = eqb-true m n (by (nat_eq m n) (sym e ∙ h))
  where
    by : (b : Bool) → not b ≡ false → b ≡ true
    by true h = refl
    by false h = cc

pub same_if_named : (c k : Class) (b : Bool) → c.name ≡ k.name → b ≡ sort_eq c.above k.above → IsTrue b ↔ IsSameIfNamed c k
same_if_named c k b named test = (λ t e. same c k e (decides.0 t), λ h. decides.1 (ap (λ (x : Class). x.above) (h named)))
  where
    decides : IsTrue b ↔ (c.above ≡ k.above)
    decides = slice_eq-Decides Decides-eqb c.above k.above b test

    same : (c k : Class) → c.name ≡ k.name → c.above ≡ k.above → c ≡ k
    same c k e f = λ i. record { name = e i; above = f i }

pub class_in : (es : List ClassEntry) (i : ℕ) (e : ClassEntry) → i < length es → e ≡ get_or es i e → IsIn (class_of e) (classes_of es)
class_in es i e within read = in-map class_of e es (read_in es i e within read)

pub agree_each : (cs ks : List Class) → Each (λ c. Each (IsSameIfNamed c) ks) cs ↔ Agree cs ks
agree_each cs ks = (
  λ h c k m n e. each_at (IsSameIfNamed c) ks (each_at (λ c. Each (IsSameIfNamed c) ks) cs h c m) k n e,
  λ h. each_of (λ c. Each (IsSameIfNamed c) ks) cs (λ c m. each_of (IsSameIfNamed c) ks (λ k n e. h c k m n e)),
)
