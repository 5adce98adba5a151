-- Lists of derivable theorems, and the parts of implications that are certified.
use Rattle.std.proofs.Common.{◌≡◌, ◌⊎◌, ◌<◌, inl, inr, ℕ, List, [], ◌∷◌, ◌++◌, length, get_or, sym, subst, Option, Some, None}
use Rattle.std.specs.Prelude.{IfSome}
use Rattle.pure_kernel.specs.Texts.Lists.{IsIn}
use Rattle.pure_kernel.proofs.Texts.ListLaws.{in_split, read_in}
use Rattle.pure_kernel.specs.Definitions.Terms.Term.{Term}
use Rattle.pure_kernel.specs.Definitions.Declarations.Decl.{Decl}
use Rattle.pure_kernel.specs.Definitions.Declarations.Certified.{IsCertified}
use Rattle.pure_kernel.specs.Logic.Connectives.{imp}
use Rattle.pure_kernel.specs.Logic.Content.{Content}
use Rattle.pure_kernel.specs.Logic.Derivable.{Theorem, IsDerivable}
use Rattle.pure_kernel.specs.Theorems.Facts.{IsTheoryContent}
use Rattle.pure_kernel.proofs.Logic.PropositionLaws.{derivable_is_proposition}
use Rattle.pure_kernel.specs.Theorems.declared.fault.RuleFault.{RuleFault}
use Rattle.pure_kernel.specs.Theorems.declared.fault.RuleFault.TheVariants.{NotProp, Big, Memory}
use Rattle.pure_tauto.specs.Decided.{AreDerivable, proved, IsStop, IsRefusal}

pub certified-premise : (ds : List Decl) (A B : Term) → IsCertified ds (imp A B) → IsCertified ds A
certified-premise ds A B h = record { parts = h.parts.0.1; typ = h.typed.1.0; typed = h.typed.1.2 }

pub certified-conclusion : (ds : List Decl) (A B : Term) → IsCertified ds (imp A B) → IsCertified ds B
certified-conclusion ds A B h = record { parts = h.parts.1; typ = h.typed.0; typed = h.typed.2 }

-- The premise of a derivable implication.
pub premise-certified : (Q : Content) → IsTheoryContent Q → (th : Theorem) → IsDerivable Q th → (A C : Term) → th.prop ≡ imp A C → IsCertified Q.declarations A
premise-certified Q q th h A C is = certified-premise Q.declarations A C (subst (IsCertified Q.declarations) is (derivable_is_proposition Q q.content q.above_pure th h).certified)

-- ---- lists
pub pushed-in : {A : Type 0} (old new : List A) (a : A) → new ≡ old ++ a ∷ [] → (x : A) → IsIn x new → IsIn x old ⊎ (x ≡ a)
pushed-in old new a is x m = elim (in_split x old (a ∷ []) (subst (IsIn x) is m)) [ inl i ↦ inl i | inr k ↦ elim k [ inl e ↦ inr e | inr n ↦ absurd n ] ]

pub put-in : {A : Type 0} (known old new : List A) (i : ℕ) (a : A) → i < length known → a ≡ get_or known i a → ((x : A) → IsIn x old → IsIn x known) → ((x : A) → IsIn x new → IsIn x old ⊎ (x ≡ a)) → (x : A) → IsIn x new → IsIn x known
put-in known old new i a within is inside more x m = elim (more x m) [ inl k ↦ inside x k | inr e ↦ subst (λ y. IsIn y known) (sym e) (read_in known i a within is) ]

pub with-in : {A : Type 0} (known some more : List A) (a : A) → ((x : A) → IsIn x some → IsIn x known) → more ≡ some ++ a ∷ [] → (x : A) → IsIn x more → IsIn x known ⊎ (x ≡ a)
with-in known some more a inside is x m = elim (pushed-in some more a is x m) [ inl k ↦ inl (inside x k) | inr e ↦ inr e ]

pub with-derivable : (Q : Content) (known more : List Theorem) (th : Theorem) → AreDerivable Q known → IsDerivable Q th → ((x : Theorem) → IsIn x more → IsIn x known ⊎ (x ≡ th)) → AreDerivable Q more
with-derivable Q known more th h k inside x m = elim (inside x m) [ inl i ↦ h x i | inr e ↦ subst (IsDerivable Q) (sym e) k ]

pub derivable-at : (Q : Content) (known : List Theorem) (i : ℕ) (th : Theorem) → i < length known → th ≡ get_or known i th → AreDerivable Q known → IsDerivable Q th
derivable-at Q known i th within is h = h th (read_in known i th within is)

-- ---- what the search found
pub proof-of : (th : Theorem) (A : Term) → th.hyps ≡ [] → th.pairs ≡ [] → th.prop ≡ A → th.rests ≡ [] → th ≡ proved A
proof-of th A h p s r = λ i. record { hyps = h i; pairs = p i; prop = s i; rests = r i }

pub kept : (Q : Content) (found answer : Option Theorem) → IfSome answer (λ th. found ≡ Some th) → IfSome found (IsDerivable Q) → IfSome answer (IsDerivable Q)
kept Q found None same h = tt
kept Q found (Some th) same h = subst (λ (o : Option Theorem). IfSome o (IsDerivable Q)) same h

pub stop-refuses : (A : Term) (fault : RuleFault) → IsStop fault → IsRefusal A fault
stop-refuses A NotProp stop = absurd stop
stop-refuses A Big stop = tt
stop-refuses A Memory stop = tt
stop-refuses A _ stop = absurd stop
