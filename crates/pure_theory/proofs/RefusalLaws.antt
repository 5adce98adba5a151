-- Refusals of an order as refusals of a theory.
use Rattle.std.proofs.Common.{◌≡◌, ℕ, List, sym, subst}
use Rattle.pure_definitions.specs.Types.Order.{Class, Arity, Algebra}
use Rattle.pure_definitions.specs.Declarations.Decl.{Decl, ClassDecl, classes_of, algebra_of, IsDeclaredClass}
use Rattle.pure_order.specs.OrderTables.Classes.{IsDeclared}
use Rattle.pure_order.specs.OrderTables.Arities.{IsKnown}
use Rattle.pure_order.specs.OrderTables.Unknown.{HasArityFor}
use Rattle.pure_order.specs.declared.fault.OrderFault.{OrderFault}
use Rattle.pure_order.specs.declared.fault.OrderFault.TheVariants as order
use Rattle.pure_order.specs.FaultView.{IsClassFault, IsArityFault}
use Rattle.pure_theory.specs.declared.fault.DeclFault.{DeclFault}
use Rattle.pure_theory.specs.declared.fault.DeclFault.TheVariants.{Duplicate, UnknownClass, UnknownType, WrongCount, NotCoregular, NotClosed, ExtraType, Memory}
use Rattle.pure_theory.specs.Refusals.{HasNamesake, HasCon, IsNewArity, IsClassRefusal, IsGivenClassRefusal, IsGivenArityRefusal, refusal_of}
use Rattle.pure_text.specs.Lists.{Each}
use Rattle.pure_text.proofs.ListLaws.{each_imply}
use Rattle.pure_certify.proofs.PartLemmas.{declared_class}
use Rattle.pure_theory.proofs.NamesakeLaws.{new_class}

pub given_class : (cs : List Class) (class : ℕ) (above : List ℕ) (fault : OrderFault) → IsClassFault cs class above fault → IsGivenClassRefusal cs class above (refusal_of fault)
given_class cs class above (order.UnknownClass c) h = h
given_class cs class above order.Duplicate h = h.1
given_class cs class above (order.NotCoregular k c d) h = absurd h
given_class cs class above order.Memory h = tt

pub given_arity : (A : Algebra) (a : Arity) (fault : OrderFault) → IsArityFault A a fault → IsGivenArityRefusal A a (refusal_of fault)
given_arity A a (order.UnknownClass c) h = h
given_arity A a order.Duplicate h = h
given_arity A a (order.NotCoregular k c d) h = h
given_arity A a order.Memory h = tt

pub class_refusal : (ds : List Decl) (k : Class) (fault : DeclFault) → ¬ IsDeclared (classes_of ds) k.name → IsGivenClassRefusal (classes_of ds) k.name k.above fault → IsClassRefusal ds k fault
class_refusal ds k (UnknownClass c) new h = (new_class ds k new, h)
class_refusal ds k Duplicate new h = absurd (new h)
class_refusal ds k Memory new h = tt
class_refusal ds k (UnknownType l) new h = absurd h
class_refusal ds k (WrongCount l) new h = absurd h
class_refusal ds k (NotCoregular l c d) new h = absurd h
class_refusal ds k NotClosed new h = absurd h
class_refusal ds k ExtraType new h = absurd h

-- A class that is declared has a namesake, and one that isn't has none.
pub class_named : (ds : List Decl) (k : Class) → IsDeclaredClass ds k.name → HasNamesake ds (ClassDecl k)
class_named ds k h = (ClassDecl h.0, h.1, sym h.2)

pub class_undeclared : (ds : List Decl) (c : ℕ) → ¬ IsDeclaredClass ds c → ¬ IsDeclared (classes_of ds) c
class_undeclared ds c none h = none (declared_class ds c h)

pub class_refused : (ds : List Decl) (A : Algebra) (k : Class) (fault : DeclFault) → A ≡ algebra_of ds → ¬ IsDeclaredClass ds k.name → IsGivenClassRefusal A.classes k.name k.above fault → IsClassRefusal ds k fault
class_refused ds A k fault same none h = class_refusal ds k fault (class_undeclared ds k.name none) (subst (λ (B : Algebra). IsGivenClassRefusal B.classes k.name k.above fault) same h)

pub classes_known : (ds : List Decl) (A : Algebra) (names : List ℕ) → A ≡ algebra_of ds → Each (IsDeclared A.classes) names → Each (IsDeclaredClass ds) names
classes_known ds A names same h = each_imply (IsDeclared (classes_of ds)) (IsDeclaredClass ds) names (declared_class ds) (subst (λ (B : Algebra). Each (IsDeclared B.classes) names) same h)

pub new_arity : (ds : List Decl) (A : Algebra) (a : Arity) → A ≡ algebra_of ds → HasCon ds a → IsKnown A.classes a → ¬ HasArityFor A a.con a.class → IsNewArity ds a
new_arity ds A a same con known absent = record {
  con = con;
  known = subst (λ (B : Algebra). IsKnown B.classes a) same known;
  new = subst (λ (B : Algebra). ¬ HasArityFor B a.con a.class) same absent;
}
