-- Where the names are new, nothing but memory can be wanting.
use Rattle.std.proofs.Common.{◌≡◌, ℕ, List, refl, sym, subst, inl, inr}
use Rattle.pure_text.specs.Lists.{IsIn, Each}
use Rattle.pure_text.proofs.ListLaws.{each_at}
use Rattle.pure_definitions.specs.Names.{Label}
use Rattle.pure_definitions.specs.Types.Typ.{Typ}
use Rattle.pure_definitions.specs.Types.Order.{Class}
use Rattle.pure_definitions.specs.Terms.Term.{Term}
use Rattle.pure_definitions.specs.Declarations.Decl.{Decl, ClassDecl, ConDecl, ConstDecl, AxiomDecl, PromiseDecl, classes_of, IsDeclaredClass}
use Rattle.pure_logic.specs.Content.{Content, AreNamedAlike}
use Rattle.pure_lookup.specs.Meaning.{classes, constructors, constants, facts, IsDeclaredIn}
use Rattle.pure_certify.proofs.PartLemmas.{class_declared}
use Rattle.pure_theory.specs.declared.fault.DeclFault.{DeclFault}
use Rattle.pure_theory.specs.declared.fault.DeclFault.TheVariants.{Duplicate, UnknownClass, UnknownType, WrongCount, NotCoregular, NotClosed, ExtraType, Memory}
use Rattle.pure_theory.specs.Refusals.{HasNamesake, IsNameRefusal, IsClassRefusal}
use Rattle.pure_declare.proofs.KnownLaws.{first-in}

name-memory : (ds : List Decl) (d : Decl) (f : DeclFault) → (HasNamesake ds d → ⊥) → IsNameRefusal ds d f → f ≡ Memory
name-memory ds d Duplicate new h = absurd (new h)
name-memory ds d Memory new h = refl
name-memory ds d (UnknownClass c) new h = absurd h
name-memory ds d (UnknownType k) new h = absurd h
name-memory ds d (WrongCount k) new h = absurd h
name-memory ds d (NotCoregular k c e) new h = absurd h
name-memory ds d NotClosed new h = absurd h
name-memory ds d ExtraType new h = absurd h

class-taken : (ds : List Decl) (k : Class) (e : Decl) → IsIn e ds → AreNamedAlike (ClassDecl k) e → IsDeclaredIn classes ds k.name
class-taken ds k (ClassDecl c) i alike = (c, i, sym alike)
class-taken ds k _ i alike = absurd alike

typ-taken : (ds : List Decl) (k m : ℕ) (e : Decl) → IsIn e ds → AreNamedAlike (ConDecl k m) e → IsDeclaredIn constructors ds k
typ-taken ds k m (ConDecl l n) i alike = (n, rw alike i)
typ-taken ds k m _ i alike = absurd alike

pub const-taken : (ds : List Decl) (c : ℕ) (T : Typ) (e : Decl) → IsIn e ds → AreNamedAlike (ConstDecl c T) e → IsDeclaredIn constants ds c
const-taken ds c T (ConstDecl d U) i alike = (U, rw alike i)
const-taken ds c T _ i alike = absurd alike

pub axiom-taken : (ds : List Decl) (x : ℕ) (A : Term) (e : Decl) → IsIn e ds → AreNamedAlike (AxiomDecl x A) e → IsDeclaredIn facts ds x
axiom-taken ds x A (AxiomDecl y B) i alike = inl (B, rw alike i)
axiom-taken ds x A (PromiseDecl y l B) i alike = inr (l, B, rw alike i)
axiom-taken ds x A _ i alike = absurd alike

promise-taken : (ds : List Decl) (x : ℕ) (l : Label) (A : Term) (e : Decl) → IsIn e ds → AreNamedAlike (PromiseDecl x l A) e → IsDeclaredIn facts ds x
promise-taken ds x l A (AxiomDecl y B) i alike = inl (B, rw alike i)
promise-taken ds x l A (PromiseDecl y m B) i alike = inr (m, B, rw alike i)
promise-taken ds x l A _ i alike = absurd alike

class-memory-here : (ds : List Decl) (k : Class) (f : DeclFault) → (IsDeclaredIn classes ds k.name → ⊥) → Each (IsDeclaredClass ds) k.above → IsClassRefusal ds k f → f ≡ Memory
class-memory-here ds k Duplicate new known h = absurd (new (class-taken ds k h.0 h.1 h.2))
class-memory-here ds k (UnknownClass c) new known h = absurd (h.1.unknown (class_declared ds c (each_at (IsDeclaredClass ds) k.above known c (first-in (classes_of ds) k.above c h.1))))
class-memory-here ds k Memory new known h = refl
class-memory-here ds k (UnknownType l) new known h = absurd h
class-memory-here ds k (WrongCount l) new known h = absurd h
class-memory-here ds k (NotCoregular l c e) new known h = absurd h
class-memory-here ds k NotClosed new known h = absurd h
class-memory-here ds k ExtraType new known h = absurd h

-- of a theory whose content is that of the place
module _ (R Q : Content) (same : R ≡ Q) (f : DeclFault) where
  pub class-memory : (k : Class) → (IsDeclaredIn classes Q.declarations k.name → ⊥) → Each (IsDeclaredClass Q.declarations) k.above → IsClassRefusal R.declarations k f → f ≡ Memory
  class-memory k new known h = class-memory-here Q.declarations k f new known (subst (λ (S : Content). IsClassRefusal S.declarations k f) same h)

  named : (d : Decl) → (HasNamesake Q.declarations d → ⊥) → IsNameRefusal R.declarations d f → f ≡ Memory
  named d new h = name-memory Q.declarations d f new (subst (λ (S : Content). IsNameRefusal S.declarations d f) same h)

  pub typ-memory : (k m : ℕ) → (IsDeclaredIn constructors Q.declarations k → ⊥) → IsNameRefusal R.declarations (ConDecl k m) f → f ≡ Memory
  typ-memory k m new h = named (ConDecl k m) (λ n. new (typ-taken Q.declarations k m n.0 n.1 n.2)) h

  pub const-memory : (c : ℕ) (T : Typ) → (IsDeclaredIn constants Q.declarations c → ⊥) → IsNameRefusal R.declarations (ConstDecl c T) f → f ≡ Memory
  const-memory c T new h = named (ConstDecl c T) (λ n. new (const-taken Q.declarations c T n.0 n.1 n.2)) h

  pub axiom-memory : (x : ℕ) (A : Term) → (IsDeclaredIn facts Q.declarations x → ⊥) → IsNameRefusal R.declarations (AxiomDecl x A) f → f ≡ Memory
  axiom-memory x A new h = named (AxiomDecl x A) (λ n. new (axiom-taken Q.declarations x A n.0 n.1 n.2)) h

  pub promise-memory : (x : ℕ) (l : Label) (A : Term) → (IsDeclaredIn facts Q.declarations x → ⊥) → IsNameRefusal R.declarations (PromiseDecl x l A) f → f ≡ Memory
  promise-memory x l A new h = named (PromiseDecl x l A) (λ n. new (promise-taken Q.declarations x l A n.0 n.1 n.2)) h
