-- The parts of types, their faults, and what is declared.
use Rattle.std.proofs.Common.{◌≡◌, ◌↔◌, ℕ, zero, suc, ◌+◌, ◌<◌, List, [], ◌∷◌, ◌++◌, ◌⊎◌, length, get_or, take, drop, map, refl, ap, sym, ◌∙◌, inl, inr, arith, append_assoc, Bool}
use Rattle.std.proofs.lemmas.List.{map-append}
use Rattle.std.specs.Prelude.{Option, Some, None, MatchOption, IsTrue}
use Rattle.pure_text.specs.Lists.{IsIn, Each}
use Rattle.pure_text.proofs.ListLaws.{any_of, any_some, each-append, each-left, each-right, split_at}
use Rattle.pure_definitions.specs.Types.Typ.{Typ, TFree, TVar, Con, Typs, none, also, typs_of, typs_count}
use Rattle.pure_definitions.specs.Types.Order.{Algebra}
use Rattle.pure_definitions.specs.Declarations.Decl.{Decl, ConDecl, classes_of, algebra_of, IsDeclaredClass}
use Rattle.pure_definitions.specs.Declarations.Certified.{IsCertifiedTyp, AreCertifiedTyps, IsCertifiedConst}
use Rattle.pure_term_laws.proofs.DeclLaws.{declared_classes}
use Rattle.pure_order.specs.OrderTables.Classes.{IsDeclared}
use Rattle.pure_certify.specs.declared.fault.CertFault.{CertFault}
use Rattle.pure_certify.specs.declared.fault.CertFault.TheVariants.{UnknownType, WrongCount, UnknownClass, UnknownConst, NotInstance, SortFails}
use Rattle.pure_certify.specs.Tables.{IsUnknownConst}
use Rattle.pure_certify.specs.Matching.{HasNoMatch, IsSortFault}
use Rattle.pure_certify.specs.Parts.{Part, ClassPart, ConPart, ConstPart, typ_parts, typs_parts, IsSound, HasClassFault, HasConFault, HasConstFault, HasFault, IsDeclaredAs, IsFirstFault}
use Rattle.pure_certify.specs.Laws.{DoSortsAscend, DoAllSortsAscend}
use Rattle.pure_certify.proofs.MatchLemmas.{same_cut, sort_fault-once, sort_fault-no_instance}

pub class_declared : (ds : List Decl) (c : ℕ) → IsDeclaredClass ds c → IsDeclared (classes_of ds) c
class_declared ds c (k, m, e) = any_of (λ x. x.name ≡ c) k (classes_of ds) ((declared_classes ds k).1 m) e

pub declared_class : (ds : List Decl) (c : ℕ) → IsDeclared (classes_of ds) c → IsDeclaredClass ds c
declared_class ds c h = let some = any_some (λ x. x.name ≡ c) (classes_of ds) h in (some.0, (declared_classes ds some.0).0 some.1, some.2)

-- A sort's parts are sound where its classes are declared, and back.
classes-sound : (ds : List Decl) (s : List ℕ) → Each (IsDeclaredClass ds) s → Each (IsSound ds) (map ClassPart s)
classes-sound ds [] h = tt
classes-sound ds (c ∷ cs) h = (h.0, classes-sound ds cs h.1)

sound-classes : (ds : List Decl) (s : List ℕ) → Each (IsSound ds) (map ClassPart s) → Each (IsDeclaredClass ds) s
sound-classes ds [] h = tt
sound-classes ds (c ∷ cs) h = (h.0, sound-classes ds cs h.1)

mutual
  typ-exactly : (ds : List Decl) (T : Typ) → IsCertifiedTyp ds T ↔ (DoSortsAscend T × Each (IsSound ds) (typ_parts T))
  typ-exactly ds (TFree x s) = (λ h. (h.0, classes-sound ds s h.1), λ h. (h.0, sound-classes ds s h.1))
  typ-exactly ds (TVar x i s) = (λ h. (h.0, classes-sound ds s h.1), λ h. (h.0, sound-classes ds s h.1))
  typ-exactly ds (Con k ts) = (λ h. (let all = (typs-exactly ds ts).0 h.1 in (all.0, (h.0, all.1))), λ h. (h.1.0, (typs-exactly ds ts).1 (h.0, h.1.1)))

  typs-exactly : (ds : List Decl) (ts : Typs) → AreCertifiedTyps ds ts ↔ (DoAllSortsAscend ts × Each (IsSound ds) (typs_parts ts))
  typs-exactly ds none = (λ h. (tt, tt), λ h. tt)
  typs-exactly ds (also t ts) = (
    λ h. (let first = (typ-exactly ds t).0 h.0 in let rest = (typs-exactly ds ts).0 h.1 in ((first.0, rest.0), each-append (IsSound ds) (typ_parts t) (typs_parts ts) first.1 rest.1)),
    λ h. ((typ-exactly ds t).1 (h.0.0, each-left (IsSound ds) (typ_parts t) (typs_parts ts) h.1), (typs-exactly ds ts).1 (h.0.1, each-right (IsSound ds) (typ_parts t) (typs_parts ts) h.1)),
  )

pub certified_typ_exactly : (ds : List Decl) (T : Typ) → IsCertifiedTyp ds T ↔ (DoSortsAscend T × Each (IsSound ds) (typ_parts T))
certified_typ_exactly = typ-exactly

-- A class's fault, and a constructor's.
class_fault-is : (ds : List Decl) (c : ℕ) (f : CertFault) → HasClassFault ds c f → (f ≡ UnknownClass c) × (¬ IsDeclaredClass ds c)
class_fault-is ds c (UnknownClass d) h = (ap UnknownClass h.0, h.1)
class_fault-is ds c _ h = absurd h

con_fault-is : (ds : List Decl) (k count : ℕ) (f : CertFault) → HasConFault ds k count f
    → ((f ≡ UnknownType k) × ((n : ℕ) → ¬ IsIn (ConDecl k n) ds)) ⊎ ((f ≡ WrongCount k) × ((n : ℕ) × IsIn (ConDecl k n) ds) × (¬ IsIn (ConDecl k count) ds))
con_fault-is ds k count (UnknownType l) h = inl (ap UnknownType h.0, h.1)
con_fault-is ds k count (WrongCount l) h = inr (ap WrongCount h.0, h.1, h.2)
con_fault-is ds k count _ h = absurd h

con_fault-once : (ds : List Decl) (k count : ℕ) (f g : CertFault) → HasConFault ds k count f → HasConFault ds k count g → f ≡ g
con_fault-once ds k count f g h i = elim (con_fault-is ds k count f h) [
  | inl a ↦ elim (con_fault-is ds k count g i) [ inl b ↦ a.0 ∙ sym b.0 | inr b ↦ absurd (a.1 b.1.0 b.1.1) ]
  | inr a ↦ elim (con_fault-is ds k count g i) [ inl b ↦ absurd (b.1 a.1.0 a.1.1) | inr b ↦ a.0 ∙ sym b.0 ]
]

-- What a constant's fault is.
pub data ConstFault (ds : List Decl) (c : ℕ) (T : Typ) (f : CertFault) : Type 0 where
  unknown : f ≡ UnknownConst c → IsUnknownConst ds c → ConstFault ds c T f
  no_instance : f ≡ NotInstance c → IsDeclaredAs ds c (λ D. HasNoMatch D T) → ConstFault ds c T f
  unsorted : (x : ℕ) → f ≡ SortFails x → IsDeclaredAs ds c (λ D. IsSortFault (algebra_of ds) D T x) → ConstFault ds c T f

const_fault-is : (ds : List Decl) (c : ℕ) (T : Typ) (f : CertFault) → HasConstFault ds c T f → ConstFault ds c T f
const_fault-is ds c T (UnknownConst d) h = unknown (ap UnknownConst h.0) h.1
const_fault-is ds c T (NotInstance d) h = no_instance (ap NotInstance h.0) h.1
const_fault-is ds c T (SortFails x) h = unsorted x refl h
const_fault-is ds c T _ h = absurd h

const_fault-unsound : (ds : List Decl) (c : ℕ) (T : Typ) (f : CertFault) → ConstFault ds c T f → ¬ IsCertifiedConst ds c T
const_fault-unsound ds c T f (unknown e h) s = h s.0 s.1
const_fault-unsound ds c T f (no_instance e h) s = h.each s.0 s.1 s.2.typs s.2.matches
const_fault-unsound ds c T f (unsorted x e h) s = sort_fault-no_instance (algebra_of ds) s.0 T x s.2.typs (h.each s.0 s.1) s.2.matches s.2.respecting

const_fault-once : (ds : List Decl) (c : ℕ) (T : Typ) (f g : CertFault) → ConstFault ds c T f → ConstFault ds c T g → f ≡ g
const_fault-once ds c T f g (unknown d h) (unknown e k) = d ∙ sym e
const_fault-once ds c T f g (unknown d h) (no_instance e k) = absurd (h k.some k.declared)
const_fault-once ds c T f g (unknown d h) (unsorted y e k) = absurd (h k.some k.declared)
const_fault-once ds c T f g (no_instance d h) (unknown e k) = absurd (k h.some h.declared)
const_fault-once ds c T f g (no_instance d h) (no_instance e k) = d ∙ sym e
const_fault-once ds c T f g (no_instance d h) (unsorted y e k) = let fault = k.each h.some h.declared in absurd (h.each h.some h.declared fault.typs fault.matches)
const_fault-once ds c T f g (unsorted x d h) (unknown e k) = absurd (k h.some h.declared)
const_fault-once ds c T f g (unsorted x d h) (no_instance e k) = let fault = h.each h.some h.declared in absurd (k.each h.some h.declared fault.typs fault.matches)
const_fault-once ds c T f g (unsorted x d h) (unsorted y e k) =
    d ∙ ap SortFails (sort_fault-once (algebra_of ds) h.some T x y (h.each h.some h.declared) (k.each h.some h.declared)) ∙ sym e

-- A part with a fault isn't sound, and has one fault.
faulty-unsound : (ds : List Decl) (part : Part) (f : CertFault) → HasFault ds part f → ¬ IsSound ds part
faulty-unsound ds (ClassPart c) f h s = (class_fault-is ds c f h).1 s
faulty-unsound ds (ConPart k count) f h s = elim (con_fault-is ds k count f h) [ inl a ↦ a.1 count s | inr a ↦ a.2 s ]
faulty-unsound ds (ConstPart c T) f h s = const_fault-unsound ds c T f (const_fault-is ds c T f h) s

fault-once : (ds : List Decl) (part : Part) (f g : CertFault) → HasFault ds part f → HasFault ds part g → f ≡ g
fault-once ds (ClassPart c) f g h k = (class_fault-is ds c f h).0 ∙ sym (class_fault-is ds c g k).0
fault-once ds (ConPart k count) f g h i = con_fault-once ds k count f g h i
fault-once ds (ConstPart c T) f g h k = const_fault-once ds c T f g (const_fault-is ds c T f h) (const_fault-is ds c T g k)

pub one_fault : (ds : List Decl) (parts : List Part) (f g : CertFault) → IsFirstFault ds parts f → IsFirstFault ds parts g → f ≡ g
one_fault ds parts f g h k =
    let same = same_cut (IsSound ds) h.front k.front h.part k.part h.rest k.rest (sym h.is ∙ k.is) h.sound k.sound (faulty-unsound ds h.part f h.faulty) (faulty-unsound ds k.part g k.faulty) in
    fault-once ds k.part f g (rw (← same) h.faulty) k.faulty

pub faulty_is_not_sound : (ds : List Decl) (parts : List Part) (f : CertFault) → IsFirstFault ds parts f → ¬ Each (IsSound ds) parts
faulty_is_not_sound ds parts f h all =
    let behind : Each (IsSound ds) (h.part ∷ h.rest) = each-right (IsSound ds) h.front (h.part ∷ h.rest) (rw (← h.is) all) in
    faulty-unsound ds h.part f h.faulty behind.0

-- A first fault in a part of the list.
pub fault_left : (ds : List Decl) (xs ys : List Part) (f : CertFault) → IsFirstFault ds xs f → IsFirstFault ds (xs ++ ys) f
fault_left ds xs ys f h = record { front = h.front; part = h.part; rest = h.rest ++ ys; is = ap (λ l. l ++ ys) h.is ∙ append_assoc h.front (h.part ∷ h.rest) ys; sound = h.sound; faulty = h.faulty }

pub fault_right : (ds : List Decl) (xs ys : List Part) (f : CertFault) → Each (IsSound ds) xs → IsFirstFault ds ys f → IsFirstFault ds (xs ++ ys) f
fault_right ds xs ys f all h = record {
  front = xs ++ h.front;
  part = h.part;
  rest = h.rest;
  is = ap (λ l. xs ++ l) h.is ∙ sym (append_assoc xs h.front (h.part ∷ h.rest));
  sound = each-append (IsSound ds) xs h.front all h.sound;
  faulty = h.faulty;
}

-- The first class of a sort that isn't declared.
pub fault-at_class : (ds : List Decl) (s : List ℕ) (i c : ℕ) → i < length s → c ≡ get_or s i c → Each (IsDeclaredClass ds) (take i s) → (¬ IsDeclaredClass ds c) → IsFirstFault ds (map ClassPart s) (UnknownClass c)
fault-at_class ds s i c h e before other = record {
  front = map ClassPart (take i s);
  part = ClassPart c;
  rest = map ClassPart (drop (i + 1) s);
  is = ap (map ClassPart) (split_at s i c h e) ∙ map-append ClassPart (take i s) (c ∷ drop (i + 1) s);
  sound = classes-sound ds (take i s) before;
  faulty = (refl, other);
}

-- A constructor's fault, and that of its arguments.
pub fault-at_con : (ds : List Decl) (k count : ℕ) (ts : Typs) (f : CertFault) → count ≡ typs_count ts → HasFault ds (ConPart k count) f → IsFirstFault ds (typ_parts (Con k ts)) f
fault-at_con ds k count ts f e h = record { front = []; part = ConPart k (typs_count ts); rest = typs_parts ts; is = refl; sound = tt; faulty = rw (← e) h }

pub fault-in_args : (ds : List Decl) (k count : ℕ) (ts : Typs) (f : CertFault) → count ≡ typs_count ts → IsIn (ConDecl k count) ds → IsFirstFault ds (typs_parts ts) f → IsFirstFault ds (typ_parts (Con k ts)) f
fault-in_args ds k count ts f e m h = fault_right ds (ConPart k (typs_count ts) ∷ []) (typs_parts ts) f (rw (← e) m, tt) h

pub fault-at_arg : (ds : List Decl) (ts : List Typ) (i : ℕ) (t : Typ) (f : CertFault) → i < length ts → t ≡ get_or ts i t → AreCertifiedTyps ds (typs_of (take i ts)) → IsFirstFault ds (typ_parts t) f → IsFirstFault ds (typs_parts (typs_of ts)) f
fault-at_arg ds [] i t f h e before here = absurd (omega arith)
fault-at_arg ds (u ∷ us) zero t f h e before here = fault_left ds (typ_parts u) (typs_parts (typs_of us)) f (rw (← e) here)
fault-at_arg ds (u ∷ us) (suc i) t f h e before here = fault_right ds (typ_parts u) (typs_parts (typs_of us)) f ((typ-exactly ds u).0 before.0).1 (fault-at_arg ds us i t f (omega arith) e before.1 here)

-- One argument more is certified.
pub certified-next : (ds : List Decl) (ts : List Typ) (i : ℕ) (t : Typ) → i < length ts → t ≡ get_or ts i t → AreCertifiedTyps ds (typs_of (take i ts)) → IsCertifiedTyp ds t → AreCertifiedTyps ds (typs_of (take (i + 1) ts))
certified-next ds [] i t h e before here = absurd (omega arith)
certified-next ds (u ∷ us) zero t h e before here = (rw (← e) here, tt)
certified-next ds (u ∷ us) (suc i) t h e before here =
    let next : suc i + 1 ≡ suc (i + 1) = omega arith in
    rw next (before.0, certified-next ds us i t (omega arith) e before.1 here)

-- as many types as the list has
pub typs_count-of : (ts : List Typ) → typs_count (typs_of ts) ≡ length ts
typs_count-of [] = refl
typs_count-of (t ∷ ts) = let rest = typs_count-of ts in omega arith

-- The answer for a constructor that is declared, from that for its arguments.
pub answer-at_con : (ds : List Decl) (T : Typ) (k count : ℕ) (ts : Typs) (r : Option CertFault) → T ≡ Con k ts → count ≡ typs_count ts → IsIn (ConDecl k count) ds
    → MatchOption r (AreCertifiedTyps ds ts) (IsFirstFault ds (typs_parts ts)) → MatchOption r (IsCertifiedTyp ds T) (IsFirstFault ds (typ_parts T))
answer-at_con ds T k count ts None e counted m h = rw e (rw (← counted) m, h)
answer-at_con ds T k count ts (Some f) e counted m h = rw e (fault-in_args ds k count ts f counted m h)

-- The answer of an order for a class, in terms of the declarations.
pub class-answer : (ds : List Decl) (A : Algebra) (c : ℕ) (b : Bool) → A ≡ algebra_of ds → (IsTrue b ↔ IsDeclared A.classes c) → IsTrue b ↔ IsDeclaredClass ds c
class-answer ds A c b e h =
    let classes : A.classes ≡ classes_of ds = ap (λ B. B.classes) e in
    (λ y. declared_class ds c (rw classes at (h.0 y)), λ d. h.1 (rw classes (class_declared ds c d)))
