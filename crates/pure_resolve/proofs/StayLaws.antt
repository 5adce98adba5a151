-- What maps leave as it is.
use Rattle.std.proofs.Common.{◌≡◌, ℕ, ◌<◌, ◌≤◌, List, [], ◌∷◌, refl, ap, arith}
use Rattle.std.proofs.lemmas.Bool.Decides.{nat_tests}
use Rattle.std.specs.Prelude.{Bool, true, false, ◌&&◌, nat_eq}
use Rattle.pure_text.specs.Lists.{Each}
use Rattle.pure_definitions.specs.Types.Typ.{Typ, TFree, TVar, Con, Typs, none, typs_of, also, sort_eq, typ_eq}
use Rattle.pure_definitions.specs.Terms.Term.{Term, Const, Free, Var, Bound, Abs, App, term_eq}
use Rattle.pure_definitions.specs.Terms.Subst.{TypBind, TermBind, typ_variable, term_variable, typ_image, term_image, typ_instance, typs_instance}
use Rattle.pure_definitions.specs.Terms.Measures.{typ_index_above, typs_index_above, term_index_above}
use Rattle.pure_definitions.proofs.InstanceLemmas.{typ_image-fixed, term_image-fixed}
use Rattle.pure_logic.specs.Laws.Maps.{instantiated}
use Rattle.pure_resolve.specs.Below.{IsBelowSet}

pub args-stay : (image : Typ → Typ) (ts : List Typ) → Each (λ t. typ_instance image t ≡ t) ts → typs_instance image (typs_of ts) ≡ typs_of ts
args-stay image [] h = refl
args-stay image (t ∷ ts) h = λ i. also (h.0 i) (args-stay image ts h.1 i)

-- An index that is lower is another one.
other_index : (j i least : ℕ) → least ≤ j → i < least → nat_eq j i ≡ false
other_index j i least above below = grind (arith, nat_tests)

not_both : (a b c : Bool) → b ≡ false → (a && (b && c)) ≡ false
not_both true b c e = rw e refl
not_both false b c e = refl

-- A variable whose index is below all that are set is set by no entry.
typ_variable_stays : (binds : List TypBind) (least x i : ℕ) (s : List ℕ) → Each (λ (b : TypBind). least ≤ b.index) binds → i < least → typ_image binds (TVar x i s) ≡ TVar x i s
typ_variable_stays [] least x i s above below = refl
typ_variable_stays (b ∷ bs) least x i s above below =
    let other : typ_eq (typ_variable b) (TVar x i s) ≡ false = not_both (nat_eq b.name x) (nat_eq b.index i) (sort_eq b.sort s) (other_index b.index i least above.0 below) in
    rw other (typ_variable_stays bs least x i s above.1 below)

variable_stays : (binds : List TermBind) (least x i : ℕ) (T : Typ) → Each (λ (b : TermBind). least ≤ b.index) binds → i < least → term_image binds (Var x i T) ≡ Var x i T
variable_stays [] least x i T above below = refl
variable_stays (b ∷ bs) least x i T above below =
    let other : term_eq (term_variable b) (Var x i T) ≡ false = not_both (nat_eq b.name x) (nat_eq b.index i) (typ_eq b.typ T) (other_index b.index i least above.0 below) in
    rw other (variable_stays bs least x i T above.1 below)

-- So a type and a term whose indexes are all below those that are set stay.
mutual
  pub low_typ_stays : (binds : List TypBind) (least : ℕ) → Each (λ (b : TypBind). least ≤ b.index) binds → (T : Typ) → typ_index_above T ≤ least → typ_instance (typ_image binds) T ≡ T
  low_typ_stays binds least above (TFree x s) low = typ_image-fixed binds x s
  low_typ_stays binds least above (TVar x i s) low = typ_variable_stays binds least x i s above (omega arith)
  low_typ_stays binds least above (Con k ts) low = ap (Con k) (low_typs_stay binds least above ts low)

  low_typs_stay : (binds : List TypBind) (least : ℕ) → Each (λ (b : TypBind). least ≤ b.index) binds → (ts : Typs) → typs_index_above ts ≤ least → typs_instance (typ_image binds) ts ≡ ts
  low_typs_stay binds least above none low = refl
  low_typs_stay binds least above (also t ts) low = λ l. also (low_typ_stays binds least above t (omega arith) l) (low_typs_stay binds least above ts (omega arith) l)

pub low_term_stays : (typs : List TypBind) (terms : List TermBind) (least : ℕ) → IsBelowSet typs terms least → (t : Term) → term_index_above t ≤ least → instantiated typs terms t ≡ t
low_term_stays typs terms least below (Const c T) low = ap (Const c) (low_typ_stays typs least below.of_typs T low)
low_term_stays typs terms least below (Free x T) low = rw (low_typ_stays typs least below.of_typs T low) (term_image-fixed terms x T)
low_term_stays typs terms least below (Var x i T) low = rw (low_typ_stays typs least below.of_typs T (omega arith)) (variable_stays terms least x i T below.of_terms (omega arith))
low_term_stays typs terms least below (Bound n) low = refl
low_term_stays typs terms least below (Abs T b) low = λ l. Abs (low_typ_stays typs least below.of_typs T (omega arith) l) (low_term_stays typs terms least below b (omega arith) l)
low_term_stays typs terms least below (App f a) low = λ l. App (low_term_stays typs terms least below f (omega arith) l) (low_term_stays typs terms least below a (omega arith) l)

-- A lower number is at most the index of each variable that is set, too.
pub lower_typs : (binds : List TypBind) (n m : ℕ) → m ≤ n → Each (λ (b : TypBind). n ≤ b.index) binds → Each (λ (b : TypBind). m ≤ b.index) binds
lower_typs [] n m le h = tt
lower_typs (b ∷ bs) n m le h = (let first = h.0 in omega arith, lower_typs bs n m le h.1)

pub lower_terms : (binds : List TermBind) (n m : ℕ) → m ≤ n → Each (λ (b : TermBind). n ≤ b.index) binds → Each (λ (b : TermBind). m ≤ b.index) binds
lower_terms [] n m le h = tt
lower_terms (b ∷ bs) n m le h = (let first = h.0 in omega arith, lower_terms bs n m le h.1)
