-- A constant's answer, from what a walk over its declared type and its type says.
use Rattle.std.proofs.Common.{◌≡◌, ℕ, List, [], ◌∷◌, length, refl, sym, subst, arith}
use Rattle.std.specs.Prelude.{Option, Result, Ok, Err, IfOk, MatchOption}
use Rattle.pure_definitions.specs.Types.Typ.{Typ}
use Rattle.pure_definitions.specs.Types.Order.{Algebra, IsOfSort}
use Rattle.pure_definitions.specs.Terms.Subst.{TypBind, typ_image, IsTypMap, AreSortRespecting}
use Rattle.pure_definitions.specs.Declarations.Decl.{Decl, algebra_of}
use Rattle.pure_definitions.specs.Declarations.Certified.{IsMatch, IsCertifiedConst}
use Rattle.pure_term_laws.proofs.SubstLaws.{entries-respect_sorts}
use Rattle.pure_certify.specs.declared.fault.CertFault.{CertFault}
use Rattle.pure_certify.specs.declared.fault.CertFault.TheVariants.{NotInstance, SortFails}
use Rattle.pure_certify.specs.Tables.{IsConstOf}
use Rattle.pure_certify.specs.Matching.{HasNoMatch, schematics, IsSortFault, IsFirstUnsorted, AreInOrder}
use Rattle.pure_certify.specs.Parts.{ConstPart, IsSound, IsDeclaredAs, HasConstFault, HasFault}
use Rattle.pure_certify.proofs.MatchLemmas.{unsorted-failing}

-- A type is of the sort without classes.
pub no_classes : (A : Algebra) (T : Typ) (s classes : List ℕ) → classes ≡ s → length classes ≡ 0 → IsOfSort A T s
no_classes A T s [] e h = subst (IsOfSort A T) e tt
no_classes A T s (c ∷ cs) e h = absurd (omega arith)

declared-as : (ds : List Decl) (c : ℕ) (D : Typ) (P : Typ → Type 0) → IsConstOf ds c D → P D → IsDeclaredAs ds c P
declared-as ds c D P is h = record { some = D; declared = (is D).1 refl; each = λ E m. subst P (sym ((is E).0 m)) h }

pub no_instance-fault : (ds : List Decl) (c : ℕ) (D T : Typ) → IsConstOf ds c D → HasNoMatch D T → HasConstFault ds c T (NotInstance c)
no_instance-fault ds c D T is h = (refl, declared-as ds c D (λ E. HasNoMatch E T) is h)

pub unsorted-fault : (ds : List Decl) (A : Algebra) (c : ℕ) (D T : Typ) (binds : List TypBind) (x : ℕ) → A ≡ algebra_of ds → IsConstOf ds c D → IsTypMap binds → IsMatch (typ_image binds) D T × AreInOrder binds (schematics D)
    → IsFirstUnsorted A binds x → HasConstFault ds c T (SortFails x)
unsorted-fault ds A c D T binds x e is distinct m u = declared-as ds c D (λ E. IsSortFault (algebra_of ds) E T x) is (record {
  typs = typ_image binds;
  matches = m.0;
  first = unsorted-failing (algebra_of ds) binds (schematics D) x distinct m.1 (subst (λ B. IsFirstUnsorted B binds x) e u);
})

pub instance-sound : (ds : List Decl) (A : Algebra) (c : ℕ) (D T : Typ) (binds : List TypBind) → A ≡ algebra_of ds → IsConstOf ds c D → IsMatch (typ_image binds) D T → AreSortRespecting A binds → IsCertifiedConst ds c T
instance-sound ds A c D T binds e is m h = (
  D,
  (is D).1 refl,
  record {
    typs = typ_image binds;
    matches = m;
    respecting = entries-respect_sorts (algebra_of ds) binds (subst (λ B. AreSortRespecting B binds) e h);
  },
)

-- What is said for any declarations is said for these.
pub const-answer : {E : Type 0} (ds : List Decl) (A : Algebra) (c : ℕ) (D T : Typ) (r : Result (Option CertFault) E) → A ≡ algebra_of ds → IsConstOf ds c D
    → IfOk r (λ f. (es : List Decl) → A ≡ algebra_of es → IsConstOf es c D → MatchOption f (IsSound es (ConstPart c T)) (HasFault es (ConstPart c T)))
    → IfOk r (λ f. MatchOption f (IsSound ds (ConstPart c T)) (HasFault ds (ConstPart c T)))
const-answer ds A c D T (Ok f) e is h = h ds e is
const-answer ds A c D T (Err x) e is h = tt
