-- Identity maps, and finite maps whose entries respect sorts or types.
use Rattle.std.proofs.Common.{◌≡◌, ℕ, List, [], ◌∷◌, refl, ap, sym, ◌∙◌, ◌↔◌}
use Rattle.pure_definitions.specs.Types.Typ.{Typ, TFree, TVar, Con, Typs, none, also, typ_eq}
use Rattle.pure_definitions.specs.Terms.Term.{Term, Const, Free, Var, Bound, Abs, App, term_eq}
use Rattle.pure_definitions.specs.Types.Order.{Algebra, IsOfSort}
use Rattle.pure_definitions.specs.Terms.Typing.{HasType}
use Rattle.pure_definitions.specs.Terms.Subst.{typ_instance, typs_instance, term_instance, inst_term, IsSortRespecting, IsTypeRespecting, KeepsFixedTyps, KeepsFixedTerms, TypBind, TermBind, IsTypMap, IsTermMap, typ_image, term_image, AreSortRespecting, AreTypeRespecting}
use Rattle.pure_text.specs.Lists.{IsIn}
use Rattle.pure_text.proofs.ListLaws.{each_of}
use Rattle.pure_definitions.specs.Models.Equality.{typ_eq-same, term_eq-same}
use Rattle.pure_definitions.proofs.OrderLaws.{sort_below-itself}
use Rattle.pure_definitions.proofs.InstanceLemmas.{typ_image-fixed, term_image-fixed}
use Rattle.pure_definitions.proofs.EntryLemmas.{chosen, typ_image-entry, term_image-entry}

pub identity-respects_sorts : (A : Algebra) → IsSortRespecting A (λ v. v)
identity-respects_sorts A = record { fixed = λ x s. sort_below-itself A s; schematic = λ x i s. sort_below-itself A s }

mutual
  pub typ_instance-identity : (T : Typ) → typ_instance (λ v. v) T ≡ T
  typ_instance-identity (TFree x s) = refl
  typ_instance-identity (TVar x i s) = refl
  typ_instance-identity (Con k ts) = ap (Con k) (typs_instance-identity ts)

  pub typs_instance-identity : (ts : Typs) → typs_instance (λ v. v) ts ≡ ts
  typs_instance-identity none = refl
  typs_instance-identity (also t ts) = λ l. also (typ_instance-identity t l) (typs_instance-identity ts l)

pub inst_term-alone : (terms : Term → Term) (t : Term) → inst_term terms t ≡ term_instance (λ v. v) terms t
inst_term-alone terms (Const c T) = ap (Const c) (sym (typ_instance-identity T))
inst_term-alone terms (Free x T) = refl
inst_term-alone terms (Var x i T) = refl
inst_term-alone terms (Bound n) = refl
inst_term-alone terms (Abs T b) = λ l. Abs (sym (typ_instance-identity T) l) (inst_term-alone terms b l)
inst_term-alone terms (App f a) = λ l. App (inst_term-alone terms f l) (inst_term-alone terms a l)

pub term_instance-identity : (t : Term) → term_instance (λ v. v) (λ v. v) t ≡ t
term_instance-identity (Const c T) = ap (Const c) (typ_instance-identity T)
term_instance-identity (Free x T) = refl
term_instance-identity (Var x i T) = refl
term_instance-identity (Bound n) = refl
term_instance-identity (Abs T b) = λ l. Abs (typ_instance-identity T l) (term_instance-identity b l)
term_instance-identity (App f a) = λ l. App (term_instance-identity f l) (term_instance-identity a l)

pub identity-respects_types : IsTypeRespecting (λ v. v) (λ v. v)
identity-respects_types = record { fixed = λ x T. sym (typ_instance-identity T); schematic = λ x i T. sym (typ_instance-identity T) }

entries_fixed : (A : Algebra) (binds : List TypBind) (x : ℕ) (s : List ℕ) → IsOfSort A (typ_image binds (TFree x s)) s
entries_fixed A [] x s = sort_below-itself A s
entries_fixed A (b ∷ bs) x s = entries_fixed A bs x s

entries_schematic : (A : Algebra) (binds : List TypBind) → AreSortRespecting A binds → (x i : ℕ) (s : List ℕ) → IsOfSort A (typ_image binds (TVar x i s)) s
entries_schematic A [] h x i s = sort_below-itself A s
entries_schematic A (b ∷ bs) h x i s =
    chosen (λ T. IsOfSort A T s) (typ_eq (TVar b.name b.index b.sort) (TVar x i s)) b.image (typ_image bs (TVar x i s))
    (λ e. let same = typ_eq-same (TVar b.name b.index b.sort) (TVar x i s) e in let sorts : b.sort ≡ s = cc in rw sorts at h.0)
    (entries_schematic A bs h.1 x i s)

pub entries-respect_sorts : (A : Algebra) (binds : List TypBind) → AreSortRespecting A binds → IsSortRespecting A (typ_image binds)
entries-respect_sorts A binds h = record { fixed = entries_fixed A binds; schematic = entries_schematic A binds h }

pub entries-respect_sorts_exactly : (A : Algebra) (binds : List TypBind) → IsTypMap binds → AreSortRespecting A binds ↔ IsSortRespecting A (typ_image binds)
entries-respect_sorts_exactly A binds h = (
  entries-respect_sorts A binds,
  λ r. each_of (λ b. IsOfSort A b.image b.sort) binds (λ b m. rw (typ_image-entry binds b h m) at (r.schematic b.name b.index b.sort)),
)

pub entries-keep_fixed_typs : (binds : List TypBind) → KeepsFixedTyps (typ_image binds)
entries-keep_fixed_typs = typ_image-fixed

typed_fixed : (binds : List TermBind) (x : ℕ) (T : Typ) → HasType [] (term_image binds (Free x T)) T
typed_fixed [] x T = refl
typed_fixed (b ∷ bs) x T = typed_fixed bs x T

typed_schematic : (binds : List TermBind) → AreTypeRespecting binds → (x i : ℕ) (T : Typ) → HasType [] (term_image binds (Var x i T)) T
typed_schematic [] h x i T = refl
typed_schematic (b ∷ bs) h x i T =
    chosen (λ t. HasType [] t T) (term_eq (Var b.name b.index b.typ) (Var x i T)) b.image (term_image bs (Var x i T))
    (λ e. let same = term_eq-same (Var b.name b.index b.typ) (Var x i T) e in let types : b.typ ≡ T = cc in rw types at h.0)
    (typed_schematic bs h.1 x i T)

pub entries-respect_types : (binds : List TermBind) → AreTypeRespecting binds → IsTypeRespecting (λ v. v) (term_image binds)
entries-respect_types binds h = record {
  fixed = λ x T. rw (typ_instance-identity T) (typed_fixed binds x T);
  schematic = λ x i T. rw (typ_instance-identity T) (typed_schematic binds h x i T);
}

pub entries-respect_types_exactly : (binds : List TermBind) → IsTermMap binds → AreTypeRespecting binds ↔ IsTypeRespecting (λ v. v) (term_image binds)
entries-respect_types_exactly binds h = (entries-respect_types binds, λ r. each_of (λ b. HasType [] b.image b.typ) binds (entry r))
  where
    entry : IsTypeRespecting (λ v. v) (term_image binds) → (b : TermBind) → IsIn b binds → HasType [] b.image b.typ
    entry r b m = rw (term_image-entry binds b h m, typ_instance-identity b.typ) at (r.schematic b.name b.index b.typ)

pub entries-keep_fixed : (binds : List TermBind) → KeepsFixedTerms (λ v. v) (term_image binds)
entries-keep_fixed binds x T = term_image-fixed binds x T ∙ ap (Free x) (sym (typ_instance-identity T))
