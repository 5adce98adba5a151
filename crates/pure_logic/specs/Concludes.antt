-- What a derivation tree over a content concludes, where its side conditions hold (Isabelle/Isar Implementation manual, section 2.3).
use Rattle.std.specs.Prelude.{◌≡◌, ℕ, List}
use Rattle.pure_text.specs.Lists.{IsIn, Each}
use Rattle.pure_definitions.specs.Types.Typ.{Typ, arrow, prop}
use Rattle.pure_definitions.specs.Terms.Term.{Term, Bound, Abs, App}
use Rattle.pure_definitions.specs.Terms.Bounds.{subst_bound, abstract_over, Occurs}
use Rattle.pure_definitions.specs.Terms.Conditions.{IsVariable}
use Rattle.pure_definitions.specs.Terms.Subst.{term_instance, IsSortRespecting, IsTypeRespecting}
use Rattle.pure_definitions.specs.Declarations.Decl.{AxiomDecl, PromiseDecl, algebra_of}
use Rattle.pure_definitions.specs.Declarations.Certified.{AreImagesCertified}
use Rattle.pure_logic.specs.Connectives.{all_of, all, imp, eq}
use Rattle.pure_logic.specs.Content.{Content, IsCertifiedOf, IsProposition}
use Rattle.pure_logic.specs.Tree.{Tree, Axiom, Promise, Assume, AllIntro, AllElim, ImpliesIntro, ImpliesElim, Beta, Refl, Subst, Ext, Iff, hyps_of}

-- The maps of an axiom or a promise. Each image is of its variable's sort, has its variable's type under the type map, and is certified wherever its variable is.
pub record AreRespecting (Q : Content) (typs : Typ → Typ) (terms : Term → Term) : Type 0 where
  pub sorts : IsSortRespecting (algebra_of Q.declarations) typs
  pub types : IsTypeRespecting typs terms
  pub certified : AreImagesCertified Q.declarations typs terms

-- The variable occurs in none of the hypotheses.
abbrev pub IsFresh : (variable : Term) → (hyps : List Term) → Type 0
IsFresh x hyps = Each (λ A. ¬ Occurs x A) hyps

-- `(!!x. f x == g x) ==> f == g`, for functions from T to U without loose bound variables, which stand under the binder as they are
abbrev pub extensionality : (T U : Typ) → (f g : Term) → Term
extensionality T U f g = imp (all T (eq U (App f (Bound 0)) (App g (Bound 0)))) (eq (arrow T U) f g)

-- The tree concludes the proposition, from its hypotheses. Each term in it is certified over the content. In the figures H and K are the hypotheses of the trees above the line; a tree whose side condition fails concludes nothing.
abbrev pub Concludes : Content → Tree → Term → Type 0
-- ------- A an axiom of the content, both maps respecting
--  |- A[maps]
Concludes Q (Axiom name typs terms) C = (A : Term) × IsIn (AxiomDecl name A) Q.declarations × AreRespecting Q typs terms × (C ≡ term_instance typs terms A)
-- ------- A the statement of the promise, both maps respecting
--  |- A[maps]
Concludes Q (Promise label typs terms) C =
    (name : ℕ) × (A : Term) × IsIn (PromiseDecl name label A) Q.declarations × AreRespecting Q typs terms × (C ≡ term_instance typs terms A)
-- ------- A of type prop
--  A |- A
Concludes Q (Assume A) C = IsProposition Q A × (C ≡ A)
--     H |- B
-- ------------- x a variable that isn't free in H
--  H |- !!x. B
Concludes Q (AllIntro x d) C =
    (T : Typ) × (B : Term) × Concludes Q d B × IsVariable x × IsCertifiedOf Q x T × IsFresh x (hyps_of d) × (C ≡ all_of T (abstract_over B x))
--  H |- !!x. B[x]
-- ---------------- t of the type of x
--     H |- B[t]
Concludes Q (AllElim t d) C = (T : Typ) × (B : Term) × Concludes Q d (all T B) × IsCertifiedOf Q t T × (C ≡ subst_bound B t)
--       H |- B
-- ------------------ A of type prop
--  H - A |- A ==> B
Concludes Q (ImpliesIntro A d) C = (B : Term) × Concludes Q d B × IsProposition Q A × (C ≡ imp A B)
--  H |- A ==> C    K |- A
-- ------------------------
--       H, K |- C
Concludes Q (ImpliesElim d e) C = (A : Term) × Concludes Q d (imp A C) × Concludes Q e A
-- -----------------------
--  |- (%x. b[x]) a == b[a]
Concludes Q (Beta redex) C = (T U : Typ) × (b a : Term) × (redex ≡ App (Abs T b) a) × IsCertifiedOf Q redex U × (C ≡ eq U redex (subst_bound b a))
-- ----------
--  |- t == t
Concludes Q (Refl t) C = (T : Typ) × IsCertifiedOf Q t T × (C ≡ eq T t t)
-- ------------------------------ of an abstraction `%z. B[z]`; x and y are put into its body, so that no redex is left
--  |- x == y ==> B[x] ==> B[y]
Concludes Q (Subst abstraction x y) C =
    (T : Typ) × (B : Term) × (abstraction ≡ Abs T B) × IsCertifiedOf Q abstraction (arrow T prop) × IsCertifiedOf Q x T × IsCertifiedOf Q y T
    × (C ≡ imp (eq T x y) (imp (subst_bound B x) (subst_bound B y)))
-- ------------------------------- f and g of one type of functions
--  |- (!!x. f x == g x) ==> f == g
Concludes Q (Ext f g) C = (T U : Typ) × IsCertifiedOf Q f (arrow T U) × IsCertifiedOf Q g (arrow T U) × (C ≡ extensionality T U f g)
-- ---------------------------------------- A and B of type prop
--  |- (A ==> B) ==> (B ==> A) ==> A == B
Concludes Q (Iff A B) C = IsProposition Q A × IsProposition Q B × (C ≡ imp (imp A B) (imp (imp B A) (eq prop A B)))
