-- What each kind of node infers from the conclusions above it, as figures (Isabelle/Isar Implementation manual, section 2.3). H and K are the sets of hypotheses above the line.
use Rattle.std.specs.Prelude.{◌≡◌, ℕ, List, [], ◌∷◌, ◌++◌}
use Rattle.pure_text.specs.Lists.{Each}
use Rattle.pure_definitions.specs.Types.Typ.{Typ, arrow, prop}
use Rattle.pure_definitions.specs.Types.Order.{IsOfSort}
use Rattle.pure_definitions.specs.Terms.Term.{Term, Abs, App}
use Rattle.pure_definitions.specs.Terms.Bounds.{subst_bound, abstract_over}
use Rattle.pure_definitions.specs.Terms.Conditions.{IsVariable}
use Rattle.pure_definitions.specs.Terms.Subst.{TypBind, TermBind, typ_variable, IsTypMap, IsTermMap}
use Rattle.pure_definitions.specs.Models.Comparison.{term_cmp}
use Rattle.pure_definitions.specs.Declarations.Decl.{algebra_of}
use Rattle.pure_definitions.specs.Declarations.Certified.{IsCertifiedTyp}
use Rattle.pure_logic.specs.Connectives.{all_of, all, imp, eq}
use Rattle.pure_logic.specs.Content.{Content, IsCertifiedOf, IsProposition}
use Rattle.pure_logic.specs.Concludes.{IsFresh, extensionality}
use Rattle.pure_logic.specs.Tree.{without}
use Rattle.pure_logic.specs.Laws.Maps.{instantiated}
use Rattle.pure_theorem.specs.Facts.{IsAxiom}
use Rattle.pure_theorem.specs.Sets.{IsSetOf}
use Rattle.pure_replay.specs.Conclusion.{Conclusion, alone}

-- An entry of a map of types: its variable and its image are certified, and the image is of the variable's sort.
pub record IsTypEntry (Q : Content) (b : TypBind) : Type 0 where
  pub variable : IsCertifiedTyp Q.declarations (typ_variable b)
  pub image : IsCertifiedTyp Q.declarations b.image
  pub sort : IsOfSort (algebra_of Q.declarations) b.image b.sort

-- An entry of a map of terms: its variable's type and its image are certified, and the image has that type.
pub record IsTermEntry (Q : Content) (b : TermBind) : Type 0 where
  pub typ : IsCertifiedTyp Q.declarations b.typ
  pub image : IsCertifiedOf Q b.image b.typ

-- The maps of an axiom: no variable is repeated in a map, and each entry is one, whether its variable stands in the axiom or not. The types are put in first, so the map of terms has its variables as they stand then.
pub record AreEntries (Q : Content) (typs : List TypBind) (terms : List TermBind) : Type 0 where
  pub typ_map : IsTypMap typs
  pub typ_entries : Each (IsTypEntry Q) typs
  pub term_map : IsTermMap terms
  pub term_entries : Each (IsTermEntry Q) terms

-- ------- A the axiom
--  |- A[maps]
pub record GivesAxiom (Q : Content) (name : ℕ) (typs : List TypBind) (terms : List TermBind) (c : Conclusion) : Type 0 where
  pub entries : AreEntries Q typs terms
  pub statement : Term
  pub declared : IsAxiom Q name statement
  pub is : c ≡ alone (instantiated typs terms statement)

-- ------- A of type prop
--  A |- A
pub record GivesAssume (Q : Content) (A : Term) (c : Conclusion) : Type 0 where
  pub proposition : IsProposition Q A
  pub is : c ≡ record { hyps = A ∷ []; prop = A }

--     H |- B
-- ------------- x a variable that isn't free in H
--  H |- !!x. B
pub record GivesAllIntro (Q : Content) (x : Term) (above c : Conclusion) : Type 0 where
  pub variable : IsVariable x
  pub typ : Typ
  pub certified : IsCertifiedOf Q x typ
  pub fresh : IsFresh x above.hyps
  pub is : c ≡ record { hyps = above.hyps; prop = all_of typ (abstract_over above.prop x) }

--  H |- !!x. B[x]
-- ---------------- t of the type of x
--     H |- B[t]
pub record GivesAllElim (Q : Content) (t : Term) (above c : Conclusion) : Type 0 where
  pub typ : Typ
  pub body : Term
  pub quantified : above.prop ≡ all typ body
  pub certified : IsCertifiedOf Q t typ
  pub is : c ≡ record { hyps = above.hyps; prop = subst_bound body t }

--       H |- B
-- ------------------ A of type prop
--  H - A |- A ==> B
pub record GivesImpliesIntro (Q : Content) (A : Term) (above c : Conclusion) : Type 0 where
  pub proposition : IsProposition Q A
  pub is : c ≡ record { hyps = without A above.hyps; prop = imp A above.prop }

--  H |- A ==> C    K |- A
-- ------------------------
--       H, K |- C
pub record GivesImpliesElim (implication premise c : Conclusion) : Type 0 where
  pub is : implication.prop ≡ imp premise.prop c.prop
  pub hyps : IsSetOf term_cmp (implication.hyps ++ premise.hyps) c.hyps

-- -----------------------
--  |- (%x. b[x]) a == b[a]
pub record GivesBeta (Q : Content) (redex : Term) (c : Conclusion) : Type 0 where
  pub typ : Typ
  pub range : Typ
  pub body : Term
  pub argument : Term
  pub is_redex : redex ≡ App (Abs typ body) argument
  pub certified : IsCertifiedOf Q redex range
  pub is : c ≡ alone (eq range redex (subst_bound body argument))

-- ----------
--  |- t == t
pub record GivesRefl (Q : Content) (t : Term) (c : Conclusion) : Type 0 where
  pub typ : Typ
  pub certified : IsCertifiedOf Q t typ
  pub is : c ≡ alone (eq typ t t)

-- ------------------------------ of an abstraction `%z. B[z]`; x and y are put into its body
--  |- x == y ==> B[x] ==> B[y]
pub record GivesSubst (Q : Content) (abstraction x y : Term) (c : Conclusion) : Type 0 where
  pub typ : Typ
  pub body : Term
  pub is_abstraction : abstraction ≡ Abs typ body
  pub certified : IsCertifiedOf Q abstraction (arrow typ prop)
  pub left : IsCertifiedOf Q x typ
  pub right : IsCertifiedOf Q y typ
  pub is : c ≡ alone (imp (eq typ x y) (imp (subst_bound body x) (subst_bound body y)))

-- ------------------------------- f and g of one type of functions
--  |- (!!x. f x == g x) ==> f == g
pub record GivesExt (Q : Content) (f g : Term) (c : Conclusion) : Type 0 where
  pub domain : Typ
  pub range : Typ
  pub left : IsCertifiedOf Q f (arrow domain range)
  pub right : IsCertifiedOf Q g (arrow domain range)
  pub is : c ≡ alone (extensionality domain range f g)

-- ---------------------------------------- A and B of type prop
--  |- (A ==> B) ==> (B ==> A) ==> A == B
pub record GivesIff (Q : Content) (A B : Term) (c : Conclusion) : Type 0 where
  pub left : IsProposition Q A
  pub right : IsProposition Q B
  pub is : c ≡ alone (imp (imp A B) (imp (imp B A) (eq prop A B)))
