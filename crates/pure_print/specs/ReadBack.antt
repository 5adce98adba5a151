-- What is read of a printed text.
use Rattle.std.specs.Prelude.{◌≡◌, ◌≢◌, ℕ, zero, suc, List, [], ◌∷◌, ◌++◌, length, map, None, if◌then◌else◌}
use Rattle.pure_definitions.specs.Types.Typ.{Typ, Typs, TFree, TVar}
use Rattle.pure_definitions.specs.Types.Typ as typ
use Rattle.pure_definitions.specs.Terms.Term.{Term, Const, Free, Var, Bound}
use Rattle.pure_definitions.specs.Terms.Term as term
use Rattle.pure_grammar.specs.declared.token.Token.{Token}
use Rattle.pure_grammar.specs.declared.token.TokenKind.{TokenKind}
use Rattle.pure_grammar.specs.declared.token.TokenKind.TheVariants as kind
use Rattle.pure_grammar.specs.Tokens.Token.{is_qualified}
use Rattle.pure_grammar.specs.Tokens.Spelling.{Spells}
use Rattle.pure_grammar.specs.Terms.RawTree.{RawClassTree, RawTypTree, RawTypTrees, RawTree}
use Rattle.pure_grammar.specs.Terms.RawTree as raw
use Rattle.pure_grammar.specs.Terms.Inner.{SpellsTerm, SpellsType}
use Rattle.pure_print.specs.NameText.{term_name_text, typ_name_text, typ_variable_text, index_text}
use Rattle.pure_print.specs.TypText.{constant_typ_text}

abbrev pub class_name : RawClassTree → List ℕ
class_name c = c.name

-- `prop` stands for Pure's propositions
abbrev pub constructor_text : (texts : List (List ℕ)) → ℕ → Typs → List ℕ
constructor_text texts k typ.none = constant_typ_text texts k
constructor_text texts k (typ.also t ts) = typ_name_text texts k

-- The tree that was read is the type's own, places aside: each variable by its mark, name, index and classes, each
-- constructor by its name.
abbrev mutual
  pub IsTreeOfTyp : (texts : List (List ℕ)) → RawTypTree → Typ → Type 0
  IsTreeOfTyp texts (raw.Var at found text sort) (TFree x s) = (found ≡ kind.TypeVar) × (text ≡ typ_variable_text texts x) × (map class_name sort ≡ map (typ_name_text texts) s)
  IsTreeOfTyp texts (raw.Var at found text sort) (TVar x i s) =
      (found ≡ kind.Schem) × (text ≡ 63 ∷ (typ_variable_text texts x ++ index_text i)) × (map class_name sort ≡ map (typ_name_text texts) s)
  IsTreeOfTyp texts (raw.Con at name args) (typ.Con k ts) = (name ≡ constructor_text texts k ts) × AreTreesOfTyps texts args ts
  IsTreeOfTyp texts _ _ = ⊥

  pub AreTreesOfTyps : (texts : List (List ℕ)) → RawTypTrees → Typs → Type 0
  AreTreesOfTyps texts raw.none typ.none = Unit {0}
  AreTreesOfTyps texts (raw.also r rs) (typ.also t ts) = IsTreeOfTyp texts r t × AreTreesOfTyps texts rs ts
  AreTreesOfTyps texts _ _ = ⊥

-- Which of the binders, the innermost first, binds the name: the first that has this text.
abbrev pub IsBoundAt : (binders : List (List ℕ)) → (text : List ℕ) → ℕ → Type 0
IsBoundAt [] text p = ⊥
IsBoundAt (x ∷ xs) text zero = x ≡ text
IsBoundAt (x ∷ xs) text (suc p) = (x ≢ text) × IsBoundAt xs text p

-- no binder binds it
abbrev pub IsUnbound : (binders : List (List ℕ)) → (text : List ℕ) → Type 0
IsUnbound [] text = Unit {0}
IsUnbound (x ∷ xs) text = (x ≢ text) × IsUnbound xs text

-- the kind of a name's leaf
abbrev pub name_kind : List ℕ → TokenKind
name_kind text = if is_qualified text then kind.Qualified else kind.Ident

-- Under these binders the tree that was read is the term's own, types and places aside: a bound variable is a name that
-- its own binder binds, and each other variable and each constant is its printed name, which no binder binds.
abbrev pub IsTreeOf : (texts : List (List ℕ)) → (binders : List (List ℕ)) → RawTree → Term → Type 0
IsTreeOf texts bs (raw.Leaf at found text) (Const c T) = (found ≡ name_kind text) × (text ≡ term_name_text texts c) × IsUnbound bs text
IsTreeOf texts bs (raw.Leaf at found text) (Free x T) = (found ≡ kind.Ident) × (text ≡ term_name_text texts x) × IsUnbound bs text
IsTreeOf texts bs (raw.Leaf at found text) (Var x i T) = (found ≡ kind.Schem) × (text ≡ 63 ∷ (term_name_text texts x ++ index_text i)) × IsUnbound bs text
IsTreeOf texts bs (raw.Leaf at found text) (Bound p) = (found ≡ kind.BoundName) × IsBoundAt bs text p
IsTreeOf texts bs (raw.Abs at x typ body) (term.Abs T b) = (typ ≡ None) × IsTreeOf texts (x ∷ bs) body b
IsTreeOf texts bs (raw.App at f a) (term.App g b) = IsTreeOf texts bs f g × IsTreeOf texts bs a b
IsTreeOf texts bs _ _ = ⊥

-- Tokens spell the text, and they spell a tree that is the type's own.
pub record IsReadBackTyp (texts : List (List ℕ)) (t : Typ) (text : List ℕ) : Type 0 where
  pub tokens : List Token
  pub tree : RawTypTree
  pub spelled : Spells (length text) tokens text
  pub read : SpellsType text tokens tree
  pub own : IsTreeOfTyp texts tree t

-- Tokens spell the text, and they spell a tree that is the term's own.
pub record IsReadBack (texts : List (List ℕ)) (t : Term) (text : List ℕ) : Type 0 where
  pub tokens : List Token
  pub tree : RawTree
  pub spelled : Spells (length text) tokens text
  pub read : SpellsTerm text tokens tree
  pub own : IsTreeOf texts [] tree t
