-- Which lexemes a record is written as, by cases on its grammar:
--
--   record = "begin" {item "|"} {node "|"} "end" End
--   item   = "typedecl" Ident Number | "consts" Ident "::" T | "axiomatization" Ident ":" t
--   T      = TypeVar | Schem | Ident ["(" T {"," T} ")"]
--   t      = "[" Ident ":" T "]" | var | BoundName | "(" "%" T ";" t ")" | "(" t t ")"
--   var    = "{" (Ident | Schem) ":" T "}"
--   node   = "axiom" Ident "[" {Schem T ";"} "]" "[" {var t ";"} "]" | "assume" t | "alli" var Number
--          | "alle" t Number | "impi" t Number | "impe" Number Number | "beta" t | "refl" t
--          | "subst" t t t | "ext" t t | "iff" t t
--
-- The relations of a part, a list and a rest say that the list is the part's lexemes, and then the rest. Each sort is empty.
use Rattle.std.specs.Prelude.{◌≡◌, ℕ, List, [], ◌∷◌}
use Rattle.pure_definitions.specs.Names.{fun_name, prop_name, all_name, imp_name, eq_name, protect_name}
use Rattle.pure_definitions.specs.Types.Typ.{Typ, Typs, TFree, TVar, Con, none, also}
use Rattle.pure_definitions.specs.Terms.Term as term
use Rattle.pure_definitions.specs.Terms.Term.{Term}
use Rattle.pure_definitions.specs.Terms.Subst.{TypBind, TermBind, term_variable}
use Rattle.pure_record.specs.Items as item
use Rattle.pure_record.specs.Items.{Item}
use Rattle.pure_record.specs.Lines as node
use Rattle.pure_record.specs.Lines.{Node}
use Rattle.pure_record.specs.declared.lexeme.Mark.TheVariants as mark
use Rattle.pure_record.specs.declared.lexeme.Word.{Word}
use Rattle.pure_record.specs.declared.lexeme.Word.TheVariants as word
use Rattle.pure_record.specs.declared.lexeme.Lexeme.{Lexeme}
use Rattle.pure_record.specs.declared.lexeme.Lexeme.TheVariants.{Marked, Identifier, TypeVariable, SchematicType, SchematicTerm, Bound, Numeral}

-- `fun` and `prop` as types are Pure's
abbrev pub typ_name : ℕ → Word → ℕ
typ_name n word.Fun = fun_name
typ_name n word.Prop = prop_name
typ_name n _ = n

-- `all`, `imp`, `eq` and `protect` as constants are Pure's
abbrev pub constant_name : ℕ → Word → ℕ
constant_name n word.All = all_name
constant_name n word.Imp = imp_name
constant_name n word.Eq = eq_name
constant_name n word.Protect = protect_name
constant_name n _ = n

-- T
abbrev mutual
  pub IsTyp : Typ → List Lexeme → List Lexeme → Type 0
  IsTyp (TFree x s) ls rest = (s ≡ []) × (ls ≡ TypeVariable x ∷ rest)
  IsTyp (TVar x i s) ls rest = (s ≡ []) × (ls ≡ SchematicType x i ∷ rest)
  IsTyp (Con k args) ls rest =
      (n : ℕ) × (w : Word) × (a : List Lexeme) × (k ≡ typ_name n w) × (ls ≡ Identifier n w ∷ a) × AreArguments args a rest

  -- ["(" T {"," T} ")"]
  pub AreArguments : Typs → List Lexeme → List Lexeme → Type 0
  AreArguments none ls rest = ls ≡ rest
  AreArguments (also t ts) ls rest =
      (a b : List Lexeme) × (ls ≡ Marked mark.OpenParenthesis ∷ a) × IsTyp t a b × AreMoreArguments ts b rest

  -- {"," T} ")"
  pub AreMoreArguments : Typs → List Lexeme → List Lexeme → Type 0
  AreMoreArguments none ls rest = ls ≡ Marked mark.CloseParenthesis ∷ rest
  AreMoreArguments (also t ts) ls rest =
      (a b : List Lexeme) × (ls ≡ Marked mark.Comma ∷ a) × IsTyp t a b × AreMoreArguments ts b rest

-- t
abbrev pub IsTerm : Term → List Lexeme → List Lexeme → Type 0
IsTerm (term.Const c T) ls rest =
    (n : ℕ) × (w : Word) × (a : List Lexeme) × (c ≡ constant_name n w)
    × (ls ≡ Marked mark.OpenBracket ∷ Identifier n w ∷ Marked mark.Colon ∷ a) × IsTyp T a (Marked mark.CloseBracket ∷ rest)
IsTerm (term.Free x T) ls rest =
    (w : Word) × (a : List Lexeme) × (ls ≡ Marked mark.OpenBrace ∷ Identifier x w ∷ Marked mark.Colon ∷ a) × IsTyp T a (Marked mark.CloseBrace ∷ rest)
IsTerm (term.Var x i T) ls rest =
    (a : List Lexeme) × (ls ≡ Marked mark.OpenBrace ∷ SchematicTerm x i ∷ Marked mark.Colon ∷ a) × IsTyp T a (Marked mark.CloseBrace ∷ rest)
IsTerm (term.Bound k) ls rest = ls ≡ Bound k ∷ rest
IsTerm (term.Abs T b) ls rest =
    (a c : List Lexeme) × (ls ≡ Marked mark.OpenParenthesis ∷ Marked mark.Percent ∷ a) × IsTyp T a (Marked mark.Semicolon ∷ c)
    × IsTerm b c (Marked mark.CloseParenthesis ∷ rest)
IsTerm (term.App f x) ls rest =
    (a b : List Lexeme) × (ls ≡ Marked mark.OpenParenthesis ∷ a) × IsTerm f a b × IsTerm x b (Marked mark.CloseParenthesis ∷ rest)

-- var
abbrev pub IsVariable : Term → Type 0
IsVariable (term.Free x T) = Unit {0}
IsVariable (term.Var x i T) = Unit {0}
IsVariable _ = ⊥

-- {Schem T ";"} "]"
abbrev pub AreTypBinds : List TypBind → List Lexeme → List Lexeme → Type 0
AreTypBinds [] ls rest = ls ≡ Marked mark.CloseBracket ∷ rest
AreTypBinds (e ∷ es) ls rest =
    (a b : List Lexeme) × (e.sort ≡ []) × (ls ≡ SchematicType e.name e.index ∷ a) × IsTyp e.image a (Marked mark.Semicolon ∷ b) × AreTypBinds es b rest

-- {var t ";"} "]", each variable schematic
abbrev pub AreTermBinds : List TermBind → List Lexeme → List Lexeme → Type 0
AreTermBinds [] ls rest = ls ≡ Marked mark.CloseBracket ∷ rest
AreTermBinds (e ∷ es) ls rest =
    (a b : List Lexeme) × IsTerm (term_variable e) ls a × IsTerm e.image a (Marked mark.Semicolon ∷ b) × AreTermBinds es b rest

-- the word w, and then the rest
abbrev pub IsWord : Word → List Lexeme → List Lexeme → Type 0
IsWord w ls rest = (n : ℕ) × (ls ≡ Identifier n w ∷ rest)

-- node
abbrev pub IsNode : Node → List Lexeme → List Lexeme → Type 0
IsNode (node.Axiom n typs terms) ls rest =
    (w : Word) × (a b : List Lexeme) × IsWord word.Axiom ls (Identifier n w ∷ Marked mark.OpenBracket ∷ a)
    × AreTypBinds typs a (Marked mark.OpenBracket ∷ b) × AreTermBinds terms b rest
IsNode (node.Assume p) ls rest = (a : List Lexeme) × IsWord word.Assume ls a × IsTerm p a rest
IsNode (node.AllIntro v n) ls rest = (a : List Lexeme) × IsVariable v × IsWord word.AllIntro ls a × IsTerm v a (Numeral n ∷ rest)
IsNode (node.AllElim t n) ls rest = (a : List Lexeme) × IsWord word.AllElim ls a × IsTerm t a (Numeral n ∷ rest)
IsNode (node.ImpIntro p n) ls rest = (a : List Lexeme) × IsWord word.ImpIntro ls a × IsTerm p a (Numeral n ∷ rest)
IsNode (node.ImpElim m n) ls rest = IsWord word.ImpElim ls (Numeral m ∷ Numeral n ∷ rest)
IsNode (node.Beta t) ls rest = (a : List Lexeme) × IsWord word.Beta ls a × IsTerm t a rest
IsNode (node.Refl t) ls rest = (a : List Lexeme) × IsWord word.Refl ls a × IsTerm t a rest
IsNode (node.Subst p x y) ls rest =
    (a b c : List Lexeme) × IsWord word.Subst ls a × IsTerm p a b × IsTerm x b c × IsTerm y c rest
IsNode (node.Ext f g) ls rest = (a b : List Lexeme) × IsWord word.Ext ls a × IsTerm f a b × IsTerm g b rest
IsNode (node.Iff x y) ls rest = (a b : List Lexeme) × IsWord word.Iff ls a × IsTerm x a b × IsTerm y b rest

-- item
abbrev pub IsItem : Item → List Lexeme → List Lexeme → Type 0
IsItem (item.TypeDecl k params) ls rest =
    (n : ℕ) × (w : Word) × (k ≡ typ_name n w) × (ls ≡ Marked mark.Typedecl ∷ Identifier n w ∷ Numeral params ∷ rest)
IsItem (item.Const c T) ls rest =
    (n : ℕ) × (w : Word) × (a : List Lexeme) × (c ≡ constant_name n w) × (ls ≡ Marked mark.Consts ∷ Identifier n w ∷ Marked mark.DoubleColon ∷ a)
    × IsTyp T a rest
IsItem (item.Axiom n p) ls rest =
    (w : Word) × (a : List Lexeme) × (ls ≡ Marked mark.Axiomatization ∷ Identifier n w ∷ Marked mark.Colon ∷ a) × IsTerm p a rest

-- {node "|"} "end" End
abbrev pub AreLines : List Node → List Lexeme → Type 0
AreLines [] ls = ls ≡ Marked mark.End ∷ Marked mark.SourceEnd ∷ []
AreLines (n ∷ ns) ls = (a : List Lexeme) × IsNode n ls (Marked mark.Bar ∷ a) × AreLines ns a

-- {item "|"} {node "|"} "end" End
abbrev pub AreItems : List Item → List Node → List Lexeme → Type 0
AreItems [] lines ls = AreLines lines ls
AreItems (i ∷ is) lines ls = (a : List Lexeme) × IsItem i ls (Marked mark.Bar ∷ a) × AreItems is lines a

-- The lexemes are those of the record with these items and lines.
abbrev pub IsRecord : List Item → List Node → List Lexeme → Type 0
IsRecord items lines ls = (a : List Lexeme) × (ls ≡ Marked mark.Begin ∷ a) × AreItems items lines a
