-- The machine goes through the lexemes of each record.
use Rattle.std.proofs.Common.{◌≡◌, Bool, true, false, List, [], ◌∷◌, refl, sym, ap, subst, Option, Some, None}
use Rattle.pure_definitions.specs.Types.Typ.{Typ, Typs, TFree, TVar, Con, none, also}
use Rattle.pure_definitions.specs.Terms.Term as term
use Rattle.pure_definitions.specs.Terms.Term.{Term}
use Rattle.pure_definitions.specs.Terms.Subst.{TypBind, TermBind}
use Rattle.pure_record.specs.Items as item
use Rattle.pure_record.specs.Items.{Item}
use Rattle.pure_record.specs.Lines as node
use Rattle.pure_record.specs.Lines.{Node}
use Rattle.pure_record.specs.Grammar.{IsTyp, AreArguments, AreMoreArguments, IsTerm, IsVariable, AreTypBinds, AreTermBinds, IsNode, IsItem, AreLines, AreItems, IsRecord}
use Rattle.pure_record.specs.declared.lexeme.Mark.{Mark}
use Rattle.pure_record.specs.declared.lexeme.Mark.TheVariants as mark
use Rattle.pure_record.specs.declared.lexeme.Lexeme.{Lexeme}
use Rattle.pure_record.specs.declared.lexeme.Lexeme.TheVariants.{Marked, Numeral}
use Rattle.pure_record.specs.declared.symbol.Symbol.{Symbol}
use Rattle.pure_record.specs.declared.symbol.Symbol.TheVariants as symbol
use Rattle.pure_record.specs.Machine.{is_mark, next, Outcome, Through, Stuck, goes_on, run}

-- the lexemes are all that was to come
abbrev pub Accepts : List Symbol → List Lexeme → Type 0
Accepts xs ls = run xs ls ≡ Through []

-- the lexemes go on behind a type
abbrev pub IsShut : List Lexeme → Type 0
IsShut [] = ⊥
IsShut (l ∷ ls) = is_mark mark.OpenParenthesis l ≡ false

is_stuck : Outcome → Bool
is_stuck (Through xs) = false
is_stuck (Stuck xs ls) = true

pub stuck-no : (xs : List Symbol) (ls : List Lexeme) → Stuck xs ls ≡ Through [] → ⊥
unfolding is_stuck
stuck-no xs ls e = let bad : true ≡ false = ap is_stuck e in absurd (cc)

other-stuck : (o : Option (List Symbol)) (first second : Outcome) (on : List Symbol → Outcome) → (first ≡ Through [] → ⊥) → goes_on o first on ≡ Through [] → goes_on o second on ≡ Through []
other-stuck None first second on differ e = absurd (differ e)
other-stuck (Some xs) first second on differ e = e

passed : (ls : List Lexeme) (k : List Symbol) → IsShut ls → Accepts k ls → Accepts (symbol.Arguments ∷ k) ls
passed [] k shut acc = absurd shut
passed (l ∷ ls) k shut acc =
    rw shut (other-stuck (next k l) (Stuck k (l ∷ ls)) (Stuck (symbol.Arguments ∷ k) (l ∷ ls)) (λ ys. run ys ls) (stuck-no k (l ∷ ls)) acc)

-- ---- types
pub shut-more : (ts : Typs) (ls rest : List Lexeme) → AreMoreArguments ts ls rest → IsShut ls
shut-more none ls rest e = subst IsShut (sym e) refl
shut-more (also t ts) ls rest (a, b, e, typ, m) = subst IsShut (sym e) refl

mutual
  pub accepts-typ : (t : Typ) (ls rest : List Lexeme) (k : List Symbol) → IsTyp t ls rest → IsShut rest → Accepts k rest → Accepts (symbol.Typ ∷ k) ls
  accepts-typ (TFree x s) ls rest k (_, e) shut acc = subst (Accepts (symbol.Typ ∷ k)) (sym e) acc
  accepts-typ (TVar x i s) ls rest k (_, e) shut acc = subst (Accepts (symbol.Typ ∷ k)) (sym e) acc
  accepts-typ (Con c args) ls rest k (n, w, a, _, e, given) shut acc = subst (Accepts (symbol.Typ ∷ k)) (sym e) (accepts-arguments args a rest k given shut acc)

  accepts-arguments : (ts : Typs) (ls rest : List Lexeme) (k : List Symbol) → AreArguments ts ls rest → IsShut rest → Accepts k rest → Accepts (symbol.Arguments ∷ k) ls
  accepts-arguments none ls rest k e shut acc = subst (Accepts (symbol.Arguments ∷ k)) (sym e) (passed rest k shut acc)
  accepts-arguments (also t ts) ls rest k (a, b, e, typ, more) shut acc =
      subst (Accepts (symbol.Arguments ∷ k)) (sym e) (accepts-typ t a b (symbol.MoreArguments ∷ k) typ (shut-more ts b rest more) (accepts-more ts b rest k more acc))

  accepts-more : (ts : Typs) (ls rest : List Lexeme) (k : List Symbol) → AreMoreArguments ts ls rest → Accepts k rest → Accepts (symbol.MoreArguments ∷ k) ls
  accepts-more none ls rest k e acc = subst (Accepts (symbol.MoreArguments ∷ k)) (sym e) acc
  accepts-more (also t ts) ls rest k (a, b, e, typ, more) acc =
      subst (Accepts (symbol.MoreArguments ∷ k)) (sym e) (accepts-typ t a b (symbol.MoreArguments ∷ k) typ (shut-more ts b rest more) (accepts-more ts b rest k more acc))

-- ---- terms
abbrev marked : Mark → List Lexeme → List Lexeme
marked m ls = Marked m ∷ ls

mutual
  pub accepts-term : (t : Term) (ls rest : List Lexeme) (k : List Symbol) → IsTerm t ls rest → Accepts k rest → Accepts (symbol.Term ∷ k) ls
  accepts-term (term.Const c T) ls rest k (n, w, a, _, e, typ) acc =
      subst (Accepts (symbol.Term ∷ k)) (sym e) (accepts-typ T a (marked mark.CloseBracket rest) (symbol.Just mark.CloseBracket ∷ k) typ refl acc)
  accepts-term (term.Free x T) ls rest k (w, a, e, typ) acc =
      subst (Accepts (symbol.Term ∷ k)) (sym e) (accepts-typ T a (marked mark.CloseBrace rest) (symbol.Just mark.CloseBrace ∷ k) typ refl acc)
  accepts-term (term.Var x i T) ls rest k (a, e, typ) acc =
      subst (Accepts (symbol.Term ∷ k)) (sym e) (accepts-typ T a (marked mark.CloseBrace rest) (symbol.Just mark.CloseBrace ∷ k) typ refl acc)
  accepts-term (term.Bound p) ls rest k e acc = subst (Accepts (symbol.Term ∷ k)) (sym e) acc
  accepts-term (term.Abs T b) ls rest k (a, c, e, typ, body) acc =
      subst (Accepts (symbol.Term ∷ k)) (sym e) (accepts-typ T a (marked mark.Semicolon c) (symbol.Just mark.Semicolon ∷ symbol.Term ∷ symbol.Just mark.CloseParenthesis ∷ k) typ refl
      (accepts-term b c (marked mark.CloseParenthesis rest) (symbol.Just mark.CloseParenthesis ∷ k) body acc))
  accepts-term (term.App f x) ls rest k (a, b, e, fun, arg) acc =
      subst (Accepts (symbol.Term ∷ k)) (sym e) (accepts-inside f a b k fun (accepts-term x b (marked mark.CloseParenthesis rest) (symbol.Just mark.CloseParenthesis ∷ k) arg acc))

  -- a function behind the parenthesis of its application
  accepts-inside : (t : Term) (ls rest : List Lexeme) (k : List Symbol) → IsTerm t ls rest → Accepts (symbol.Term ∷ symbol.Just mark.CloseParenthesis ∷ k) rest → Accepts (symbol.InParentheses ∷ k) ls
  accepts-inside (term.Const c T) ls rest k (n, w, a, _, e, typ) acc =
      subst (Accepts (symbol.InParentheses ∷ k)) (sym e) (accepts-typ T a (marked mark.CloseBracket rest) (symbol.Just mark.CloseBracket ∷ symbol.Term ∷ symbol.Just mark.CloseParenthesis ∷ k) typ refl acc)
  accepts-inside (term.Free x T) ls rest k (w, a, e, typ) acc =
      subst (Accepts (symbol.InParentheses ∷ k)) (sym e) (accepts-typ T a (marked mark.CloseBrace rest) (symbol.Just mark.CloseBrace ∷ symbol.Term ∷ symbol.Just mark.CloseParenthesis ∷ k) typ refl acc)
  accepts-inside (term.Var x i T) ls rest k (a, e, typ) acc =
      subst (Accepts (symbol.InParentheses ∷ k)) (sym e) (accepts-typ T a (marked mark.CloseBrace rest) (symbol.Just mark.CloseBrace ∷ symbol.Term ∷ symbol.Just mark.CloseParenthesis ∷ k) typ refl acc)
  accepts-inside (term.Bound p) ls rest k e acc = subst (Accepts (symbol.InParentheses ∷ k)) (sym e) acc
  accepts-inside (term.Abs T b) ls rest k (a, c, e, typ, body) acc =
      subst (Accepts (symbol.InParentheses ∷ k)) (sym e) (accepts-typ T a (marked mark.Semicolon c) (symbol.Just mark.Semicolon ∷ symbol.Term ∷ symbol.Just mark.CloseParenthesis ∷ symbol.Term ∷ symbol.Just mark.CloseParenthesis ∷ k) typ refl
      (accepts-term b c (marked mark.CloseParenthesis rest) (symbol.Just mark.CloseParenthesis ∷ symbol.Term ∷ symbol.Just mark.CloseParenthesis ∷ k) body acc))
  accepts-inside (term.App f x) ls rest k (a, b, e, fun, arg) acc =
      subst (Accepts (symbol.InParentheses ∷ k)) (sym e) (accepts-inside f a b (symbol.Term ∷ symbol.Just mark.CloseParenthesis ∷ k) fun
      (accepts-term x b (marked mark.CloseParenthesis rest) (symbol.Just mark.CloseParenthesis ∷ symbol.Term ∷ symbol.Just mark.CloseParenthesis ∷ k) arg acc))

accepts-variable : (t : Term) (ls rest : List Lexeme) (k : List Symbol) → IsVariable t → IsTerm t ls rest → Accepts k rest → Accepts (symbol.Variable ∷ k) ls
accepts-variable (term.Free x T) ls rest k v (w, a, e, typ) acc =
    subst (Accepts (symbol.Variable ∷ k)) (sym e) (accepts-typ T a (marked mark.CloseBrace rest) (symbol.Just mark.CloseBrace ∷ k) typ refl acc)
accepts-variable (term.Var x i T) ls rest k v (a, e, typ) acc =
    subst (Accepts (symbol.Variable ∷ k)) (sym e) (accepts-typ T a (marked mark.CloseBrace rest) (symbol.Just mark.CloseBrace ∷ k) typ refl acc)
accepts-variable (term.Const c T) ls rest k v is acc = absurd v
accepts-variable (term.Bound p) ls rest k v is acc = absurd v
accepts-variable (term.Abs T b) ls rest k v is acc = absurd v
accepts-variable (term.App f x) ls rest k v is acc = absurd v

-- ---- maps
accepts-typ_binds : (es : List TypBind) (ls rest : List Lexeme) (k : List Symbol) → AreTypBinds es ls rest → Accepts k rest → Accepts (symbol.TypBinds ∷ k) ls
accepts-typ_binds [] ls rest k e acc = subst (Accepts (symbol.TypBinds ∷ k)) (sym e) acc
accepts-typ_binds (x ∷ es) ls rest k (a, b, _, e, typ, more) acc =
    subst (Accepts (symbol.TypBinds ∷ k)) (sym e) (accepts-typ x.image a (marked mark.Semicolon b) (symbol.Just mark.Semicolon ∷ symbol.TypBinds ∷ k) typ refl (accepts-typ_binds es b rest k more acc))

accepts-term_binds : (es : List TermBind) (ls rest : List Lexeme) (k : List Symbol) → AreTermBinds es ls rest → Accepts k rest → Accepts (symbol.TermBinds ∷ k) ls
accepts-term_binds [] ls rest k e acc = subst (Accepts (symbol.TermBinds ∷ k)) (sym e) acc
accepts-term_binds (x ∷ es) ls rest k (a, b, (c, e, typ), image, more) acc =
    subst (Accepts (symbol.TermBinds ∷ k)) (sym e) (accepts-typ x.typ c (marked mark.CloseBrace a) (symbol.Just mark.CloseBrace ∷ symbol.Term ∷ symbol.Just mark.Semicolon ∷ symbol.TermBinds ∷ k) typ refl
    (accepts-term x.image a (marked mark.Semicolon b) (symbol.Just mark.Semicolon ∷ symbol.TermBinds ∷ k) image (accepts-term_binds es b rest k more acc)))

-- ---- lines
abbrev AcceptBoth : List Lexeme → Type 0
AcceptBoth ls = Accepts (symbol.Lines ∷ []) ls × Accepts (symbol.Items ∷ []) ls

abbrev end : List Symbol
end = symbol.Just mark.Bar ∷ symbol.Lines ∷ []

accepts-node : (n : Node) (ls rest : List Lexeme) → IsNode n ls (marked mark.Bar rest) → Accepts (symbol.Lines ∷ []) rest → AcceptBoth ls
accepts-node (node.Axiom x typs terms) ls rest (w, a, b, (m, e), first, second) acc =
    subst AcceptBoth (sym e) (let x = accepts-typ_binds typs a (marked mark.OpenBracket b) (symbol.Just mark.OpenBracket ∷ symbol.TermBinds ∷ end) first (accepts-term_binds terms b (marked mark.Bar rest) end second acc) in (x, x))
accepts-node (node.Assume p) ls rest (a, (m, e), t) acc = subst AcceptBoth (sym e) (let x = accepts-term p a (marked mark.Bar rest) end t acc in (x, x))
accepts-node (node.AllIntro v n) ls rest (a, variable, (m, e), t) acc =
    subst AcceptBoth (sym e) (let x = accepts-variable v a (Numeral n ∷ marked mark.Bar rest) (symbol.Numeral ∷ end) variable t acc in (x, x))
accepts-node (node.AllElim t n) ls rest (a, (m, e), is) acc = subst AcceptBoth (sym e) (let x = accepts-term t a (Numeral n ∷ marked mark.Bar rest) (symbol.Numeral ∷ end) is acc in (x, x))
accepts-node (node.ImpIntro t n) ls rest (a, (m, e), is) acc = subst AcceptBoth (sym e) (let x = accepts-term t a (Numeral n ∷ marked mark.Bar rest) (symbol.Numeral ∷ end) is acc in (x, x))
accepts-node (node.ImpElim i j) ls rest (m, e) acc = subst AcceptBoth (sym e) (acc, acc)
accepts-node (node.Beta t) ls rest (a, (m, e), is) acc = subst AcceptBoth (sym e) (let x = accepts-term t a (marked mark.Bar rest) end is acc in (x, x))
accepts-node (node.Refl t) ls rest (a, (m, e), is) acc = subst AcceptBoth (sym e) (let x = accepts-term t a (marked mark.Bar rest) end is acc in (x, x))
accepts-node (node.Subst p x y) ls rest (a, b, c, (m, e), first, second, third) acc =
    subst AcceptBoth (sym e) (let z = accepts-term p a b (symbol.Term ∷ symbol.Term ∷ end) first (accepts-term x b c (symbol.Term ∷ end) second (accepts-term y c (marked mark.Bar rest) end third acc)) in (z, z))
accepts-node (node.Ext f g) ls rest (a, b, (m, e), first, second) acc =
    subst AcceptBoth (sym e) (let z = accepts-term f a b (symbol.Term ∷ end) first (accepts-term g b (marked mark.Bar rest) end second acc) in (z, z))
accepts-node (node.Iff f g) ls rest (a, b, (m, e), first, second) acc =
    subst AcceptBoth (sym e) (let z = accepts-term f a b (symbol.Term ∷ end) first (accepts-term g b (marked mark.Bar rest) end second acc) in (z, z))

accepts-lines : (ns : List Node) (ls : List Lexeme) → AreLines ns ls → AcceptBoth ls
accepts-lines [] ls e = subst AcceptBoth (sym e) (refl, refl)
accepts-lines (n ∷ ns) ls (a, is, more) = accepts-node n ls a is (accepts-lines ns a more).0

-- ---- items
accepts-item : (i : Item) (ls rest : List Lexeme) → IsItem i ls (marked mark.Bar rest) → Accepts (symbol.Items ∷ []) rest → Accepts (symbol.Items ∷ []) ls
accepts-item (item.TypeDecl k params) ls rest (n, w, _, e) acc = subst (Accepts (symbol.Items ∷ [])) (sym e) acc
accepts-item (item.Const c T) ls rest (n, w, a, _, e, typ) acc =
    subst (Accepts (symbol.Items ∷ [])) (sym e) (accepts-typ T a (marked mark.Bar rest) (symbol.Just mark.Bar ∷ symbol.Items ∷ []) typ refl acc)
accepts-item (item.Axiom n p) ls rest (w, a, e, prop) acc =
    subst (Accepts (symbol.Items ∷ [])) (sym e) (accepts-term p a (marked mark.Bar rest) (symbol.Just mark.Bar ∷ symbol.Items ∷ []) prop acc)

accepts-items : (is : List Item) (lines : List Node) (ls : List Lexeme) → AreItems is lines ls → Accepts (symbol.Items ∷ []) ls
accepts-items [] lines ls are = (accepts-lines lines ls are).1
accepts-items (i ∷ is) lines ls (a, one, more) = accepts-item i ls a one (accepts-items is lines a more)

pub accepts-record : (is : List Item) (lines : List Node) (ls : List Lexeme) → IsRecord is lines ls → Accepts (symbol.Record ∷ []) ls
accepts-record is lines ls (a, e, are) = subst (Accepts (symbol.Record ∷ [])) (sym e) (accepts-items is lines a are)
