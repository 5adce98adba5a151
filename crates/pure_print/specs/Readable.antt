-- Which terms and types are read back as they were printed.
use Rattle.std.specs.Prelude.{◌≡◌, ℕ, ◌+◌, ◌<◌, ◌≤◌, ◌⊎◌, max, List, [], ◌∷◌, ◌++◌, length, IsTrue}
use Rattle.pure_definitions.specs.Types.Typ.{Typ, Typs, TFree, TVar, Con, none, also}
use Rattle.pure_definitions.specs.Terms.Term.{Term, Const, Free, Var, Bound, Abs, App}
use Rattle.pure_definitions.specs.Terms.Bounds.{IsClosed}
use Rattle.pure_grammar.specs.Tokens.Token.{is_spelling}
use Rattle.pure_print.specs.NameText.{name_text, fresh_variable, term_name_text, typ_name_text}

-- A letter, then letters, digits, `_` and `'`, at most 64 bytes in all. Keywords are such spellings.
abbrev pub IsIdentifier : List ℕ → Type 0
IsIdentifier text = IsTrue (is_spelling text) × (length text ≤ 64)

-- two identifiers joined by a dot
abbrev pub IsQualified : List ℕ → Type 0
IsQualified text = (first : List ℕ) × (second : List ℕ) × IsIdentifier first × IsIdentifier second × (text ≡ first ++ 46 ∷ second)

abbrev pub IsName : List ℕ → Type 0
IsName text = IsIdentifier text ⊎ IsQualified text

-- an index of at most nine digits
abbrev pub IsShortIndex : ℕ → Type 0
IsShortIndex index = index < 1000000000

abbrev pub AreClassNames : (texts : List (List ℕ)) → List ℕ → Type 0
AreClassNames texts [] = Unit {0}
AreClassNames texts (c ∷ cs) = IsName (typ_name_text texts c) × AreClassNames texts cs

-- A type is readable where the texts of its constructors and classes are identifiers or qualified names, those of its
-- variables are identifiers, and its indexes have at most nine digits. No fresh name has such a text.
abbrev mutual
  pub IsReadableTyp : (texts : List (List ℕ)) → Typ → Type 0
  IsReadableTyp texts (TFree x s) = IsIdentifier (name_text fresh_variable texts x) × AreClassNames texts s
  IsReadableTyp texts (TVar x i s) = IsIdentifier (name_text fresh_variable texts x) × IsShortIndex i × AreClassNames texts s
  IsReadableTyp texts (Con k ts) = IsName (typ_name_text texts k) × AreReadableTyps texts ts

  pub AreReadableTyps : (texts : List (List ℕ)) → Typs → Type 0
  AreReadableTyps texts none = Unit {0}
  AreReadableTyps texts (also t ts) = IsReadableTyp texts t × AreReadableTyps texts ts

-- So too with a term: the texts of its constants' names are identifiers or qualified names, those of its variables'
-- names are identifiers, and its indexes have at most nine digits. Its types aren't printed, and may be any.
abbrev pub HasReadableNames : (texts : List (List ℕ)) → Term → Type 0
HasReadableNames texts (Const c T) = IsName (term_name_text texts c)
HasReadableNames texts (Free x T) = IsIdentifier (term_name_text texts x)
HasReadableNames texts (Var x i T) = IsIdentifier (term_name_text texts x) × IsShortIndex i
HasReadableNames texts (Bound p) = Unit {0}
HasReadableNames texts (Abs T b) = HasReadableNames texts b
HasReadableNames texts (App f a) = HasReadableNames texts f × HasReadableNames texts a

-- how many binders stand one within another at most
abbrev pub nested : Term → ℕ
nested (Const c T) = 0
nested (Free x T) = 0
nested (Var x i T) = 0
nested (Bound p) = 0
nested (Abs T b) = 1 + nested b
nested (App f a) = max (nested f) (nested a)

-- A term is readable where it is closed, its names are readable, and the numbers of its binders have at most nine
-- digits: so it is with each term within the limits, and with each whose printed form has at most 1,000 tokens, which
-- is the reader's own limit.
pub record IsReadable (texts : List (List ℕ)) (t : Term) : Type 0 where
  pub closed : IsClosed t
  pub names : HasReadableNames texts t
  pub binders : nested t ≤ 1000000000
