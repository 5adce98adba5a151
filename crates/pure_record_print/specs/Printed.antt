-- How a record is printed: each of its tokens by its spelling, with a blank behind it.
use Rattle.std.specs.Prelude.{ℕ, List, [], ◌∷◌, ◌++◌, codes, nat_eq, if◌then◌else◌}
use Rattle.std.specs.Fmt.{decimal}
use Rattle.pure_definitions.specs.Names.{fun_name, prop_name, all_name, imp_name, eq_name, protect_name}
use Rattle.pure_definitions.specs.Types.Typ.{Typ, Typs, TFree, TVar, Con, none, also}
use Rattle.pure_definitions.specs.Terms.Term as term
use Rattle.pure_definitions.specs.Terms.Term.{Term}
use Rattle.pure_definitions.specs.Terms.Subst.{TypBind, TermBind, term_variable}
use Rattle.pure_print.specs.NameText.{text_of_name, index_text}
use Rattle.pure_record.specs.Items as item
use Rattle.pure_record.specs.Items.{Item}
use Rattle.pure_record.specs.Lines as node
use Rattle.pure_record.specs.Lines.{Node}

-- `fun` and `prop` for Pure's, and every other constructor by its own text
abbrev pub typ_name_text : (texts : List (List ℕ)) → ℕ → List ℕ
typ_name_text texts k =
    if nat_eq k fun_name then codes "fun"
    else (if nat_eq k prop_name then codes "prop"
    else text_of_name texts k)

-- `all`, `imp`, `eq` and `protect` for Pure's, and every other constant by its own text
abbrev pub constant_name_text : (texts : List (List ℕ)) → ℕ → List ℕ
constant_name_text texts c =
    if nat_eq c all_name then codes "all"
    else (if nat_eq c imp_name then codes "imp"
    else (if nat_eq c eq_name then codes "eq"
    else (if nat_eq c protect_name then codes "protect"
    else text_of_name texts c)))

-- a name, an index and a number, with the blank behind them
abbrev pub spaced : List ℕ → List ℕ
spaced text = text ++ codes " "

abbrev pub variable_text : (texts : List (List ℕ)) → (name index : ℕ) → List ℕ
variable_text texts x i = text_of_name texts x ++ spaced (index_text i)

abbrev mutual
  pub typ_text : (texts : List (List ℕ)) → Typ → List ℕ
  typ_text texts (TFree x s) = codes "'" ++ spaced (text_of_name texts x)
  typ_text texts (TVar x i s) = codes "?'" ++ variable_text texts x i
  typ_text texts (Con k args) = spaced (typ_name_text texts k) ++ arguments_text texts args

  pub arguments_text : (texts : List (List ℕ)) → Typs → List ℕ
  arguments_text texts none = []
  arguments_text texts (also t ts) = codes "( " ++ (typ_text texts t ++ (more_arguments_text texts ts ++ codes ") "))

  pub more_arguments_text : (texts : List (List ℕ)) → Typs → List ℕ
  more_arguments_text texts none = []
  more_arguments_text texts (also t ts) = codes ", " ++ (typ_text texts t ++ more_arguments_text texts ts)

abbrev pub term_text : (texts : List (List ℕ)) → Term → List ℕ
term_text texts (term.Const c T) = codes "[ " ++ (spaced (constant_name_text texts c) ++ (codes ": " ++ (typ_text texts T ++ codes "] ")))
term_text texts (term.Free x T) = codes "{ " ++ (spaced (text_of_name texts x) ++ (codes ": " ++ (typ_text texts T ++ codes "} ")))
term_text texts (term.Var x i T) = codes "{ ?" ++ (variable_text texts x i ++ (codes ": " ++ (typ_text texts T ++ codes "} ")))
term_text texts (term.Bound k) = codes "_" ++ spaced (decimal k)
term_text texts (term.Abs T b) = codes "( % " ++ (typ_text texts T ++ (codes "; " ++ (term_text texts b ++ codes ") ")))
term_text texts (term.App f x) = codes "( " ++ (term_text texts f ++ (term_text texts x ++ codes ") "))

abbrev pub typ_binds_text : (texts : List (List ℕ)) → List TypBind → List ℕ
typ_binds_text texts [] = codes "] "
typ_binds_text texts (e ∷ es) = codes "?'" ++ (variable_text texts e.name e.index ++ (typ_text texts e.image ++ (codes "; " ++ typ_binds_text texts es)))

abbrev pub term_binds_text : (texts : List (List ℕ)) → List TermBind → List ℕ
term_binds_text texts [] = codes "] "
term_binds_text texts (e ∷ es) = term_text texts (term_variable e) ++ (term_text texts e.image ++ (codes "; " ++ term_binds_text texts es))

abbrev pub node_text : (texts : List (List ℕ)) → Node → List ℕ
node_text texts (node.Axiom n typs terms) = codes "axiom " ++ (spaced (text_of_name texts n) ++ (codes "[ " ++ (typ_binds_text texts typs ++ (codes "[ " ++ term_binds_text texts terms))))
node_text texts (node.Assume p) = codes "assume " ++ term_text texts p
node_text texts (node.AllIntro v n) = codes "alli " ++ (term_text texts v ++ spaced (decimal n))
node_text texts (node.AllElim t n) = codes "alle " ++ (term_text texts t ++ spaced (decimal n))
node_text texts (node.ImpIntro p n) = codes "impi " ++ (term_text texts p ++ spaced (decimal n))
node_text texts (node.ImpElim m n) = codes "impe " ++ (spaced (decimal m) ++ spaced (decimal n))
node_text texts (node.Beta t) = codes "beta " ++ term_text texts t
node_text texts (node.Refl t) = codes "refl " ++ term_text texts t
node_text texts (node.Subst p x y) = codes "subst " ++ (term_text texts p ++ (term_text texts x ++ term_text texts y))
node_text texts (node.Ext f g) = codes "ext " ++ (term_text texts f ++ term_text texts g)
node_text texts (node.Iff x y) = codes "iff " ++ (term_text texts x ++ term_text texts y)

abbrev pub item_text : (texts : List (List ℕ)) → Item → List ℕ
item_text texts (item.TypeDecl k n) = codes "typedecl " ++ (spaced (typ_name_text texts k) ++ spaced (decimal n))
item_text texts (item.Const c T) = codes "consts " ++ (spaced (constant_name_text texts c) ++ (codes ":: " ++ typ_text texts T))
item_text texts (item.Axiom n p) = codes "axiomatization " ++ (spaced (text_of_name texts n) ++ (codes ": " ++ term_text texts p))

abbrev pub lines_text : (texts : List (List ℕ)) → List Node → List ℕ
lines_text texts [] = []
lines_text texts (n ∷ ns) = node_text texts n ++ (codes "|\n" ++ lines_text texts ns)

abbrev pub items_text : (texts : List (List ℕ)) → List Item → List ℕ
items_text texts [] = []
items_text texts (i ∷ is) = item_text texts i ++ (codes "|\n" ++ items_text texts is)

abbrev pub record_text : (texts : List (List ℕ)) → List Item → List Node → List ℕ
record_text texts items lines = codes "begin\n" ++ (items_text texts items ++ (lines_text texts lines ++ codes "end\n"))
