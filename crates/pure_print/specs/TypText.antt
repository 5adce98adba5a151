-- How types are printed.
use Rattle.std.specs.Prelude.{ℕ, Bool, false, List, [], ◌∷◌, ◌++◌, codes, nat_eq, if◌then◌else◌}
use Rattle.pure_definitions.specs.Names.{fun_name, prop_name}
use Rattle.pure_definitions.specs.Types.Typ.{Typ, Typs, TFree, TVar, Con, none, also}
use Rattle.pure_print.specs.NameText.{typ_name_text, typ_variable_text, index_text, sort_text}

-- `Pure.fun` applied to two types is an arrow.
abbrev pub is_arrow_of : ℕ → Typs → Bool
is_arrow_of k none = false
is_arrow_of k (also s none) = false
is_arrow_of k (also s (also t none)) = nat_eq k fun_name
is_arrow_of k (also s (also t (also u us))) = false

abbrev pub is_arrow : Typ → Bool
is_arrow (TFree x s) = false
is_arrow (TVar x i s) = false
is_arrow (Con k ts) = is_arrow_of k ts

-- the text, in parentheses where it is asked for
abbrev pub in_parentheses : Bool → List ℕ → List ℕ
in_parentheses asked text = if asked then (40 ∷ (text ++ codes ")")) else text

-- `prop` for Pure's propositions, and every other constructor by its name
abbrev pub constant_typ_text : (texts : List (List ℕ)) → ℕ → List ℕ
constant_typ_text texts k = if nat_eq k prop_name then codes "prop" else typ_name_text texts k

-- Variables print with their marks, their index and their sort. An arrow prints as `s => t`, with s in parentheses where
-- it is an arrow itself. A constructor prints behind its arguments: `i`, `i k`, `(i, j) k`; an arrow as its one argument
-- stands in parentheses.
abbrev mutual
  pub typ_text : (texts : List (List ℕ)) → Typ → List ℕ
  typ_text texts (TFree x s) = typ_variable_text texts x ++ sort_text texts s
  typ_text texts (TVar x i s) = 63 ∷ (typ_variable_text texts x ++ (index_text i ++ sort_text texts s))
  typ_text texts (Con k none) = constant_typ_text texts k
  typ_text texts (Con k (also t none)) = in_parentheses (is_arrow t) (typ_text texts t) ++ (32 ∷ typ_name_text texts k)
  typ_text texts (Con k (also s (also t ts))) =
      if is_arrow_of k (also s (also t ts)) then in_parentheses (is_arrow s) (typ_text texts s) ++ (codes " => " ++ typ_text texts t)
      else 40 ∷ (typ_text texts s ++ (codes ", " ++ (typ_text texts t ++ (more_typs_text texts ts ++ (codes ") " ++ typ_name_text texts k)))))

  -- each type behind a comma and a blank
  pub more_typs_text : (texts : List (List ℕ)) → Typs → List ℕ
  more_typs_text texts none = []
  more_typs_text texts (also t ts) = codes ", " ++ (typ_text texts t ++ more_typs_text texts ts)
