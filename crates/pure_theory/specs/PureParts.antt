-- What Pure declares, one declaration after the other.
use Rattle.std.specs.Prelude.{List, [], ◌∷◌, ◌++◌}
use Rattle.pure_definitions.specs.Names.{fun_name, prop_name, all_name, imp_name, eq_name, protect_name}
use Rattle.pure_definitions.specs.Declarations.Decl.{Decl, ConDecl, ConstDecl}
use Rattle.pure_logic.specs.Connectives.{all_typ, imp_typ, eq_typ, protect_typ}
use Rattle.pure_logic.specs.PureContent.{any_typ}

-- the type constructors
unfoldable pub pure_typs : List Decl
pure_typs = ConDecl fun_name 2 ∷ ConDecl prop_name 0 ∷ []

-- up to each of the constants
unfoldable pub pure_to_all : List Decl
unfolding pure_typs
pure_to_all = pure_typs ++ ConstDecl all_name (all_typ any_typ) ∷ []

unfoldable pub pure_to_imp : List Decl
unfolding pure_to_all
pure_to_imp = pure_to_all ++ ConstDecl imp_name imp_typ ∷ []

unfoldable pub pure_to_eq : List Decl
unfolding pure_to_imp
pure_to_eq = pure_to_imp ++ ConstDecl eq_name (eq_typ any_typ) ∷ []

unfoldable pub pure_to_protect : List Decl
unfolding pure_to_eq
pure_to_protect = pure_to_eq ++ ConstDecl protect_name protect_typ ∷ []
