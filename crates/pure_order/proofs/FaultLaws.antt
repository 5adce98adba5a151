-- What the tests of an arity find.
use Rattle.std.proofs.Common.{◌≡◌, ℕ, List, [], ◌∷◌, ◌++◌}
use Rattle.pure_text.specs.Lists.{Each}
use Rattle.pure_definitions.specs.Types.Order.{Class}
use Rattle.pure_order_tables.specs.Classes.{IsDeclared}
use Rattle.pure_order_tables.specs.Arities.{IsKnown}
use Rattle.pure_order_tables.specs.Unknown.{IsFirstUnknown, joined}
use Rattle.pure_order_tables.proofs.UnknownLaws.{each-joined, unknown_behind, unknown_one}

pub unknown_class : (cs : List Class) (domains read : List (List ℕ)) (class : ℕ) → read ≡ domains → Each (Each (IsDeclared cs)) read → ¬ IsDeclared cs class → IsFirstUnknown cs (joined domains ++ class ∷ []) class
unknown_class cs domains read class same known not = unknown_behind cs (joined domains) (class ∷ []) class (each-joined (IsDeclared cs) domains (rw same at known)) (unknown_one cs class not)

pub known_arity : (cs : List Class) (con class : ℕ) (domains read : List (List ℕ)) → read ≡ domains → Each (Each (IsDeclared cs)) read → IsDeclared cs class → IsKnown cs (record { con = con; domains = domains; class = class })
known_arity cs con class domains read same known declared = record { domains = rw same at known; class = declared }
