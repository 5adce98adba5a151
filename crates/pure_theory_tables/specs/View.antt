-- What entries are seen as.
use Rattle.std.specs.Prelude.{ℕ, zero, suc, List, [], ◌++◌, Option}
use Rattle.std.specs.Option.{option_map, option_to_list}
use Rattle.std.specs.Ordering.{nat_cmp}
use Rattle.std.specs.FinMap.{FinMap, get, len}
use Rattle.pure_definitions.specs.Declarations.Decl as tree
use Rattle.pure_theory_tables.specs.declared.decl.Decl.{Decl}
use Rattle.pure_theory_tables.specs.declared.decl.Decl.TheVariants as outlined
use Rattle.pure_theory_tables.specs.declared.entry.Entry.{Entry}
use Rattle.pure_theory_tables.specs.declared.entry.Entry.TheVariants.{Class, Con, Arity, Const, Axiom, Promise}

-- the declaration that an entry holds
abbrev pub decl_of : Entry → tree.Decl
decl_of (Class name above) = tree.ClassDecl (record { name = name; above = above.value.items })
decl_of (Con name params) = tree.ConDecl name params
decl_of (Arity con domains class) = tree.ArityDecl (record { con = con; domains = domains.value.items; class = class })
decl_of (Const name typ) = tree.ConstDecl name typ.value
decl_of (Axiom name prop) = tree.AxiomDecl name prop.value
decl_of (Promise name label prop) = tree.PromiseDecl name label prop.value

-- the kind and the name of a declaration
abbrev pub outline : tree.Decl → Decl
outline (tree.ClassDecl k) = outlined.Class k.name
outline (tree.ConDecl k n) = outlined.Con k
outline (tree.ArityDecl a) = outlined.Arity a.con a.class
outline (tree.ConstDecl c T) = outlined.Const c
outline (tree.AxiomDecl x A) = outlined.Axiom x
outline (tree.PromiseDecl x l A) = outlined.Promise x l

-- the declarations of the entries at the first n places, in order
abbrev pub first_of : (ℕ → Option Entry) → (n : ℕ) → List tree.Decl
first_of entry zero = []
first_of entry (suc n) = first_of entry n ++ option_to_list (option_map decl_of (entry n))

-- the declarations in the order of their places
abbrev pub in_order : FinMap nat_cmp Entry → List tree.Decl
in_order list = first_of (get list) (len list)
