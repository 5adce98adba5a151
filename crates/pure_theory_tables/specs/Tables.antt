-- What tables answer of a list of declarations.
use Rattle.std.specs.Prelude.{◌≡◌, ◌↔◌, ℕ, List, Some, length, slice_get}
use Rattle.std.specs.Option.{option_map}
use Rattle.std.specs.Ordering.{nat_cmp}
use Rattle.std.specs.FinMap.{FinMap, get, len}
use Rattle.pure_text.specs.Lists.{IsIn}
use Rattle.pure_definitions.specs.Names.{Label}
use Rattle.pure_definitions.specs.Terms.Term.{Term}
use Rattle.pure_definitions.specs.Declarations.Decl.{Decl, ClassDecl, ConDecl, ArityDecl, ConstDecl, PromiseDecl}
use Rattle.pure_theory_tables.specs.declared.entry.Entry.{Entry}
use Rattle.pure_theory_tables.specs.declared.index.Index.{Index}
use Rattle.pure_theory_tables.specs.Facts.{fact_decl}
use Rattle.pure_theory_tables.specs.Kept.{IsKept}
use Rattle.pure_theory_tables.specs.Numbered.{AreNumbered}
use Rattle.pure_theory_tables.specs.View.{decl_of}

-- The map has the entry of each declaration at its place.
pub record IsListOf (list : FinMap nat_cmp Entry) (ds : List Decl) : Type 0 where
  pub entries : (place : ℕ) → slice_get ds place ≡ option_map decl_of (get list place)
  pub long : length ds ≡ len list

-- Of the declarations that are made so of a name and a value, the map has exactly those of the list.
pub record IsTableOf {V : Type 0} (decl : ℕ → V → Decl) (table : FinMap nat_cmp V) (ds : List Decl) : Type 0 where
  pub is : (name : ℕ) (v : V) → IsIn (decl name v) ds ↔ (get table name ≡ Some v)

-- The tables answer what the list says of type constructors, of constants, and of facts by their names; and the name of each promise is kept for its label.
pub record IsIndexOf (index : Index) (ds : List Decl) : Type 0 where
  pub typs : IsTableOf ConDecl index.typs ds
  pub consts : IsTableOf ConstDecl index.consts ds
  pub facts : IsTableOf fact_decl index.facts ds
  pub labels : (x : ℕ) (l : Label) (A : Term) → IsIn (PromiseDecl x l A) ds → IsKept index.labels x l

-- Entries, tables and numbers are those of the list.
pub record AreTables (list : FinMap nat_cmp Entry) (index : Index) (numbered : FinMap nat_cmp Entry) (ds : List Decl) : Type 0 where
  pub listed : IsListOf list ds
  pub indexed : IsIndexOf index ds
  pub by_number : AreNumbered numbered ds

-- The declaration is of a kind that has no table: it is a class or an arity.
abbrev pub IsOther : Decl → Type 0
IsOther (ClassDecl k) = Unit {0}
IsOther (ArityDecl a) = Unit {0}
IsOther _ = ⊥
