-- Tests of declarations for being the same.
use Rattle.std.specs.Prelude.{Bool, false, ◌&&◌, nat_eq}
use Rattle.std.specs.Cmp.Lexicographic.{pointwise}
use Rattle.pure_definitions.specs.Names.{Label}
use Rattle.pure_definitions.specs.Types.Typ.{sort_eq, typ_eq}
use Rattle.pure_definitions.specs.Terms.Term.{term_eq}
use Rattle.pure_definitions.specs.Declarations.Decl.{Decl, ClassDecl, ConDecl, ArityDecl, ConstDecl, AxiomDecl, PromiseDecl}

-- whether two labels are the same
abbrev pub label_eq : Label → Label → Bool
label_eq l m = nat_eq l.theory m.theory && (nat_eq l.command m.command && nat_eq l.part m.part)

-- whether two declarations are the same, with all their data
abbrev pub decl_eq : Decl → Decl → Bool
decl_eq (ClassDecl c) (ClassDecl d) = nat_eq c.name d.name && sort_eq c.above d.above
decl_eq (ConDecl k m) (ConDecl l n) = nat_eq k l && nat_eq m n
decl_eq (ArityDecl a) (ArityDecl b) = nat_eq a.con b.con && (nat_eq a.class b.class && pointwise sort_eq a.domains b.domains)
decl_eq (ConstDecl c T) (ConstDecl d U) = nat_eq c d && typ_eq T U
decl_eq (AxiomDecl x A) (AxiomDecl y B) = nat_eq x y && term_eq A B
decl_eq (PromiseDecl x l A) (PromiseDecl y m B) = nat_eq x y && (label_eq l m && term_eq A B)
decl_eq _ _ = false
