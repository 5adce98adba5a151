-- Which declarations make a content, tested; and Pure's own content.
use Rattle.std.proofs.Common.{◌≡◌, List, [], ◌∷◌, inl, inr, refl, Bool, true, false, not, ◌&&◌, ◌||◌, nat_eq}
use Rattle.std.proofs.lemmas.Bool.{eq-eqb}
use Rattle.std.specs.Cmp.{first_so, second_so}
use Rattle.std.specs.List.{list_all}
use Rattle.pure_text.specs.Lists.{IsIn}
use Rattle.pure_definitions.specs.Types.Typ.{prop}
use Rattle.pure_definitions.specs.Declarations.Decl.{Decl, ClassDecl, ConDecl, ConstDecl, AxiomDecl, PromiseDecl}
use Rattle.pure_definitions.specs.Declarations.Certified.{HasCertifiedParts}
use Rattle.pure_logic.specs.Connectives.{all_typ, imp_typ, eq_typ, protect_typ, protect}
use Rattle.pure_logic.specs.Content.{IsSchematicTyp, IsStatement, AreNamedAlike, AreLabelledAlike, IsContent}
use Rattle.pure_logic.specs.PureContent.{any_typ, pure_content, pure_declarations, proposition_variable, protect_axiom}
use Rattle.pure_logic.proofs.ConnectiveLaws.{pure-below_itself, certified_of, prop-certified, eq-parts, protect-parts}

-- whether two declarations are of one kind and have one name
abbrev pub named_alike : Decl → Decl → Bool
named_alike (ClassDecl c) (ClassDecl d) = nat_eq c.name d.name
named_alike (ConDecl k m) (ConDecl l n) = nat_eq k l
named_alike (ConstDecl c T) (ConstDecl d U) = nat_eq c d
named_alike (AxiomDecl x A) (AxiomDecl y B) = nat_eq x y
named_alike (AxiomDecl x A) (PromiseDecl y l B) = nat_eq x y
named_alike (PromiseDecl x l A) (AxiomDecl y B) = nat_eq x y
named_alike (PromiseDecl x l A) (PromiseDecl y m B) = nat_eq x y
named_alike _ _ = false

-- whether both are promises
abbrev pub both_promises : Decl → Decl → Bool
both_promises (PromiseDecl x l A) (PromiseDecl y m B) = true
both_promises _ _ = false

pub named_alike-so : (d e : Decl) → AreNamedAlike d e → named_alike d e ≡ true
named_alike-so (ClassDecl c) (ClassDecl d) h = eq-eqb c.name d.name h
named_alike-so (ConDecl k m) (ConDecl l n) h = eq-eqb k l h
named_alike-so (ConstDecl c T) (ConstDecl d U) h = eq-eqb c d h
named_alike-so (AxiomDecl x A) (AxiomDecl y B) h = eq-eqb x y h
named_alike-so (AxiomDecl x A) (PromiseDecl y l B) h = eq-eqb x y h
named_alike-so (PromiseDecl x l A) (AxiomDecl y B) h = eq-eqb x y h
named_alike-so (PromiseDecl x l A) (PromiseDecl y m B) h = eq-eqb x y h
named_alike-so _ _ h = absurd h

pub both_promises-so : (d e : Decl) → AreLabelledAlike d e → both_promises d e ≡ true
both_promises-so (PromiseDecl x l A) (PromiseDecl y m B) h = refl
both_promises-so _ _ h = absurd h

-- whether the test fails between each two places of the list
abbrev pub all_apart : (Decl → Decl → Bool) → List Decl → Bool
all_apart test [] = true
all_apart test (d ∷ ds) = list_all (λ e. not (test d e || test e d)) ds && all_apart test ds

apart-at : (test : Decl → Decl → Bool) (d e : Decl) (ds : List Decl) → list_all (λ e. not (test d e || test e d)) ds ≡ true → IsIn e ds → (test d e || test e d) ≡ false
apart-at test d e [] h m = absurd m
apart-at test d e (x ∷ xs) h m = elim m [
  | inl same ↦ rw same (by (test d x || test x d) (first_so (not (test d x || test x d)) (list_all (λ e. not (test d e || test e d)) xs) h))
  | inr n ↦ apart-at test d e xs (second_so (not (test d x || test x d)) (list_all (λ e. not (test d e || test e d)) xs) h) n
]
  where
    by : (b : Bool) → not b ≡ true → b ≡ false
    by true h = cc
    by false h = refl

either : (b c : Bool) → (b || c) ≡ false → (b ≡ true → ⊥) × (c ≡ true → ⊥)
either true c h = (λ t. cc, λ t. cc)
either false c h = (λ t. cc, λ t. cc)

-- Where the test fails between each two places, and holds of what is related, then what is related stands at one place.
pub apart-once : (R : Decl → Decl → Type 0) (test : Decl → Decl → Bool) → ((d e : Decl) → R d e → test d e ≡ true) → (ds : List Decl) → all_apart test ds ≡ true
    → (d e : Decl) → IsIn d ds → IsIn e ds → R d e → d ≡ e
apart-once R test so [] h d e m n r = absurd m
apart-once R test so (x ∷ xs) h d e m n r =
    let head = first_so (list_all (λ e. not (test x e || test e x)) xs) (all_apart test xs) h in
    let tail = second_so (list_all (λ e. not (test x e || test e x)) xs) (all_apart test xs) h in
    elim m [
      | inl p ↦ elim n [
        | inl q ↦ cc
        | inr o ↦ absurd ((either (test x e) (test e x) (apart-at test x e xs head o)).0 (rw (← p) (so d e r)))
      ]
      | inr o ↦ elim n [
        | inl q ↦ absurd ((either (test x d) (test d x) (apart-at test x d xs head o)).1 (rw (← q) (so d e r)))
        | inr o' ↦ apart-once R test so xs tail d e o o' r
      ]
    ]

pub protect_is_statement : IsStatement pure_content protect_axiom
protect_is_statement = record {
  proposition = certified_of pure_content protect_axiom prop (eq-parts pure_content pure-below_itself prop (protect (proposition_variable 0)) (proposition_variable 0) (prop-certified pure_content pure-below_itself) (protect-parts pure_content pure-below_itself (proposition_variable 0) variable) variable) (prop, (prop, refl, (prop, refl, refl)), refl);
  schematic = (((tt, ((tt, (tt, tt)), tt)), ((tt, (tt, tt)), tt)), tt);
}
  where
    variable : HasCertifiedParts pure_declarations (proposition_variable 0)
    variable = prop-certified pure_content pure-below_itself

pub pure_is_content : IsContent pure_content
pure_is_content = record {
  named_once = apart-once AreNamedAlike named_alike named_alike-so pure_declarations refl;
  labelled_once = apart-once AreLabelledAlike both_promises both_promises-so pure_declarations refl;
  well_formed = (tt, (tt, (all_schematic, (imp_schematic, (eq_schematic, (protect_schematic, (protect_is_statement, tt)))))));
  coregular = λ a b m. absurd m;
}
  where
    all_schematic : IsSchematicTyp (all_typ any_typ)
    all_schematic = ((tt, (tt, tt)), (tt, tt))

    imp_schematic : IsSchematicTyp imp_typ
    imp_schematic = (tt, ((tt, (tt, tt)), tt))

    eq_schematic : IsSchematicTyp (eq_typ any_typ)
    eq_schematic = (tt, ((tt, (tt, tt)), tt))

    protect_schematic : IsSchematicTyp protect_typ
    protect_schematic = (tt, (tt, tt))
