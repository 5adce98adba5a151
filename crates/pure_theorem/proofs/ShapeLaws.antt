-- Terms and types that have not a form, from a part that hasn't.
use Rattle.std.proofs.Common.{◌≡◌, ◌∙◌, ◌↔◌, ℕ, List, [], ◌∷◌, length, Bool, true, false, not, nat_eq, IsTrue, refl, sym, ap, subst}
use Rattle.std.specs.Prelude.{Result, Ok, Err}
use Rattle.std.proofs.lemmas.Bool.{eqb-true}
use Rattle.pure_text.proofs.AnswerLaws.{no_as}
use Rattle.pure_definitions.specs.Types.Typ.{Typ, Con, none, typs_of, typ_list, prop}
use Rattle.pure_definitions.specs.Models.Equality.{typ_list-typs_of}
use Rattle.pure_definitions.specs.Terms.Typing.{HasType, IsUntypedAt}
use Rattle.pure_term.specs.TypeAnswer.{IsTypeAnswer}
use Rattle.pure_term.specs.declared.typing.TypeFault.{TypeFault}
use Rattle.pure_term.specs.declared.typing.TypeFault.TheVariants.{NotTyped}
use Rattle.pure_term_laws.proofs.TypingLaws.{typed-once}
use Rattle.pure_term_laws.proofs.FaultLaws.{typed-not_at_fault}
use Rattle.pure_definitions.specs.Terms.Term.{Term, Const, App}
use Rattle.pure_definitions.specs.Names.{imp_name, eq_name, all_name}
use Rattle.pure_logic.specs.Connectives.{imp_typ, eq_typ, all_typ, imp, eq, all_of}
use Rattle.pure_theorem.specs.Shapes.{IsNoApplication, IsNoConstTyped, IsNoEqTyp, IsNoAllTyp, IsNoImplication, IsNoEquation, IsNoQuantification}

-- of implications
pub no_implication-outer : (t : Term) → IsNoApplication t → IsNoImplication t
no_implication-outer t isnt A B e = isnt (App (Const imp_name imp_typ) A) B e

pub no_implication-inner : (t f b : Term) → t ≡ App f b → IsNoApplication f → IsNoImplication t
no_implication-inner t f b is isnt A B e =
    let function : f ≡ App (Const imp_name imp_typ) A = cc in
    isnt (Const imp_name imp_typ) A function

pub no_implication-const : (t f b c a : Term) → t ≡ App f b → f ≡ App c a → IsNoConstTyped imp_name c → IsNoImplication t
no_implication-const t f b c a is also isnt A B e =
    let function : f ≡ App (Const imp_name imp_typ) A = cc in
    let connective : c ≡ Const imp_name imp_typ = cc in
    isnt imp_typ connective

pub no_implication-typ : (t f b c a : Term) (T : Typ) → t ≡ App f b → f ≡ App c a → c ≡ Const imp_name T → ¬ (T ≡ imp_typ) → IsNoImplication t
no_implication-typ t f b c a T is also const isnt A B e =
    let function : f ≡ App (Const imp_name imp_typ) A = cc in
    let connective : c ≡ Const imp_name imp_typ = cc in
    let typ : T ≡ imp_typ = cc in
    isnt typ

pub is_implication : (t f b c a : Term) (T : Typ) → t ≡ App f b → f ≡ App c a → c ≡ Const imp_name T → T ≡ imp_typ → t ≡ imp a b
is_implication t f b c a T is also const typ = rw (is, also, const, typ) refl

-- of equations
pub no_equation-outer : (t : Term) → IsNoApplication t → IsNoEquation t
no_equation-outer t isnt T u v e = isnt (App (Const eq_name (eq_typ T)) u) v e

pub no_equation-inner : (t f b : Term) → t ≡ App f b → IsNoApplication f → IsNoEquation t
no_equation-inner t f b is isnt T u v e =
    let function : f ≡ App (Const eq_name (eq_typ T)) u = cc in
    isnt (Const eq_name (eq_typ T)) u function

pub no_equation-const : (t f b c a : Term) → t ≡ App f b → f ≡ App c a → IsNoConstTyped eq_name c → IsNoEquation t
no_equation-const t f b c a is also isnt T u v e =
    let function : f ≡ App (Const eq_name (eq_typ T)) u = cc in
    let connective : c ≡ Const eq_name (eq_typ T) = cc in
    isnt (eq_typ T) connective

pub no_equation-typ : (t f b c a : Term) (U : Typ) → t ≡ App f b → f ≡ App c a → c ≡ Const eq_name U → IsNoEqTyp U → IsNoEquation t
no_equation-typ t f b c a U is also const isnt T u v e =
    let function : f ≡ App (Const eq_name (eq_typ T)) u = cc in
    let connective : c ≡ Const eq_name (eq_typ T) = cc in
    let typ : U ≡ eq_typ T = cc in
    isnt T typ

pub is_equation : (t f b c a : Term) (U T : Typ) → t ≡ App f b → f ≡ App c a → c ≡ Const eq_name U → U ≡ eq_typ T → t ≡ eq T a b
is_equation t f b c a U T is also const typ = rw (is, also, const, typ) refl

-- of quantifications
pub no_quantification-outer : (t : Term) → IsNoApplication t → IsNoQuantification t
no_quantification-outer t isnt T f e = isnt (Const all_name (all_typ T)) f e

pub no_quantification-const : (t c f : Term) → t ≡ App c f → IsNoConstTyped all_name c → IsNoQuantification t
no_quantification-const t c f is isnt T g e =
    let connective : c ≡ Const all_name (all_typ T) = cc in
    isnt (all_typ T) connective

pub no_quantification-typ : (t c f : Term) (U : Typ) → t ≡ App c f → c ≡ Const all_name U → IsNoAllTyp U → IsNoQuantification t
no_quantification-typ t c f U is const isnt T g e =
    let connective : c ≡ Const all_name (all_typ T) = cc in
    let typ : U ≡ all_typ T = cc in
    isnt T typ

pub is_quantification : (t c f : Term) (U T : Typ) → t ≡ App c f → c ≡ Const all_name U → U ≡ all_typ T → t ≡ all_of T f
is_quantification t c f U T is const typ = rw (is, const, typ) refl

-- the type of propositions, as a constructor applied to a list
pub prop-count : (k : ℕ) (items : List Typ) → Con k (typs_of items) ≡ prop → length items ≡ 0
prop-count k items e =
    let args : typs_of items ≡ none = cc in
    ap length (sym (typ_list-typs_of items) ∙ ap typ_list args)

pub prop-of : (items : List Typ) → length items ≡ 0 → Con 1 (typs_of items) ≡ prop
prop-of [] e = refl
prop-of (t ∷ ts) e = absurd (cc)

-- A term has no other type than its own; and one at fault has none.
pub typed_exactly : (t : Term) (own T : Typ) (b : Bool) → HasType [] t own → (IsTrue b ↔ (own ≡ T)) → IsTrue b ↔ HasType [] t T
typed_exactly t own T b h test = (λ e. subst (HasType [] t) (test.0 e) h, λ k. test.1 (typed-once [] t own T h k))

pub untyped_exactly : (t : Term) (T : Typ) (place : ℕ) → IsUntypedAt [] t place → IsTrue false ↔ HasType [] t T
untyped_exactly t T place fault = no_as (HasType [] t T) (λ h. typed-not_at_fault [] t T place h fault)

pub prop-is : (T : Typ) (k : ℕ) (items shown : List Typ) → T ≡ Con k (typs_of items) → shown ≡ items → length shown ≡ 0 → false ≡ not (nat_eq k 1) → T ≡ prop
prop-is T k items shown is same count name = is ∙ (ap (λ j. Con j (typs_of items)) (eqb-true k 1 (told (nat_eq k 1) name)) ∙ prop-of items (sym (ap length same) ∙ count))
  where
    told : (b : Bool) → false ≡ not b → b ≡ true
    told true e = refl
    told false e = absurd (cc)

-- the same of the answer of a call for a type
untyped_place : (t : Term) (fault : TypeFault) (cut : ℕ) → fault ≡ NotTyped cut → IsTypeAnswer [] t (Err fault) → (place : ℕ) × IsUntypedAt [] t place
untyped_place t fault cut e h = let answer : IsTypeAnswer [] t (Err (NotTyped cut)) = subst (λ f. IsTypeAnswer [] t (Err f)) e h in (answer.0, answer.1)

pub untyped_answer : (t : Term) (T : Typ) (fault : TypeFault) (cut : ℕ) → fault ≡ NotTyped cut → IsTypeAnswer [] t (Err fault) → IsTrue false ↔ HasType [] t T
untyped_answer t T fault cut e h = let w = untyped_place t fault cut e h in untyped_exactly t T w.0 w.1

pub untyped_has_none : (t : Term) (T : Typ) (fault : TypeFault) (cut : ℕ) → fault ≡ NotTyped cut → IsTypeAnswer [] t (Err fault) → ¬ HasType [] t T
untyped_has_none t T fault cut e h typed = let w = untyped_place t fault cut e h in typed-not_at_fault [] t T w.0 typed w.1
