-- Definitions as the code finds them, and where they unfold a constant.
use Rattle.std.proofs.Common.{◌≡◌, ℕ, List, [], ◌∷◌, Bool, true, refl, ap, sym, subst, ◌∙◌}
use Rattle.pure_definitions.specs.Types.Typ.{Typ}
use Rattle.pure_definitions.specs.Types.Order.{Algebra, IsOfSort}
use Rattle.pure_definitions.specs.Terms.Term.{Term, Const}
use Rattle.pure_definitions.specs.Terms.Subst.{TypBind, typ_image, typ_instance, inst_typ, IsTypMap, IsSortRespecting, AreSortRespecting}
use Rattle.pure_term_laws.proofs.SubstLaws.{entries-respect_sorts}
use Rattle.pure_logic.specs.Connectives.{eq}
use Rattle.pure_certify.specs.Matching.{HasNoMatch, schematics, Gives, IsGrown, IsExcluded}
use Rattle.pure_certify.proofs.MatchLemmas.{IsWalked, when_true, match-of}
use Rattle.pure_unfold.specs.Unfold.{HasVariable, HasExtraTyp, IsDefinition, IsNoDefinition, IsUnfolded}

same-sides : (T S : Typ) (t u v w : Term) → eq T t u ≡ eq S v w → (t ≡ v) × (u ≡ w)
same-sides T S t u v w e = (cc, cc)

-- A proposition that is no equation, or whose left side is no constant, or whose right side has what it may not have, is no definition; and another is one.
pub no_equation : (prop : Term) → ((T : Typ) (t u : Term) → prop ≡ eq T t u → ⊥) → IsNoDefinition prop
no_equation prop none name typ body h = none h.sides (Const name typ) body h.equates

pub no_constant : (prop : Term) (T : Typ) (t u : Term) → prop ≡ eq T t u → ((name : ℕ) (typ : Typ) → t ≡ Const name typ → ⊥) → IsNoDefinition prop
no_constant prop T t u e none name typ body h = none name typ (same-sides T h.sides t u (Const name typ) body (sym e ∙ h.equates)).0

pub some_variable : (prop : Term) (T : Typ) (t u : Term) → prop ≡ eq T t u → HasVariable u → IsNoDefinition prop
some_variable prop T t u e has name typ body h = h.no_variable (subst HasVariable (same-sides T h.sides t u (Const name typ) body (sym e ∙ h.equates)).1 has)

same-constants : (c d : ℕ) (T U : Typ) → Const c T ≡ Const d U → T ≡ U
same-constants c d T U e = cc

pub some_extra : (prop : Term) (T : Typ) (t u : Term) (c : ℕ) (own : Typ) → prop ≡ eq T t u → t ≡ Const c own → HasExtraTyp own u → IsNoDefinition prop
some_extra prop T t u c own e is has name typ body h =
    let sides = same-sides T h.sides t u (Const name typ) body (sym e ∙ h.equates) in
    let typs : own ≡ typ = same-constants c name own typ (sym is ∙ sides.0) in
    h.no_extra (subst (λ (b : Term). HasExtraTyp typ b) sides.1 (subst (λ (S : Typ). HasExtraTyp S u) typs has))

pub is_definition : (prop : Term) (T : Typ) (t u : Term) (c : ℕ) (own : Typ) → prop ≡ eq T t u → t ≡ Const c own → (¬ HasVariable u) → (¬ HasExtraTyp own u) → IsDefinition prop c own u
is_definition prop T t u c own e is no_variable no_extra = record { sides = T; equates = e ∙ ap (λ (v : Term). eq T v u) is; no_variable = no_variable; no_extra = no_extra }

-- Another name, a type that no map makes, and one that is made of images that aren't of their sorts: the constant isn't unfolded.
pub other_name : (A : Algebra) (name : ℕ) (typ : Typ) (body : Term) (c : ℕ) (U : Typ) → (c ≡ name → ⊥) → (u : Term) → ¬ IsUnfolded A name typ body c U u
other_name A name typ body c U differs u h = differs h.same

pub no_instance : (A : Algebra) (name : ℕ) (typ : Typ) (body : Term) (c : ℕ) (U : Typ) → HasNoMatch typ U → (u : Term) → ¬ IsUnfolded A name typ body c U u
no_instance A name typ body c U none u h = none h.typs h.matches

images-sorted : (A : Algebra) (typs : Typ → Typ) (binds : List TypBind) → IsSortRespecting A typs → Gives typs binds → AreSortRespecting A binds
images-sorted A typs [] r h = tt
images-sorted A typs (b ∷ bs) r h = (subst (λ (T : Typ). IsOfSort A T b.sort) h.0 (r.schematic b.name b.index b.sort), images-sorted A typs bs r h.1)

pub unsorted : (A : Algebra) (name : ℕ) (typ : Typ) (body : Term) (c : ℕ) (U : Typ) (old new : List TypBind) (walked : Bool) → old ≡ [] → walked ≡ true → IsWalked (λ f. typ_instance f typ ≡ U) (schematics typ) old new walked
    → (¬ AreSortRespecting A new) → (u : Term) → ¬ IsUnfolded A name typ body c U u
unsorted A name typ body c U old new walked empty e h fails u is =
    let grown = when_true (IsGrown (λ f. typ_instance f typ ≡ U) (schematics typ) old new) (IsExcluded (λ f. typ_instance f typ ≡ U) old) walked h e in
    let given = (grown.exactly is.typs is.matches.fixed).1 (subst (Gives is.typs) (sym empty) tt, is.matches.is) in
    fails (images-sorted A is.typs new is.respecting given)

pub is_unfolded : (A : Algebra) (name : ℕ) (typ : Typ) (body : Term) (c : ℕ) (U : Typ) (old new : List TypBind) (walked : Bool) → old ≡ [] → walked ≡ true → c ≡ name → IsTypMap new → IsWalked (λ f. typ_instance f typ ≡ U) (schematics typ) old new walked
    → AreSortRespecting A new → IsUnfolded A name typ body c U (inst_typ (typ_image new) body)
is_unfolded A name typ body c U old new walked empty e same distinct h sorted = record {
  same = same;
  typs = typ_image new;
  matches = (match-of typ U old new walked empty e distinct h).0;
  respecting = entries-respect_sorts A new sorted;
  is = refl;
}
