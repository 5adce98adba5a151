-- What is matched behind a prefix: of two matched terms the one is proved behind the prefix, at the instance, where the other is.
use Rattle.std.proofs.Common.{◌≡◌, List, [], ◌∷◌, map, refl, ap}
use Rattle.pure_text.specs.Lists.{Each}
use Rattle.pure_definitions.specs.Types.Typ.{Typ}
use Rattle.pure_definitions.specs.Terms.Term.{Term, Abs}
use Rattle.pure_definitions.specs.Terms.Subst.{typ_instance, term_instance}
use Rattle.pure_logic.specs.Connectives.{all, imp, eq}
use Rattle.pure_logic.specs.Content.{Content, IsContent, IsBelow}
use Rattle.pure_logic.specs.PureContent.{pure_content}
use Rattle.pure_logic.specs.Derivable.{Theorem}
use Rattle.pure_logic.specs.Proves.{Proves}
use Rattle.pure_logic.proofs.EqualityLaws.{symmetric_equality}
use Rattle.pure_equation_laws.specs.Laws.Proved.{IsPairProved}
use Rattle.pure_equation_laws.proofs.EquatedLaws.{equated_is_proved}
use Rattle.pure_goal_laws.specs.Prefix.{Item, Parameter, Hypothesis, behind, below_parameters}
use Rattle.pure_goal_laws.specs.GoalStep.{AreMatched}
use Rattle.pure_goal_laws.proofs.PrefixLaws.{equal_behind}

-- the instance of an item of a prefix
abbrev pub item_instance : (typs : Typ → Typ) → (terms : Term → Term) → Item → Item
item_instance typs terms (Parameter T) = Parameter (typ_instance typs T)
item_instance typs terms (Hypothesis A) = Hypothesis (term_instance typs terms A)

instance-behind : (typs : Typ → Typ) (terms : Term → Term) (ps : List Item) (C : Term) → term_instance typs terms (behind ps C) ≡ behind (map (item_instance typs terms) ps) (term_instance typs terms C)
instance-behind typs terms [] C = refl
instance-behind typs terms (Parameter T ∷ ps) C = ap (all (typ_instance typs T)) (instance-behind typs terms ps C)
instance-behind typs terms (Hypothesis A ∷ ps) C = ap (imp (term_instance typs terms A)) (instance-behind typs terms ps C)

instance-below_parameters : (typs : Typ → Typ) (terms : Term → Term) (ps : List Item) (t : Term)
    → term_instance typs terms (below_parameters ps t) ≡ below_parameters (map (item_instance typs terms) ps) (term_instance typs terms t)
instance-below_parameters typs terms [] t = refl
instance-below_parameters typs terms (Parameter T ∷ ps) t = ap (Abs (typ_instance typs T)) (instance-below_parameters typs terms ps t)
instance-below_parameters typs terms (Hypothesis A ∷ ps) t = instance-below_parameters typs terms ps t

module _ (Q : Content) (q : IsContent Q) (above : IsBelow pure_content Q) (new : Theorem) (typs : Typ → Typ) (terms : Term → Term) (hyps : List Term) (given : Each (IsPairProved Q hyps new.rests) new.pairs) where
  exchanged_behind : (ps : List Item) (T : Typ) (t u : Term) → Proves Q hyps new.rests (eq T (term_instance typs terms (below_parameters ps t)) (term_instance typs terms (below_parameters ps u)))
      → Proves Q hyps new.rests (term_instance typs terms (behind ps t)) → Proves Q hyps new.rests (term_instance typs terms (behind ps u))
  exchanged_behind ps T t u p r =
      let items = map (item_instance typs terms) ps in
      let left = term_instance typs terms t in
      let right = term_instance typs terms u in
      let below : Proves Q hyps new.rests (eq T (below_parameters items left) (below_parameters items right)) = rw (instance-below_parameters typs terms ps t, instance-below_parameters typs terms ps u) at p in
      rw (instance-behind typs terms ps u) (equal_behind Q q above hyps new.rests items T left right below (rw (instance-behind typs terms ps t) at r))

  pub matched_behind : (ps : List Item) (t u : Term) → AreMatched Q new typs terms ps t u → Proves Q hyps new.rests (term_instance typs terms (behind ps t)) → Proves Q hyps new.rests (term_instance typs terms (behind ps u))
  matched_behind ps t u m r =
      let left = term_instance typs terms (below_parameters ps t) in
      let right = term_instance typs terms (below_parameters ps u) in
      exchanged_behind ps m.0 t u (equated_is_proved Q q above hyps new.rests new.pairs given m.0 left right m.1) r

  pub matched_back : (ps : List Item) (t u : Term) → AreMatched Q new typs terms ps t u → Proves Q hyps new.rests (term_instance typs terms (behind ps u)) → Proves Q hyps new.rests (term_instance typs terms (behind ps t))
  matched_back ps t u m r =
      let left = term_instance typs terms (below_parameters ps t) in
      let right = term_instance typs terms (below_parameters ps u) in
      exchanged_behind ps m.0 u t (symmetric_equality Q q above hyps new.rests m.0 left right (equated_is_proved Q q above hyps new.rests new.pairs given m.0 left right m.1)) r
