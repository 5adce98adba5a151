-- Sides that stay as they are, by the indexes of their schematic variables.
use Rattle.std.proofs.Common.{◌≡◌, ℕ, ◌≤◌, List, [], ◌++◌, refl, ap, sym, subst, ◌∙◌, arith}
use Rattle.std.proofs.lemmas.List.{append-nil}
use Rattle.pure_definitions.specs.Types.Typ.{Typ, TFree, TVar, Con, Typs, none, also}
use Rattle.pure_definitions.specs.Terms.Term.{Term, Const, Free, Var, Bound, Abs, App}
use Rattle.pure_definitions.specs.Terms.Subst.{TypBind, retyped_variable}
use Rattle.pure_definitions.specs.Terms.Measures.{typ_index_above, typs_index_above, term_index_above}
use Rattle.pure_definitions.proofs.MeasureLemmas.{term_stays}
use Rattle.pure_tunify.specs.Settings.{composed}
use Rattle.pure_tunify.proofs.SettingLaws.{composed-fixed}
use Rattle.pure_unify_definitions.specs.Fronts.{variables}
use Rattle.pure_unify_definitions.specs.Node as node
use Rattle.pure_unify_definitions.specs.Node.{Single, with_setting}
use Rattle.pure_unify_steps.specs.declared.node.Setting.{Setting}
use Rattle.pure_unify_steps.specs.declared.node.Setting.TheVariants.{OfTyps}
use Rattle.pure_unify_steps.specs.Held.{IsSetting}
use Rattle.pure_unify_steps.specs.Old.{HasNoFresh, HaveNoFresh}

-- One without schematic variables stays under a setting of type variables.
pub ground_stays : (map : List TypBind) (t : Term) → term_index_above t ≡ 0 → (setting : Setting) → setting ≡ OfTyps map → (s : node.Setting) → IsSetting setting s → with_setting s t ≡ t
ground_stays map t lacks setting e s k = by s (subst (λ (x : Setting). IsSetting x s) e k)
  where
    by : (s : node.Setting) → IsSetting (OfTyps map) s → with_setting s t ≡ t
    by (node.Typs sets) w = term_stays (composed sets) (retyped_variable (composed sets)) (composed-fixed sets) (λ x T. refl) t lacks
    by (Single b) w = absurd w

no_variables : (t : Term) → term_index_above t ≡ 0 → variables t ≡ []
no_variables (Const c T) e = refl
no_variables (Free x T) e = refl
no_variables (Var x i T) e = absurd (omega arith)
no_variables (Bound n) e = refl
no_variables (Abs T b) e = no_variables b (omega arith)
no_variables (App f a) e = (λ l. no_variables f (omega arith) l ++ no_variables a (omega arith) l)

-- It has none to gather.
pub none_gathered : (list : List Term) (t : Term) → term_index_above t ≡ 0 → list ≡ list ++ variables t
none_gathered list t e = sym (append-nil list) ∙ ap (λ (vs : List Term). list ++ vs) (sym (no_variables t e))

-- A type whose schematic variables all have lower indexes has no fresh ones.
mutual
  pub none_fresh_below : (index from : ℕ) (T : Typ) → typ_index_above T ≤ index → HasNoFresh index from T
  none_fresh_below index from (TFree x s) low = tt
  none_fresh_below index from (TVar x i s) low = λ e h. absurd (omega arith)
  none_fresh_below index from (Con k ts) low = all_none_fresh_below index from ts low

  all_none_fresh_below : (index from : ℕ) (ts : Typs) → typs_index_above ts ≤ index → HaveNoFresh index from ts
  all_none_fresh_below index from none low = tt
  all_none_fresh_below index from (also t ts) low = (none_fresh_below index from t (omega arith), all_none_fresh_below index from ts (omega arith))
