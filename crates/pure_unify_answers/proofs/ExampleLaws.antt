-- Answers of the search, step by step.
use Rattle.std.proofs.Common.{◌≡◌, ℕ, ◌<◌, ◌≤◌, List, [], ◌∷◌, true, false, inl, inr, refl, sym, subst, arith}
use Rattle.pure_definitions.specs.Types.Typ.{Typ, TVar, none, prop}
use Rattle.pure_definitions.specs.Types.Occurs.{OccursInTyp}
use Rattle.pure_definitions.specs.Declarations.Certified.{IsCertifiedTyp}
use Rattle.pure_logic.specs.PureContent.{pure_content}
use Rattle.pure_logic.proofs.ConnectiveLaws.{pure-below_itself, prop-certified}
use Rattle.pure_definitions.specs.Terms.Term.{Term, Const, Free, Var}
use Rattle.pure_definitions.specs.Reduction.Eta.{EtaReduces}
use Rattle.pure_term_laws.proofs.EtaNormalLaws.{one_eta_normal_form}
use Rattle.pure_tunify.proofs.NodeLaws.{variable_constructor}
use Rattle.pure_unify_definitions.specs.Fronts.{is_schematic, pair}
use Rattle.pure_unify_definitions.specs.Node.{bind}
use Rattle.pure_unify_laws.specs.Condition.{AreUnifiable}
use Rattle.pure_unify_answers.proofs.SolveLaws.{unifier_solves}
use Rattle.pure_unify_answers.proofs.PureLaws.{pure_is_unify_content}
use Rattle.pure_eta.proofs.EtaFormLaws.{eta_form-is}
use Rattle.pure_unify_definitions.specs.LongSides.{Long, ComesTo, is_long, no_more, both_long}
use Rattle.pure_unify_definitions.specs.Treatment.{IsBare, left_bare, right_bare, IsBareSide, absent, clash}
use Rattle.pure_unify_definitions.specs.Simplification.{puts, fails, simple, step, failed, visited}
use Rattle.pure_unify_definitions.specs.Search.{over, node_fails, success}
use Rattle.pure_unify_answers.specs.Examples.{any_proposition, fixed_proposition, SetExample, SolvesExample, ClashExample}

-- A variable of type prop is its own long form.
any_long : ComesTo any_proposition (Long any_proposition)
any_long = is_long
    (record { before = []; last = any_proposition; sequence = refl; undecided = tt; in_time = omega arith; decided = (record { size = omega arith; depth = omega arith }, tt, refl) })
    (record { typ = prop; typed = refl; long_typed = refl; reduces = EtaReduces.done; normal = tt; saturated = (prop, refl, refl); parts = tt })
    (record { size = omega arith; depth = omega arith })

fixed_long : (x : ℕ) → ComesTo (Free x prop) (Long (Free x prop))
fixed_long x = is_long
    (record { before = []; last = Free x prop; sequence = refl; undecided = tt; in_time = omega arith; decided = (record { size = omega arith; depth = omega arith }, tt, refl) })
    (record { typ = prop; typed = refl; long_typed = refl; reduces = EtaReduces.done; normal = tt; saturated = (prop, refl, refl); parts = tt })
    (record { size = omega arith; depth = omega arith })

variable_fixed : (x y i : ℕ) (T U : Typ) → Var x i T ≡ Free y U → ⊥
variable_fixed x y i T U e = cc

pub set_example : SetExample
set_example = success (omega arith)
    (visited (both_long any_long (fixed_long 0) no_more)
    (step (puts {front = []} {rest = []} (record {
      stands = refl;
      before = tt;
      treated = absent {x = 0} {i = 0} {T = prop} {other = fixed_proposition} {u = fixed_proposition} (record { differ = variable_fixed 0 0 0 prop prop; typ = prop; left = refl; right = refl })
          (left_bare (record { variable = refl; form = eta_form-is any_proposition }) refl) (variable_fixed 0 0 0 prop prop) (eta_form-is fixed_proposition);
    }) no_more) (simple tt)))
    tt (record { typs = tt; terms = (record { size = omega arith; depth = omega arith }, tt) })

pub no_typs : (x i : ℕ) (s : List ℕ) → ¬ OccursInTyp (TVar x i s) prop
no_typs x i s (inl e) = variable_constructor x i 1 s none e
no_typs x i s (inr o) = o

own_index : (x i : ℕ) (T : Typ) → Var x i T ≡ any_proposition → i ≤ 0
own_index x i T e = let same : i ≡ 0 = cc in omega arith

within_condition : AreUnifiable pure_content 0 (pair any_proposition fixed_proposition ∷ [])
within_condition = record {
  certified = (((prop, record { parts = certified; typed = refl }), (prop, record { parts = certified; typed = refl })), tt);
  indexes = ((record { typs = λ x i s o. absurd (no_typs x i s o); terms = own_index }, record { typs = λ x i s o. absurd (no_typs x i s o); terms = λ x i T o. absurd (variable_fixed x 0 i T prop o) }), tt);
}
  where
    certified : IsCertifiedTyp pure_content.declarations prop
    certified = prop-certified pure_content pure-below_itself

pub solves_example : SolvesExample
solves_example = (
  within_condition,
  unifier_solves pure_content pure_is_unify_content 0 (pair any_proposition fixed_proposition ∷ []) within_condition (record { typs = []; terms = bind 0 0 prop fixed_proposition ∷ []; flexflex = [] }) set_example,
)

names_apart : (x y : ℕ) (T U : Typ) → Free x T ≡ Free y U → x ≡ y
names_apart x y T U e = cc

different : (x y : ℕ) → x < y → x ≡ y → ⊥
different x y h e = absurd (omega arith)

fixed_constant : (x c : ℕ) (T U : Typ) → Free x T ≡ Const c U → ⊥
fixed_constant x c T U e = cc

fixed_apart : Free 0 prop ≡ Free 1 prop → ⊥
fixed_apart e = different 0 1 (omega arith) (names_apart 0 1 prop prop e)

-- A fixed variable is no bare schematic one.
not_bare : (x : ℕ) (w : Term) → ¬ IsBare (Free x prop) w
not_bare x w b = absurd (cc_of w (one_eta_normal_form (Free x prop) (Free x prop) w (eta_form-is (Free x prop)) b.form) b.variable)
  where
    false_true : false ≡ true → ⊥
    false_true e = cc

    cc_of : (w : Term) → Free x prop ≡ w → is_schematic w ≡ true → ⊥
    cc_of w e is = false_true (subst (λ (t : Term). is_schematic t ≡ true) (sym e) is)

no_side : (v other : Term) → IsBareSide (Free 0 prop) (Free 1 prop) v other → ⊥
no_side v other (left_bare b e) = not_bare 0 v b
no_side v other (right_bare n b e) = not_bare 1 v b

pub clash_example : ClashExample
clash_example = node_fails (omega arith)
    (visited (both_long (fixed_long 0) (fixed_long 1) no_more)
    (failed (fails {front = []} {rest = []} (record {
      stands = refl;
      before = tt;
      treated = clash
          (record { past = record { typed = record { differ = fixed_apart; typ = prop; left = refl; right = refl }; occurring = λ v other s. absurd (no_side v other s) }; neither = refl })
          (record { differ = fixed_apart; no_constants = λ c T U e f. fixed_constant 0 c prop T e });
    }))))
    over
