-- Theorems of quantifications over any function, and of equations that are abstracted.
use Rattle.std.proofs.Common.{◌≡◌, ◌++◌}
use Rattle.pure_definitions.specs.Types.Typ.{Typ, arrow}
use Rattle.pure_definitions.specs.Terms.Term.{Term, Const, Free, Var, Bound, Abs, App}
use Rattle.pure_definitions.specs.Terms.Bounds.{abstract_over, bind_under}
use Rattle.pure_definitions.specs.Terms.Conditions.{IsVariable}
use Rattle.pure_logic.specs.Connectives.{all_of, eq}
use Rattle.pure_logic.specs.Content.{Content, IsContent, IsBelow, IsCertifiedOf}
use Rattle.pure_logic.specs.PureContent.{pure_content}
use Rattle.pure_logic.specs.Concludes.{IsFresh}
use Rattle.pure_logic.specs.Derivable.{Theorem, IsDerivable}
use Rattle.pure_logic.specs.Laws.Inferences.{IsFreshInPairs}
use Rattle.pure_logic.specs.Laws.Quantification.{beta_applied}
use Rattle.pure_logic.proofs.InferenceLaws.{inferred_from_one, all_intro_is_derivable}
use Rattle.pure_logic.proofs.EqualityLaws.{equal_bodies, reduced_instance_is_proved}

pub reduced_instance_is_derivable : (Q : Content) → IsContent Q → IsBelow pure_content Q → (T : Typ) (f t : Term) (th : Theorem) → IsCertifiedOf Q t T
    → IsDerivable Q (record th { prop = all_of T f }) → IsDerivable Q (record th { prop = beta_applied f t })
reduced_instance_is_derivable Q q above T f t th c h =
    inferred_from_one Q q above (record th { prop = all_of T f }) th.hyps (beta_applied f t) (λ further p. reduced_instance_is_proved Q q above (further ++ th.hyps) th.rests T f t c p) h

module _ (Q : Content) (q : IsContent Q) (above : IsBelow pure_content Q) where
  bodies : (T V U : Typ) (b c : Term) (th : Theorem) → V ≡ T → IsDerivable Q (record th { prop = all_of T (Abs V (eq U b c)) }) → IsDerivable Q (record th { prop = eq (arrow T U) (Abs V b) (Abs V c) })
  bodies T V U b c th same h =
      inferred_from_one Q q above (record th { prop = all_of T (Abs V (eq U b c)) }) th.hyps (eq (arrow T U) (Abs V b) (Abs V c))
      (λ further p. rw same (equal_bodies Q q above (further ++ th.hyps) th.rests T U b c (rw same at p))) h

  pub abstraction_is_derivable : (x : Term) (T U : Typ) (t u : Term) (th : Theorem) → IsVariable x → IsCertifiedOf Q x T → IsFresh x th.hyps → IsFreshInPairs x th.pairs
      → IsDerivable Q (record th { prop = eq U t u }) → IsDerivable Q (record th { prop = eq (arrow T U) (abstract_over t x) (abstract_over u x) })
  abstraction_is_derivable (Free y V) T U t u th is c fresh apart h =
      bodies T V U (bind_under 0 (Free y V) t) (bind_under 0 (Free y V) u) th c.typed (all_intro_is_derivable Q q above (Free y V) T (eq U t u) th is c fresh apart h)
  abstraction_is_derivable (Var y i V) T U t u th is c fresh apart h =
      bodies T V U (bind_under 0 (Var y i V) t) (bind_under 0 (Var y i V) u) th c.typed (all_intro_is_derivable Q q above (Var y i V) T (eq U t u) th is c fresh apart h)
  abstraction_is_derivable (Const y V) T U t u th is c fresh apart h = absurd is
  abstraction_is_derivable (Bound n) T U t u th is c fresh apart h = absurd is
  abstraction_is_derivable (Abs V b) T U t u th is c fresh apart h = absurd is
  abstraction_is_derivable (App f a) T U t u th is c fresh apart h = absurd is
