-- A rule with its front stripped.
use Rattle.std.proofs.Common.{List, [], ◌∷◌, inl, inr, refl}
use Rattle.pure_definitions.specs.Names.{Label}
use Rattle.pure_definitions.specs.Types.Typ.{prop}
use Rattle.pure_definitions.specs.Terms.Term.{Term, Var, Bound}
use Rattle.pure_definitions.specs.Terms.Bounds.{subst_bound}
use Rattle.pure_logic.specs.Connectives.{all, imp, chain}
use Rattle.pure_logic.specs.Content.{Content, IsContent, IsBelow}
use Rattle.pure_logic.specs.PureContent.{pure_content}
use Rattle.pure_logic.specs.Proves.{Proves}
use Rattle.pure_logic.proofs.ConnectiveLaws.{certified_of}
use Rattle.pure_logic.proofs.PropositionLaws.{premise-proposition}
use Rattle.pure_logic.proofs.ProvesLaws.{assumed, weaker, implication_is_proved, conclusion_is_proved, instance_of_body_is_proved, proved_is_proposition}
use Rattle.pure_goal_laws.specs.Lifting.{IsStripped, bare, quantified, supposed}
use Rattle.pure_goal_laws.specs.Examples.Definitions.{any_a, any_b, StrippedExample}

pub stripped_rule : (Q : Content) → IsContent Q → IsBelow pure_content Q → (hyps : List Term) (rests : List Label) (A : Term) (As : List Term) (B : Term) → IsStripped A As B
    → Proves Q hyps rests A → Proves Q hyps rests (chain As B)
stripped_rule Q q above hyps rests A As B (bare C) p = p
stripped_rule Q q above hyps rests A As B (quantified T D x i Ds C h) p =
    let typ = (proved_is_proposition Q q above hyps rests (all T D) p).certified.parts.1.0 in
    stripped_rule Q q above hyps rests (subst_bound D (Var x i T)) Ds C h (instance_of_body_is_proved Q hyps rests T D (Var x i T) (certified_of Q (Var x i T) T typ refl) p)
stripped_rule Q q above hyps rests A As B (supposed P D Ds C h) p =
    let premise = premise-proposition Q above P D (proved_is_proposition Q q above hyps rests (imp P D) p) in
    let more = P ∷ hyps in
    let further = weaker Q hyps more rests rests (imp P D) (λ E m. inr m) (λ l m. m) p in
    implication_is_proved Q hyps rests P (chain Ds C) premise
    (stripped_rule Q q above more rests D Ds C h (conclusion_is_proved Q more rests P D further (assumed Q more rests P premise (inl refl))))

pub stripped_example : StrippedExample
stripped_example =
    quantified prop (imp (Bound 0) (all prop (imp (Bound 0) (Bound 1)))) 10 1 (any_a ∷ any_b ∷ []) any_a
    (supposed any_a (all prop (imp (Bound 0) any_a)) (any_b ∷ []) any_a (quantified prop (imp (Bound 0) any_a) 11 1 (any_b ∷ []) any_a (supposed any_b any_a [] any_a (bare any_a))))
