-- The pairs of a derivable theorem are replaced by others modulo which they are equated.
use Rattle.std.proofs.Common.{◌≡◌, List, [], ◌∷◌, ◌++◌, inl, inr, refl}
use Rattle.pure_text.specs.Lists.{IsIn, Each, EachTwo}
use Rattle.pure_text.proofs.ListLaws.{in-append_left, in-append_right}
use Rattle.pure_definitions.specs.Names.{Label}
use Rattle.pure_definitions.specs.Types.Typ.{prop}
use Rattle.pure_definitions.specs.Terms.Term.{Term}
use Rattle.pure_term_laws.proofs.TypingLaws.{typed-once}
use Rattle.pure_logic.specs.Connectives.{eq, chain}
use Rattle.pure_logic.specs.Content.{Content, IsContent, IsBelow, IsProposition}
use Rattle.pure_logic.specs.PureContent.{pure_content}
use Rattle.pure_logic.specs.Derivable.{Pair, Theorem, IsDerivable}
use Rattle.pure_logic.specs.Proves.{Proves, IsEquation}
use Rattle.pure_logic.proofs.PropositionLaws.{eq-proposition}
use Rattle.pure_logic.proofs.ProvesLaws.{assumed, weaker, chain_is_proved, end_of_chain_is_proved, derivable-proved, proved-derivable}
use Rattle.pure_equation_laws.specs.Equated.{AreEquated, IsPairEquated}
use Rattle.pure_equation_laws.specs.Laws.Proved.{IsPairProved, IsCertifiedPair}
use Rattle.pure_equation_laws.proofs.SidesLaws.{equated_are_typed}
use Rattle.pure_equation_laws.proofs.EquatedLaws.{equated_is_proved, equated_proposition_is_proved}

-- the equations of pairs with certified sides
record Equations (Q : Content) (pairs : List Pair) : Type 0 where
  equations : List Term
  are_equations : EachTwo IsEquation pairs equations
  propositions : Each (IsProposition Q) equations
  proved : (hyps : List Term) (rests : List Label) → ((A : Term) → IsIn A equations → IsIn A hyps) → Each (IsPairProved Q hyps rests) pairs

module _ (Q : Content) (above : IsBelow pure_content Q) where
  equations_of : (pairs : List Pair) → Each (IsCertifiedPair Q) pairs → Equations Q pairs
  equations_of [] h = record { equations = []; are_equations = tt; propositions = tt; proved = λ hyps rests among. tt }
  equations_of (p ∷ ps) h =
      let rest = equations_of ps h.1 in
      let T = h.0.0 in
      let left = h.0.1 in
      let right = h.0.2 in
      let proposition = eq-proposition Q above T p.left p.right left right in
      record {
        equations = eq T p.left p.right ∷ rest.equations;
        are_equations = ((T, left.typed, refl), rest.are_equations);
        propositions = (proposition, rest.propositions);
        proved = λ hyps rests among. ((T, assumed Q hyps rests (eq T p.left p.right) proposition (among (eq T p.left p.right) (inl refl))), rest.proved hyps rests (λ A m. among A (inr m)));
      }

module _ (Q : Content) (q : IsContent Q) (above : IsBelow pure_content Q) where
  -- The equation of a pair whose sides are equated is proved, whatever type it is written with.
  equation-proved : (others : List Pair) (hyps : List Term) (rests : List Label) → Each (IsPairProved Q hyps rests) others → (p : Pair) (e : Term) → IsPairEquated Q.declarations others p → IsEquation p e → Proves Q hyps rests e
  equation-proved others hyps rests given p e h is =
      let sides = equated_are_typed Q.declarations others [] h.0 p.left p.right h.1 in
      let once : is.0 ≡ h.0 = typed-once [] p.left is.0 h.0 is.1 sides.0.typed in
      let written : e ≡ eq h.0 p.left p.right = rw once at is.2 in
      rw written (equated_is_proved Q q above hyps rests others given h.0 p.left p.right h.1)

  equations-proved : (others : List Pair) (hyps : List Term) (rests : List Label) → Each (IsPairProved Q hyps rests) others → (pairs : List Pair) (es : List Term) → Each (IsPairEquated Q.declarations others) pairs → EachTwo IsEquation pairs es
      → Each (λ A. Proves Q hyps rests A) es
  equations-proved others hyps rests given [] [] h is = tt
  equations-proved others hyps rests given (p ∷ ps) (e ∷ es) h is = (equation-proved others hyps rests given p e h.0 is.0, equations-proved others hyps rests given ps es h.1 is.1)
  equations-proved others hyps rests given [] (e ∷ es) h is = absurd is
  equations-proved others hyps rests given (p ∷ ps) [] h is = absurd is

pub pairs_are_replaced : (Q : Content) → IsContent Q → IsBelow pure_content Q → (th : Theorem) (others : List Pair) → Each (IsCertifiedPair Q) others → Each (IsPairEquated Q.declarations others) th.pairs
    → IsDerivable Q th → IsDerivable Q (record th { pairs = others })
pairs_are_replaced Q q above th others certified equated h =
    let old = derivable-proved Q q above th h in
    let new = equations_of Q above others certified in
    let all = new.equations ++ th.hyps in
    let given = new.proved all th.rests (λ A m. in-append_left A new.equations th.hyps m) in
    let closed = chain_is_proved Q old.equations th.hyps th.rests th.prop old.propositions old.proves in
    let opened = weaker Q th.hyps all th.rests th.rests (chain old.equations th.prop) (λ A m. in-append_right A new.equations th.hyps m) (λ l m. m) closed in
    proved-derivable Q q above (record th { pairs = others }) (record {
      equations = new.equations;
      are_equations = new.are_equations;
      propositions = new.propositions;
      proves = end_of_chain_is_proved Q old.equations all th.rests th.prop opened (equations-proved Q q above others all th.rests given th.pairs old.equations equated old.are_equations);
    })

-- The equations of a theorem's pairs, among hypotheses, prove them.
pub own-proved : (Q : Content) (hyps : List Term) (rests : List Label) (pairs : List Pair) (es : List Term) → EachTwo IsEquation pairs es → Each (IsProposition Q) es → ((A : Term) → IsIn A es → IsIn A hyps) → Each (IsPairProved Q hyps rests) pairs
own-proved Q hyps rests [] [] are propositions among = tt
own-proved Q hyps rests (p ∷ ps) (e ∷ es) are propositions among =
    ((are.0.0, rw are.0.2 at (assumed Q hyps rests e propositions.0 (among e (inl refl)))), own-proved Q hyps rests ps es are.1 propositions.1 (λ A m. among A (inr m)))
own-proved Q hyps rests [] (e ∷ es) are propositions among = absurd are
own-proved Q hyps rests (p ∷ ps) [] are propositions among = absurd are

pub proposition_is_replaced : (Q : Content) → IsContent Q → IsBelow pure_content Q → (th : Theorem) (B : Term) → AreEquated Q.declarations th.pairs [] prop th.prop B
    → IsDerivable Q th → IsDerivable Q (record th { prop = B })
proposition_is_replaced Q q above th B e h =
    let old = derivable-proved Q q above th h in
    let all = old.equations ++ th.hyps in
    let given = own-proved Q all th.rests th.pairs old.equations old.are_equations old.propositions (λ A m. in-append_left A old.equations th.hyps m) in
    proved-derivable Q q above (record th { prop = B }) (record {
      equations = old.equations;
      are_equations = old.are_equations;
      propositions = old.propositions;
      proves = equated_proposition_is_proved Q q above all th.rests th.pairs given th.prop B e old.proves;
    })
