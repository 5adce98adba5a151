-- Faults of syntax exclude a tree, and one another.
use Rattle.std.proofs.Common.{◌<◌, List, [], ◌∷◌, ◌++◌, length, sym, ◌∙◌, ap, subst, append_assoc}
use Rattle.pure_grammar.specs.Theories.Lexeme.{Lexeme}
use Rattle.pure_grammar.specs.Theories.Outer.{IsTheory, BeginsTheory, GoesWrong, place_of}
use Rattle.pure_grammar.proofs.Places.{goes-on-behind, same-number}
use Rattle.pure_script.specs.Laws.{TheoryOrFault, OneFaultPlace}

pub theory_or_fault : TheoryOrFault
theory_or_fault source tokens theory at expected spells fault =
    fault.wrong.stops (fault.rest, theory, subst (λ z. IsTheory z theory) (fault.wrong.parts ∙ sym (append_assoc fault.before (fault.found ∷ []) fault.rest)) spells)

-- no fault stands behind another one
not-behind : (ls b c : List Lexeme) (x y : Lexeme) (r q : List Lexeme) → GoesWrong ls b x r → GoesWrong ls c y q → length b < length c → ⊥
not-behind ls b c x y r q first second l =
    let m = goes-on-behind b c x y r q (sym first.parts ∙ second.parts) l in
    let begins : BeginsTheory c = second.begins in
    first.stops (m.more ++ begins.0, begins.1, subst (λ z. IsTheory z begins.1) (ap (λ z. z ++ begins.0) m.is ∙ append_assoc b (x ∷ m.more) begins.0 ∙ sym (append_assoc b (x ∷ []) (m.more ++ begins.0))) begins.2)

pub one_fault_place : OneFaultPlace
one_fault_place source tokens first second one other f g =
    f.at_place
    ∙ ap (place_of tokens (length source)) (same-number (length f.before) (length g.before)
    (not-behind _ f.before g.before f.found g.found f.rest g.rest f.wrong g.wrong)
    (not-behind _ g.before f.before g.found f.found g.rest f.rest g.wrong f.wrong))
    ∙ sym g.at_place
