-- Faults of syntax exclude a tree, and one another.
use Rattle.std.proofs.Common.{◌≡◌, ℕ, ◌<◌, List, [], ◌∷◌, ◌++◌, length, sym, ◌∙◌, ap, subst, append_assoc}
use Rattle.pure_grammar.specs.declared.token.Token.{Token}
use Rattle.pure_grammar.specs.Theories.Outer.{place_of}
use Rattle.pure_grammar.specs.Terms.InnerLexeme.{InnerLexeme}
use Rattle.pure_grammar.specs.Terms.Inner.{IsTerm, IsType, BeginsTerm, BeginsType, InnerGoesWrong, HasInnerFault}
use Rattle.pure_grammar.proofs.Places.{goes-on-behind, same-number}
use Rattle.pure_read.specs.Laws.{TermOrFault, TypeOrFault, OneTermFault, OneTypeFault}

pub term_or_fault : TermOrFault
term_or_fault source tokens term at spells fault =
    fault.wrong.stops (fault.rest, term, subst (λ z. IsTerm z term) (fault.wrong.parts ∙ sym (append_assoc fault.before (fault.found ∷ []) fault.rest)) spells)

pub type_or_fault : TypeOrFault
type_or_fault source tokens typ at spells fault =
    fault.wrong.stops (fault.rest, typ, subst (λ z. IsType z typ) (fault.wrong.parts ∙ sym (append_assoc fault.before (fault.found ∷ []) fault.rest)) spells)

-- each front of what begins a text begins one
AreFrontsToo : (List InnerLexeme → Type 0) → Type 0
AreFrontsToo begins = (b more : List InnerLexeme) (x : InnerLexeme) → begins (b ++ x ∷ more) → begins (b ++ x ∷ [])

term-fronts : AreFrontsToo BeginsTerm
unfolding AreFrontsToo
term-fronts b more x (behind, term, is) =
    (more ++ behind, term, subst (λ z. IsTerm z term) (append_assoc b (x ∷ more) behind ∙ sym (append_assoc b (x ∷ []) (more ++ behind))) is)

type-fronts : AreFrontsToo BeginsType
unfolding AreFrontsToo
type-fronts b more x (behind, typ, is) =
    (more ++ behind, typ, subst (λ z. IsType z typ) (append_assoc b (x ∷ more) behind ∙ sym (append_assoc b (x ∷ []) (more ++ behind))) is)

-- no fault stands behind another one
not-behind : (begins : List InnerLexeme → Type 0) → AreFrontsToo begins → (ls b c : List InnerLexeme) (x y : InnerLexeme) (r q : List InnerLexeme)
    → InnerGoesWrong begins ls b x r → InnerGoesWrong begins ls c y q → length b < length c → ⊥
unfolding AreFrontsToo
not-behind begins fronts ls b c x y r q first second l =
    let m = goes-on-behind b c x y r q (sym first.parts ∙ second.parts) l in
    first.stops (fronts b m.more x (subst begins m.is second.goes))

one-place : (begins : List InnerLexeme → Type 0) → AreFrontsToo begins → (source : List ℕ) (tokens : List Token) (first second : ℕ)
    → HasInnerFault begins source tokens first → HasInnerFault begins source tokens second → first ≡ second
one-place begins fronts source tokens first second f g =
    f.at_place
    ∙ ap (place_of tokens (length source)) (same-number (length f.before) (length g.before)
    (not-behind begins fronts _ f.before g.before f.found g.found f.rest g.rest f.wrong g.wrong)
    (not-behind begins fronts _ g.before f.before g.found f.found g.rest f.rest g.wrong f.wrong))
    ∙ sym g.at_place

pub one_term_fault : OneTermFault
one_term_fault source tokens first second f g = one-place BeginsTerm term-fronts source tokens first second f g

pub one_type_fault : OneTypeFault
one_type_fault source tokens first second f g = one-place BeginsType type-fronts source tokens first second f g
