-- What readers answer, as steps of a command.
use Rattle.std.proofs.Common.{◌≡◌, ℕ, List, refl, sym, subst, ◌↔◌}
use Rattle.std.specs.Prelude.{Result, Ok, Err}
use Rattle.pure_grammar.specs.declared.token.Token.{Token}
use Rattle.pure_grammar.specs.Theories.TheoryText.{Span}
use Rattle.pure_grammar.specs.Terms.RawTree.{RawTypTree, RawTree}
use Rattle.pure_grammar.specs.Terms.Inner.{SpellsTerm, SpellsType, HasTermFault, HasTypeFault}
use Rattle.pure_read.specs.declared.read.RawFault.{RawFault}
use Rattle.pure_read.specs.declared.read.RawFault.TheVariants as fault
use Rattle.pure_read.specs.Stuck.{IsTooLong, IsTermFaultOf, IsTypeFaultOf}
use Rattle.pure_statements.specs.declared.reason.Failed.{Failed}
use Rattle.pure_statements.specs.Chain.{goes_on, holds, passes, Answers}
use Rattle.pure_statements.specs.Quoted.{AreTokensOf, IsReadTerm, IsReadTyp, failed_reading}

module _ (source : List ℕ) (span : Span) (us ts : List Token) (same : us ≡ ts) (are : AreTokensOf source span (Ok ts)) where
  few : (IsTooLong us → ⊥) → IsTooLong ts → ⊥
  few not long = not (subst IsTooLong (sym same) long)

  pub term-read : (r : Result RawTree RawFault) (raw : RawTree) → r ≡ Ok raw → ((r ≡ Err fault.TooLong) ↔ IsTooLong us) → SpellsTerm source us raw → IsReadTerm source span (Ok raw)
  term-read r raw is exactly h = goes_on ts are (passes (few (λ long. let is_long = exactly.1 long in absurd (cc))) (subst (λ (vs : List Token). SpellsTerm source vs raw) same h))

  pub term-refused : (r : Result RawTree RawFault) (f : RawFault) (g : Failed) → r ≡ Err f → ((r ≡ Err fault.TooLong) ↔ IsTooLong us) → IsTermFaultOf source us f → g ≡ failed_reading source span f → Answers (IsReadTerm source span) (Err g)
  term-refused r fault.TooLong g is exactly h e = subst (λ (k : Failed). Answers (IsReadTerm source span) (Err k)) (sym e) (goes_on ts are (holds (subst IsTooLong same h) refl))
  term-refused r (fault.Syntax place) g is exactly h e =
      subst (λ (k : Failed). Answers (IsReadTerm source span) (Err k)) (sym e)
      (goes_on ts are (passes (few (λ long. let is_long = exactly.1 long in absurd (cc))) (place, subst (λ (vs : List Token). HasTermFault source vs place) same h, refl)))
  term-refused r fault.Memory g is exactly h e = subst (λ (k : Failed). Answers (IsReadTerm source span) (Err k)) (sym e) tt

  pub typ-read : (r : Result RawTypTree RawFault) (raw : RawTypTree) → r ≡ Ok raw → ((r ≡ Err fault.TooLong) ↔ IsTooLong us) → SpellsType source us raw → IsReadTyp source span (Ok raw)
  typ-read r raw is exactly h = goes_on ts are (passes (few (λ long. let is_long = exactly.1 long in absurd (cc))) (subst (λ (vs : List Token). SpellsType source vs raw) same h))

  pub typ-refused : (r : Result RawTypTree RawFault) (f : RawFault) (g : Failed) → r ≡ Err f → ((r ≡ Err fault.TooLong) ↔ IsTooLong us) → IsTypeFaultOf source us f → g ≡ failed_reading source span f → Answers (IsReadTyp source span) (Err g)
  typ-refused r fault.TooLong g is exactly h e = subst (λ (k : Failed). Answers (IsReadTyp source span) (Err k)) (sym e) (goes_on ts are (holds (subst IsTooLong same h) refl))
  typ-refused r (fault.Syntax place) g is exactly h e =
      subst (λ (k : Failed). Answers (IsReadTyp source span) (Err k)) (sym e)
      (goes_on ts are (passes (few (λ long. let is_long = exactly.1 long in absurd (cc))) (place, subst (λ (vs : List Token). HasTypeFault source vs place) same h, refl)))
  typ-refused r fault.Memory g is exactly h e = subst (λ (k : Failed). Answers (IsReadTyp source span) (Err k)) (sym e) tt
