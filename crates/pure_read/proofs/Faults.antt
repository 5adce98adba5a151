-- What the reader's stops and ends say of a term and of a type.
use Rattle.std.proofs.Common.{◌≡◌, ℕ, List, [], subst}
use Rattle.std.specs.Prelude.{Some}
use Rattle.pure_grammar.specs.declared.token.Token.{Token}
use Rattle.pure_grammar.specs.Terms.RawTree.{RawTree, RawTypTree}
use Rattle.pure_grammar.specs.Terms.InnerLexeme.{inners}
use Rattle.pure_grammar.specs.Terms.Inner.{SpellsTerm, SpellsType}
use Rattle.pure_grammar.specs.Terms.InnerReader.{AtTerm, AtType, Frame, State, In, DoneTerm, DoneType, run}
use Rattle.pure_grammar.proofs.InnerFaultLemmas.{run-is-term, run-is-type}
use Rattle.pure_grammar.proofs.InnerEndLemmas.{term-is-no-type, type-is-no-term}
use Rattle.pure_read.specs.Stuck.{IsStuckAs, IsTermFaultOf, IsTypeFaultOf}
use Rattle.pure_read.specs.declared.read.RawFault.{RawFault}
use Rattle.pure_read.specs.declared.read.RawFault.TheVariants.{TooLong, Syntax, Memory}
use Rattle.pure_read.proofs.Reading.{term-fault, type-fault}

stuck-term-fault : (source : List ℕ) (ts : List Token) (fault : RawFault) → IsStuckAs (In AtTerm []) source ts fault → IsTermFaultOf source ts fault
stuck-term-fault source ts TooLong stuck = absurd stuck
stuck-term-fault source ts (Syntax at) stuck = term-fault source ts at stuck
stuck-term-fault source ts Memory stuck = tt

stuck-type-fault : (source : List ℕ) (ts : List Token) (fault : RawFault) → IsStuckAs (In AtType []) source ts fault → IsTypeFaultOf source ts fault
stuck-type-fault source ts TooLong stuck = absurd stuck
stuck-type-fault source ts (Syntax at) stuck = type-fault source ts at stuck
stuck-type-fault source ts Memory stuck = tt

-- from the empty stack
pub fault-of-term : (source : List ℕ) (ts : List Token) (k : List Frame) (fault : RawFault) → k ≡ [] → IsStuckAs (In AtTerm k) source ts fault → IsTermFaultOf source ts fault
fault-of-term source ts k fault e stuck = stuck-term-fault source ts fault (subst (λ z. IsStuckAs (In AtTerm z) source ts fault) e stuck)

pub fault-of-type : (source : List ℕ) (ts : List Token) (k : List Frame) (fault : RawFault) → k ≡ [] → IsStuckAs (In AtType k) source ts fault → IsTypeFaultOf source ts fault
fault-of-type source ts k fault e stuck = stuck-type-fault source ts fault (subst (λ z. IsStuckAs (In AtType z) source ts fault) e stuck)

pub spells-term : (source : List ℕ) (ts : List Token) (k : List Frame) (t : RawTree) (s : State) → k ≡ [] → s ≡ DoneTerm t → run (In AtTerm k) (inners source ts) ≡ Some s → SpellsTerm source ts t
spells-term source ts k t s e is reads =
    run-is-term (inners source ts) t (subst (λ z. run (In AtTerm z) (inners source ts) ≡ Some (DoneTerm t)) e (subst (λ z. run (In AtTerm k) (inners source ts) ≡ Some z) is reads))

pub spells-type : (source : List ℕ) (ts : List Token) (k : List Frame) (t : RawTypTree) (s : State) → k ≡ [] → s ≡ DoneType t → run (In AtType k) (inners source ts) ≡ Some s → SpellsType source ts t
spells-type source ts k t s e is reads =
    run-is-type (inners source ts) t (subst (λ z. run (In AtType z) (inners source ts) ≡ Some (DoneType t)) e (subst (λ z. run (In AtType k) (inners source ts) ≡ Some z) is reads))

-- ---- a text that begins as a term ends as one, and so does a type
pub no-type-of-term : (source : List ℕ) (ts : List Token) (k : List Frame) (t : RawTypTree) (s : State) → k ≡ [] → s ≡ DoneType t → run (In AtTerm k) (inners source ts) ≡ Some s → ⊥
no-type-of-term source ts k t s e is reads =
    term-is-no-type (inners source ts) t (subst (λ z. run (In AtTerm z) (inners source ts) ≡ Some (DoneType t)) e (subst (λ z. run (In AtTerm k) (inners source ts) ≡ Some z) is reads))

pub no-term-of-type : (source : List ℕ) (ts : List Token) (k : List Frame) (t : RawTree) (s : State) → k ≡ [] → s ≡ DoneTerm t → run (In AtType k) (inners source ts) ≡ Some s → ⊥
no-term-of-type source ts k t s e is reads =
    type-is-no-term (inners source ts) t (subst (λ z. run (In AtType z) (inners source ts) ≡ Some (DoneTerm t)) e (subst (λ z. run (In AtType k) (inners source ts) ≡ Some z) is reads))
