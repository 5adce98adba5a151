-- Behind the end of the tokens a whole term or a whole type is read.
use Rattle.std.proofs.Common.{◌≡◌, ℕ, List, [], ◌∷◌, refl, sym, ◌∙◌, ap}
use Rattle.std.specs.Prelude.{true, Some}
use Rattle.pure_grammar.specs.Terms.InnerLexeme.{InnerLexeme, Ends}
use Rattle.pure_grammar.specs.Terms.RawTree.{RawTypTree, RawTree}
use Rattle.pure_grammar.specs.Terms.RawTree as tree
use Rattle.pure_grammar.specs.Terms.InnerReader.{FirstPremise, NextPremise, Enclosed, Argument, Constraint, BinderType, OnlyBinderType, FirstDomain, NextDomain, EnclosedType, MoreArguments, Frame, Joined, InTerm, Range, InType, Place, AtTerm, AtCon, AfterAtom, AtImplies, AtBinder, AfterFirstVar, AfterBinder, AtBinderVar, AfterBinderVar, AtType, AfterVariable, AtSort, AtFirstClass, AfterClass, AtNextClass, AfterPost, AtConstructor, AtArrow, State, In, DoneTerm, DoneType, reduced, term_ends, con_ends, ranged, whole_type_ends, type_part_ends, turn, next, is_done, run}
use Rattle.pure_grammar.proofs.InnerAround.{OfTerm, OfType, Reading, ReadTerm, ReadType, reading_state}
use Rattle.pure_grammar.proofs.InnerReadLemmas.{none-some, some-same, run-reading}
use Rattle.pure_grammar.proofs.InnerFaultLemmas.{begun_term, begun_type, not-both, no-term, no-type}

done-same : {s t : State} → is_done s ≡ true → Some s ≡ Some t → is_done t ≡ true
done-same done e = sym (ap is_done (some-same e)) ∙ done

term_ends-done : (k : List Frame) (at : ℕ) (t : RawTree) (s : State) → term_ends at t k Ends ≡ Some s → is_done s ≡ true
term_ends-done [] at t s e = done-same refl e
term_ends-done (Joined j ∷ k) at t s e = absurd (none-some e)
term_ends-done (InTerm (FirstPremise a) ∷ k) at t s e = absurd (none-some e)
term_ends-done (InTerm NextPremise ∷ k) at t s e = absurd (none-some e)
term_ends-done (InTerm (Enclosed a) ∷ k) at t s e = absurd (none-some e)
term_ends-done (InTerm (Argument a f) ∷ k) at t s e = absurd (none-some e)
term_ends-done (Range a d ∷ k) at t s e = absurd (none-some e)
term_ends-done (InType o ∷ k) at t s e = absurd (none-some e)

con_ends-done : (at : ℕ) (t : RawTree) (k : List Frame) (s : State) → con_ends at t k Ends ≡ Some s → is_done s ≡ true
con_ends-done at t k s e = term_ends-done (reduced 1 at t k).stack (reduced 1 at t k).at (reduced 1 at t k).term s e

whole_type_ends-done : (k : List Frame) (at : ℕ) (t : RawTypTree) (s : State) → whole_type_ends at t k Ends ≡ Some s → is_done s ≡ true
whole_type_ends-done [] at t s e = done-same refl e
whole_type_ends-done (Joined j ∷ k) at t s e = absurd (none-some e)
whole_type_ends-done (InTerm o ∷ k) at t s e = absurd (none-some e)
whole_type_ends-done (Range a d ∷ k) at t s e = absurd (none-some e)
whole_type_ends-done (InType (Constraint a f) ∷ k) at t s e = con_ends-done a (tree.Typed a f t) k s e
whole_type_ends-done (InType (BinderType q a b x) ∷ k) at t s e = absurd (none-some e)
whole_type_ends-done (InType (OnlyBinderType q a b x) ∷ k) at t s e = absurd (none-some e)
whole_type_ends-done (InType (FirstDomain a) ∷ k) at t s e = absurd (none-some e)
whole_type_ends-done (InType NextDomain ∷ k) at t s e = absurd (none-some e)
whole_type_ends-done (InType (EnclosedType a) ∷ k) at t s e = absurd (none-some e)
whole_type_ends-done (InType (MoreArguments a ts) ∷ k) at t s e = absurd (none-some e)

type_ends-done : (at : ℕ) (t : RawTypTree) (k : List Frame) (s : State) → type_part_ends (ranged at t k) Ends ≡ Some s → is_done s ≡ true
type_ends-done at t k s e = whole_type_ends-done (ranged at t k).stack (ranged at t k).at (ranged at t k).typ s e

turn-done : (place : Place) (k : List Frame) (s : State) → turn place k Ends ≡ Some s → is_done s ≡ true
turn-done AtTerm k s e = absurd (none-some e)
turn-done AtCon k s e = absurd (none-some e)
turn-done (AfterAtom at f) k s e = con_ends-done at f k s e
turn-done AtImplies k s e = absurd (none-some e)
turn-done (AtBinder q at) k s e = absurd (none-some e)
turn-done (AfterFirstVar q at b x) k s e = absurd (none-some e)
turn-done (AfterBinder q) k s e = absurd (none-some e)
turn-done (AtBinderVar q at b) k s e = absurd (none-some e)
turn-done (AfterBinderVar q at b x) k s e = absurd (none-some e)
turn-done AtType k s e = absurd (none-some e)
turn-done (AfterVariable v) k s e = type_ends-done v.at (tree.Var v.at v.kind v.text []) k s e
turn-done (AtSort v) k s e = absurd (none-some e)
turn-done (AtFirstClass v) k s e = absurd (none-some e)
turn-done (AfterClass v cs) k s e = absurd (none-some e)
turn-done (AtNextClass v cs) k s e = absurd (none-some e)
turn-done (AfterPost at t) k s e = type_ends-done at t k s e
turn-done (AtConstructor at ts) k s e = absurd (none-some e)
turn-done AtArrow k s e = absurd (none-some e)

-- at the end all is read
pub next-done : (s t : State) → next s Ends ≡ Some t → is_done t ≡ true
next-done (In place k) t e = turn-done place k t e
next-done (DoneTerm u) t e = absurd (none-some e)
next-done (DoneType u) t e = absurd (none-some e)

-- what begins as a term is no type, nor the other way round
no-type-read : (p : Reading OfTerm) (t : RawTypTree) → reading_state p ≡ DoneType t → ⊥
no-type-read (ReadType x is) t e = not-both is
no-type-read p t e = no-type e refl

no-term-read : (p : Reading OfType) (t : RawTree) → reading_state p ≡ DoneTerm t → ⊥
no-term-read (ReadTerm x is) t e = not-both (sym is)
no-term-read p t e = no-term e refl

pub term-is-no-type : (ls : List InnerLexeme) (t : RawTypTree) → run (In AtTerm []) ls ≡ Some (DoneType t) → ⊥
term-is-no-type ls t e =
    let reached = run-reading ls begun_term (DoneType t) e in
    no-type-read reached.to t reached.is

pub type-is-no-term : (ls : List InnerLexeme) (t : RawTree) → run (In AtType []) ls ≡ Some (DoneTerm t) → ⊥
type-is-no-term ls t e =
    let reached = run-reading ls begun_type (DoneTerm t) e in
    no-term-read reached.to t reached.is
