-- Each text is read, or has a first fault.
use Rattle.std.proofs.Common.{◌≡◌, ◌⊎◌, ◌<◌, ◌≤◌, ℕ, zero, suc, ◌+◌, List, [], length, get_or, true, refl, inl, inr, arith}
use Rattle.std.specs.Prelude.{Option, Some, None}
use Rattle.pure_grammar.specs.declared.token.Token.{Token}
use Rattle.pure_grammar.specs.declared.token.TokenKind.TheVariants as kind
use Rattle.pure_grammar.specs.Terms.RawTree.{RawTypTree, RawTree}
use Rattle.pure_grammar.specs.Terms.Inner.{SpellsTerm, SpellsType, HasTermFault, HasTypeFault}
use Rattle.pure_grammar.specs.Terms.InnerLexeme.{Ends, inner, inners}
use Rattle.pure_grammar.specs.Terms.InnerReader.{AtTerm, AtType, State, In, DoneTerm, DoneType, next, is_done, run}
use Rattle.pure_grammar.proofs.InnerEndLemmas.{next-done}
use Rattle.pure_read.specs.Stuck.{IsStuck}
use Rattle.pure_read.proofs.Reading.{lexed, reads-more, reads-end, stuck-token, stuck-end, term-fault, type-fault}
use Rattle.pure_read.proofs.Faults.{spells-term, spells-type, no-type-of-term, no-term-of-type}

-- any token
default : Token
default = record { kind = kind.End; from = 0; to = 0 }

module _ (start : State) (source : List ℕ) (ts : List Token) where
  -- The reader reads all, or stops at a place.
  abbrev Ended : Type 0
  Ended = ((s : State) × (run start (inners source ts) ≡ Some s) × (is_done s ≡ true)) ⊎ ((at : ℕ) × IsStuck start source ts at)

  at-end : (i : ℕ) (s : State) → length ts ≤ i → run start (lexed source i ts) ≡ Some s → (o : Option State) → next s Ends ≡ o → Ended
  at-end i s past reads None e = inr (length source, stuck-end source ts i start s past reads e)
  at-end i s past reads (Some u) e = inl (u, reads-end source ts i start s u past reads e, next-done s u e)

  at-token : (i : ℕ) (s : State) (token : Token) → i < length ts → token ≡ get_or ts i default → run start (lexed source i ts) ≡ Some s
      → ((u : State) → run start (lexed source (suc i) ts) ≡ Some u → Ended) → (o : Option State) → next s (inner source token) ≡ o → Ended
  at-token i s token within is reads on None e = inr (token.from, stuck-token source ts i start s default token within is reads e)
  at-token i s token within is reads on (Some u) e = on u (reads-more source ts i (suc i) start s u default token refl within is reads e)

  from : (left i : ℕ) (s : State) → i + left ≡ length ts → run start (lexed source i ts) ≡ Some s → Ended
  from zero i s whole reads = at-end i s (omega arith) reads (next s Ends) refl
  from (suc left) i s whole reads =
      let token = get_or ts i default in
      let further : suc i + left ≡ length ts = omega arith in
      at-token i s token (omega arith) refl reads (λ u more. from left (suc i) u further more) (next s (inner source token)) refl

  ended : Ended
  ended = from (length ts) 0 start (omega arith) refl

-- A state at the end has a term or a type.
module _ (source : List ℕ) (ts : List Token) where
  done-term : (s : State) → run (In AtTerm []) (inners source ts) ≡ Some s → is_done s ≡ true → (raw : RawTree) × SpellsTerm source ts raw
  done-term (In place k) reads done = absurd (cc)
  done-term (DoneTerm t) reads done = (t, spells-term source ts [] t (DoneTerm t) refl refl reads)
  done-term (DoneType t) reads done = absurd (no-type-of-term source ts [] t (DoneType t) refl refl reads)

  done-type : (s : State) → run (In AtType []) (inners source ts) ≡ Some s → is_done s ≡ true → (raw : RawTypTree) × SpellsType source ts raw
  done-type (In place k) reads done = absurd (cc)
  done-type (DoneTerm t) reads done = absurd (no-term-of-type source ts [] t (DoneTerm t) refl refl reads)
  done-type (DoneType t) reads done = (t, spells-type source ts [] t (DoneType t) refl refl reads)

  pub term-or-fault : ((raw : RawTree) × SpellsTerm source ts raw) ⊎ ((at : ℕ) × HasTermFault source ts at)
  term-or-fault = elim (ended (In AtTerm []) source ts) [ inl r ↦ inl (done-term r.0 r.1 r.2) | inr stuck ↦ inr (stuck.0, term-fault source ts stuck.0 stuck.1) ]

  pub type-or-fault : ((raw : RawTypTree) × SpellsType source ts raw) ⊎ ((at : ℕ) × HasTypeFault source ts at)
  type-or-fault = elim (ended (In AtType []) source ts) [ inl r ↦ inl (done-type r.0 r.1 r.2) | inr stuck ↦ inr (stuck.0, type-fault source ts stuck.0 stuck.1) ]
