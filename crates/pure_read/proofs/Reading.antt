-- What is read so far, and what it says in the end.
use Rattle.std.proofs.Common.{◌≡◌, ℕ, zero, suc, ◌<◌, ◌≤◌, List, [], ◌∷◌, ◌++◌, length, drop, get_or, refl, sym, ◌∙◌, ap, arith}
use Rattle.std.specs.Prelude.{Some, None}
use Rattle.pure_grammar.specs.declared.token.Token.{Token}
use Rattle.pure_grammar.specs.Theories.Outer.{place_of}
use Rattle.pure_grammar.specs.Terms.InnerLexeme.{InnerLexeme, Ends, inner, inners}
use Rattle.pure_grammar.specs.Terms.Inner.{HasTermFault, HasTypeFault}
use Rattle.pure_grammar.specs.Terms.InnerReader.{AtTerm, AtType, State, In, goes_on, next, run}
use Rattle.pure_grammar.proofs.InnerFaultLemmas.{run-append, run-begins-term, run-begins-type, stuck-term, stuck-type}
use Rattle.pure_grammar.proofs.Places.{place_of-token, place_of-end}
use Rattle.pure_read.specs.Stuck.{IsStuck}

-- the first n tokens
abbrev pub lexed : List ℕ → ℕ → List Token → List InnerLexeme
lexed source zero ts = []
lexed source (suc n) [] = []
lexed source (suc n) (t ∷ ts) = inner source t ∷ lexed source n ts

lexed-suc : (source : List ℕ) (ts : List Token) (i : ℕ) (d t : Token) → i < length ts → t ≡ get_or ts i d → lexed source (suc i) ts ≡ lexed source i ts ++ inner source t ∷ []
lexed-suc source [] i d t below at = absurd (omega (arith, below))
lexed-suc source (u ∷ ts) zero d t below at = ap (λ z. inner source z ∷ []) (sym at)
lexed-suc source (u ∷ ts) (suc i) d t below at = ap (λ z. inner source u ∷ z) (lexed-suc source ts i d t (omega (arith, below)) at)

inners-at : (source : List ℕ) (ts : List Token) (i : ℕ) (d t : Token) → i < length ts → t ≡ get_or ts i d
    → inners source ts ≡ lexed source i ts ++ inner source t ∷ inners source (drop (suc i) ts)
inners-at source [] i d t below at = absurd (omega (arith, below))
inners-at source (u ∷ ts) zero d t below at = ap (λ z. inner source z ∷ inners source ts) (sym at)
inners-at source (u ∷ ts) (suc i) d t below at = ap (λ z. inner source u ∷ z) (inners-at source ts i d t (omega (arith, below)) at)

inners-end : (source : List ℕ) (ts : List Token) (i : ℕ) → length ts ≤ i → inners source ts ≡ lexed source i ts ++ Ends ∷ []
inners-end source [] zero past = refl
inners-end source [] (suc i) past = refl
inners-end source (u ∷ ts) zero past = absurd (omega (arith, past))
inners-end source (u ∷ ts) (suc i) past = ap (λ z. inner source u ∷ z) (inners-end source ts i (omega (arith, past)))

length-lexed : (source : List ℕ) (ts : List Token) (i : ℕ) → i ≤ length ts → length (lexed source i ts) ≡ i
length-lexed source ts zero within = refl
length-lexed source [] (suc i) within = absurd (omega (arith, within))
length-lexed source (u ∷ ts) (suc i) within = ap suc (length-lexed source ts i (omega (arith, within)))

length-lexed-all : (source : List ℕ) (ts : List Token) (i : ℕ) → length ts ≤ i → length (lexed source i ts) ≡ length ts
length-lexed-all source [] zero past = refl
length-lexed-all source [] (suc i) past = refl
length-lexed-all source (u ∷ ts) zero past = absurd (omega (arith, past))
length-lexed-all source (u ∷ ts) (suc i) past = ap suc (length-lexed-all source ts i (omega (arith, past)))

-- one token more is read
pub reads-more : (source : List ℕ) (ts : List Token) (i j : ℕ) (start s u : State) (d t : Token) → j ≡ suc i → i < length ts → t ≡ get_or ts i d → run start (lexed source i ts) ≡ Some s
    → next s (inner source t) ≡ Some u → run start (lexed source j ts) ≡ Some u
reads-more source ts i j start s u d t more below at reads on =
    ap (λ n. run start (lexed source n ts)) more
    ∙ ap (run start) (lexed-suc source ts i d t below at)
    ∙ run-append (lexed source i ts) (inner source t ∷ []) start
    ∙ ap (λ z. goes_on z (λ v. run v (inner source t ∷ []))) reads
    ∙ ap (λ z. goes_on z (λ v. run v [])) on

-- the end is read
pub reads-end : (source : List ℕ) (ts : List Token) (i : ℕ) (start s u : State) → length ts ≤ i → run start (lexed source i ts) ≡ Some s → next s Ends ≡ Some u → run start (inners source ts) ≡ Some u
reads-end source ts i start s u past reads on =
    ap (run start) (inners-end source ts i past)
    ∙ run-append (lexed source i ts) (Ends ∷ []) start
    ∙ ap (λ z. goes_on z (λ v. run v (Ends ∷ []))) reads
    ∙ ap (λ z. goes_on z (λ v. run v [])) on

pub stuck-token : (source : List ℕ) (ts : List Token) (i : ℕ) (start s : State) (d t : Token) → i < length ts → t ≡ get_or ts i d → run start (lexed source i ts) ≡ Some s
    → next s (inner source t) ≡ None → IsStuck start source ts t.from
stuck-token source ts i start s d t below at reads stops =
    record {
      before = lexed source i ts;
      found = inner source t;
      rest = inners source (drop (suc i) ts);
      state = s;
      parts = inners-at source ts i d t below at;
      reads = reads;
      stops = stops;
      at_place = place_of-token ts (length source) i d t below at ∙ ap (place_of ts (length source)) (sym (length-lexed source ts i (omega (arith, below))));
    }

pub stuck-end : (source : List ℕ) (ts : List Token) (i : ℕ) (start s : State) → length ts ≤ i → run start (lexed source i ts) ≡ Some s → next s Ends ≡ None → IsStuck start source ts (length source)
stuck-end source ts i start s past reads stops =
    record {
      before = lexed source i ts;
      found = Ends;
      rest = [];
      state = s;
      parts = inners-end source ts i past;
      reads = reads;
      stops = stops;
      at_place = place_of-end ts (length source) (length (lexed source i ts)) (length-lexed-all source ts i past);
    }

-- where the reader stops, the first fault stands
pub term-fault : (source : List ℕ) (ts : List Token) (at : ℕ) → IsStuck (In AtTerm []) source ts at → HasTermFault source ts at
term-fault source ts at stuck =
    record {
      before = stuck.before;
      found = stuck.found;
      rest = stuck.rest;
      wrong = record { parts = stuck.parts; goes = run-begins-term stuck.before stuck.state stuck.reads; stops = stuck-term stuck.before stuck.found stuck.state stuck.reads stuck.stops };
      at_place = stuck.at_place;
    }

pub type-fault : (source : List ℕ) (ts : List Token) (at : ℕ) → IsStuck (In AtType []) source ts at → HasTypeFault source ts at
type-fault source ts at stuck =
    record {
      before = stuck.before;
      found = stuck.found;
      rest = stuck.rest;
      wrong = record { parts = stuck.parts; goes = run-begins-type stuck.before stuck.state stuck.reads; stops = stuck-type stuck.before stuck.found stuck.state stuck.reads stuck.stops };
      at_place = stuck.at_place;
    }
