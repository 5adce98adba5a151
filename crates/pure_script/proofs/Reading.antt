-- What is read so far, and what it says in the end.
use Rattle.std.proofs.Common.{◌≡◌, ℕ, suc, ◌+◌, ◌-◌, ◌<◌, List, [], ◌∷◌, length, drop, get_or, refl, sym, ◌∙◌, ap, arith, drop-cons, length-drop}
use Rattle.std.proofs.lemmas.List.{length-append}
use Rattle.std.specs.Prelude.{Bool, true, false, Option, Some, None}
use Rattle.pure_grammar.specs.declared.token.Token.{Token}
use Rattle.pure_grammar.specs.Theories.TheoryText.{TheoryText}
use Rattle.pure_grammar.specs.Theories.Lexeme.{Lexeme, Ends, lexeme, lexemes}
use Rattle.pure_grammar.specs.Theories.Outer.{SpellsTheory, HasSyntaxFault, place_of}
use Rattle.pure_grammar.specs.Theories.Reader as spec
use Rattle.pure_grammar.specs.Theories.Reader.{AtStart, AtLast, Stuck, goes_on, next, run, expected}
use Rattle.pure_grammar.proofs.FaultLemmas.{Wrong, goes-wrong, Gets-IsTheory, is_last}
use Rattle.pure_grammar.proofs.Places.{place_of-token, place_of-end}
pub use Rattle.pure_grammar.proofs.Places.{slice-at}
use Rattle.pure_script.specs.States.{seen_state, IsNext}
use Rattle.pure_script.specs.declared.state.State.{State}
use Rattle.pure_script.specs.declared.state.State.TheVariants as state
use Rattle.pure_script.specs.declared.state.Front.TheVariants as front

pub is_last-seen : (s : State) → is_last (seen_state s) ≡ false
is_last-seen (state.InFront front.AtStart) = refl
is_last-seen (state.InFront front.AtVersion) = refl
is_last-seen (state.InFront (front.AfterVersion version)) = refl
is_last-seen (state.InFront (front.AtTheoryName version)) = refl
is_last-seen (state.InFront (front.AfterTheoryName version name)) = refl
is_last-seen (state.InFront (front.AtImport version name)) = refl
is_last-seen (state.InFront (front.AfterImport header)) = refl
is_last-seen (state.InBody header commands place) = refl

pub none-next : (on : Bool) (behind : spec.State) (next : Option spec.State) → on ≡ false → IsNext on behind next → next ≡ None
none-next true behind next e is = absurd (cc e)
none-next false behind next e is = is

run-drop : (source : List ℕ) (ts : List Token) (i : ℕ) (s : spec.State) (d t : Token) → i < length ts → t ≡ get_or ts i d → run AtStart (lexemes source ts) ≡ run s (lexemes source (drop i ts))
    → run AtStart (lexemes source ts) ≡ goes_on (next s (lexeme source t)) (Stuck s (lexeme source t) (lexemes source (drop (suc i) ts))) (λ u. run u (lexemes source (drop (suc i) ts)))
run-drop source ts i s d t below at reads =
    reads ∙ ap (λ z. run s (lexemes source z)) (drop-cons ts i d below) ∙ ap (λ z. run s (lexemes source (z ∷ drop (suc i) ts))) (sym at)

length-lexemes : (source : List ℕ) (ts : List Token) → length (lexemes source ts) ≡ suc (length ts)
length-lexemes source [] = refl
length-lexemes source (t ∷ ts) = ap suc (length-lexemes source ts)

-- the place of what stops the reader, by what is left behind it
before-length : (source : List ℕ) (ts : List Token) (s : spec.State) (found : Lexeme) (rest : List Lexeme) (w : Wrong (lexemes source ts) s found rest) → length w.before + suc (length rest) ≡ suc (length ts)
before-length source ts s found rest w =
    sym (length-append w.before (found ∷ rest)) ∙ sym (ap length w.wrong.parts) ∙ length-lexemes source ts

pub fault-token : (source : List ℕ) (ts : List Token) (i : ℕ) (s : spec.State) (d t : Token) → i < length ts → t ≡ get_or ts i d → run AtStart (lexemes source ts) ≡ run s (lexemes source (drop i ts))
    → next s (lexeme source t) ≡ None → is_last s ≡ false → HasSyntaxFault source ts t.from (expected s)
fault-token source ts i s d t below at reads stuck last =
    let g : run AtStart (lexemes source ts) ≡ Stuck s (lexeme source t) (lexemes source (drop (suc i) ts)) =
    run-drop source ts i s d t below at reads ∙ ap (λ z. goes_on z (Stuck s (lexeme source t) (lexemes source (drop (suc i) ts))) (λ u. run u (lexemes source (drop (suc i) ts)))) stuck in
    let w : Wrong (lexemes source ts) s (lexeme source t) (lexemes source (drop (suc i) ts)) = goes-wrong (lexemes source ts) s (lexeme source t) (lexemes source (drop (suc i) ts)) g last in
    let l = before-length source ts s (lexeme source t) (lexemes source (drop (suc i) ts)) w in
    let m : length (lexemes source (drop (suc i) ts)) ≡ suc (length (drop (suc i) ts)) = length-lexemes source (drop (suc i) ts) in
    let e : length (drop (suc i) ts) ≡ length ts - suc i = length-drop (suc i) ts in
    let k : length (drop (suc i) ts) + suc i ≡ length ts = omega (arith, e, below) in
    let n : length w.before ≡ i = omega (arith, l, m, k) in
    record {
      before = w.before;
      found = lexeme source t;
      rest = lexemes source (drop (suc i) ts);
      wrong = w.wrong;
      follows = w.follows;
      at_place = place_of-token ts (length source) i d t below at ∙ ap (place_of ts (length source)) (sym n);
    }

pub fault-end : (source : List ℕ) (ts : List Token) (s : spec.State) → run AtStart (lexemes source ts) ≡ run s (Ends ∷ []) → next s Ends ≡ None → is_last s ≡ false → HasSyntaxFault source ts (length source) (expected s)
fault-end source ts s reads stuck last =
    let g : run AtStart (lexemes source ts) ≡ Stuck s Ends [] = reads ∙ ap (λ z. goes_on z (Stuck s Ends []) (λ u. run u [])) stuck in
    let w : Wrong (lexemes source ts) s Ends [] = goes-wrong (lexemes source ts) s Ends [] g last in
    let l = before-length source ts s Ends [] w in
    let n : length w.before ≡ length ts = omega (arith, l) in
    record {
      before = w.before;
      found = Ends;
      rest = [];
      wrong = w.wrong;
      follows = w.follows;
      at_place = place_of-end ts (length source) (length w.before) n;
    }

pub spells-end : (source : List ℕ) (ts : List Token) (s : spec.State) (t : TheoryText) → run AtStart (lexemes source ts) ≡ run s (Ends ∷ []) → next s Ends ≡ Some (AtLast t) → SpellsTheory source ts t
spells-end source ts s t reads on = Gets-IsTheory (lexemes source ts) t (reads ∙ ap (λ z. goes_on z (Stuck s Ends []) (λ u. run u [])) on)
