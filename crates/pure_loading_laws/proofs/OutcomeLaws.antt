-- What a file says by itself, for any bytes: its tokens are read or have a fault, and so has their text.
use Rattle.std.proofs.Common.{◌≡◌, ◌⊎◌, ◌∙◌, inl, inr, ℕ, ◌+◌, ◌<◌, ◌≤◌, Bool, true, false, List, [], ◌∷◌, length, map, Option, Some, None, nat_lt, refl, sym, ap, subst, arith, true≢false, if◌then◌else◌}
use Rattle.std.specs.Prelude.{codes}
use Rattle.std.proofs.lemmas.Bool.{cases_lt}
use Rattle.pure_grammar.specs.declared.token.Token.{Token}
use Rattle.pure_grammar.specs.declared.token.TokenKind.{TokenKind}
use Rattle.pure_grammar.specs.declared.lexeme.Keyword.TheVariants as keyword
use Rattle.pure_grammar.specs.Tokens.Spelling.{Spells, HasFault}
use Rattle.pure_grammar.specs.Theories.TheoryText.{Command, TheoryText}
use Rattle.pure_grammar.specs.Theories.Lexeme.{Lexeme, Reserved, Signed, Plain, Dotted, Variable, Numeral, Quoted, Other, Ends, is_word, ident_in, number_in, lexeme, lexemes}
use Rattle.pure_grammar.specs.Theories.Outer.{SpellsTheory, HasSyntaxFault, place_of}
use Rattle.pure_grammar.specs.Theories.Reader.{State, Header, Place, Turn, Moves, Adds, Refuses, AtStart, AtVersion, AfterVersion, AtTheoryName, AfterTheoryName, AtImport, AfterImport, InBody, AtLast, Through, Stuck, goes_if, goes_with, goes_on, body_begun, after_import, body_state, body_next, is_after_end, turn, next, run, expected}
use Rattle.pure_grammar.specs.Theories.Reader as reader
use Rattle.pure_grammar.proofs.FaultLemmas.{Gets-IsTheory, goes-wrong, is_last}
use Rattle.pure_lex.proofs.Existence.{some_reading}
use Rattle.pure_graph.specs.Limits.{most_bytes, most_files}
use Rattle.pure_graph.specs.Outcome.{Outcome, Refused, IsSourceOutcome, IsBytesOutcome, syntax_at, tree_outcome}
use Rattle.pure_graph.specs.Reading.{Answer, File, IsTried, AreReadFrom, counted, file_parts}
use Rattle.pure_graph.specs.declared.outcome.Reason.TheVariants.{TooManyFiles, NoFile, TooLarge}
use Rattle.pure_loading_laws.specs.Loading.{EachFileSaysSomething}
use Rattle.pure_loading_laws.proofs.LexemeLaws.{is_end, token-goes}

-- ---- the reader is through at the end alone
none-some : {A : Type 0} (x : A) → None ≡ Some x → ⊥
none-some x e = cc e

some-same : {A : Type 0} (x y : A) → Some x ≡ Some y → x ≡ y
some-same x y e = cc e

if-inside : (b : Bool) (s v : State) → is_last s ≡ false → goes_if b s ≡ Some v → is_last v ≡ false
if-inside true s v f e = subst (λ u. is_last u ≡ false) (some-same s v e) f
if-inside false s v f e = absurd (none-some v e)

with-inside : {A : Type 0} (state : A → State) → ((x : A) → is_last (state x) ≡ false) → (o : Option A) (v : State) → goes_with state o ≡ Some v → is_last v ≡ false
with-inside state f None v e = absurd (none-some v e)
with-inside state f (Some x) v e = subst (λ u. is_last u ≡ false) (some-same (state x) v e) (f x)

either-inside : (b : Bool) (s v : State) (o : Option State) → is_last s ≡ false → (o ≡ Some v → is_last v ≡ false) → (if b then Some s else o) ≡ Some v → is_last v ≡ false
either-inside true s v o f g e = subst (λ u. is_last u ≡ false) (some-same s v e) f
either-inside false s v o f g e = g e

import-inside : (h : Header) (l : Lexeme) (o : Option (List ℕ)) (v : State) → after_import h l o ≡ Some v → is_last v ≡ false
import-inside h l None v e = if-inside _ _ v refl e
import-inside h l (Some x) v e = subst (λ u. is_last u ≡ false) (some-same _ v e) refl

body-inside : (h : Header) (cs : List Command) (to : Turn) (v : State) → body_state h cs to ≡ Some v → is_last v ≡ false
body-inside h cs (Moves place) v e = subst (λ u. is_last u ≡ false) (some-same _ v e) refl
body-inside h cs (Adds c place) v e = subst (λ u. is_last u ≡ false) (some-same _ v e) refl
body-inside h cs Refuses v e = absurd (none-some v e)

place-inside : (h : Header) (cs : List Command) (place : Place) (l : Lexeme) (v : State) → is_end l ≡ false → body_next h cs place l ≡ Some v → is_last v ≡ false
place-inside h cs place Ends v n e = absurd (true≢false n)
place-inside h cs place (Reserved w) v n e = body-inside h cs (turn h.version place (Reserved w)) v e
place-inside h cs place (Signed s) v n e = body-inside h cs (turn h.version place (Signed s)) v e
place-inside h cs place (Plain x at) v n e = body-inside h cs (turn h.version place (Plain x at)) v e
place-inside h cs place (Dotted x at) v n e = body-inside h cs (turn h.version place (Dotted x at)) v e
place-inside h cs place (Variable x at) v n e = body-inside h cs (turn h.version place (Variable x at)) v e
place-inside h cs place (Numeral m) v n e = body-inside h cs (turn h.version place (Numeral m)) v e
place-inside h cs place (Quoted at) v n e = body-inside h cs (turn h.version place (Quoted at)) v e
place-inside h cs place (Other k) v n e = body-inside h cs (turn h.version place (Other k)) v e

next-inside : (u : State) (l : Lexeme) (v : State) → is_end l ≡ false → next u l ≡ Some v → is_last v ≡ false
next-inside AtStart l v n e =
    either-inside (is_word keyword.Version l) AtVersion v (goes_if (is_word keyword.Theory l) (AtTheoryName 1)) refl (λ f. if-inside (is_word keyword.Theory l) (AtTheoryName 1) v refl f) e
next-inside AtVersion l v n e = with-inside (λ version. AfterVersion version) (λ version. refl) (number_in l) v e
next-inside (AfterVersion version) l v n e = if-inside _ _ v refl e
next-inside (AtTheoryName version) l v n e = with-inside (λ x. AfterTheoryName version x) (λ x. refl) (ident_in l) v e
next-inside (AfterTheoryName version x) l v n e =
    let begun : State = body_begun (record { version = version; name = x; imports = codes "Pure" ∷ [] }) in
    either-inside (is_word keyword.Imports l) (AtImport version x) v (goes_if (is_word keyword.Begin l) begun) refl (λ f. if-inside (is_word keyword.Begin l) begun v refl f) e
next-inside (AtImport version x) l v n e = with-inside (λ i. AfterImport (record { version = version; name = x; imports = i ∷ [] })) (λ i. refl) (ident_in l) v e
next-inside (AfterImport h) l v n e = import-inside h l (ident_in l) v e
next-inside (InBody h cs place) l v n e = place-inside h cs place l v n e
next-inside (AtLast t) l v n e = absurd (none-some v e)

last-if : (b : Bool) (t : TheoryText) (v : State) → goes_if b (AtLast t) ≡ Some v → (u : TheoryText) × (v ≡ AtLast u)
last-if true t v e = (t, sym (some-same (AtLast t) v e))
last-if false t v e = absurd (none-some v e)

ends-last : (u v : State) → next u Ends ≡ Some v → (t : TheoryText) × (v ≡ AtLast t)
ends-last AtStart v e = absurd (none-some v e)
ends-last AtVersion v e = absurd (none-some v e)
ends-last (AfterVersion version) v e = absurd (none-some v e)
ends-last (AtTheoryName version) v e = absurd (none-some v e)
ends-last (AfterTheoryName version x) v e = absurd (none-some v e)
ends-last (AtImport version x) v e = absurd (none-some v e)
ends-last (AfterImport h) v e = absurd (none-some v e)
ends-last (InBody h cs place) v e = last-if (is_after_end place) _ v e
ends-last (AtLast t) v e = absurd (none-some v e)

abbrev is_through : reader.Outcome → Bool
is_through (Through s) = true
is_through (Stuck s found rest) = false

through-same : (s u : State) → Through s ≡ Through u → s ≡ u
through-same s u e = cc e

stuck-same : (s u : State) (l m : Lexeme) (ls ms : List Lexeme) → Stuck s l ls ≡ Stuck u m ms → s ≡ u
stuck-same s u l m ls ms e = cc e

through : (source : List ℕ) (ts : List Token) (u s : State) → run u (lexemes source ts) ≡ Through s → (t : TheoryText) × (s ≡ AtLast t)
through source [] u s e = at-end (next u Ends) refl e
  where
    at-end : (o : Option State) → next u Ends ≡ o → goes_on o (Stuck u Ends []) (λ v. run v []) ≡ Through s → (t : TheoryText) × (s ≡ AtLast t)
    at-end None h k = absurd (true≢false (sym (ap is_through k)))
    at-end (Some v) h k = let w = ends-last u v h in (w.0, sym (through-same v s k) ∙ w.1)
through source (x ∷ ts) u s e = at-token (next u (lexeme source x)) (λ v k. through source ts v s k) e
  where
    at-token : (o : Option State) → ((v : State) → run v (lexemes source ts) ≡ Through s → (t : TheoryText) × (s ≡ AtLast t))
        → goes_on o (Stuck u (lexeme source x) (lexemes source ts)) (λ v. run v (lexemes source ts)) ≡ Through s → (t : TheoryText) × (s ≡ AtLast t)
    at-token None again k = absurd (true≢false (sym (ap is_through k)))
    at-token (Some v) again k = again v k

stuck-inside : (source : List ℕ) (ts : List Token) (u s : State) (found : Lexeme) (rest : List Lexeme) → is_last u ≡ false → run u (lexemes source ts) ≡ Stuck s found rest → is_last s ≡ false
stuck-inside source [] u s found rest f e = at-end (next u Ends) e
  where
    at-end : (o : Option State) → goes_on o (Stuck u Ends []) (λ v. run v []) ≡ Stuck s found rest → is_last s ≡ false
    at-end None k = subst (λ v. is_last v ≡ false) (stuck-same u s _ found _ rest k) f
    at-end (Some v) k = absurd (true≢false (ap is_through k))
stuck-inside source (x ∷ ts) u s found rest f e = at-token (next u (lexeme source x)) refl (λ v inside k. stuck-inside source ts v s found rest inside k) e
  where
    at-token : (o : Option State) → next u (lexeme source x) ≡ o → ((v : State) → is_last v ≡ false → run v (lexemes source ts) ≡ Stuck s found rest → is_last s ≡ false)
        → goes_on o (Stuck u (lexeme source x) (lexemes source ts)) (λ v. run v (lexemes source ts)) ≡ Stuck s found rest → is_last s ≡ false
    at-token None h again k = subst (λ v. is_last v ≡ false) (stuck-same u s _ found _ rest k) f
    at-token (Some v) h again k = again v (next-inside u (lexeme source x) v (token-goes source x) h) k

-- the tokens of a source spell a theory, or have a fault of syntax
pub theory_or_not : (source : List ℕ) (ts : List Token) → ((t : TheoryText) × SpellsTheory source ts t) ⊎ ((at : ℕ) × (kind : TokenKind) × HasSyntaxFault source ts at kind)
theory_or_not source ts = by (run AtStart (lexemes source ts)) refl
  where
    by : (o : reader.Outcome) → run AtStart (lexemes source ts) ≡ o → ((t : TheoryText) × SpellsTheory source ts t) ⊎ ((at : ℕ) × (kind : TokenKind) × HasSyntaxFault source ts at kind)
    by (Through s) e = let w = through source ts AtStart s e in inl (w.0, Gets-IsTheory (lexemes source ts) w.0 (e ∙ ap (λ u. Through u) w.1))
    by (Stuck s found rest) e =
        let w = goes-wrong (lexemes source ts) s found rest e (stuck-inside source ts AtStart s found rest refl e) in
        inr (place_of ts (length source) (length w.before), expected s, record { before = w.before; found = found; rest = rest; wrong = w.wrong; follows = w.follows; at_place = refl })

-- ---- one file
source-says : (theory source : List ℕ) → (outcome : Outcome) × IsSourceOutcome theory source outcome
source-says theory source = read (some_reading (length source) source (omega arith))
  where
    spelled : (ts : List Token) → Spells (length source) ts source → ((t : TheoryText) × SpellsTheory source ts t) ⊎ ((at : ℕ) × (kind : TokenKind) × HasSyntaxFault source ts at kind) → (outcome : Outcome) × IsSourceOutcome theory source outcome
    spelled ts spells (inl w) = (tree_outcome theory source w.0, inr (w.0, (ts, spells, w.1), refl))
    spelled ts spells (inr w) = (Refused (syntax_at source w.0), inl (w.0, inr (ts, w.1, spells, w.2), refl))

    read : ((ts : List Token) × Spells (length source) ts source) ⊎ ((place : ℕ) × HasFault (length source) source place) → (outcome : Outcome) × IsSourceOutcome theory source outcome
    read (inl w) = spelled w.0 w.1 (theory_or_not source w.0)
    read (inr w) = (Refused (syntax_at source w.0), inl (w.0, inl w.1, refl))

bytes-say : (theory source : List ℕ) → (outcome : Outcome) × IsBytesOutcome theory source outcome
bytes-say theory source = by (cases_lt most_bytes (length source))
  where
    by : (most_bytes < length source) ⊎ (length source ≤ most_bytes) → (outcome : Outcome) × IsBytesOutcome theory source outcome
    by (inl many) = (Refused TooLarge, inl (many, refl))
    by (inr few) = let w = source-says theory source in (w.0, inr (few, w.1))

pub file-says : EachFileSaysSomething
file-says theory None = (Refused (NoFile theory), refl)
file-says theory (Some source) = bytes-say theory source

-- ---- all files
tried : (is_read : Bool) (a : Answer) → (outcome : Outcome) × IsTried is_read a outcome
tried true a = file-says a.theory a.bytes
tried false a = (Refused TooManyFiles, refl)

-- the files of theories, each with what it says, in order
pub files-say : (place before : ℕ) (answers : List Answer) → (files : List File) × AreReadFrom place before answers files × (map (λ (f : File). f.theory) files ≡ map (λ (a : Answer). a.theory) answers)
files-say place before [] = ([], tt, refl)
files-say place before (a ∷ answers) =
    let own = tried (nat_lt place most_files) a in
    let rest = files-say (place + 1) (before + file_parts (counted before own.0)) answers in
    (record { theory = a.theory; outcome = counted before own.0 } ∷ rest.0, (own.0, own.1, refl, rest.1), ap (λ ts. a.theory ∷ ts) rest.2)
