-- Where the machine stops, the lexemes go wrong.
use Rattle.std.proofs.Common.{◌≡◌, ℕ, zero, suc, ◌+◌, ◌-◌, ◌≤◌, Bool, true, false, List, [], ◌∷◌, ◌++◌, length, drop, refl, sym, ◌∙◌, ap, subst, append_assoc, arith, Option, Some, None}
use Rattle.std.proofs.lemmas.List.{append-nil, length-append, length-drop}
use Rattle.pure_grammar.specs.declared.token.Token.{Token}
use Rattle.pure_grammar.specs.Theories.Outer.{place_of}
use Rattle.pure_record.specs.Items.{Item}
use Rattle.pure_record.specs.Lines.{Node}
use Rattle.pure_record.specs.Lexemes.{lexemes}
use Rattle.pure_record.specs.Grammar.{IsRecord}
use Rattle.pure_record.specs.Machine.{Outcome, Through, Stuck, goes_on, next, run, IsRecognised}
use Rattle.pure_record.specs.Spelled.{AreNamesOf, BeginsRecord, GoesWrong, HasSyntaxFault, SpellsRecord, first_long, runs_of}
use Rattle.pure_record.specs.declared.lexeme.Lexeme.{Lexeme}
use Rattle.pure_record.specs.declared.symbol.Symbol.{Symbol}
use Rattle.pure_record.specs.declared.symbol.Symbol.TheVariants as symbol
use Rattle.pure_record.proofs.AcceptLemmas.{Accepts, accepts-record, stuck-no}
use Rattle.pure_record.proofs.FormLemmas.{Forms, forms-next, ends-of}

abbrev IsWhole : List Lexeme → Type 0
IsWhole ls = (is : List Item) × (lines : List Node) × IsRecord is lines ls

-- Behind these lexemes, what is to come makes a record.
abbrev IsToCome : List Lexeme → List Symbol → Type 0
IsToCome before xs = (ls : List Lexeme) → Forms xs ls [] → IsWhole (before ++ ls)

to_come-start : IsToCome [] (symbol.Record ∷ [])
to_come-start ls (mid, f, e) = f e

to_come-next : (before : List Lexeme) (xs ys : List Symbol) (l : Lexeme) → IsToCome before xs → next xs l ≡ Some ys → IsToCome (before ++ l ∷ []) ys
to_come-next before xs ys l have e ls f = subst IsWhole (sym (append_assoc before (l ∷ []) ls)) (have (l ∷ ls) (forms-next xs ys l ls [] e f))

-- where the machine stops
record StopsAt (first : List Symbol) (ls rest : List Lexeme) : Type 0 where
  pub before : List Lexeme
  pub found : Lexeme
  pub behind : List Lexeme
  pub last : List Symbol
  pub parts : ls ≡ before ++ rest
  pub is : rest ≡ found ∷ behind
  pub reaches : (more : List Lexeme) → run first (before ++ more) ≡ run last more
  pub blocked : next last found ≡ None
  pub to_come : (front : List Lexeme) → IsToCome front first → IsToCome (front ++ before) last

rest_of : Outcome → List Lexeme
rest_of (Through xs) = []
rest_of (Stuck xs ls) = ls

is_stuck : Outcome → Bool
is_stuck (Through xs) = false
is_stuck (Stuck xs ls) = true

same-rest : (xs ys : List Symbol) (ls rest : List Lexeme) → Stuck xs ls ≡ Stuck ys rest → ls ≡ rest
unfolding rest_of
same-rest xs ys ls rest e = ap rest_of e

through-no : (xs ys : List Symbol) (rest : List Lexeme) → Through xs ≡ Stuck ys rest → ⊥
unfolding is_stuck
through-no xs ys rest e = let bad : false ≡ true = ap is_stuck e in absurd (cc)

stops-by : (first left : List Symbol) (l : Lexeme) (ls rest : List Lexeme) (o : Option (List Symbol)) → next first l ≡ o → ((ys : List Symbol) → run ys ls ≡ Stuck left rest → StopsAt ys ls rest)
    → goes_on o (Stuck first (l ∷ ls)) (λ ys. run ys ls) ≡ Stuck left rest → StopsAt first (l ∷ ls) rest
stops-by first left l ls rest None e again g = record {
  before = [];
  found = l;
  behind = ls;
  last = first;
  parts = same-rest first left (l ∷ ls) rest g;
  is = sym (same-rest first left (l ∷ ls) rest g);
  reaches = λ more. refl;
  blocked = e;
  to_come = λ front have. subst (λ z. IsToCome z first) (sym (append-nil front)) have;
}
stops-by first left l ls rest (Some ys) e again g =
    let m = again ys g in
    record {
      before = l ∷ m.before;
      found = m.found;
      behind = m.behind;
      last = m.last;
      parts = ap (λ z. l ∷ z) m.parts;
      is = m.is;
      reaches = λ more. ap (λ z. goes_on z (Stuck first (l ∷ (m.before ++ more))) (λ t. run t (m.before ++ more))) e ∙ m.reaches more;
      blocked = m.blocked;
      to_come = λ front have. subst (λ z. IsToCome z m.last) (append_assoc front (l ∷ []) m.before) (m.to_come (front ++ l ∷ []) (to_come-next front first ys l have e));
    }

stops-at : (first left : List Symbol) (ls rest : List Lexeme) → run first ls ≡ Stuck left rest → StopsAt first ls rest
stops-at first left [] rest g = absurd (through-no first left rest g)
stops-at first left (l ∷ ls) rest g = stops-by first left l ls rest (next first l) refl (λ ys. stops-at ys left ls rest) g

abbrev start : List Symbol
start = symbol.Record ∷ []

begins : (before : List Lexeme) (last : List Symbol) → IsToCome before last → BeginsRecord before
begins before last have = let e = ends-of last in let w = have (e.0 ++ []) (e.1 []) in (e.0 ++ [], w.0, w.1, w.2)

stops : (before : List Lexeme) (found : Lexeme) (last : List Symbol) → ((more : List Lexeme) → run start (before ++ more) ≡ run last more) → next last found ≡ None → BeginsRecord (before ++ found ∷ []) → ⊥
stops before found last reaches blocked (more, is, lines, whole) =
    let accepted : Accepts start ((before ++ found ∷ []) ++ more) = accepts-record is lines ((before ++ found ∷ []) ++ more) whole in
    let again : run last (found ∷ more) ≡ Through [] = sym (reaches (found ∷ more)) ∙ ap (run start) (sym (append_assoc before (found ∷ []) more)) ∙ accepted in
    stuck-no last (found ∷ more) (sym (ap (λ z. goes_on z (Stuck last (found ∷ more)) (λ ys. run ys more)) blocked) ∙ again)

record Wrong (ls rest : List Lexeme) : Type 0 where
  pub before : List Lexeme
  pub found : Lexeme
  pub behind : List Lexeme
  pub wrong : GoesWrong ls before found behind
  pub is : rest ≡ found ∷ behind

goes-wrong : (left : List Symbol) (ls rest : List Lexeme) → run start ls ≡ Stuck left rest → Wrong ls rest
goes-wrong left ls rest g =
    let m = stops-at start left ls rest g in
    record {
      before = m.before;
      found = m.found;
      behind = m.behind;
      wrong = record { parts = m.parts ∙ ap (λ z. m.before ++ z) m.is; begins = begins m.before m.last (m.to_come [] to_come-start); stops = stops m.before m.found m.last m.reaches m.blocked };
      is = m.is;
    }

length-lexemes : (texts : List (List ℕ)) (source : List ℕ) (ts : List Token) → length (lexemes texts source ts) ≡ suc (length ts)
length-lexemes texts source [] = refl
length-lexemes texts source (t ∷ ts) = ap suc (length-lexemes texts source ts)

-- what was read, told apart
pub spelled-read : (source : List ℕ) (tokens : List Token) (texts own : List (List ℕ)) (is : List Item) (lines : List Node) (ls : List Lexeme) → AreNamesOf source tokens texts → first_long (runs_of source tokens) ≡ None → own ≡ texts
    → ls ≡ lexemes texts source tokens → IsRecord is lines ls → SpellsRecord source tokens own is lines
spelled-read source tokens texts own is lines ls names few same read whole = rw same (record { names = names; runs = few; spelled = subst (IsRecord is lines) read whole })

-- behind the last token stands the source's end
pub place_of-past : (ts : List Token) (len i : ℕ) → length ts ≤ i → len ≡ place_of ts len i
place_of-past [] len zero h = refl
place_of-past [] len (suc i) h = refl
place_of-past (t ∷ ts) len zero h = absurd (omega arith)
place_of-past (t ∷ ts) len (suc i) h = place_of-past ts len i (omega arith)

-- The place where the machine stops is that of the first fault.
pub fault-at : (source : List ℕ) (tokens : List Token) (texts : List (List ℕ)) (ls : List Lexeme) (at place : ℕ) → AreNamesOf source tokens texts → ls ≡ lexemes texts source tokens → IsRecognised ls (Some at)
    → place ≡ place_of tokens (length source) at → HasSyntaxFault source tokens place
fault-at source tokens texts ls at place names read (within, (left, g)) is =
    let w = goes-wrong left ls (drop at ls) g in
    let parts : length ls ≡ length w.before + suc (length w.behind) = ap length w.wrong.parts ∙ length-append w.before (w.found ∷ w.behind) in
    let rest : length ls - at ≡ suc (length w.behind) = sym (length-drop at ls) ∙ ap length w.is in
    let n : at ≡ length w.before = omega (arith, parts, rest, within) in
    record {
      texts = texts;
      names = names;
      before = w.before;
      found = w.found;
      rest = w.behind;
      wrong = subst (λ z. GoesWrong z w.before w.found w.behind) read w.wrong;
      at_place = is ∙ ap (place_of tokens (length source)) n;
    }
