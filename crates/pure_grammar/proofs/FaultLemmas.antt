-- Where the reader stops no text goes on, and something may stand in each place.
use Rattle.std.proofs.Common.{◌≡◌, ℕ, zero, suc, ◌+◌, ◌<◌, List, [], ◌∷◌, ◌++◌, length, refl, sym, ◌∙◌, ap, subst, append_assoc, arith, true≢false}
use Rattle.std.specs.Prelude.{Bool, true, false, Option, Some, None, codes}
use Rattle.std.specs.List.{list_any}
use Rattle.std.specs.Cmp.Lexicographic.{same_text}
use Rattle.pure_grammar.specs.declared.lexeme.Keyword.TheVariants as keyword
use Rattle.pure_grammar.specs.declared.lexeme.Sign.TheVariants as sign
use Rattle.pure_grammar.specs.Theories.TheoryText.{Span, Command, TypeDecl, TheoryText}
use Rattle.pure_grammar.specs.Theories.Lexeme.{Lexeme, Reserved, Signed, Plain, Variable, Numeral, Quoted, Ends, same, kind_of}
use Rattle.pure_grammar.specs.Theories.PhraseText.{assumption_word}
use Rattle.pure_grammar.specs.Theories.Outer.{IsTheory, BeginsTheory, MayFollow, GoesWrong}
use Rattle.pure_grammar.specs.Theories.Reader.{Header, State, AtStart, AtVersion, AfterVersion, AtTheoryName, AfterTheoryName, AtImport, AfterImport, InBody, AtLast, Outcome, Through, Stuck, AtStep, AtNumber, AtMethod, AtBasic, AfterBasic, AtFact, AtUnfolded, AfterUnfolded, Place, AtCommand, AfterEnd, AtClassName, AfterClassName, AtAbove, AfterAbove, AtParams, AtParam, AfterParam, AtTypeName, AtConstructor, AfterConstructor, AtDomains, AtSort, AfterSort, AtFirstClass, AtNextClass, AfterClass, AtArityClass, AtItem, AfterItem, AtItemType, AfterItemType, AtWhere, AtAxiom, AfterAxiom, AtAxiomText, AfterAxiomText, AtDefinition, AfterDefinition, AtDefinitionType, AfterDefinitionType, AtDefinitionText, OfLemma, OfHave, AtLemma, AfterLemma, AtLemmaText, AtProof, AtHave, AfterHave, AtHaveText, InProof, goes_on, next, run, expected}
use Rattle.pure_grammar.proofs.OuterLemmas.{run-IsTheory}
use Rattle.pure_grammar.proofs.ReadLemmas.{Gets, none, got-file}

-- ---- a type variable that isn't among others
total : List (List ℕ) → ℕ
total [] = 0
total (x ∷ xs) = length x + total xs

letters : ℕ → List ℕ
letters zero = []
letters (suc n) = 97 ∷ letters n

length-letters : (n : ℕ) → length (letters n) ≡ n
unfolding letters
length-letters zero = refl
length-letters (suc n) = ap suc (length-letters n)

fresh : List (List ℕ) → List ℕ
fresh xs = 39 ∷ letters (suc (total xs))

same-other : (w v : List ℕ) → length v < length w → same w v ≡ false
same-other w v shorter = by (same w v) refl
  where
    by : (b : Bool) → same w v ≡ b → b ≡ false
    by true e = absurd (let l : length w ≡ length v = ap length (same_text w v (sym e)) in omega (arith, l, shorter))
    by false e = refl

list_any-long : (w : List ℕ) (xs : List (List ℕ)) → total xs < length w → list_any (same w) xs ≡ false
unfolding total
list_any-long w [] long = refl
list_any-long w (x ∷ xs) long = rw (same-other w x (omega (arith, long))) (list_any-long w xs (omega (arith, long)))

list_any-fresh : (xs : List (List ℕ)) → list_any (same (fresh xs)) xs ≡ false
unfolding fresh
list_any-fresh xs = list_any-long (39 ∷ letters (suc (total xs))) xs (let l : length (letters (suc (total xs))) ≡ suc (total xs) = length-letters (suc (total xs)) in omega (arith, l))

-- ---- each place goes on
record GoesOn (s : State) : Type 0 where
  one : Lexeme
  rest : List Lexeme
  theory : TheoryText
  is_kind : kind_of one ≡ expected s
  gets : Gets s (one ∷ rest) theory

abbrev nowhere : Span
nowhere = record { from = 0; to = 0 }

abbrev the_end : List Lexeme
the_end = Reserved keyword.End ∷ Ends ∷ []

goes-body : (h : Header) (cs : List Command) (p : Place) → GoesOn (InBody h cs p)
goes-body h cs AtCommand = record { one = Reserved keyword.End; rest = Ends ∷ []; theory = _; is_kind = refl; gets = refl }
goes-body h cs AfterEnd = record { one = Ends; rest = []; theory = _; is_kind = refl; gets = refl }
goes-body h cs AtClassName = record { one = Plain (codes "a") nowhere; rest = the_end; theory = _; is_kind = refl; gets = refl }
goes-body h cs (AfterClassName x) = record { one = Reserved keyword.End; rest = Ends ∷ []; theory = _; is_kind = refl; gets = refl }
goes-body h cs (AtAbove x) = record { one = Plain (codes "a") nowhere; rest = the_end; theory = _; is_kind = refl; gets = refl }
goes-body h cs (AfterAbove x as_above) = record { one = Reserved keyword.End; rest = Ends ∷ []; theory = _; is_kind = refl; gets = refl }
goes-body h cs AtParams = record { one = Plain (codes "a") nowhere; rest = the_end; theory = _; is_kind = refl; gets = refl }
goes-body h cs (AfterParam xs) = record { one = Signed sign.CloseParenthesis; rest = Plain (codes "a") nowhere ∷ the_end; theory = _; is_kind = refl; gets = refl }
goes-body h cs (AtTypeName n) = record { one = Plain (codes "a") nowhere; rest = the_end; theory = _; is_kind = refl; gets = refl }
goes-body h cs AtConstructor = record { one = Plain (codes "a") nowhere; rest = Signed sign.DoubleColon ∷ Plain (codes "a") nowhere ∷ the_end; theory = _; is_kind = refl; gets = refl }
goes-body h cs (AfterConstructor k) = record { one = Signed sign.DoubleColon; rest = Plain (codes "a") nowhere ∷ the_end; theory = _; is_kind = refl; gets = refl }
goes-body h cs (AtDomains k) = record { one = Plain (codes "a") nowhere; rest = the_end; theory = _; is_kind = refl; gets = refl }
goes-body h cs (AtSort k doms) = record { one = Plain (codes "a") nowhere; rest = Signed sign.CloseParenthesis ∷ Plain (codes "a") nowhere ∷ the_end; theory = _; is_kind = refl; gets = refl }
goes-body h cs (AfterSort k doms) = record { one = Signed sign.CloseParenthesis; rest = Plain (codes "a") nowhere ∷ the_end; theory = _; is_kind = refl; gets = refl }
goes-body h cs (AtFirstClass k doms) = record { one = Plain (codes "a") nowhere; rest = Signed sign.CloseBrace ∷ Signed sign.CloseParenthesis ∷ Plain (codes "a") nowhere ∷ the_end; theory = _; is_kind = refl; gets = refl }
goes-body h cs (AtNextClass k doms sort) = record { one = Plain (codes "a") nowhere; rest = Signed sign.CloseBrace ∷ Signed sign.CloseParenthesis ∷ Plain (codes "a") nowhere ∷ the_end; theory = _; is_kind = refl; gets = refl }
goes-body h cs (AfterClass k doms sort) = record { one = Signed sign.CloseBrace; rest = Signed sign.CloseParenthesis ∷ Plain (codes "a") nowhere ∷ the_end; theory = _; is_kind = refl; gets = refl }
goes-body h cs (AtArityClass k doms) = record { one = Plain (codes "a") nowhere; rest = the_end; theory = _; is_kind = refl; gets = refl }
goes-body h cs AtItem = record { one = Plain (codes "a") nowhere; rest = Signed sign.DoubleColon ∷ Plain (codes "a") nowhere ∷ the_end; theory = _; is_kind = refl; gets = refl }
goes-body h cs (AfterItem x) = record { one = Signed sign.DoubleColon; rest = Plain (codes "a") nowhere ∷ the_end; theory = _; is_kind = refl; gets = refl }
goes-body h cs (AtItemType x) = record { one = Quoted nowhere; rest = the_end; theory = _; is_kind = refl; gets = refl }
goes-body h cs AfterItemType = record { one = Reserved keyword.End; rest = Ends ∷ []; theory = _; is_kind = refl; gets = refl }
goes-body h cs AtWhere = record { one = Reserved keyword.Where; rest = Plain (codes "a") nowhere ∷ Signed sign.Colon ∷ Quoted nowhere ∷ the_end; theory = _; is_kind = refl; gets = refl }
goes-body h cs AtAxiom = record { one = Plain (codes "a") nowhere; rest = Signed sign.Colon ∷ Quoted nowhere ∷ the_end; theory = _; is_kind = refl; gets = refl }
goes-body h cs (AfterAxiom x) = record { one = Signed sign.Colon; rest = Quoted nowhere ∷ the_end; theory = _; is_kind = refl; gets = refl }
goes-body h cs (AtAxiomText x) = record { one = Quoted nowhere; rest = the_end; theory = _; is_kind = refl; gets = refl }
goes-body h cs AfterAxiomText = record { one = Reserved keyword.End; rest = Ends ∷ []; theory = _; is_kind = refl; gets = refl }
goes-body h cs AtDefinition = record { one = Plain (codes "a") nowhere; rest = Signed sign.DoubleColon ∷ Quoted nowhere ∷ Reserved keyword.Where ∷ Quoted nowhere ∷ the_end; theory = _; is_kind = refl; gets = refl }
goes-body h cs (AfterDefinition x) = record { one = Signed sign.DoubleColon; rest = Quoted nowhere ∷ Reserved keyword.Where ∷ Quoted nowhere ∷ the_end; theory = _; is_kind = refl; gets = refl }
goes-body h cs (AtDefinitionType x) = record { one = Quoted nowhere; rest = Reserved keyword.Where ∷ Quoted nowhere ∷ the_end; theory = _; is_kind = refl; gets = refl }
goes-body h cs (AfterDefinitionType x y) = record { one = Reserved keyword.Where; rest = Quoted nowhere ∷ the_end; theory = _; is_kind = refl; gets = refl }
goes-body h cs (AtDefinitionText x y) = record { one = Quoted nowhere; rest = the_end; theory = _; is_kind = refl; gets = refl }
goes-body h cs AtLemma = record { one = Plain (codes "a") nowhere; rest = Signed sign.Colon ∷ Quoted nowhere ∷ Reserved keyword.Done ∷ the_end; theory = _; is_kind = refl; gets = refl }
goes-body h cs (AfterLemma x) = record { one = Signed sign.Colon; rest = Quoted nowhere ∷ Reserved keyword.Done ∷ the_end; theory = _; is_kind = refl; gets = refl }
goes-body h cs (AtLemmaText x) = record { one = Quoted nowhere; rest = Reserved keyword.Done ∷ the_end; theory = _; is_kind = refl; gets = refl }
goes-body h cs (AtProof m) = record { one = Reserved keyword.Done; rest = the_end; theory = _; is_kind = refl; gets = refl }
goes-body h cs (AtHave m) = record { one = Plain (codes "a") nowhere; rest = Signed sign.Colon ∷ Quoted nowhere ∷ Reserved keyword.Done ∷ Reserved keyword.Done ∷ the_end; theory = _; is_kind = refl; gets = refl }
goes-body h cs (AfterHave m x) = record { one = Signed sign.Colon; rest = Quoted nowhere ∷ Reserved keyword.Done ∷ Reserved keyword.Done ∷ the_end; theory = _; is_kind = refl; gets = refl }
goes-body h cs (AtHaveText m x) = record { one = Quoted nowhere; rest = Reserved keyword.Done ∷ Reserved keyword.Done ∷ the_end; theory = _; is_kind = refl; gets = refl }
goes-body h cs (InProof (OfLemma m) script AtStep) = record { one = Reserved keyword.Done; rest = the_end; theory = _; is_kind = refl; gets = refl }
goes-body h cs (InProof (OfHave m x p) script AtStep) = record { one = Reserved keyword.Done; rest = Reserved keyword.Done ∷ the_end; theory = _; is_kind = refl; gets = refl }
goes-body h cs (InProof (OfLemma m) script AtNumber) = record { one = Numeral 1; rest = Reserved keyword.Done ∷ the_end; theory = _; is_kind = refl; gets = refl }
goes-body h cs (InProof (OfHave m x p) script AtNumber) = record { one = Numeral 1; rest = Reserved keyword.Done ∷ Reserved keyword.Done ∷ the_end; theory = _; is_kind = refl; gets = refl }
goes-body h cs (InProof (OfLemma m) script (AtMethod true)) = record { one = Plain assumption_word nowhere; rest = the_end; theory = _; is_kind = refl; gets = refl }
goes-body h cs (InProof (OfHave m x p) script (AtMethod true)) = record { one = Plain assumption_word nowhere; rest = Reserved keyword.Done ∷ the_end; theory = _; is_kind = refl; gets = refl }
goes-body h cs (InProof (OfLemma m) script (AtBasic true)) = record { one = Plain assumption_word nowhere; rest = Signed sign.CloseParenthesis ∷ the_end; theory = _; is_kind = refl; gets = refl }
goes-body h cs (InProof (OfHave m x p) script (AtBasic true)) = record { one = Plain assumption_word nowhere; rest = Signed sign.CloseParenthesis ∷ Reserved keyword.Done ∷ the_end; theory = _; is_kind = refl; gets = refl }
goes-body h cs (InProof (OfLemma m) script (AfterBasic true)) = record { one = Signed sign.CloseParenthesis; rest = the_end; theory = _; is_kind = refl; gets = refl }
goes-body h cs (InProof (OfHave m x p) script (AfterBasic true)) = record { one = Signed sign.CloseParenthesis; rest = Reserved keyword.Done ∷ the_end; theory = _; is_kind = refl; gets = refl }
goes-body h cs (InProof (OfLemma m) script (AtFact true method)) = record { one = Plain (codes "a") nowhere; rest = Signed sign.CloseParenthesis ∷ the_end; theory = _; is_kind = refl; gets = refl }
goes-body h cs (InProof (OfHave m x p) script (AtFact true method)) = record { one = Plain (codes "a") nowhere; rest = Signed sign.CloseParenthesis ∷ Reserved keyword.Done ∷ the_end; theory = _; is_kind = refl; gets = refl }
goes-body h cs (InProof (OfLemma m) script (AtUnfolded true)) = record { one = Plain (codes "a") nowhere; rest = Signed sign.CloseParenthesis ∷ the_end; theory = _; is_kind = refl; gets = refl }
goes-body h cs (InProof (OfHave m x p) script (AtUnfolded true)) = record { one = Plain (codes "a") nowhere; rest = Signed sign.CloseParenthesis ∷ Reserved keyword.Done ∷ the_end; theory = _; is_kind = refl; gets = refl }
goes-body h cs (InProof (OfLemma m) script (AfterUnfolded true facts)) = record { one = Signed sign.CloseParenthesis; rest = the_end; theory = _; is_kind = refl; gets = refl }
goes-body h cs (InProof (OfHave m x p) script (AfterUnfolded true facts)) = record { one = Signed sign.CloseParenthesis; rest = Reserved keyword.Done ∷ the_end; theory = _; is_kind = refl; gets = refl }
goes-body h cs (InProof (OfLemma m) script (AtMethod false)) = record { one = Plain assumption_word nowhere; rest = Reserved keyword.Done ∷ the_end; theory = _; is_kind = refl; gets = refl }
goes-body h cs (InProof (OfHave m x p) script (AtMethod false)) = record { one = Plain assumption_word nowhere; rest = Reserved keyword.Done ∷ Reserved keyword.Done ∷ the_end; theory = _; is_kind = refl; gets = refl }
goes-body h cs (InProof (OfLemma m) script (AtBasic false)) = record { one = Plain assumption_word nowhere; rest = Signed sign.CloseParenthesis ∷ Reserved keyword.Done ∷ the_end; theory = _; is_kind = refl; gets = refl }
goes-body h cs (InProof (OfHave m x p) script (AtBasic false)) = record { one = Plain assumption_word nowhere; rest = Signed sign.CloseParenthesis ∷ Reserved keyword.Done ∷ Reserved keyword.Done ∷ the_end; theory = _; is_kind = refl; gets = refl }
goes-body h cs (InProof (OfLemma m) script (AfterBasic false)) = record { one = Signed sign.CloseParenthesis; rest = Reserved keyword.Done ∷ the_end; theory = _; is_kind = refl; gets = refl }
goes-body h cs (InProof (OfHave m x p) script (AfterBasic false)) = record { one = Signed sign.CloseParenthesis; rest = Reserved keyword.Done ∷ Reserved keyword.Done ∷ the_end; theory = _; is_kind = refl; gets = refl }
goes-body h cs (InProof (OfLemma m) script (AtFact false method)) = record { one = Plain (codes "a") nowhere; rest = Signed sign.CloseParenthesis ∷ Reserved keyword.Done ∷ the_end; theory = _; is_kind = refl; gets = refl }
goes-body h cs (InProof (OfHave m x p) script (AtFact false method)) = record { one = Plain (codes "a") nowhere; rest = Signed sign.CloseParenthesis ∷ Reserved keyword.Done ∷ Reserved keyword.Done ∷ the_end; theory = _; is_kind = refl; gets = refl }
goes-body h cs (InProof (OfLemma m) script (AtUnfolded false)) = record { one = Plain (codes "a") nowhere; rest = Signed sign.CloseParenthesis ∷ Reserved keyword.Done ∷ the_end; theory = _; is_kind = refl; gets = refl }
goes-body h cs (InProof (OfHave m x p) script (AtUnfolded false)) = record { one = Plain (codes "a") nowhere; rest = Signed sign.CloseParenthesis ∷ Reserved keyword.Done ∷ Reserved keyword.Done ∷ the_end; theory = _; is_kind = refl; gets = refl }
goes-body h cs (InProof (OfLemma m) script (AfterUnfolded false facts)) = record { one = Signed sign.CloseParenthesis; rest = Reserved keyword.Done ∷ the_end; theory = _; is_kind = refl; gets = refl }
goes-body h cs (InProof (OfHave m x p) script (AfterUnfolded false facts)) = record { one = Signed sign.CloseParenthesis; rest = Reserved keyword.Done ∷ Reserved keyword.Done ∷ the_end; theory = _; is_kind = refl; gets = refl }
goes-body h cs (AtParam xs) = record { one = Variable (fresh xs) nowhere; rest = Signed sign.CloseParenthesis ∷ Plain (codes "a") nowhere ∷ the_end; theory = record { version = h.version; name = h.name; imports = h.imports; commands = cs ++ TypeDecl (codes "a") (length (xs ++ fresh xs ∷ [])) ∷ [] }; is_kind = refl; gets = rw (list_any-fresh xs) refl }

-- the source has ended
abbrev pub is_last : State → Bool
is_last (AtLast t) = true
is_last _ = false

goes : (s : State) → is_last s ≡ false → GoesOn s
goes AtStart e = record { one = Reserved keyword.Theory; rest = Plain (codes "a") nowhere ∷ Reserved keyword.Begin ∷ the_end; theory = _; is_kind = refl; gets = refl }
goes AtVersion e = record { one = Numeral 1; rest = Reserved keyword.Theory ∷ Plain (codes "a") nowhere ∷ Reserved keyword.Begin ∷ the_end; theory = _; is_kind = refl; gets = refl }
goes (AfterVersion v) e = record { one = Reserved keyword.Theory; rest = Plain (codes "a") nowhere ∷ Reserved keyword.Begin ∷ the_end; theory = _; is_kind = refl; gets = refl }
goes (AtTheoryName v) e = record { one = Plain (codes "a") nowhere; rest = Reserved keyword.Begin ∷ the_end; theory = _; is_kind = refl; gets = refl }
goes (AfterTheoryName v x) e = record { one = Reserved keyword.Begin; rest = the_end; theory = _; is_kind = refl; gets = refl }
goes (AtImport v x) e = record { one = Plain (codes "a") nowhere; rest = Reserved keyword.Begin ∷ the_end; theory = _; is_kind = refl; gets = refl }
goes (AfterImport h) e = record { one = Reserved keyword.Begin; rest = the_end; theory = _; is_kind = refl; gets = refl }
goes (InBody h cs p) e = goes-body h cs p
goes (AtLast t) e = absurd (true≢false e)

-- ---- where the reader stops
pub record StopsAt (first : State) (ls : List Lexeme) (s : State) (found : Lexeme) (rest : List Lexeme) : Type 0 where
  pub before : List Lexeme
  pub is : ls ≡ before ++ found ∷ rest
  pub reaches : (more : List Lexeme) → run first (before ++ more) ≡ run s more
  pub blocked : next s found ≡ None

abbrev state_of : State → Outcome → State
state_of other (Stuck s found rest) = s
state_of other (Through s) = other

abbrev all_of_it : Outcome → List Lexeme
all_of_it (Stuck s found rest) = found ∷ rest
all_of_it (Through s) = []

abbrev found_of : Lexeme → Outcome → Lexeme
found_of other (Stuck s found rest) = found
found_of other (Through s) = other

abbrev is_stuck : Outcome → Bool
is_stuck (Stuck s found rest) = true
is_stuck (Through s) = false

stops-by : (first : State) (l : Lexeme) (ls : List Lexeme) (s : State) (found : Lexeme) (rest : List Lexeme) (o : Option State) → next first l ≡ o
    → ((u : State) → run u ls ≡ Stuck s found rest → StopsAt u ls s found rest)
    → goes_on o (Stuck first l ls) (λ t. run t ls) ≡ Stuck s found rest → StopsAt first (l ∷ ls) s found rest
stops-by first l ls s found rest None e again g = record {
  before = [];
  is = ap all_of_it g;
  reaches = λ more. ap (λ z. run z more) (ap (state_of first) g);
  blocked = subst (λ z. next z found ≡ None) (ap (state_of first) g) (subst (λ z. next first z ≡ None) (ap (found_of l) g) e);
}
stops-by first l ls s found rest (Some u) e again g =
    let m = again u g in
    record {
      before = l ∷ m.before;
      is = ap (λ z. l ∷ z) m.is;
      reaches = λ more. ap (λ z. goes_on z (Stuck first l (m.before ++ more)) (λ t. run t (m.before ++ more))) e ∙ m.reaches more;
      blocked = m.blocked;
    }

pub stops-at : (first : State) (ls : List Lexeme) (s : State) (found : Lexeme) (rest : List Lexeme) → run first ls ≡ Stuck s found rest → StopsAt first ls s found rest
stops-at first [] s found rest g = absurd (true≢false (sym (ap is_stuck g)))
stops-at first (l ∷ ls) s found rest g = stops-by first l ls s found rest (next first l) refl (λ u. stops-at u ls s found rest) g

pub Gets-IsTheory : (ls : List Lexeme) (t : TheoryText) → Gets AtStart ls t → IsTheory ls t
Gets-IsTheory ls t g = let f = got-file t ls g in record { file = f.file; spelled = sym f.is; means = f.theory; allowed = f.allowed }

may-follow : (before : List Lexeme) (s : State) → ((more : List Lexeme) → run AtStart (before ++ more) ≡ run s more) → GoesOn s → MayFollow before (expected s)
may-follow before s reaches on =
    (on.one, on.is_kind, (on.rest, on.theory, Gets-IsTheory _ on.theory (ap (run AtStart) (append_assoc before (on.one ∷ []) on.rest) ∙ reaches (on.one ∷ on.rest) ∙ on.gets)))

begins-less : (before : List Lexeme) (l : Lexeme) → BeginsTheory (before ++ l ∷ []) → BeginsTheory before
begins-less before l b = (l ∷ b.0, b.1, subst (λ z. IsTheory z b.1) (append_assoc before (l ∷ []) b.0) b.2)

-- the reader doesn't go on with an item that stops it
no-more : (before : List Lexeme) (s : State) (found : Lexeme) → ((more : List Lexeme) → run AtStart (before ++ more) ≡ run s more) → next s found ≡ None
    → BeginsTheory (before ++ found ∷ []) → ⊥
no-more before s found reaches blocked b =
    none (sym (ap (λ z. goes_on z (Stuck s found b.0) (λ t. run t b.0)) blocked) ∙ sym (reaches (found ∷ b.0)) ∙ ap (run AtStart) (sym (append_assoc before (found ∷ []) b.0)) ∙ run-IsTheory _ b.1 b.2) refl

-- the items before the one that stops the reader, and what may stand in its place
pub record Wrong (ls : List Lexeme) (s : State) (found : Lexeme) (rest : List Lexeme) : Type 0 where
  pub before : List Lexeme
  pub wrong : GoesWrong ls before found rest
  pub follows : MayFollow before (expected s)

pub goes-wrong : (ls : List Lexeme) (s : State) (found : Lexeme) (rest : List Lexeme) → run AtStart ls ≡ Stuck s found rest → is_last s ≡ false → Wrong ls s found rest
goes-wrong ls s found rest g e =
    let m = stops-at AtStart ls s found rest g in
    let f : MayFollow m.before (expected s) = may-follow m.before s m.reaches (goes s e) in
    record {
      before = m.before;
      wrong = record { parts = m.is; begins = begins-less m.before f.0 f.2; stops = no-more m.before s found m.reaches m.blocked };
      follows = f;
    }
