-- Each text has a reading.
use Rattle.std.proofs.Common.{◌≡◌, ℕ, zero, suc, ◌+◌, ◌-◌, ◌<◌, ◌≤◌, Bool, true, false, ◌==◌, List, [], ◌∷◌, ◌++◌, length, take, drop, get_or, refl, ap, ◌⊎◌, inl, inr, arith, Option, Some, None}
use Rattle.std.specs.List.{list_all}
use Rattle.std.proofs.Math.Seq.{take-add}
use Rattle.std.proofs.lemmas.Bool.{cases_Bool, cases_lt, cases_eq, and_parts, and_from, or_from, eqb-true}
use Rattle.std.proofs.lemmas.List.{length-drop, drop-drop}
use Rattle.pure_grammar.specs.Tokens.Bytes.{is_letter, is_digit, is_name_byte, is_blank, head_is, marked}
use Rattle.pure_grammar.specs.Tokens.Comment.{Gap, IsSettled, opens_comment}
use Rattle.pure_grammar.specs.Tokens.Comment.Gap.{nothing, blank}
use Rattle.pure_grammar.specs.Tokens.Token.{is_quotable}
use Rattle.pure_grammar.specs.Tokens.Spelling.{Spells, HasFault, IsFault, SomeReading}
use Rattle.pure_grammar.specs.declared.token.Token.{Token}
use Rattle.pure_grammar.specs.declared.token.TokenKind.{TokenKind}
use Rattle.pure_grammar.specs.declared.token.TokenKind.TheVariants.{Qualified, TypeVar, Schem, BoundName, Number, Quote, Symbol}
use Rattle.pure_grammar.proofs.Gaps.{settled-nothing}
use Rattle.pure_lex.specs.Fronts.{IsRun, IsDigits, IsFront, IsGap, IsComment, HasNoComment, HasMarks, IsTaken, is_index, name_kind, begins_other, symbol_length}
use Rattle.pure_lex.proofs.Comments.{comment_end, comment-ends, comment-never}
use Rattle.pure_lex.proofs.Passing.{Gap-append, gap-other, gap-unclosed, comment-some, comment-gap}
use Rattle.pure_lex.proofs.NameFronts.{dotted, name-taken, name-fault, qualified-taken, qualified-fault, qualified-fault_second}
use Rattle.pure_lex.proofs.MarkFronts.{index-none, index-some, type_variable-taken, type_variable-fault, type_variable-none, schematic-taken, schematic-fault, schematic-none, marks-one, marks-two}
use Rattle.pure_lex.proofs.OtherFronts.{number-taken, bound_name-taken, bound_name-none, quote-taken, quote-none, symbol-taken, symbol-none, symbol-comment}
use Rattle.pure_lex.proofs.Steps.{Progress, progress-start, progress-push, progress-end, progress-fault, taken-some}

-- How far a class of bytes goes

record SomeRun (test : ℕ → Bool) (text : List ℕ) : Type 0 where
  len : ℕ
  run : IsRun test text len

some_run : (test : ℕ → Bool) (text : List ℕ) → SomeRun test text
some_run test [] = record { len = 0; run = record { within = omega arith; all = refl; next = refl } }
some_run test (b ∷ text) = elim (cases_Bool (test b)) [
  | inl p ↦ (let r = some_run test text in let within = r.run.within in
      record { len = suc r.len; run = record { within = omega arith; all = and_from (test b) (list_all test (take r.len text)) p r.run.all; next = r.run.next } })
  | inr p ↦ record { len = 0; run = record { within = omega arith; all = refl; next = p } }
]

all-take : (test : ℕ → Bool) (text : List ℕ) (m n : ℕ) → m ≤ n → list_all test (take n text) ≡ true → list_all test (take m text) ≡ true
all-take test text zero n le p = refl
all-take test [] (suc m) n le p = refl
all-take test (b ∷ text) (suc m) zero le p = absurd (omega arith)
all-take test (b ∷ text) (suc m) (suc n) le p =
    let parts = and_parts (test b) (list_all test (take n text)) p in
    and_from (test b) (list_all test (take m text)) parts.0 (all-take test text m n (omega arith) parts.1)

record SomeDigits (text : List ℕ) : Type 0 where
  len : ℕ
  digits : IsDigits text len

some_digits : (text : List ℕ) → SomeDigits text
some_digits text = let r = some_run is_digit text in let within = r.run.within in elim (cases_lt 9 r.len) [
  | inl many ↦ record { len = 9; digits = record { within = omega arith; all = all-take is_digit text 9 r.len (omega arith) r.run.all; bound = omega arith; next = λ few. absurd (omega (arith, few)) } }
  | inr few ↦ record { len = r.len; digits = record { within = within; all = r.run.all; bound = few; next = λ _. r.run.next } }
]

record SomeIndex (text : List ℕ) : Type 0 where
  len : ℕ
  index : IsFront is_index text len

some_index : (text : List ℕ) → SomeIndex text
some_index text = elim (cases_Bool (marked 46 (head_is is_digit) text)) [
  | inl dot ↦ (let d = some_digits (drop 1 text) in record { len = d.len + 1; index = index-some text d.len dot d.digits })
  | inr none ↦ record { len = 0; index = index-none text none }
]

-- Gaps

record SomeComment (text : List ℕ) : Type 0 where
  len : ℕ
  comment : IsComment text len

comment-or : (text : List ℕ) (o : Option ℕ) → opens_comment text ≡ true → comment_end 1 2 (drop 2 text) ≡ o → SomeComment text ⊎ HasNoComment text
comment-or text None p e = inr (comment-never text e)
comment-or text (Some end) p e = inl (record { len = end; comment = comment-ends text end p e })

record SomeGap (text : List ℕ) : Type 0 where
  len : ℕ
  gap : IsGap text len

gap-nothing : SomeGap []
gap-nothing = record { len = 0; gap = record { within = omega arith; blank = nothing; settled = settled-nothing } }

gap-cons : (b : ℕ) (text : List ℕ) → is_blank b ≡ true → SomeGap text → SomeGap (b ∷ text)
gap-cons b text p g = let within = g.gap.within in
    record { len = suc g.len; gap = record { within = omega arith; blank = blank p g.gap.blank; settled = g.gap.settled } }

gap-behind : (text : List ℕ) (len : ℕ) → IsComment text len → SomeGap (drop len text) → SomeGap text
gap-behind text len x g =
    let bound = x.cut.within in
    let inner : g.len ≤ length text - len = simp length-drop at g.gap.within in
    let settled : IsSettled (drop (len + g.len) text) = rw drop-drop at g.gap.settled in
    let whole : Gap (take (len + g.len) text) = rw (take-add len g.len text) (Gap-append (take g.len (drop len text)) (comment-gap text len x) g.gap.blank) in
    record { len = len + g.len; gap = record { within = omega arith; blank = whole; settled = settled } }

some_gap : (fuel : ℕ) (text : List ℕ) → length text ≤ fuel → SomeGap text
some_gap fuel [] le = gap-nothing
some_gap zero (b ∷ text) le = absurd (omega arith)
some_gap (suc fuel) (b ∷ text) le = elim (cases_Bool (is_blank b)) [
  | inl p ↦ gap-cons b text p (some_gap fuel text (omega arith))
  | inr p ↦ elim (cases_Bool (opens_comment (b ∷ text))) [
    | inr none ↦ record { len = 0; gap = gap-other (b ∷ text) 0 (omega arith) nothing p none }
    | inl opens ↦ elim (comment-or (b ∷ text) (comment_end 1 2 (drop 2 (b ∷ text))) opens refl) [
      | inl c ↦ (let some = comment-some (b ∷ text) 0 c.len (omega arith) c.comment in
          let shorter : length (drop c.len (b ∷ text)) ≤ fuel = simp length-drop (omega (arith, some.1)) in
          gap-behind (b ∷ text) c.len c.comment (some_gap fuel (drop c.len (b ∷ text)) shorter))
      | inr never ↦ record { len = 0; gap = gap-unclosed (b ∷ text) 0 (omega arith) nothing opens never }
    ]
  ]
]

-- First tokens

record SomeToken (text : List ℕ) : Type 0 where
  kind : TokenKind
  len : ℕ
  taken : IsTaken text kind len

record SomeFault (text : List ℕ) : Type 0 where
  skipped : ℕ
  fault : IsFault text skipped

abbrev Read : List ℕ → Type 0
Read text = SomeToken text ⊎ SomeFault text

read-token : (text : List ℕ) (kind : TokenKind) (len : ℕ) → IsTaken text kind len → Read text
read-token text kind len x = inl (record { kind = kind; len = len; taken = x })

read-fault : (text : List ℕ) (skipped : ℕ) → IsFault text skipped → Read text
read-fault text skipped f = inr (record { skipped = skipped; fault = f })

read-name : (text : List ℕ) → head_is is_letter text ≡ true → Read text
read-name text letter =
    let r = some_run is_name_byte text in
    let s = some_run is_name_byte (drop (r.len + 1) text) in
    elim (cases_Bool (marked 46 (head_is is_letter) (drop r.len text))) [
      | inl dot ↦ elim (cases_lt 64 r.len) [
        | inl long ↦ read-fault text 0 (qualified-fault text r.len s.len letter r.run (dotted text r.len dot) s.run long)
        | inr short ↦ elim (cases_lt 64 s.len) [
          | inl long ↦ read-fault text (r.len + 1) (qualified-fault_second text r.len s.len letter r.run (dotted text r.len dot) s.run short long)
          | inr also ↦ read-token text Qualified (r.len + 1 + s.len) (qualified-taken text r.len s.len letter r.run (dotted text r.len dot) s.run short also)
        ]
      ]
      | inr none ↦ elim (cases_lt 64 r.len) [
        | inl long ↦ read-fault text 0 (name-fault text r.len letter r.run none long)
        | inr short ↦ read-token text (name_kind (take r.len text)) r.len (name-taken text r.len letter r.run none short)
      ]
    ]

read-number : (text : List ℕ) → head_is is_digit text ≡ true → Read text
read-number text digit = let d = some_digits text in read-token text Number d.len (number-taken text d.len digit d.digits)

read-type_variable : (text : List ℕ) → text ≡ 39 ∷ drop 1 text → Read text
read-type_variable text e =
    let r = some_run is_name_byte (drop 1 text) in
    elim (cases_Bool (head_is is_letter (drop 1 text))) [
      | inr none ↦ read-fault text 0 (type_variable-none text e none)
      | inl letter ↦ elim (cases_lt 64 r.len) [
        | inl long ↦ read-fault text 0 (type_variable-fault text r.len e letter r.run long)
        | inr short ↦ read-token text TypeVar (r.len + 1) (type_variable-taken text r.len e letter r.run short)
      ]
    ]

read-marked : (text : List ℕ) (marks : ℕ) → HasMarks text marks → Read text
read-marked text marks h =
    let r = some_run is_name_byte (drop marks text) in
    let i = some_index (drop r.len (drop marks text)) in
    elim (cases_Bool (head_is is_letter (drop marks text))) [
      | inr none ↦ read-fault text 0 (schematic-none text marks h none)
      | inl letter ↦ elim (cases_lt 64 r.len) [
        | inl long ↦ read-fault text 0 (schematic-fault text marks r.len i.len h letter r.run i.index long)
        | inr short ↦ read-token text Schem (marks + r.len + i.len) (schematic-taken text marks r.len i.len h letter r.run i.index short)
      ]
    ]

read-schematic : (text : List ℕ) → get_or text 0 0 ≡ 63 → Read text
read-schematic text e = elim (cases_eq (get_or text 1 0) 39) [
  | inl mark ↦ read-marked text 2 (marks-two text e mark)
  | inr none ↦ read-marked text 1 (marks-one text e none)
]

read-bound_name : (text : List ℕ) → text ≡ 95 ∷ drop 1 text → Read text
read-bound_name text e =
    let d = some_digits (drop 1 text) in
    elim (cases_Bool (head_is is_digit (drop 1 text))) [
      | inl digit ↦ read-token text BoundName (d.len + 1) (bound_name-taken text d.len e digit d.digits)
      | inr none ↦ read-fault text 0 (bound_name-none text e none)
    ]

read-quote : (text : List ℕ) → text ≡ 34 ∷ drop 1 text → Read text
read-quote text e =
    let r = some_run is_quotable (drop 1 text) in
    elim (cases_eq (get_or (drop 1 text) r.len 0) 34) [
      | inl mark ↦ read-token text Quote (r.len + 2) (quote-taken text r.len e r.run mark)
      | inr none ↦ read-fault text 0 (quote-none text r.len e r.run none)
    ]

read-symbol : (text : List ℕ) → 0 < length text → begins_other (get_or text 0 0) ≡ false → Read text
read-symbol text some other =
    let len : ℕ = symbol_length (get_or text 0 0) (get_or text 1 0) (get_or text 2 0) in
    elim (cases_Bool (opens_comment text)) [
      | inl opens ↦ read-fault text 0 (symbol-comment text opens)
      | inr none ↦ elim (cases_eq (symbol_length (get_or text 0 0) (get_or text 1 0) (get_or text 2 0)) 0) [
        | inl zero_bytes ↦ read-fault text 0 (symbol-none text some other zero_bytes)
        | inr bytes ↦ read-token text Symbol (symbol_length (get_or text 0 0) (get_or text 1 0) (get_or text 2 0)) (symbol-taken text some none bytes)
      ]
    ]

read : (b : ℕ) (text : List ℕ) → Read (b ∷ text)
read b text = elim (cases_Bool (is_letter b)) [
  | inl letter ↦ read-name (b ∷ text) letter
  | inr one ↦ elim (cases_Bool (is_digit b)) [
    | inl digit ↦ read-number (b ∷ text) digit
    | inr two ↦ elim (cases_Bool (b == 39)) [
      | inl mark ↦ read-type_variable (b ∷ text) (ap (λ x. x ∷ text) (eqb-true b 39 mark))
      | inr three ↦ elim (cases_Bool (b == 63)) [
        | inl mark ↦ read-schematic (b ∷ text) (eqb-true b 63 mark)
        | inr four ↦ elim (cases_Bool (b == 95)) [
          | inl mark ↦ read-bound_name (b ∷ text) (ap (λ x. x ∷ text) (eqb-true b 95 mark))
          | inr five ↦ elim (cases_Bool (b == 34)) [
            | inl mark ↦ read-quote (b ∷ text) (ap (λ x. x ∷ text) (eqb-true b 34 mark))
            | inr six ↦ read-symbol (b ∷ text) (omega arith) (no_other b one two three four five six)
          ]
        ]
      ]
    ]
  ]
]
  where
    no_other : (b : ℕ) → is_letter b ≡ false → is_digit b ≡ false → b == 39 ≡ false → b == 63 ≡ false → b == 95 ≡ false → b == 34 ≡ false → begins_other b ≡ false
    no_other b one two three four five six =
        or_from (is_letter b) _ one (or_from (is_digit b) _ two (or_from (b == 39) _ three (or_from (b == 63) _ four (or_from (b == 95) (b == 34) five six))))

read-some : (text : List ℕ) → (length text ≡ 0) ⊎ Read text
read-some [] = inl refl
read-some (b ∷ text) = inr (read b text)

-- Whole texts

abbrev Reading : ℕ → List ℕ → Type 0
Reading to text = ((ts : List Token) × Spells to ts text) ⊎ ((place : ℕ) × HasFault to text place)

-- more was read, and the place moved on
record More (to : ℕ) (text : List ℕ) (at : ℕ) : Type 0 where
  found : List Token
  next : ℕ
  progress : Progress to text found next
  further : at < next

token_at : TokenKind → ℕ → ℕ → Token
token_at kind from to = record { kind = kind; from = from; to = to }

step : (to from : ℕ) (text : List ℕ) (found : List Token) (at : ℕ) → from + length text ≡ to → Progress to text found at → Reading to text ⊎ More to text at
unfolding token_at
step to from text found at whole r =
    let g = some_gap (length (drop at text)) (drop at text) (omega arith) in
    elim (read-some (drop (at + g.len) text)) [
      | inl none ↦ inl (inl (found, progress-end to text found at g.len r g.gap none))
      | inr some ↦ elim some [
        | inl x ↦ inr (record {
          found = found ++ (token_at x.kind (from + (at + g.len)) (from + (at + g.len + x.len)) ∷ []);
          next = at + g.len + x.len;
          progress = progress-push to from text found at g.len x.len (token_at x.kind (from + (at + g.len)) (from + (at + g.len + x.len))) whole r g.gap x.taken refl refl;
          further = omega (arith, taken-some (drop (at + g.len) text) x.kind x.len x.taken);
        })
        | inr f ↦ inl (inr (from + (at + g.len + f.skipped), progress-fault to from text found at g.len f.skipped whole r g.gap f.fault))
      ]
    ]

read_from : (fuel to from : ℕ) (text : List ℕ) (found : List Token) (at : ℕ) → from + length text ≡ to → length text ≤ at + fuel → Progress to text found at → Reading to text
read_from zero to from text found at whole enough r = elim (step to from text found at whole r) [
  | inl reading ↦ reading
  | inr m ↦ (let within = m.progress.within in absurd (omega (arith, m.further)))
]
read_from (suc fuel) to from text found at whole enough r = elim (step to from text found at whole r) [
  | inl reading ↦ reading
  | inr m ↦ read_from fuel to from text m.found m.next whole (omega (arith, m.further)) m.progress
]

pub some_reading : SomeReading
some_reading to bytes fits = read_from (length bytes) to (to - length bytes) bytes [] 0 (omega arith) (omega arith) (progress-start to bytes)
