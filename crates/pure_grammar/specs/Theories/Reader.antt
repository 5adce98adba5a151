-- What a reader of a theory's text does with one lexeme after another. Outer says what the text means.
use Rattle.std.specs.Prelude.{ℕ, ◌==◌, Bool, true, false, Option, Some, None, List, [], ◌∷◌, ◌++◌, length, if◌then◌else◌, codes}
use Rattle.std.specs.List.{list_any}
use Rattle.pure_grammar.specs.declared.lexeme.Keyword.TheVariants as keyword
use Rattle.pure_grammar.specs.declared.lexeme.Sign.TheVariants as sign
use Rattle.pure_grammar.specs.declared.token.TokenKind.{TokenKind}
use Rattle.pure_grammar.specs.declared.token.TokenKind.TheVariants as kind
use Rattle.pure_grammar.specs.Theories.TheoryText.{Span, Step, Have, Command, TheoryText}
use Rattle.pure_grammar.specs.Theories.TheoryText as tree
use Rattle.pure_grammar.specs.Theories.Lexeme.{Lexeme, Ends, same, is_word, is_sign, is_ident, ident_in, name_in, variable_in, number_in, quote_in, type_in}
use Rattle.pure_grammar.specs.Theories.PhraseTree.{with_text}
use Rattle.pure_grammar.specs.Theories.PhraseText.{assumption_word, rule_word, erule_word, drule_word, unfold_word}

-- which of the methods takes one fact
pub data FactMethod : Type 0 where
  OfRule : FactMethod
  OfErule : FactMethod
  OfDrule : FactMethod

abbrev pub fact_step : FactMethod → List ℕ → Step
fact_step OfRule fact = tree.Rule fact
fact_step OfErule fact = tree.Erule fact
fact_step OfDrule fact = tree.Drule fact

-- A place in a proof; `last` says that the method is that of `by`.
pub data ProofPlace : Type 0 where
  AtStep : ProofPlace
  AtNumber : ProofPlace
  AtMethod : (last : Bool) → ProofPlace
  AtBasic : (last : Bool) → ProofPlace
  AfterBasic : (last : Bool) → ProofPlace
  AtFact : (last : Bool) → (method : FactMethod) → ProofPlace
  AtUnfolded : (last : Bool) → ProofPlace
  AfterUnfolded : (last : Bool) → (facts : List (List ℕ)) → ProofPlace

-- A lemma whose own proof hasn't begun, with its haves so far.
pub record OpenLemma : Type 0 where
  pub name : List ℕ
  pub prop : Span
  pub haves : List Have

abbrev pub with_have : OpenLemma → List ℕ → Span → List Step → OpenLemma
with_have lemma name prop script = record {
  name = lemma.name;
  prop = lemma.prop;
  haves = lemma.haves ++ (record { name = name; prop = prop; script = script }) ∷ [];
}

-- What a proof is of: a lemma, or a have of it with this name and text.
pub data Goal : Type 0 where
  OfLemma : (lemma : OpenLemma) → Goal
  OfHave : (lemma : OpenLemma) → (name : List ℕ) → (prop : Span) → Goal

-- A place among the commands, with what was read of the current one.
pub data Place : Type 0 where
  AtCommand : Place
  AfterEnd : Place
  AtClassName : Place
  AfterClassName : (name : List ℕ) → Place
  AtAbove : (name : List ℕ) → Place
  AfterAbove : (name : List ℕ) → (above : List (List ℕ)) → Place
  AtParams : Place
  AtParam : (params : List (List ℕ)) → Place
  AfterParam : (params : List (List ℕ)) → Place
  AtTypeName : (params : ℕ) → Place
  AtConstructor : Place
  AfterConstructor : (con : List ℕ) → Place
  AtDomains : (con : List ℕ) → Place
  AtSort : (con : List ℕ) → (doms : List (List (List ℕ))) → Place
  AfterSort : (con : List ℕ) → (doms : List (List (List ℕ))) → Place
  AtFirstClass : (con : List ℕ) → (doms : List (List (List ℕ))) → Place
  AtNextClass : (con : List ℕ) → (doms : List (List (List ℕ))) → (sort : List (List ℕ)) → Place
  AfterClass : (con : List ℕ) → (doms : List (List (List ℕ))) → (sort : List (List ℕ)) → Place
  AtArityClass : (con : List ℕ) → (doms : List (List (List ℕ))) → Place
  AtItem : Place
  AfterItem : (name : List ℕ) → Place
  AtItemType : (name : List ℕ) → Place
  AfterItemType : Place
  AtWhere : Place
  AtAxiom : Place
  AfterAxiom : (name : List ℕ) → Place
  AtAxiomText : (name : List ℕ) → Place
  AfterAxiomText : Place
  AtDefinition : Place
  AfterDefinition : (name : List ℕ) → Place
  AtDefinitionType : (name : List ℕ) → Place
  AfterDefinitionType : (name : List ℕ) → (typ : Span) → Place
  AtDefinitionText : (name : List ℕ) → (typ : Span) → Place
  AtLemma : Place
  AfterLemma : (name : List ℕ) → Place
  AtLemmaText : (name : List ℕ) → Place
  AtProof : (lemma : OpenLemma) → Place
  AtHave : (lemma : OpenLemma) → Place
  AfterHave : (lemma : OpenLemma) → (name : List ℕ) → Place
  AtHaveText : (lemma : OpenLemma) → (name : List ℕ) → Place
  InProof : (goal : Goal) → (script : List Step) → (place : ProofPlace) → Place

-- What a lexeme leads to: another place, or a command that it ends and another place, or nothing.
pub data Turn : Type 0 where
  Moves : (place : Place) → Turn
  Adds : (command : Command) → (place : Place) → Turn
  Refuses : Turn

-- to another place with what the lexeme is, or nothing
abbrev pub moves_with : {A : Type 0} → (A → Place) → Option A → Turn
moves_with place None = Refuses
moves_with place (Some x) = Moves (place x)

abbrev pub adds_with : {A : Type 0} → (A → Command) → Place → Option A → Turn
adds_with command place None = Refuses
adds_with command place (Some x) = Adds (command x) place

abbrev pub moves_if : Bool → Place → Turn
moves_if true place = Moves place
moves_if false place = Refuses

-- what begins with the lexeme: a command, or the end
abbrev pub command_begun : Lexeme → Option Place
command_begun l =
    if is_word keyword.Class l then Some AtClassName
    else (if is_word keyword.Typedecl l then Some AtParams
    else (if is_word keyword.Arities l then Some AtConstructor
    else (if is_word keyword.Consts l then Some AtItem
    else (if is_word keyword.Axiomatization l then Some AtWhere
    else (if is_word keyword.Definition l then Some AtDefinition
    else (if is_word keyword.Lemma l then Some AtLemma
    else (if is_word keyword.Theorem l then Some AtLemma
    else (if is_word keyword.End l then Some AfterEnd
    else None))))))))

-- the next command begins, or the end
abbrev pub leave : Option Place → Turn
leave None = Refuses
leave (Some place) = Moves place

-- this command ends, and the next one begins, or the end
abbrev pub leave_with : Command → Option Place → Turn
leave_with command None = Refuses
leave_with command (Some place) = Adds command place

-- a type variable that is new goes on to a place
abbrev pub new_param : List (List ℕ) → Option (List ℕ) → Turn
new_param params None = Refuses
new_param params (Some x) = if list_any (same x) params then Refuses else Moves (AfterParam (params ++ x ∷ []))

-- A proof is read: that of a lemma ends its command, that of a have puts the have behind the others.
abbrev pub proved : Goal → List Step → Turn
proved (OfLemma lemma) script = Adds (tree.Lemma lemma.name lemma.prop lemma.haves script) AtCommand
proved (OfHave lemma name prop) script = Moves (AtProof (with_have lemma name prop script))

-- A step of the proof is read; behind the last one `by m` closes.
abbrev pub after_method : Goal → Bool → List Step → Turn
after_method goal true script = proved goal (script ++ (tree.Close ∷ tree.Done ∷ []))
after_method goal false script = Moves (InProof goal script AtStep)

abbrev pub basic_turn : Goal → List Step → Bool → Lexeme → Turn
basic_turn goal script last l =
    if is_ident assumption_word l then Moves (InProof goal (script ++ tree.Assumption ∷ []) (AfterBasic last))
    else (if is_ident rule_word l then Moves (InProof goal script (AtFact last OfRule))
    else (if is_ident erule_word l then Moves (InProof goal script (AtFact last OfErule))
    else (if is_ident drule_word l then Moves (InProof goal script (AtFact last OfDrule))
    else (if is_ident unfold_word l then Moves (InProof goal script (AtUnfolded last))
    else Refuses))))

-- behind a basic method
abbrev pub basic_end : Goal → List Step → Bool → Lexeme → Turn
basic_end goal script last l =
    if is_sign sign.Comma l then Moves (InProof goal script (AtBasic last))
    else (if is_sign sign.CloseParenthesis l then after_method goal last script
    else Refuses)

abbrev pub step_turn : Goal → List Step → Lexeme → Turn
step_turn goal script l =
    if is_word keyword.Apply l then Moves (InProof goal script (AtMethod false))
    else (if is_word keyword.Prefer l then Moves (InProof goal script AtNumber)
    else (if is_word keyword.Defer l then Moves (InProof goal (script ++ tree.Defer ∷ []) AtStep)
    else (if is_word keyword.Done l then proved goal (script ++ tree.Done ∷ [])
    else (if is_word keyword.By l then Moves (InProof goal script (AtMethod true))
    else Refuses))))

abbrev pub after_unfolded : Goal → List Step → Bool → List (List ℕ) → Lexeme → Option (List ℕ) → Turn
after_unfolded goal script last facts l (Some fact) = Moves (InProof goal script (AfterUnfolded last (facts ++ fact ∷ [])))
after_unfolded goal script last facts l None = basic_end goal (script ++ tree.Unfold facts ∷ []) last l

abbrev pub proof_turn : Goal → List Step → ProofPlace → Lexeme → Turn
proof_turn goal script AtStep l = step_turn goal script l
proof_turn goal script AtNumber l = moves_with (λ n. InProof goal (script ++ tree.Prefer n ∷ []) AtStep) (number_in l)
proof_turn goal script (AtMethod last) l =
    if is_ident assumption_word l then after_method goal last (script ++ tree.Assumption ∷ [])
    else moves_if (is_sign sign.OpenParenthesis l) (InProof goal script (AtBasic last))
proof_turn goal script (AtBasic last) l = basic_turn goal script last l
proof_turn goal script (AfterBasic last) l = basic_end goal script last l
proof_turn goal script (AtFact last method) l = moves_with (λ fact. InProof goal (script ++ fact_step method fact ∷ []) (AfterBasic last)) (name_in l)
proof_turn goal script (AtUnfolded last) l = moves_with (λ fact. InProof goal script (AfterUnfolded last (fact ∷ []))) (name_in l)
proof_turn goal script (AfterUnfolded last facts) l = after_unfolded goal script last facts l (name_in l)

-- a have begins, but not in a file of version 1
abbrev pub have_begun : OpenLemma → Bool → Turn
have_begun lemma true = Refuses
have_begun lemma false = Moves (AtHave lemma)

-- behind the statement of a lemma, or behind one of its haves
abbrev pub lemma_turn : ℕ → OpenLemma → Lexeme → Turn
lemma_turn version lemma l = if is_word keyword.Have l then have_begun lemma (version == 1) else step_turn (OfLemma lemma) [] l

abbrev pub after_above : List ℕ → List (List ℕ) → Lexeme → Option (List ℕ) → Turn
after_above name above l (Some x) = Moves (AfterAbove name (above ++ x ∷ []))
after_above name above l None = leave_with (tree.Class name above) (command_begun l)

abbrev pub params_turn : Lexeme → Option (List ℕ) → Turn
params_turn l (Some x) = Moves (AtTypeName 1)
params_turn l None =
    if is_sign sign.OpenParenthesis l then Moves (AtParam [])
    else adds_with (λ x. tree.TypeDecl x 0) AtCommand (ident_in l)

abbrev pub domains_turn : List ℕ → Lexeme → Turn
domains_turn con l =
    if is_sign sign.OpenParenthesis l then Moves (AtSort con [])
    else adds_with (λ c. tree.Arity con [] c) AtCommand (name_in l)

abbrev pub sort_turn : List ℕ → List (List (List ℕ)) → Lexeme → Turn
sort_turn con doms l =
    if is_sign sign.OpenBrace l then Moves (AtFirstClass con doms)
    else moves_with (λ c. AfterSort con (doms ++ (c ∷ []) ∷ [])) (name_in l)

abbrev pub after_sort : List ℕ → List (List (List ℕ)) → Lexeme → Turn
after_sort con doms l =
    if is_sign sign.Comma l then Moves (AtSort con doms)
    else moves_if (is_sign sign.CloseParenthesis l) (AtArityClass con doms)

abbrev pub first_class_turn : List ℕ → List (List (List ℕ)) → Lexeme → Turn
first_class_turn con doms l =
    if is_sign sign.CloseBrace l then Moves (AfterSort con (doms ++ [] ∷ []))
    else moves_with (λ c. AfterClass con doms (c ∷ [])) (name_in l)

abbrev pub after_class : List ℕ → List (List (List ℕ)) → List (List ℕ) → Lexeme → Turn
after_class con doms sort l =
    if is_sign sign.Comma l then Moves (AtNextClass con doms sort)
    else moves_if (is_sign sign.CloseBrace l) (AfterSort con (doms ++ sort ∷ []))

abbrev pub after_item_type : Lexeme → Option (List ℕ) → Turn
after_item_type l (Some x) = Moves (AfterItem x)
after_item_type l None = leave (command_begun l)

-- what a lexeme leads to in a file of this version
abbrev pub turn : ℕ → Place → Lexeme → Turn
turn version AtCommand l = leave (command_begun l)
turn version AfterEnd l = Refuses
turn version AtClassName l = moves_with (λ x. AfterClassName x) (ident_in l)
turn version (AfterClassName x) l = if is_sign sign.Less l then Moves (AtAbove x) else leave_with (tree.Class x []) (command_begun l)
turn version (AtAbove x) l = moves_with (λ c. AfterAbove x (c ∷ [])) (name_in l)
turn version (AfterAbove x cs) l = after_above x cs l (name_in l)
turn version AtParams l = params_turn l (variable_in l)
turn version (AtParam xs) l = new_param xs (variable_in l)
turn version (AfterParam xs) l = if is_sign sign.Comma l then Moves (AtParam xs) else moves_if (is_sign sign.CloseParenthesis l) (AtTypeName (length xs))
turn version (AtTypeName n) l = adds_with (λ x. tree.TypeDecl x n) AtCommand (ident_in l)
turn version AtConstructor l = moves_with (λ k. AfterConstructor k) (name_in l)
turn version (AfterConstructor k) l = moves_if (is_sign sign.DoubleColon l) (AtDomains k)
turn version (AtDomains k) l = domains_turn k l
turn version (AtSort k doms) l = sort_turn k doms l
turn version (AfterSort k doms) l = after_sort k doms l
turn version (AtFirstClass k doms) l = first_class_turn k doms l
turn version (AtNextClass k doms cs) l = moves_with (λ c. AfterClass k doms (cs ++ c ∷ [])) (name_in l)
turn version (AfterClass k doms cs) l = after_class k doms cs l
turn version (AtArityClass k doms) l = adds_with (λ c. tree.Arity k doms c) AtCommand (name_in l)
turn version AtItem l = moves_with (λ x. AfterItem x) (ident_in l)
turn version (AfterItem x) l = moves_if (is_sign sign.DoubleColon l) (AtItemType x)
turn version (AtItemType x) l = adds_with (λ t. tree.Const x t) AfterItemType (type_in l)
turn version AfterItemType l = after_item_type l (ident_in l)
turn version AtWhere l = moves_if (is_word keyword.Where l) AtAxiom
turn version AtAxiom l = moves_with (λ x. AfterAxiom x) (ident_in l)
turn version (AfterAxiom x) l = moves_if (is_sign sign.Colon l) (AtAxiomText x)
turn version (AtAxiomText x) l = adds_with (λ p. tree.Axiom x p) AfterAxiomText (quote_in l)
turn version AfterAxiomText l = if is_word keyword.And l then Moves AtAxiom else leave (command_begun l)
turn version AtDefinition l = moves_with (λ x. AfterDefinition x) (ident_in l)
turn version (AfterDefinition x) l = moves_if (is_sign sign.DoubleColon l) (AtDefinitionType x)
turn version (AtDefinitionType x) l = moves_with (λ t. AfterDefinitionType x t) (type_in l)
turn version (AfterDefinitionType x t) l = moves_if (is_word keyword.Where l) (AtDefinitionText x t)
turn version (AtDefinitionText x t) l = adds_with (λ p. tree.Definition x t p) AtCommand (quote_in l)
turn version AtLemma l = moves_with (λ x. AfterLemma x) (ident_in l)
turn version (AfterLemma x) l = moves_if (is_sign sign.Colon l) (AtLemmaText x)
turn version (AtLemmaText x) l = moves_with (λ p. AtProof (record { name = x; prop = p; haves = [] })) (quote_in l)
turn version (AtProof lemma) l = lemma_turn version lemma l
turn version (AtHave lemma) l = moves_with (λ x. AfterHave lemma x) (ident_in l)
turn version (AfterHave lemma x) l = moves_if (is_sign sign.Colon l) (AtHaveText lemma x)
turn version (AtHaveText lemma x) l = moves_with (λ p. InProof (OfHave lemma x p) [] AtStep) (quote_in l)
turn version (InProof goal script place) l = proof_turn goal script place l

-- the version, the name and the imports of a theory
pub record Header : Type 0 where
  pub version : ℕ
  pub name : List ℕ
  pub imports : List (List ℕ)

-- A place in the text, with what was read before it.
pub data State : Type 0 where
  AtStart : State
  AtVersion : State
  AfterVersion : (version : ℕ) → State
  AtTheoryName : (version : ℕ) → State
  AfterTheoryName : (version : ℕ) → (name : List ℕ) → State
  AtImport : (version : ℕ) → (name : List ℕ) → State
  AfterImport : (header : Header) → State
  InBody : (header : Header) → (commands : List Command) → (place : Place) → State
  AtLast : (theory : TheoryText) → State

abbrev pub goes_if : Bool → State → Option State
goes_if true s = Some s
goes_if false s = None

abbrev pub goes_with : {A : Type 0} → (A → State) → Option A → Option State
goes_with state None = None
goes_with state (Some x) = Some (state x)

abbrev pub body_begun : Header → State
body_begun h = InBody h [] AtCommand

abbrev pub after_import : Header → Lexeme → Option (List ℕ) → Option State
after_import h l (Some x) = Some (AfterImport (record { version = h.version; name = h.name; imports = with_text h.imports x }))
after_import h l None = goes_if (is_word keyword.Begin l) (body_begun h)

abbrev pub body_state : Header → List Command → Turn → Option State
body_state h cs (Moves place) = Some (InBody h cs place)
body_state h cs (Adds c place) = Some (InBody h (cs ++ c ∷ []) place)
body_state h cs Refuses = None

-- behind `end` the source ends
abbrev pub is_after_end : Place → Bool
is_after_end AfterEnd = true
is_after_end _ = false

abbrev pub body_next : Header → List Command → Place → Lexeme → Option State
body_next h cs place Ends = goes_if (is_after_end place) (AtLast (record { version = h.version; name = h.name; imports = h.imports; commands = cs }))
body_next h cs place l = body_state h cs (turn h.version place l)

-- where the text is, behind one more token
abbrev pub next : State → Lexeme → Option State
next AtStart l = if is_word keyword.Version l then Some AtVersion else goes_if (is_word keyword.Theory l) (AtTheoryName 1)
next AtVersion l = goes_with (λ version. AfterVersion version) (number_in l)
next (AfterVersion version) l = goes_if (is_word keyword.Theory l) (AtTheoryName version)
next (AtTheoryName version) l = goes_with (λ x. AfterTheoryName version x) (ident_in l)
next (AfterTheoryName version x) l =
    if is_word keyword.Imports l then Some (AtImport version x)
    else goes_if (is_word keyword.Begin l) (body_begun (record { version = version; name = x; imports = codes "Pure" ∷ [] }))
next (AtImport version x) l = goes_with (λ i. AfterImport (record { version = version; name = x; imports = i ∷ [] })) (ident_in l)
next (AfterImport h) l = after_import h l (ident_in l)
next (InBody h cs place) l = body_next h cs place l
next (AtLast t) l = None

-- The reader has read all, or stops in a place at an item.
pub data Outcome : Type 0 where
  Through : (state : State) → Outcome
  Stuck : (state : State) → (found : Lexeme) → (rest : List Lexeme) → Outcome

abbrev pub goes_on : Option State → Outcome → (State → Outcome) → Outcome
goes_on None stuck on = stuck
goes_on (Some state) stuck on = on state

abbrev pub run : State → List Lexeme → Outcome
run s [] = Through s
run s (l ∷ ls) = goes_on (next s l) (Stuck s l ls) (λ t. run t ls)

-- a kind that may stand in a place of a proof
abbrev pub kind_in_proof : ProofPlace → TokenKind
kind_in_proof AtStep = kind.Word
kind_in_proof AtNumber = kind.Number
kind_in_proof (AtMethod last) = kind.Ident
kind_in_proof (AtBasic last) = kind.Ident
kind_in_proof (AfterBasic last) = kind.Symbol
kind_in_proof (AtFact last method) = kind.Ident
kind_in_proof (AtUnfolded last) = kind.Ident
kind_in_proof (AfterUnfolded last facts) = kind.Symbol

-- a kind that may stand in a place
abbrev pub kind_at : Place → TokenKind
kind_at AtCommand = kind.Word
kind_at AfterEnd = kind.End
kind_at AtClassName = kind.Ident
kind_at (AfterClassName x) = kind.Word
kind_at (AtAbove x) = kind.Ident
kind_at (AfterAbove x cs) = kind.Word
kind_at AtParams = kind.Ident
kind_at (AtParam xs) = kind.TypeVar
kind_at (AfterParam xs) = kind.Symbol
kind_at (AtTypeName n) = kind.Ident
kind_at AtConstructor = kind.Ident
kind_at (AfterConstructor k) = kind.Symbol
kind_at (AtDomains k) = kind.Ident
kind_at (AtSort k doms) = kind.Ident
kind_at (AfterSort k doms) = kind.Symbol
kind_at (AtFirstClass k doms) = kind.Ident
kind_at (AtNextClass k doms cs) = kind.Ident
kind_at (AfterClass k doms cs) = kind.Symbol
kind_at (AtArityClass k doms) = kind.Ident
kind_at AtItem = kind.Ident
kind_at (AfterItem x) = kind.Symbol
kind_at (AtItemType x) = kind.Quote
kind_at AfterItemType = kind.Word
kind_at AtWhere = kind.Word
kind_at AtAxiom = kind.Ident
kind_at (AfterAxiom x) = kind.Symbol
kind_at (AtAxiomText x) = kind.Quote
kind_at AfterAxiomText = kind.Word
kind_at AtDefinition = kind.Ident
kind_at (AfterDefinition x) = kind.Symbol
kind_at (AtDefinitionType x) = kind.Quote
kind_at (AfterDefinitionType x t) = kind.Word
kind_at (AtDefinitionText x t) = kind.Quote
kind_at AtLemma = kind.Ident
kind_at (AfterLemma x) = kind.Symbol
kind_at (AtLemmaText x) = kind.Quote
kind_at (AtProof lemma) = kind.Word
kind_at (AtHave lemma) = kind.Ident
kind_at (AfterHave lemma x) = kind.Symbol
kind_at (AtHaveText lemma x) = kind.Quote
kind_at (InProof goal script place) = kind_in_proof place

-- a kind that may stand next; behind the end of the source nothing may
abbrev pub expected : State → TokenKind
expected AtStart = kind.Word
expected AtVersion = kind.Number
expected (AfterVersion version) = kind.Word
expected (AtTheoryName version) = kind.Ident
expected (AfterTheoryName version x) = kind.Word
expected (AtImport version x) = kind.Ident
expected (AfterImport h) = kind.Word
expected (InBody h cs place) = kind_at place
expected (AtLast t) = kind.End
