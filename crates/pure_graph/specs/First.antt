-- What loading was while there was one version and no haves.
use Rattle.std.specs.Prelude.{◌≡◌, ◌⊎◌, ◌↔◌, ℕ, ◌+◌, ◌<◌, ◌≤◌, Bool, true, false, ◌||◌, List, [], ◌∷◌, ◌++◌, length, map, codes, count_by, nat_lt, nat_le, Option, Some, None, if◌then◌else◌}
use Rattle.std.specs.List.{list_any, filter_map}
use Rattle.std.specs.List.Sorted.{IsStrictlySortedBy}
use Rattle.std.specs.Ordering.{nat_cmp}
use Rattle.std.specs.Cmp.Lexicographic.{slice_cmp}
use Rattle.pure_text.specs.Lists.{IsIn, AnyOf}
use Rattle.pure_grammar.specs.declared.token.Token.{Token}
use Rattle.pure_grammar.specs.declared.token.TokenKind.{TokenKind}
use Rattle.pure_grammar.specs.Tokens.Spelling.{Spells, HasFault}
use Rattle.pure_grammar.specs.Theories.First.{SpellsTheory, HasSyntaxFault}
use Rattle.pure_grammar.specs.Theories.TheoryText.{Command, Class, TypeDecl, Arity, Const, Axiom, Definition, Lemma, TheoryText}
use Rattle.pure_graph.specs.Limits.{most_files, most_bytes, most_steps}
use Rattle.pure_graph.specs.Outcome.{Outcome, Refused, Stands, syntax_at, is_numbered, is_headed}
use Rattle.pure_graph.specs.Reading.{Answer, File}
use Rattle.pure_graph.specs.Graph.{linked, AreJudged}
use Rattle.pure_graph.specs.Order.{Loaded, AreInLoadOrder}
use Rattle.pure_graph.specs.SessionNames.{IsSpelled, full_name}
use Rattle.pure_graph.specs.Session.{Refusal, Session, refusal_of}
use Rattle.pure_graph.specs.declared.outcome.Reason.TheVariants.{TooManyFiles, NoFile, TooLarge, HeaderName}

-- commands of a theory
abbrev pub most_commands : ℕ
most_commands = 512

-- commands of all theories together
abbrev pub most_session_commands : ℕ
most_session_commands = 4096

-- a lemma with more steps than a proof may have
abbrev pub has_long_proof : Command → Bool
has_long_proof (Lemma name prop haves script) = nat_lt most_steps (count_by is_numbered script)
has_long_proof _ = false

-- more commands than a theory may have, or a proof that is too long
abbrev pub is_large : TheoryText → Bool
is_large text = nat_lt most_commands (length text.commands) || list_any has_long_proof text.commands

-- what the tree of a theory's file says
abbrev pub tree_outcome : (theory source : List ℕ) → TheoryText → Outcome
tree_outcome theory source text =
    if is_headed theory text then (if is_large text then Refused TooLarge else Stands source text) else Refused HeaderName

-- Behind files with so many commands there is room for those of the file.
abbrev pub fits : (before : ℕ) → Outcome → Bool
fits before (Refused reason) = true
fits before (Stands source text) = nat_le (before + length text.commands) most_session_commands

-- a file behind others with so many commands: with its own they may be too many
abbrev pub counted : (before : ℕ) → Outcome → Outcome
counted before outcome = if fits before outcome then outcome else Refused TooLarge

-- the commands of a file, none where it is refused
abbrev pub command_count : Outcome → ℕ
command_count (Refused reason) = 0
command_count (Stands source text) = length text.commands

-- the full names that a command declares: that of its name, and of a definition's fact
abbrev pub full_names : (theory : List ℕ) → Command → List (List ℕ)
full_names theory (Class name above) = full_name theory name ∷ []
full_names theory (TypeDecl name params) = full_name theory name ∷ []
full_names theory (Arity con doms class) = []
full_names theory (Const name typ) = full_name theory name ∷ []
full_names theory (Axiom name prop) = full_name theory name ∷ []
full_names theory (Definition name typ prop) = full_name theory name ∷ full_name theory (name ++ codes "_def") ∷ []
full_names theory (Lemma name prop haves script) = full_name theory name ∷ []

-- a text that a loaded theory gives
abbrev pub IsGiven : Loaded → List ℕ → Type 0
IsGiven loaded text = IsSpelled loaded.source text ⊎ AnyOf (λ command. IsIn text (full_names loaded.name command)) loaded.text.commands

-- The texts that the loaded theories give, each once, in byte order.
pub record AreNames (theories : List Loaded) (texts : List (List ℕ)) : Type 0 where
  pub ascend : IsStrictlySortedBy (slice_cmp nat_cmp) texts
  pub given : (text : List ℕ) → IsIn text texts ↔ AnyOf (λ loaded. IsGiven loaded text) theories

-- the source is a theory of the grammar of version 1 with this tree
abbrev pub IsTheoryText : List ℕ → TheoryText → Type 0
IsTheoryText source text = (tokens : List Token) × Spells (length source) tokens source × SpellsTheory source tokens text

-- The source isn't in that grammar, and its first fault stands at this place: a fault of its tokens, or else one of the
-- grammar.
abbrev pub IsFaultPlace : List ℕ → ℕ → Type 0
IsFaultPlace source at =
    HasFault (length source) source at
    ⊎ ((tokens : List Token) × (expected : TokenKind) × Spells (length source) tokens source × HasSyntaxFault source tokens at expected)

-- Where sources have these trees, and their first faults at these places:
module _ (IsText : List ℕ → TheoryText → Type 0) (IsFault : List ℕ → ℕ → Type 0) where
  -- what the bytes of a theory's file say, where they aren't too many
  abbrev pub IsSourceOutcome : (theory source : List ℕ) → Outcome → Type 0
  IsSourceOutcome theory source outcome =
      ((at : ℕ) × IsFault source at × (outcome ≡ Refused (syntax_at source at)))
      ⊎ ((text : TheoryText) × IsText source text × (outcome ≡ tree_outcome theory source text))

  -- what the bytes of a theory's file say
  abbrev pub IsBytesOutcome : (theory source : List ℕ) → Outcome → Type 0
  IsBytesOutcome theory source outcome =
      ((most_bytes < length source) × (outcome ≡ Refused TooLarge))
      ⊎ ((length source ≤ most_bytes) × IsSourceOutcome theory source outcome)

  -- what the file of a theory says by itself: these are its bytes, or it is missing
  abbrev pub IsOwnOutcome : (theory : List ℕ) → Option (List ℕ) → Outcome → Type 0
  IsOwnOutcome theory None outcome = outcome ≡ Refused (NoFile theory)
  IsOwnOutcome theory (Some source) outcome = IsBytesOutcome theory source outcome

  -- what a file says by itself, if it is read at all
  abbrev pub IsTried : (is_read : Bool) → Answer → Outcome → Type 0
  IsTried true answer outcome = IsOwnOutcome answer.theory answer.bytes outcome
  IsTried false answer outcome = outcome ≡ Refused TooManyFiles

  -- The files of theories in byte order, from the one at this place on, behind files with so many commands. The first 256
  -- are read.
  abbrev pub AreReadFrom : (place before : ℕ) → List Answer → List File → Type 0
  AreReadFrom place before [] [] = Unit {0}
  AreReadFrom place before (a ∷ answers) (f ∷ files) =
      (own : Outcome) × IsTried (nat_lt place most_files) a own × (f ≡ record { theory = a.theory; outcome = counted before own })
      × AreReadFrom (place + 1) (before + command_count (counted before own)) answers files
  AreReadFrom place before _ _ = ⊥

  -- the files of these theories
  abbrev pub AreRead : List Answer → List File → Type 0
  AreRead answers files = AreReadFrom 0 0 answers files

  -- The theories and the refused files of theories with these answers: each file goes through the tests in their order,
  -- those that are left are taken in load order, and the others are refused, in byte order of their names.
  pub record IsLoadingOf (answers : List Answer) (theories : List Loaded) (refused : List Refusal) (files : ℕ) : Type 0 where
    pub read : List File
    pub judged : List File
    pub are_read : AreRead answers read
    pub are_judged : AreJudged (map (linked (map (λ (a : Answer). a.theory) answers)) read) judged
    pub loaded : AreInLoadOrder judged theories
    pub refused_are : refused ≡ filter_map refusal_of judged
    pub counted : files ≡ length answers

  -- The session of theories with these answers.
  pub record IsSessionOf (answers : List Answer) (session : Session) : Type 0 where
    pub loading : IsLoadingOf answers session.theories session.refused session.files
    pub named : AreNames session.theories session.names
