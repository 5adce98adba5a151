-- Whose the contents of a run are, and what its next command is given.
use Rattle.std.proofs.Common.{◌≡◌, ◌<◌, ◌≤◌, ℕ, ◌+◌, List, [], ◌∷◌, ◌++◌, length, refl, sym, ap, ◌∙◌, subst, inl, inr, arith}
use Rattle.std.proofs.lemmas.List.Sums.{sum_by-cons}
use Rattle.std.specs.Prelude.{Some}
use Rattle.pure_text.specs.Lists.{IsIn}
use Rattle.pure_text.proofs.ListLaws.{each_at, in-append_right}
use Rattle.pure_typ.specs.NameTexts.{HasText}
use Rattle.pure_grammar.specs.Theories.TheoryText.{Command, Class, TypeDecl, Arity, Const, Axiom, Definition, Lemma}
use Rattle.pure_logic.specs.Content.{TheoryId, Content}
use Rattle.pure_graph.specs.Limits.{most_parts}
use Rattle.pure_graph.proofs.LimitLemmas.{parts-bounded}
use Rattle.pure_graph.specs.Outcome.{command_parts, part_count}
use Rattle.pure_graph.specs.Order.{Loaded}
use Rattle.pure_session_laws.specs.Declare.Notes.{Note}
use Rattle.pure_session_laws.specs.Declare.Fold.{AreDeclared}
use Rattle.pure_session_laws.specs.Declare.Premises.{HasFullNames, HasRanges, haves_of}
use Rattle.pure_session_laws.proofs.DeclaredLaws.{HasAdded, declared-adds}
use Rattle.pure_session_meaning.specs.Verdicts.{IsTheoryAt}
use Rattle.pure_session_meaning.specs.Statements.{IsRun}
use Rattle.pure_session_meaning.specs.Steps.{command_label}
use Rattle.pure_session_meaning.specs.Given.{RunsGive}
use Rattle.pure_session_meaning.proofs.StepLaws.{theory-once}
use Rattle.pure_session_meaning.proofs.TextLaws.{theory-well}
use Rattle.pure_session_meaning.proofs.OrderlyLaws.{run-ordered}

-- The content is that of the theory with the index.
pub record IsOwnOf (texts : List (List ℕ)) (theories : List Loaded) (index : ℕ) (P : Content) : Type 0 where
  pub theory : Loaded
  pub is_at : IsTheoryAt theories index theory
  pub name : ℕ
  pub text : HasText texts name theory.name
  pub own : P.own ≡ Some (record { name = name; index = index })

own-kept : (texts : List (List ℕ)) (source : List ℕ) (t : TheoryId) (cs : List Command) (place : ℕ) (Q : Content) (notes : List Note) (last : Content) → Q.own ≡ Some t → AreDeclared texts source t.index place Q cs notes last → last.own ≡ Some t
own-kept texts source t [] place Q notes last own d = ap (λ (R : Content). R.own) d.1 ∙ own
own-kept texts source t (c ∷ cs) place Q notes last own d =
    let added : HasAdded texts t Q d.1 = declared-adds texts source (command_label t.index place) Q c d.0 d.1 t own refl d.3 in
    own-kept texts source t cs (place + 1) d.1 d.2 last (added.own ∙ own) d.4

-- Each content of a run is its theory's.
pub run-own : (texts : List (List ℕ)) (theories : List Loaded) (index : ℕ) (notes : List Note) (now : Content) (left : List Command) → IsRun texts theories index notes now left → IsOwnOf texts theories index now
run-own texts theories index notes now left run =
    let id : TheoryId = record { name = run.begins.name; index = index } in
    record {
      theory = run.theory;
      is_at = run.is_at;
      name = run.begins.name;
      text = run.begins.text;
      own = own-kept texts run.theory.source id run.done 0 run.first notes now run.begins.begins.own run.declared;
    }

-- A command has at most as many haves as it has parts, and no more parts than all commands.
parts-of : (c : Command) → length (haves_of c) ≤ command_parts c
parts-of (Lemma x span haves script) = omega arith
parts-of (Class x above) = omega arith
parts-of (TypeDecl x params) = omega arith
parts-of (Arity con domains class) = omega arith
parts-of (Const x span) = omega arith
parts-of (Axiom x span) = omega arith
parts-of (Definition x typ text) = omega arith

parts-within : (cs : List Command) (c : Command) → IsIn c cs → length (haves_of c) ≤ part_count cs
parts-within [] c m = absurd m
parts-within (d ∷ cs) c (inl e) =
    let sum : part_count (d ∷ cs) ≡ command_parts d + part_count cs = sum_by-cons command_parts d cs in
    let same : length (haves_of c) ≡ length (haves_of d) = ap (λ (x : Command). length (haves_of x)) e in
    omega (arith, sum, same, parts-of d)
parts-within (d ∷ cs) c (inr m) =
    let sum : part_count (d ∷ cs) ≡ command_parts d + part_count cs = sum_by-cons command_parts d cs in
    omega (arith, sum, parts-within cs c m)

few-haves : (n m version : ℕ) → n ≤ m → m ≤ most_parts version → n < 4294967296
few-haves n m version h k = omega (arith, h, k, parts-bounded version)

pub runs_give : RunsGive
runs_give texts theories session index theory is_at notes now command left run =
    let same : run.theory ≡ theory = theory-once theories index run.theory theory run.is_at is_at in
    let order = run-ordered texts theories session index notes now (command ∷ left) run in
    let well = theory-well texts theories session index theory is_at in
    let own = run-own texts theories index notes now (command ∷ left) run in
    let owner : own.theory ≡ theory = theory-once theories index own.theory theory own.is_at is_at in
    let commands : theory.text.commands ≡ run.done ++ (command ∷ left) = ap (λ (t : Loaded). t.text.commands) (sym same) ∙ run.commands in
    let there : IsIn command theory.text.commands = subst (λ (cs : List Command). IsIn command cs) (sym commands) (in-append_right command run.done (command ∷ left) (inl refl)) in
    record {
      names = record {
        theory = theory.name;
        own = record { own = record { name = own.name; index = index }; is_own = own.own; text = subst (λ (t : Loaded). HasText texts own.name t.name) owner own.text };
        full = each_at (λ (c : Command). HasFullNames texts theory.name c) theory.text.commands well.full command there;
      };
      ranges = each_at (HasRanges theory.source) theory.text.commands well.ranges command there;
      given = record { in_session = order.orderly.in_session; small = well.small; label_above = order.labels };
      labels = record { first = refl; few = few-haves (length (haves_of command)) (part_count theory.text.commands) theory.text.version (parts-within theory.text.commands command there) well.few };
    }
