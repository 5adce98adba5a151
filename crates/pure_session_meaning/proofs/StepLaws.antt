-- The steps of a theory's run.
use Rattle.std.proofs.Common.{◌≡◌, ℕ, suc, ◌+◌, List, [], ◌∷◌, ◌++◌, length, append_assoc, append-nil, length-append, refl, sym, ap, ◌∙◌, subst, arith}
use Rattle.std.specs.Prelude.{slice_get}
use Rattle.std.proofs.lemmas.Option.{same_Some}
use Rattle.pure_grammar.specs.Theories.TheoryText.{Command}
use Rattle.pure_logic.specs.Content.{Content}
use Rattle.pure_graph.specs.Order.{Loaded}
use Rattle.pure_session_laws.specs.Declare.Notes.{Note}
use Rattle.pure_session_laws.specs.Declare.Fold.{Declares, AreDeclared}
use Rattle.pure_session_meaning.specs.Verdicts.{IsTheoryAt, ran}
use Rattle.pure_session_meaning.specs.Statements.{IsRun}
use Rattle.pure_session_meaning.specs.Steps.{command_label, RunBegins, RunGoesOn, RunCloses}
use Rattle.pure_session_meaning.proofs.FoldLaws.{declared-append, declared-one}

place-once : (m n : ℕ) → suc m ≡ suc n → m ≡ n
place-once m n e = omega (arith, e)

-- One theory has the index.
pub theory-once : (theories : List Loaded) (index : ℕ) (a b : Loaded) → IsTheoryAt theories index a → IsTheoryAt theories index b → a ≡ b
theory-once theories index a b h k =
    let same : h.0 ≡ k.0 = place-once h.0 k.0 (sym h.1 ∙ k.1) in
    same_Some a b (sym h.2 ∙ (ap (λ (p : ℕ). slice_get theories p) same ∙ k.2))

-- The commands that are done and those that are left are all of the theory's.
pub done-count : (texts : List (List ℕ)) (theories : List Loaded) (index : ℕ) (theory : Loaded) → IsTheoryAt theories index theory → (notes : List Note) (now : Content) (left : List Command) (run : IsRun texts theories index notes now left)
    → length run.done + length left ≡ length theory.text.commands
done-count texts theories index theory is_at notes now left run =
    let same : run.theory ≡ theory = theory-once theories index run.theory theory run.is_at is_at in
    let all : length theory.text.commands ≡ length (run.done ++ left) = ap (λ (t : Loaded). length t.text.commands) (sym same) ∙ ap length run.commands in
    omega (arith, all, length-append run.done left)

pub run_begins : RunBegins
run_begins texts theories index theory is_at parents closed first begins = record {
  theory = theory;
  is_at = is_at;
  parents = parents;
  closed = closed;
  first = first;
  begins = begins;
  done = [];
  commands = refl;
  declared = (refl, refl);
}

pub run_goes_on : RunGoesOn
run_goes_on texts theories index theory is_at notes now command left run more next d =
    let same : theory ≡ run.theory = theory-once theories index theory run.theory is_at run.is_at in
    let one : AreDeclared texts run.theory.source index (length run.done) now (command ∷ []) more next =
    declared-one texts run.theory.source index (length run.done) command now next more (subst (λ (t : Loaded). Declares texts t.source (command_label index (length run.done)) now command more next) same d) in
    record {
      theory = run.theory;
      is_at = run.is_at;
      parents = run.parents;
      closed = run.closed;
      first = run.first;
      begins = run.begins;
      done = run.done ++ command ∷ [];
      commands = run.commands ∙ sym (append_assoc run.done (command ∷ []) left);
      declared = declared-append texts run.theory.source index 0 run.done (command ∷ []) run.first now next notes more run.declared (length run.done) (omega arith) one;
    }

pub run_closes : RunCloses
run_closes texts theories index notes now run =
    let all : run.done ≡ run.theory.text.commands = sym (run.commands ∙ append-nil run.done) in
    ran run.is_at run.closed run.begins (subst (λ (cs : List Command). AreDeclared texts run.theory.source index 0 run.first cs notes now) all run.declared)
