-- Runs of one theory: the shorter is a front of the longer.
use Rattle.std.proofs.Common.{◌≡◌, ◌⊎◌, ℕ, ◌+◌, List, [], ◌∷◌, ◌++◌, append_assoc, refl, sym, ap, ◌∙◌, subst, inl, inr}
use Rattle.pure_grammar.specs.Theories.TheoryText.{Command}
use Rattle.pure_logic.specs.Content.{Content}
use Rattle.pure_graph.specs.Order.{Loaded}
use Rattle.pure_session_laws.specs.Declare.Notes.{Note}
use Rattle.pure_session_laws.specs.Declare.Fold.{AreDeclared}
use Rattle.pure_session_laws.specs.Loaded.{IsLoadedSession}
use Rattle.pure_session_meaning.specs.Verdicts.{Verdict, Ran, IsTheoryAt, Begins, Closes, barred, ran, AllClose}
use Rattle.pure_session_meaning.specs.Statements.{IsRun}
use Rattle.pure_session_meaning.proofs.StepLaws.{theory-once}
use Rattle.pure_session_meaning.proofs.OrderlyLaws.{begun-ordered}
use Rattle.pure_session_meaning.proofs.OnceLaws.{begins-once, barred-or-begins, declared-once, all-once}

-- The fold over the first of some commands.
pub record IsCut (texts : List (List ℕ)) (source : List ℕ) (index place : ℕ) (cs : List Command) (Q : Content) (notes : List Note) : Type 0 where
  pub front : List Note
  pub back : List Note
  pub between : Content
  pub notes_are : notes ≡ front ++ back
  pub first : AreDeclared texts source index place Q cs front between

pub declared-cut : (texts : List (List ℕ)) (source : List ℕ) (index place : ℕ) (cs ds : List Command) (Q R : Content) (notes : List Note) → AreDeclared texts source index place Q (cs ++ ds) notes R → IsCut texts source index place cs Q notes
declared-cut texts source index place [] ds Q R notes h = record { front = []; back = notes; between = Q; notes_are = refl; first = (refl, refl) }
declared-cut texts source index place (c ∷ cs) ds Q R notes h =
    let rest = declared-cut texts source index (place + 1) cs ds h.1 R h.2 h.4 in
    record {
      front = h.0 ++ rest.front;
      back = rest.back;
      between = rest.between;
      notes_are = h.5 ∙ ap (λ (ns : List Note). h.0 ++ ns) rest.notes_are ∙ sym (append_assoc h.0 rest.front rest.back);
      first = (h.0, h.1, rest.front, h.3, rest.first, refl);
    }

module _ (texts : List (List ℕ)) (theories : List Loaded) (session : IsLoadedSession texts theories) where
  -- A run that has the commands of another, and further ones, has its notes, and further ones.
  module _ (index : ℕ) (notes : List Note) (now : Content) (left : List Command) (run : IsRun texts theories index notes now left) where
    same-parents : (theory : Loaded) (parents : List Verdict) → run.theory ≡ theory → AllClose texts theories theory.parents parents → parents ≡ run.parents
    same-parents theory parents same closed = sym (all-once texts theories session run.closed (subst (λ (t : Loaded). AllClose texts theories t.parents parents) (sym same) closed))

    same-begins : (theory : Loaded) (parents : List Verdict) (first : Content) → run.theory ≡ theory → parents ≡ run.parents → Begins texts index theory parents first → Begins texts index run.theory run.parents first
    same-begins theory parents first same parents_are b = subst (λ (t : Loaded). Begins texts index t run.parents first) (sym same) (subst (λ (vs : List Verdict). Begins texts index theory vs first) parents_are b)

    pub notes-further : (theory : Loaded) → IsTheoryAt theories index theory → (parents : List Verdict) → AllClose texts theories theory.parents parents → (first : Content) → Begins texts index theory parents first
        → (more : List Note) (later : Content) (further : List Command) → AreDeclared texts theory.source index 0 first (run.done ++ further) more later → (rest : List Note) × (more ≡ notes ++ rest)
    notes-further theory is_at parents closed first begins more later further d =
        let same : run.theory ≡ theory = theory-once theories index run.theory theory run.is_at is_at in
        let parents_are = same-parents theory parents same closed in
        let firsts : first ≡ run.first = begins-once texts theories session index run.theory run.is_at run.parents first run.first (same-begins theory parents first same parents_are begins) run.begins in
        let cut = declared-cut texts theory.source index 0 run.done further first later more d in
        let moved : AreDeclared texts run.theory.source index 0 run.first run.done cut.front cut.between =
        subst (λ (t : Loaded). AreDeclared texts t.source index 0 run.first run.done cut.front cut.between) (sym same) (subst (λ (Q : Content). AreDeclared texts theory.source index 0 Q run.done cut.front cut.between) firsts cut.first) in
        let order = begun-ordered texts theories session index run.theory run.is_at run.parents run.closed run.first run.begins in
        let fronts : cut.front ≡ notes = (declared-once texts theories session run.theory.source index run.done 0 run.first order cut.front notes cut.between now moved run.declared).0 in
        (cut.back, cut.notes_are ∙ ap (λ (ns : List Note). ns ++ cut.back) fronts)

    -- Where the theory closes, it ran, and its notes begin with those of the run.
    pub run-closed : {v : Verdict} → Closes texts theories index v → (all : List Note) × (last : Content) × (v ≡ Ran all last) × (rest : List Note) × (all ≡ notes ++ rest)
    run-closed (barred {theory = theory} {parents = parents} {row = row} is_at closed is) =
        let same : run.theory ≡ theory = theory-once theories index run.theory theory run.is_at is_at in
        let parents_are = same-parents theory parents same closed in
        absurd (barred-or-begins texts theories session index theory is_at parents row run.first is
        (subst (λ (vs : List Verdict). Begins texts index theory vs run.first) (sym parents_are) (subst (λ (t : Loaded). Begins texts index t run.parents run.first) same run.begins)))
    run-closed (ran {theory = theory} {parents = parents} {first = first} {last = last} {notes = all} is_at closed begins declared) =
        let same : run.theory ≡ theory = theory-once theories index run.theory theory run.is_at is_at in
        let commands : theory.text.commands ≡ run.done ++ left = ap (λ (t : Loaded). t.text.commands) (sym same) ∙ run.commands in
        let w = notes-further theory is_at parents closed first begins all last left (subst (λ (cs : List Command). AreDeclared texts theory.source index 0 first cs all last) commands declared) in
        (all, last, refl, w.0, w.1)

  longer : (x y : Command) → x ≡ y → (us vs : List Command) → us ≡ vs → x ∷ us ≡ y ∷ vs
  longer x y p us vs q = λ i. p i ∷ q i

  prefix : (xs bs cs ds : List Command) → xs ++ bs ≡ cs ++ ds → ((x : List Command) × (cs ≡ xs ++ x)) ⊎ ((x : List Command) × (xs ≡ cs ++ x))
  prefix [] bs cs ds e = inl (cs, refl)
  prefix (a ∷ xs) bs [] ds e = inr (a ∷ xs, refl)
  prefix (a ∷ xs) bs (c ∷ cs) ds e =
      let same : a ≡ c = cc in
      let rest : xs ++ bs ≡ cs ++ ds = cc in
      elim (prefix xs bs cs ds rest) [ inl w ↦ inl (w.0, longer c a (sym same) cs (xs ++ w.0) w.1) | inr w ↦ inr (w.0, longer a c same xs (cs ++ w.0) w.1) ]

  -- Of two runs the notes of one begin with those of the other.
  pub runs-compare : (index : ℕ) (notes more : List Note) (now later : Content) (left after : List Command) → IsRun texts theories index notes now left → IsRun texts theories index more later after
      → ((rest : List Note) × (more ≡ notes ++ rest)) ⊎ ((rest : List Note) × (notes ≡ more ++ rest))
  runs-compare index notes more now later left after r q =
      let same : r.theory ≡ q.theory = theory-once theories index r.theory q.theory r.is_at q.is_at in
      elim (prefix r.done left q.done after (sym r.commands ∙ ap (λ (t : Loaded). t.text.commands) same ∙ q.commands)) [
        | inl w ↦ inl (notes-further index notes now left r q.theory q.is_at q.parents q.closed q.first q.begins more later w.0 (subst (λ (cs : List Command). AreDeclared texts q.theory.source index 0 q.first cs more later) w.1 q.declared))
        | inr w ↦ inr (notes-further index more later after q r.theory r.is_at r.parents r.closed r.first r.begins notes now w.0 (subst (λ (cs : List Command). AreDeclared texts r.theory.source index 0 r.first cs notes now) w.1 r.declared))
      ]
