-- One thing at most becomes of a theory.
use Rattle.std.proofs.Common.{◌≡◌, ℕ, ◌+◌, List, [], ◌∷◌, ◌++◌, sym, ap, ◌∙◌, subst, refl}
use Rattle.pure_grammar.specs.Theories.TheoryText.{Command}
use Rattle.pure_logic.specs.Content.{Content}
use Rattle.pure_logic.specs.Beginning.{IsBeginning}
use Rattle.pure_logic.proofs.AncestorLaws.{one_beginning}
use Rattle.pure_lookup.proofs.TextLemmas.{one_name}
use Rattle.pure_session_laws.specs.Theory.Begin.{IsFirstConflict}
use Rattle.pure_print.specs.declared.row.Row.{Row}
use Rattle.pure_statements.specs.ReasonText.{reason_text}
use Rattle.pure_statements.specs.declared.reason.Reason.TheVariants.{NotCoregular}
use Rattle.pure_graph.specs.Order.{Loaded}
use Rattle.pure_graph.specs.Session.{parent_refused_text}
use Rattle.pure_session_laws.specs.Declare.Notes.{Note}
use Rattle.pure_session_laws.specs.Declare.Fold.{AreDeclared}
use Rattle.pure_session_laws.proofs.Declare.PartOnceLaws.{commands_once}
use Rattle.pure_session_laws.specs.Loaded.{IsLoadedSession}
use Rattle.pure_session_meaning.specs.Verdicts.{Verdict, Barred, Ran, IsTheoryAt, refused_theory, IsFirstBarred, AreLast, beginning_over, Begins, IsBarred, by_parent, not_coregular, Closes, barred, ran, AllClose, nothing, also}
use Rattle.pure_session_meaning.specs.Steps.{command_label}
use Rattle.pure_session_meaning.specs.Laws.{ClosesOnce}
use Rattle.pure_session_meaning.proofs.StepLaws.{theory-once}
use Rattle.pure_session_meaning.proofs.OrderlyLaws.{HasOrder, begun-ordered, next-orderly}
use Rattle.pure_session_meaning.proofs.ConflictLaws.{conflict-or-merge, conflict-once}

last-once : (v : Verdict) (Q R : Content) (ns ms : List Note) → v ≡ Ran ns Q → v ≡ Ran ms R → Q ≡ R
last-once v Q R ns ms h k = let same = sym h ∙ k in cc

pub lasts-once : (verdicts : List Verdict) (contents others : List Content) → AreLast verdicts contents → AreLast verdicts others → contents ≡ others
lasts-once [] [] [] h k = refl
lasts-once [] [] (R ∷ Rs) h k = absurd k
lasts-once [] (Q ∷ Qs) others h k = absurd h
lasts-once (v ∷ vs) [] others h k = absurd h
lasts-once (v ∷ vs) (Q ∷ Qs) [] h k = absurd k
lasts-once (v ∷ vs) (Q ∷ Qs) (R ∷ Rs) h k =
    let first : Q ≡ R = last-once v Q R h.0.0 k.0.0 h.0.1 k.0.1 in
    let rest : Qs ≡ Rs = lasts-once vs Qs Rs h.1 k.1 in
    cc

-- Where all ran, none was barred.
barred-not_last : (theories : List Loaded) (parents : List ℕ) (verdicts : List Verdict) (name : List ℕ) (contents : List Content) → IsFirstBarred theories parents verdicts name → AreLast verdicts contents → ⊥
barred-not_last theories [] verdicts name contents h k = absurd h
barred-not_last theories (p ∷ ps) [] name contents h k = absurd h
barred-not_last theories (p ∷ ps) (Barred row ∷ vs) name [] h k = absurd k
barred-not_last theories (p ∷ ps) (Barred row ∷ vs) name (Q ∷ Qs) h k = let no = k.0.1 in absurd (cc)
barred-not_last theories (p ∷ ps) (Ran notes last ∷ vs) name [] h k = absurd k
barred-not_last theories (p ∷ ps) (Ran notes last ∷ vs) name (Q ∷ Qs) h k = barred-not_last theories ps vs name Qs h k.1

first_barred-once : (theories : List Loaded) (parents : List ℕ) (verdicts : List Verdict) (name other : List ℕ) → IsFirstBarred theories parents verdicts name → IsFirstBarred theories parents verdicts other → name ≡ other
first_barred-once theories [] verdicts name other h k = absurd h
first_barred-once theories (p ∷ ps) [] name other h k = absurd h
first_barred-once theories (p ∷ ps) (Barred row ∷ vs) name other h k = h.2 ∙ ap (λ (l : Loaded). l.name) (theory-once theories p h.0 k.0 h.1 k.1) ∙ sym k.2
first_barred-once theories (p ∷ ps) (Ran notes last ∷ vs) name other h k = first_barred-once theories ps vs name other h k

module _ (texts : List (List ℕ)) (theories : List Loaded) (session : IsLoadedSession texts theories) where
  module _ (index : ℕ) (theory : Loaded) (is_at : IsTheoryAt theories index theory) (parents : List Verdict) where
    pub begins-once : (first other : Content) → Begins texts index theory parents first → Begins texts index theory parents other → first ≡ other
    begins-once first other h k =
        let contents : k.contents ≡ h.contents = lasts-once parents k.contents h.contents k.last h.last in
        let name : k.name ≡ h.name = one_name texts session.names theory.name k.name h.name k.text h.text in
        let begins : IsBeginning (record { name = h.name; index = index }) (beginning_over h.contents) other =
        subst (λ (Qs : List Content). IsBeginning (record { name = h.name; index = index }) (beginning_over Qs) other) contents
        (subst (λ (n : ℕ). IsBeginning (record { name = n; index = index }) (beginning_over k.contents) other) name k.begins) in
        one_beginning (record { name = h.name; index = index }) (beginning_over h.contents) first other h.begins begins

    pub barred-or-begins : (row : Row) (first : Content) → IsBarred texts theories theory parents row → Begins texts index theory parents first → ⊥
    barred-or-begins row first (by_parent name h e) b = barred-not_last theories theory.parents parents name b.contents h b.last
    barred-or-begins row first (not_coregular contents last con c1 c2 conflict e) b =
        let same : b.contents ≡ contents = lasts-once parents b.contents contents b.last last in
        conflict-or-merge (beginning_over contents) first.declarations con c1 c2 conflict
        (subst (λ (Qs : List Content). IsBeginning (record { name = b.name; index = index }) (beginning_over Qs) first) same b.begins).merge

    pub barred-once : (row other : Row) → IsBarred texts theories theory parents row → IsBarred texts theories theory parents other → row ≡ other
    barred-once row other (by_parent name h e) (by_parent name' h' e') =
        e ∙ ap (λ (n : List ℕ). refused_theory theory.name (parent_refused_text ++ n)) (first_barred-once theories theory.parents parents name name' h h') ∙ sym e'
    barred-once row other (by_parent name h e) (not_coregular contents last con c1 c2 conflict e') = absurd (barred-not_last theories theory.parents parents name contents h last)
    barred-once row other (not_coregular contents last con c1 c2 conflict e) (by_parent name h e') = absurd (barred-not_last theories theory.parents parents name contents h last)
    barred-once row other (not_coregular contents last con c1 c2 conflict e) (not_coregular contents' last' con' c1' c2' conflict' e') =
        let same : contents' ≡ contents = lasts-once parents contents' contents last' last in
        let all = conflict-once (beginning_over contents) con c1 c2 con' c1' c2' conflict (subst (λ (Qs : List Content). IsFirstConflict (beginning_over Qs) con' c1' c2') same conflict') in
        e ∙ reasons con c1 c2 con' c1' c2' all.0 all.1 all.2 ∙ sym e'
      where
        reasons : (k c d l a b : ℕ) → k ≡ l → c ≡ a → d ≡ b → refused_theory theory.name (reason_text texts [] (NotCoregular k c d)) ≡ refused_theory theory.name (reason_text texts [] (NotCoregular l a b))
        reasons k c d l a b p q r = λ i. refused_theory theory.name (reason_text texts [] (NotCoregular (p i) (q i) (r i)))

  -- Over such a content as a session has, commands leave one list of notes and one content at most.
  pub declared-once : (source : List ℕ) (index : ℕ) (todo : List Command) (place : ℕ) (now : Content) → HasOrder texts (command_label index place) now → (more other : List Note) (last final : Content)
      → AreDeclared texts source index place now todo more last → AreDeclared texts source index place now todo other final → (more ≡ other) × (last ≡ final)
  declared-once source index [] place now order more other last final h k = (h.0 ∙ sym k.0, h.1 ∙ sym k.1)
  declared-once source index (c ∷ todo) place now order more other last final h k =
      let same = commands_once texts source (command_label index place) now c h.0 k.0 h.1 k.1 order.orderly.in_session order.orderly.good h.3 k.3 in
      let second : AreDeclared texts source index (place + 1) h.1 todo k.2 final = subst (λ (Q : Content). AreDeclared texts source index (place + 1) Q todo k.2 final) (sym same.1) k.4 in
      let rest = declared-once source index todo (place + 1) h.1 (next-orderly texts theories session source index place now c h.0 h.1 order h.3) h.2 k.2 last final h.4 second in
      (h.5 ∙ ap (λ (ns : List Note). ns ++ h.2) same.0 ∙ ap (λ (ns : List Note). k.0 ++ ns) rest.0 ∙ sym k.5, rest.1)

  -- a theory that closes twice, over the same parents
  module _ (index : ℕ) (theory : Loaded) (is_at : IsTheoryAt theories index theory) (parents : List Verdict) (closed : AllClose texts theories theory.parents parents) where
    run-once : (first other last final : Content) (notes more : List Note) → Begins texts index theory parents first → Begins texts index theory parents other
        → AreDeclared texts theory.source index 0 first theory.text.commands notes last → AreDeclared texts theory.source index 0 other theory.text.commands more final → Ran notes last ≡ Ran more final
    run-once first other last final notes more b c h k =
        let same : other ≡ first = begins-once index theory is_at parents other first c b in
        let order : HasOrder texts (command_label index 0) first = begun-ordered texts theories session index theory is_at parents closed first b in
        let all = declared-once theory.source index theory.text.commands 0 first order notes more last final h (subst (λ (Q : Content). AreDeclared texts theory.source index 0 Q theory.text.commands more final) same k) in
        pair notes more last final all.0 all.1
      where
        pair : (ns ms : List Note) (Q R : Content) → ns ≡ ms → Q ≡ R → Ran ns Q ≡ Ran ms R
        pair ns ms Q R a b = λ i. Ran (a i) (b i)

  two-at : (index : ℕ) (theory other : Loaded) → IsTheoryAt theories index theory → IsTheoryAt theories index other → other ≡ theory
  two-at index theory other h k = theory-once theories index other theory k h

  mutual
    pub closes-once : {index : ℕ} {v w : Verdict} → Closes texts theories index v → Closes texts theories index w → v ≡ w
    closes-once (barred {index = index} {theory = t} {parents = ps} {row = r} is_at all is) (barred {theory = u} {parents = qs} {row = q} is_at' all' is') =
        let same : u ≡ t = two-at index t u is_at is_at' in
        let parents : qs ≡ ps = sym (all-once all (subst (λ (x : Loaded). AllClose texts theories x.parents qs) same all')) in
        ap Barred (barred-once index t is_at ps r q is (subst (λ (x : Loaded). IsBarred texts theories x ps q) same (subst (λ (vs : List Verdict). IsBarred texts theories u vs q) parents is')))
    closes-once (barred {index = index} {theory = t} {parents = ps} {row = r} is_at all is) (ran {theory = u} {parents = qs} {first = first} is_at' all' begins' declared') =
        let same : u ≡ t = two-at index t u is_at is_at' in
        let parents : qs ≡ ps = sym (all-once all (subst (λ (x : Loaded). AllClose texts theories x.parents qs) same all')) in
        absurd (barred-or-begins index t is_at ps r first is (subst (λ (x : Loaded). Begins texts index x ps first) same (subst (λ (vs : List Verdict). Begins texts index u vs first) parents begins')))
    closes-once (ran {index = index} {theory = t} {parents = ps} {first = first} is_at all begins declared) (barred {theory = u} {parents = qs} {row = q} is_at' all' is') =
        let same : u ≡ t = two-at index t u is_at is_at' in
        let parents : qs ≡ ps = sym (all-once all (subst (λ (x : Loaded). AllClose texts theories x.parents qs) same all')) in
        absurd (barred-or-begins index t is_at ps q first (subst (λ (x : Loaded). IsBarred texts theories x ps q) same (subst (λ (vs : List Verdict). IsBarred texts theories u vs q) parents is')) begins)
    closes-once (ran {index = index} {theory = t} {parents = ps} {first = first} {last = last} {notes = notes} is_at all begins declared) (ran {theory = u} {parents = qs} {first = other} {last = final} {notes = more} is_at' all' begins' declared') =
        let same : u ≡ t = two-at index t u is_at is_at' in
        let parents : qs ≡ ps = sym (all-once all (subst (λ (x : Loaded). AllClose texts theories x.parents qs) same all')) in
        run-once index t is_at ps all first other last final notes more begins (subst (λ (x : Loaded). Begins texts index x ps other) same (subst (λ (vs : List Verdict). Begins texts index u vs other) parents begins'))
        declared (subst (λ (x : Loaded). AreDeclared texts x.source index 0 other x.text.commands more final) same declared')

    pub all-once : {parents : List ℕ} {verdicts others : List Verdict} → AllClose texts theories parents verdicts → AllClose texts theories parents others → verdicts ≡ others
    all-once nothing nothing = refl
    all-once (also {verdict = v} {verdicts = vs} c cs) (also {verdict = w} {verdicts = ws} d ds) =
        let first : v ≡ w = closes-once c d in
        let rest : vs ≡ ws = all-once cs ds in
        cc

pub closes_once : ClosesOnce
closes_once texts theories session index v w h k = closes-once texts theories session h k
