-- From the graph of a session's table to the answer of a job.
use Rattle.std.proofs.Common.{◌≡◌, ℕ, Bool, List, [], ◌∷◌, ◌++◌, map, refl, sym, ◌∙◌, ap, subst, Option, Result, Ok, Err, IfOk}
use Rattle.std.specs.Borrow.{Bor}
use Rattle.pure_graph.specs.Session.{Session}
use Rattle.pure_graph.specs.declared.fault.LoadFault.{LoadFault}
use Rattle.pure_session.specs.Waiting.{all_loaded}
use Rattle.pure_session.specs.declared.order.Loaded.{Loaded}
use Rattle.pure_session.specs.declared.session.Session as code
use Rattle.pure_citations.specs.Drawn.{IsDrawing}
use Rattle.pure_check_work.specs.SessionMeaning.Statements.{forks_of}
use Rattle.pure_check_work.specs.Table.Table.{table_rows}
use Rattle.pure_policy.specs.Asked.{Asked}
use Rattle.pure_check.specs.Formed.{IsSeenSession, IsTextOf, IsGraphTextOf}
use Rattle.pure_check.specs.Jobs.Graph.{names_of}
use Rattle.pure_check.specs.Meaning.{asked_for}
use Rattle.pure_check.specs.declared.answer.Answer.{Answer}
use Rattle.pure_check.specs.declared.formed.Extent.{Extent}
use Rattle.pure_check.specs.declared.formed.Extent.TheVariants as extent

-- One theory more.
pub names-more : (theories : List Loaded) (l : Loaded) (names : List (List ℕ)) (name : List ℕ) → names ≡ names_of (all_loaded theories) → name ≡ l.name → names ++ name ∷ [] ≡ names_of (all_loaded (theories ++ l ∷ []))
names-more [] l names name so_far same = (λ i. so_far i ++ same i ∷ [])
names-more (t ∷ theories) l names name so_far same =
    (λ i. so_far i ++ same i ∷ []) ∙ ap (λ ns. t.name ∷ ns) (names-more theories l (names_of (all_loaded theories)) l.name refl refl)

-- What is said of the session with these names of its theories is its graph.
pub graph-text : (s : code.Session) (workers : ℕ) (asked : Asked) → asked ≡ asked_for workers → (names : Bor (List (List ℕ))) → names.now ≡ names_of (all_loaded s.theories.items) → (place : Extent) → place ≡ extent.Graph names
    → (a : Result Answer LoadFault) → IfOk a (λ a. (S : Session) → IsSeenSession S s → IsTextOf S asked place a.run a.formed.text a.formed.clean)
    → IfOk a (λ a. (S : Session) → IsSeenSession S s → IsGraphTextOf S workers a.run a.formed.text a.formed.clean)
graph-text s workers asked asked_is names names_are place place_is (Ok a) all = λ S is.
    let of : IsTextOf S (asked_for workers) (extent.Graph names) a.run a.formed.text a.formed.clean =
    subst (λ p. IsTextOf S (asked_for workers) p a.run a.formed.text a.formed.clean) place_is (subst (λ q. IsTextOf S q place a.run a.formed.text a.formed.clean) asked_is (all S is)) in
    record {
      table = of.table;
      board = of.board;
      is_run = of.is_run;
      is_table = of.is_table;
      heeded = of.heeded;
      run_of = of.run_of;
      says = (subst (λ ns. IsDrawing S.names ns (forks_of of.table.notes) of.table.entries (table_rows S of.table) a.formed.text) (names_are ∙ ap names_of (sym is.theories)) of.says.0, of.says.1);
    }
graph-text s workers asked asked_is names names_are place place_is (Err fault) all = tt
