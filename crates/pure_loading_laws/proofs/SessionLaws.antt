-- Any files have a session: they are listed, each says something, the imports judge them, those that are left have an order, and all give names.
use Rattle.std.proofs.Common.{◌≡◌, ◌∙◌, ℕ, List, [], ◌∷◌, length, map, refl, sym, ap, subst}
use Rattle.std.specs.List.{filter_map}
use Rattle.std.specs.List.Sorted.{IsStrictlySortedBy}
use Rattle.pure_text.proofs.AscendingTexts.{byte_order}
use Rattle.pure_io.specs.declared.library.File as library
use Rattle.pure_graph.specs.Reading.{Answer, File}
use Rattle.pure_graph.specs.Graph.{linked}
use Rattle.pure_graph.specs.Session.{refusal_of, answer_in}
use Rattle.pure_session.specs.ImportGraph.{standing, theories, AreLinked}
use Rattle.pure_session.specs.Judging.{judged_file}
use Rattle.pure_session.proofs.ImportLemmas.{files-linked}
use Rattle.pure_session.proofs.JudgeLemmas.{files-judged, judged-grounded}
use Rattle.pure_loading_laws.specs.Loading.{AnswersHaveALoading, FilesHaveASession}
use Rattle.pure_loading_laws.proofs.OutcomeLaws.{files-say}
use Rattle.pure_loading_laws.proofs.GraphLaws.{graph-there}
use Rattle.pure_loading_laws.proofs.OrderLaws.{order-there}
use Rattle.pure_loading_laws.proofs.NameLaws.{names-there}
use Rattle.pure_loading_laws.proofs.ListingLaws.{listing-there}

linked-theories : (listed : List (List ℕ)) (files : List File) → theories (map (linked listed) files) ≡ theories files
linked-theories listed [] = refl
linked-theories listed (f ∷ files) = ap (λ ts. f.theory ∷ ts) (linked-theories listed files)

pub loading-there : AnswersHaveALoading
loading-there answers sorted =
    let listed : List (List ℕ) = map (λ (a : Answer). a.theory) answers in
    let said = files-say 0 0 answers in
    let files : List File = map (linked listed) said.0 in
    let are_linked : AreLinked files = files-linked listed said.0 (sym said.2) in
    let ascend : IsStrictlySortedBy byte_order (theories files) = subst (IsStrictlySortedBy byte_order) (sym (linked-theories listed said.0 ∙ said.2)) sorted in
    let graph = graph-there files ascend are_linked in
    let names : List (List ℕ) = theories (standing files) in
    let judged : List File = map (judged_file names graph.0 graph.1) files in
    let order = order-there judged (judged-grounded files names graph.0 graph.1 ascend graph.2 are_linked) in (
      order.0,
      filter_map refusal_of judged,
      length answers,
      record {
        read = said.0;
        judged = judged;
        are_read = said.1;
        are_judged = files-judged files names graph.0 graph.1 graph.2 are_linked;
        loaded = order.1;
        refused_are = refl;
        counted = refl;
      },
    )

answered-theories : (files : List library.File) (ts : List (List ℕ)) → map (λ (a : Answer). a.theory) (map (answer_in files) ts) ≡ ts
answered-theories files [] = refl
answered-theories files (t ∷ ts) = ap (λ us. t ∷ us) (answered-theories files ts)

pub session-there : FilesHaveASession
session-there files =
    let listing = listing-there (map (λ (f : library.File). f.name) files) in
    let answers : List Answer = map (answer_in files) listing.0 in
    let loading = loading-there answers (subst (IsStrictlySortedBy byte_order) (sym (answered-theories files listing.0)) listing.1.ascend) in
    let names = names-there loading.0 in (
      record { names = names.0; theories = loading.0; refused = loading.1; files = loading.2 },
      record { theories = listing.0; listed = listing.1; session_of = record { loading = loading.3; named = names.1 } },
    )
