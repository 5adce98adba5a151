-- What was read of a library, and what its files make.
use Rattle.std.proofs.Common.{◌≡◌, ◌<◌, ◌≤◌, ℕ, suc, List, [], ◌∷◌, length, map, cond, Bool, true, false, refl, sym, ◌∙◌, ap, subst, arith, Option, Some, None, IfSome}
use Rattle.std.specs.List.{filter_map}
use Rattle.std.specs.List.Sorted.{IsStrictlySortedBy}
use Rattle.std.proofs.lemmas.List.{length-map}
use Rattle.pure_text.proofs.ListLaws.{two_long}
use Rattle.pure_text.proofs.AscendingTexts.{byte_order}
use Rattle.pure_io.specs.declared.library.File as library
use Rattle.pure_graph.specs.Reading.{Answer, File}
use Rattle.pure_graph.specs.Graph.{linked, AreJudged, IsOutcomeJudged}
use Rattle.pure_graph.specs.Seen.{seen_file, seen_files}
use Rattle.pure_graph.specs.declared.outcome.TheoryFile.{TheoryFile}
use Rattle.pure_session.specs.ImportGraph.{theories, stands, standing, AreLinked}
use Rattle.pure_session.specs.Loading.{AreLoadedFrom}
use Rattle.pure_graph.specs.Order.{Loaded, AreInLoadOrder}
use Rattle.pure_graph.specs.Listing.{AreTheories}
use Rattle.pure_graph.specs.Session.{Shown, IsLoadingOf, refusal_of, shown}
use Rattle.pure_graph.specs.SessionNames.{AreNames}
use Rattle.pure_graph.specs.Told.{AreFilesOf}
use Rattle.pure_session.specs.ToldTheories.{AreTheoriesOf, IsShownSession}
use Rattle.pure_session.specs.Waiting.{waiting_file, waiting_files}
use Rattle.pure_session.specs.declared.order.Waiting.{Waiting}
use Rattle.pure_graph.proofs.LawsLemmas.{read_theories, linked_theories, judged_theories}
use Rattle.pure_session.proofs.ImportLemmas.{files-linked}

file_theories : (told : Option (List library.File)) (files : List File) (of : AreFilesOf told files) → theories files ≡ map (λ (a : Answer). a.theory) of.read.answers
file_theories told files of = read_theories 0 0 of.read.answers files of.read.are_read

-- the files of a library ascend by their names
pub files-ascend : (told : Option (List library.File)) (files : List File) → AreFilesOf told files → IsStrictlySortedBy byte_order (theories files)
files-ascend told files of = subst (IsStrictlySortedBy byte_order) (sym (file_theories told files of ∙ of.read.of_theories)) of.listed.ascend

pub theories-told : (told : Option (List library.File)) (files : List File) (loaded : List Loaded) (refused : List Shown) (n : ℕ) → AreFilesOf told files → AreLoadedFrom files loaded refused n → AreTheoriesOf told loaded refused n
theories-told told files loaded refused n of from =
    let same : theories files ≡ map (λ (a : Answer). a.theory) of.read.answers = file_theories told files of in
    record {
      names = of.names;
      listed_theories = of.theories;
      tells = of.tells;
      listed = of.listed;
      answers = of.read.answers;
      of_theories = of.read.of_theories;
      tells_answers = of.read.tells;
      refusals = filter_map refusal_of from.judged;
      loading = record {
        read = files;
        judged = from.judged;
        are_read = of.read.are_read;
        are_judged = subst (λ ts. AreJudged (map (linked ts) files) from.judged) same from.are_judged;
        loaded = from.in_order;
        refused_are = refl;
        counted = from.counted ∙ sym (length-map files (λ (f : File). f.theory)) ∙ ap length same ∙ length-map of.read.answers (λ (a : Answer). a.theory);
      };
      texts = from.refused_are;
    }

kept_length : (f : File) (kept : List File) (b : Bool) → length (cond b (f ∷ kept) kept) ≤ suc (length kept)
kept_length f kept true = omega arith
kept_length f kept false = omega arith

standing_length : (files : List File) → length (standing files) ≤ length files
standing_length [] = omega arith
standing_length (f ∷ files) = omega (arith, kept_length f (standing files) (stands f.outcome), standing_length files)

-- no more theories wait than there are files
pub waiting-few : (files : List File) (rest : List Waiting) → waiting_files rest ≡ standing files → length rest ≤ length files
waiting-few files rest is = omega (arith, standing_length files, ap length is, length-map rest waiting_file)

-- ---- from the files that were read to those that are loaded
pub linked-ascend : (files all : List File) → all ≡ map (linked (theories files)) files → IsStrictlySortedBy byte_order (theories files) → IsStrictlySortedBy byte_order (theories all)
linked-ascend files all made sorted = subst (IsStrictlySortedBy byte_order) (sym (ap theories made ∙ linked_theories (theories files) files)) sorted

pub linked-linked : (files all : List File) → all ≡ map (linked (theories files)) files → AreLinked all
linked-linked files all made = subst AreLinked (sym made) (files-linked (theories files) files refl)

pub judged-ascend : (all judged : List File) → AreJudged all judged → IsStrictlySortedBy byte_order (theories all) → IsStrictlySortedBy byte_order (theories judged)
judged-ascend all judged are sorted = subst (IsStrictlySortedBy byte_order) (sym (judged_theories all all judged are)) sorted

judged-long : (all judged : List File) → AreJudged all judged → length judged ≡ length all
judged-long all judged are = sym (two_long (λ (f j : File). (j.theory ≡ f.theory) × IsOutcomeJudged all f.theory f.outcome j.outcome) all judged are)

-- there are as many judged files as were read
pub judged-few : (read all judged : List TheoryFile) (n limit : ℕ) → n ≡ length read → n < limit → seen_files all ≡ map (linked (theories (seen_files read))) (seen_files read) → AreJudged (seen_files all) (seen_files judged) → length judged < limit
judged-few read all judged n limit count low made are =
    let longer : length (seen_files judged) ≡ length (seen_files all) = judged-long (seen_files all) (seen_files judged) are in
    omega (arith, longer, ap length made, length-map (seen_files read) (linked (theories (seen_files read))), length-map read seen_file, length-map judged seen_file)

pub loaded-from : (files all judged : List File) (loaded : List Loaded) (refused : List Shown) (n : ℕ) → all ≡ map (linked (theories files)) files → AreJudged all judged → AreInLoadOrder judged loaded
    → refused ≡ map shown (filter_map refusal_of judged) → n ≡ length files → AreLoadedFrom files loaded refused n
loaded-from files all judged loaded refused n made are order texts count = record {
  judged = judged;
  are_judged = subst (λ fs. AreJudged fs judged) made are;
  in_order = order;
  refused_are = texts;
  counted = count;
}

-- ---- the session
pub session-shown : (told : List library.File) (names : List (List ℕ)) (theories : List Loaded) (refused : List Shown) (n : ℕ) → AreTheoriesOf (Some told) theories refused n → AreNames theories names
    → IsShownSession told names theories refused n
session-shown told names theories refused n of named = record {
  refusals = of.refusals;
  is_session = record {
    theories = of.listed_theories;
    listed = subst (λ ns. AreTheories ns of.listed_theories) of.tells of.listed;
    session_of = record {
      loading = subst (λ answers. IsLoadingOf answers theories of.refusals n) of.tells_answers of.loading;
      named = named;
    };
  };
  texts = of.texts;
}

pub session-told : (told : Option (List library.File)) (names : List (List ℕ)) (theories : List Loaded) (refused : List Shown) (n : ℕ) → AreTheoriesOf told theories refused n → AreNames theories names
    → IfSome told (λ files. IsShownSession files names theories refused n)
session-told None names theories refused n of named = tt
session-told (Some files) names theories refused n of named = session-shown files names theories refused n of named
