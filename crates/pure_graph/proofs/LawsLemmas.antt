-- Some files have one session.
use Rattle.std.proofs.Common.{◌≡◌, ◌⊎◌, ◌<◌, ◌≤◌, ◌+◌, inl, inr, ℕ, Bool, true, false, List, [], ◌∷◌, ◌++◌, length, map, refl, sym, ◌∙◌, ap, subst, arith, Option, Some, None, nat_lt}
use Rattle.std.specs.declared.cmp.Ordering.TheVariants.{Less}
use Rattle.std.specs.List.{filter_map, AllByRecursion}
use Rattle.std.specs.List.Sorted.{IsStrictlySortedBy}
use Rattle.std.specs.Ordering.{ordering_reverse}
use Rattle.std.specs.Cmp.Lexicographic.{nat_list_cmp_total}
use Rattle.std.proofs.lemmas.Map.Keys.{sorted_head, sorted_tail}
use Rattle.pure_text.specs.Lists.{IsIn, Each, EachTwo}
use Rattle.pure_text.proofs.AscendingTexts.{byte_order, ascending_once}
use Rattle.pure_grammar.specs.Theories.TheoryText.{TheoryText}
use Rattle.pure_grammar.specs.Theories.Outer.{SpellsTheory, HasSyntaxFault}
use Rattle.pure_grammar.proofs.Readings.{one_list, list_or_fault, one_fault}
use Rattle.pure_grammar.proofs.OuterLemmas.{one_theory}
use Rattle.pure_script.proofs.FaultLaws.{theory_or_fault, one_fault_place}
use Rattle.pure_io.specs.declared.library.File as library
use Rattle.pure_graph.specs.Limits.{most_files, most_bytes}
use Rattle.pure_graph.specs.Outcome.{Outcome, Refused, Stands, IsTheoryText, IsFaultPlace, IsSourceOutcome, IsBytesOutcome, IsOwnOutcome, syntax_at, tree_outcome}
use Rattle.pure_graph.specs.Reading.{Answer, File, IsTried, AreReadFrom, counted, file_parts}
use Rattle.pure_graph.specs.Graph.{IsRefused, IsStandingJudged, IsOutcomeJudged, AreJudged, linked, named_imports}
use Rattle.pure_graph.specs.Order.{Loaded, AreTakenBehind, file_of, index_among}
use Rattle.pure_graph.specs.Session.{Session, IsSessionOf, refusal_of, answer_in}
use Rattle.pure_graph.specs.SessionNames.{AreNames}
use Rattle.pure_graph.specs.Laws.{OneSession}
use Rattle.pure_graph.specs.declared.outcome.Reason.TheVariants.{ParentRefused}
use Rattle.pure_graph.proofs.Ascending.{ascending_same}

-- ---- one file
fault_place_once : (source : List ℕ) (a b : ℕ) → IsFaultPlace source a → IsFaultPlace source b → a ≡ b
fault_place_once source a b (inl f) (inl g) = one_fault (length source) a b source f g
fault_place_once source a b (inl f) (inr g) = absurd (list_or_fault (length source) a source g.0 g.2 f)
fault_place_once source a b (inr f) (inl g) = absurd (list_or_fault (length source) b source f.0 f.2 g)
fault_place_once source a b (inr f) (inr g) =
    let tokens : f.0 ≡ g.0 = one_list (length source) source f.0 g.0 f.2 g.2 in
    one_fault_place source g.0 a b f.1 g.1 (subst (λ ts. HasSyntaxFault source ts a f.1) tokens f.3) g.3

text_or_fault : (source : List ℕ) (text : TheoryText) (at : ℕ) → IsTheoryText source text → IsFaultPlace source at → ⊥
text_or_fault source text at t (inl f) = list_or_fault (length source) at source t.0 t.1 f
text_or_fault source text at t (inr f) =
    let tokens : t.0 ≡ f.0 = one_list (length source) source t.0 f.0 t.1 f.2 in
    theory_or_fault source f.0 text at f.1 (subst (λ ts. SpellsTheory source ts text) tokens t.2) f.3

text_once : (source : List ℕ) (t u : TheoryText) → IsTheoryText source t → IsTheoryText source u → t ≡ u
text_once source t u a b =
    let tokens : a.0 ≡ b.0 = one_list (length source) source a.0 b.0 a.1 b.1 in
    one_theory source b.0 t u (subst (λ ts. SpellsTheory source ts t) tokens a.2) b.2

source_outcome_once : (theory source : List ℕ) (o p : Outcome) → IsSourceOutcome theory source o → IsSourceOutcome theory source p → o ≡ p
source_outcome_once theory source o p (inl (a, f, e)) (inl (b, g, h)) = e ∙ ap (λ at. Refused (syntax_at source at)) (fault_place_once source a b f g) ∙ sym h
source_outcome_once theory source o p (inl (a, f, e)) (inr (t, g, h)) = absurd (text_or_fault source t a g f)
source_outcome_once theory source o p (inr (t, f, e)) (inl (b, g, h)) = absurd (text_or_fault source t b f g)
source_outcome_once theory source o p (inr (t, f, e)) (inr (u, g, h)) = e ∙ ap (tree_outcome theory source) (text_once source t u f g) ∙ sym h

below_or_above : (m n : ℕ) → m < n → n ≤ m → ⊥
below_or_above m n a b = omega arith

bytes_outcome_once : (theory source : List ℕ) (o p : Outcome) → IsBytesOutcome theory source o → IsBytesOutcome theory source p → o ≡ p
bytes_outcome_once theory source o p (inl (l, e)) (inl (m, h)) = e ∙ sym h
bytes_outcome_once theory source o p (inl (l, e)) (inr (m, h)) = absurd (below_or_above most_bytes (length source) l m)
bytes_outcome_once theory source o p (inr (l, e)) (inl (m, h)) = absurd (below_or_above most_bytes (length source) m l)
bytes_outcome_once theory source o p (inr (l, e)) (inr (m, h)) = source_outcome_once theory source o p e h

own_outcome_once : (theory : List ℕ) (bytes : Option (List ℕ)) (o p : Outcome) → IsOwnOutcome theory bytes o → IsOwnOutcome theory bytes p → o ≡ p
own_outcome_once theory None o p a b = a ∙ sym b
own_outcome_once theory (Some source) o p a b = bytes_outcome_once theory source o p a b

tried_once : (is_read : Bool) (a : Answer) (o p : Outcome) → IsTried is_read a o → IsTried is_read a p → o ≡ p
tried_once true a o p h k = own_outcome_once a.theory a.bytes o p h k
tried_once false a o p h k = h ∙ sym k

-- ---- all files
pub read_once : (place before : ℕ) (answers : List Answer) (files others : List File) → AreReadFrom place before answers files → AreReadFrom place before answers others → files ≡ others
read_once place before [] [] [] a b = refl
read_once place before [] [] (g ∷ others) a b = absurd b
read_once place before [] (f ∷ files) others a b = absurd a
read_once place before (x ∷ answers) [] others a b = absurd a
read_once place before (x ∷ answers) (f ∷ files) [] a b = absurd b
read_once place before (x ∷ answers) (f ∷ files) (g ∷ others) (own, tried, is, rest) (own', tried', is', rest') =
    let one : own ≡ own' = tried_once (nat_lt place most_files) x own own' tried tried' in
    let first : f ≡ g = is ∙ ap (λ o. record { theory = x.theory; outcome = counted before o }) one ∙ sym is' in
    let behind : files ≡ others = read_once (place + 1) (before + file_parts (counted before own)) answers files others rest
    (subst (λ o. AreReadFrom (place + 1) (before + file_parts (counted before o)) answers others) (sym one) rest') in
    λ i. first i ∷ behind i

-- ---- the imports
first_refused_once : (files : List File) (imports front front' back back' : List (List ℕ)) (p q : List ℕ) → front ++ p ∷ back ≡ front' ++ q ∷ back'
    → Each (λ x. ¬ IsRefused files x) front → Each (λ x. ¬ IsRefused files x) front' → IsRefused files p → IsRefused files q → p ≡ q
first_refused_once files imports [] [] back back' p q e k k' r r' = let same : p ≡ q = cc in same
first_refused_once files imports [] (x ∷ front') back back' p q e k k' r r' = let same : p ≡ x = cc in absurd (k'.0 (subst (IsRefused files) same r))
first_refused_once files imports (x ∷ front) [] back back' p q e k k' r r' = let same : x ≡ q = cc in absurd (k.0 (subst (IsRefused files) (sym same) r'))
first_refused_once files imports (x ∷ front) (y ∷ front') back back' p q e k k' r r' =
    let others : front ++ p ∷ back ≡ front' ++ q ∷ back' = cc in
    first_refused_once files imports front front' back back' p q others k.1 k'.1 r r'

kept_or_refused : (files : List File) (imports front back : List (List ℕ)) (p : List ℕ) → imports ≡ front ++ p ∷ back → IsRefused files p → Each (λ x. ¬ IsRefused files x) imports → ⊥
kept_or_refused files imports front back p parts r kept = last front (subst (Each (λ x. ¬ IsRefused files x)) parts kept)
  where
    last : (front : List (List ℕ)) → Each (λ x. ¬ IsRefused files x) (front ++ p ∷ back) → ⊥
    last [] k = k.0 r
    last (x ∷ front) k = last front k.1

standing_once : (files : List File) (theory : List ℕ) (imports : List (List ℕ)) (so_far o p : Outcome) → IsStandingJudged files theory imports so_far o → IsStandingJudged files theory imports so_far p → o ≡ p
standing_once files theory imports so_far o p (inl (c, e)) (inl (d, h)) = e ∙ sym h
standing_once files theory imports so_far o p (inl (c, e)) (inr (n, h)) = absurd (n c)
standing_once files theory imports so_far o p (inr (n, e)) (inl (d, h)) = absurd (n d)
standing_once files theory imports so_far o p (inr (n, inl (a, f, e))) (inr (m, inl (b, g, h))) =
    e ∙ ap (λ x. Refused (ParentRefused x)) (first_refused_once files imports f.front g.front f.back g.back a b (sym f.parts ∙ g.parts) f.kept g.kept f.refused g.refused) ∙ sym h
standing_once files theory imports so_far o p (inr (n, inl (a, f, e))) (inr (m, inr (k, h))) = absurd (kept_or_refused files imports f.front f.back a f.parts f.refused k)
standing_once files theory imports so_far o p (inr (n, inr (k, e))) (inr (m, inl (b, g, h))) = absurd (kept_or_refused files imports g.front g.back b g.parts g.refused k)
standing_once files theory imports so_far o p (inr (n, inr (k, e))) (inr (m, inr (l, h))) = e ∙ sym h

judged_outcome_once : (files : List File) (theory : List ℕ) (so_far o p : Outcome) → IsOutcomeJudged files theory so_far o → IsOutcomeJudged files theory so_far p → o ≡ p
judged_outcome_once files theory (Refused reason) o p a b = a ∙ sym b
judged_outcome_once files theory (Stands source text) o p a b = standing_once files theory (named_imports text) (Stands source text) o p a b

abbrev IsFileJudged : List File → File → File → Type 0
IsFileJudged all f j = (j.theory ≡ f.theory) × IsOutcomeJudged all f.theory f.outcome j.outcome

judged_once_from : (all files judged others : List File) → EachTwo (IsFileJudged all) files judged → EachTwo (IsFileJudged all) files others → judged ≡ others
judged_once_from all [] [] [] a b = refl
judged_once_from all [] [] (g ∷ others) a b = absurd b
judged_once_from all [] (j ∷ judged) others a b = absurd a
judged_once_from all (f ∷ files) [] others a b = absurd a
judged_once_from all (f ∷ files) (j ∷ judged) [] a b = absurd b
judged_once_from all (f ∷ files) (j ∷ judged) (g ∷ others) a b =
    let name : j.theory ≡ g.theory = a.0.0 ∙ sym b.0.0 in
    let said : j.outcome ≡ g.outcome = judged_outcome_once all f.theory f.outcome j.outcome g.outcome a.0.1 b.0.1 in
    let behind : judged ≡ others = judged_once_from all files judged others a.1 b.1 in
    λ i. record { theory = name i; outcome = said i } ∷ behind i

-- ---- the theories' names among the files
pub read_theories : (place before : ℕ) (answers : List Answer) (files : List File) → AreReadFrom place before answers files → map (λ (f : File). f.theory) files ≡ map (λ (a : Answer). a.theory) answers
read_theories place before [] [] a = refl
read_theories place before [] (f ∷ files) a = absurd a
read_theories place before (x ∷ answers) [] a = absurd a
read_theories place before (x ∷ answers) (f ∷ files) (own, tried, is, rest) =
    let first : f.theory ≡ x.theory = ap (λ (f : File). f.theory) is in
    let behind = read_theories (place + 1) (before + file_parts (counted before own)) answers files rest in
    λ i. first i ∷ behind i

pub linked_theories : (listed : List (List ℕ)) (files : List File) → map (λ (f : File). f.theory) (map (linked listed) files) ≡ map (λ (f : File). f.theory) files
linked_theories listed [] = refl
linked_theories listed (f ∷ files) = ap (λ ts. f.theory ∷ ts) (linked_theories listed files)

pub judged_theories : (all files judged : List File) → EachTwo (IsFileJudged all) files judged → map (λ (f : File). f.theory) judged ≡ map (λ (f : File). f.theory) files
judged_theories all [] [] a = refl
judged_theories all [] (j ∷ judged) a = absurd a
judged_theories all (f ∷ files) [] a = absurd a
judged_theories all (f ∷ files) (j ∷ judged) a = let name : j.theory ≡ f.theory = a.0.0 in let behind = judged_theories all files judged a.1 in λ i. name i ∷ behind i

pub not_below_itself : (t : List ℕ) → byte_order t t ≡ Less → ⊥
not_below_itself t less = let turned : byte_order t t ≡ ordering_reverse Less = nat_list_cmp_total.antisymm t t ∙ ap ordering_reverse less in cc

pub above-in : (t : List ℕ) (f : File) (files : List File) → AllByRecursion (λ u. byte_order t u ≡ Less) (map (λ (f : File). f.theory) files) → IsIn f files → byte_order t f.theory ≡ Less
above-in t f [] below m = absurd m
above-in t f (g ∷ files) below (inl e) = subst (λ (h : File). byte_order t h.theory ≡ Less) (sym e) below.0
above-in t f (g ∷ files) below (inr m) = above-in t f files below.1 m

-- of files whose names ascend, those of one name are one file
pub file_once : (files : List File) (f g : File) → IsStrictlySortedBy byte_order (map (λ (f : File). f.theory) files) → IsIn f files → IsIn g files → f.theory ≡ g.theory → f ≡ g
file_once [] f g sorted a b e = absurd a
file_once (h ∷ files) f g sorted (inl a) (inl b) e = a ∙ sym b
file_once (h ∷ files) f g sorted (inl a) (inr b) e =
    absurd (not_below_itself h.theory (subst (λ t. byte_order h.theory t ≡ Less) (sym e ∙ ap (λ (f : File). f.theory) a) (above-in h.theory g files (sorted_head byte_order h.theory (map (λ (f : File). f.theory) files) sorted) b)))
file_once (h ∷ files) f g sorted (inr a) (inl b) e =
    absurd (not_below_itself h.theory (subst (λ t. byte_order h.theory t ≡ Less) (e ∙ ap (λ (f : File). f.theory) b) (above-in h.theory f files (sorted_head byte_order h.theory (map (λ (f : File). f.theory) files) sorted) a)))
file_once (h ∷ files) f g sorted (inr a) (inr b) e = file_once files f g (sorted_tail byte_order h.theory (map (λ (f : File). f.theory) files) sorted) a b e

-- ---- the load order
least_once : (x y : List ℕ) → (x ≡ y) ⊎ (byte_order x y ≡ Less) → (y ≡ x) ⊎ (byte_order y x ≡ Less) → x ≡ y
least_once x y (inl e) b = e
least_once x y (inr l) (inl e) = sym e
least_once x y (inr l) (inr m) = absurd (not_below_itself x (nat_list_cmp_total.trans x y x l m))

loaded_once : (files : List File) → IsStrictlySortedBy byte_order (map (λ (f : File). f.theory) files) → (taken : List (List ℕ)) (ls ms : List Loaded)
    → AreTakenBehind files taken ls → AreTakenBehind files taken ms → ls ≡ ms
loaded_once files sorted taken [] [] a b = refl
loaded_once files sorted taken [] (m ∷ ms) a b = absurd (b.0.ready.left (a m.name m.source m.text b.0.ready.stands))
loaded_once files sorted taken (l ∷ ls) [] a b = absurd (a.0.ready.left (b l.name l.source l.text a.0.ready.stands))
loaded_once files sorted taken (l ∷ ls) (m ∷ ms) a b =
    let name : l.name ≡ m.name = least_once l.name m.name (a.0.least m.name m.source m.text b.0.ready) (b.0.least l.name l.source l.text a.0.ready) in
    let file : file_of l.name l.source l.text ≡ file_of m.name m.source m.text =
    file_once files (file_of l.name l.source l.text) (file_of m.name m.source m.text) sorted a.0.ready.stands b.0.ready.stands name in
    let said : Stands l.source l.text ≡ Stands m.source m.text = ap (λ (f : File). f.outcome) file in
    let source : l.source ≡ m.source = cc in
    let text : l.text ≡ m.text = cc in
    let parents : l.parents ≡ m.parents = a.1 ∙ ap (λ (t : TheoryText). map (index_among taken) (named_imports t)) text ∙ sym b.1 in
    let behind : ls ≡ ms = loaded_once files sorted (taken ++ m.name ∷ []) ls ms (subst (λ n. AreTakenBehind files (taken ++ n ∷ []) ls) name a.2) b.2 in
    λ i. record { name = name i; parents = parents i; source = source i; text = text i } ∷ behind i

-- ---- the session
session_of_once : (answers : List Answer) → IsStrictlySortedBy byte_order (map (λ (a : Answer). a.theory) answers) → (s t : Session) → IsSessionOf answers s → IsSessionOf answers t → s ≡ t
session_of_once answers sorted s t a b =
    let listed : List (List ℕ) = map (λ (a : Answer). a.theory) answers in
    let all : List File = map (linked listed) b.loading.read in
    let read : a.loading.read ≡ b.loading.read = read_once 0 0 answers a.loading.read b.loading.read a.loading.are_read b.loading.are_read in
    let judged : a.loading.judged ≡ b.loading.judged = judged_once_from all all a.loading.judged b.loading.judged (subst (λ r. AreJudged (map (linked listed) r) a.loading.judged) read a.loading.are_judged) b.loading.are_judged in
    let ascend : IsStrictlySortedBy byte_order (map (λ (f : File). f.theory) b.loading.judged) =
    subst (IsStrictlySortedBy byte_order) (sym (judged_theories all all b.loading.judged b.loading.are_judged ∙ linked_theories listed b.loading.read ∙ read_theories 0 0 answers b.loading.read b.loading.are_read)) sorted in
    let theories : s.theories ≡ t.theories = loaded_once b.loading.judged ascend [] s.theories t.theories (subst (λ j. AreTakenBehind j [] s.theories) judged a.loading.loaded) b.loading.loaded in
    let refused : s.refused ≡ t.refused = a.loading.refused_are ∙ ap (filter_map refusal_of) judged ∙ sym b.loading.refused_are in
    let files : s.files ≡ t.files = a.loading.counted ∙ sym b.loading.counted in
    let named : AreNames t.theories s.names = subst (λ ls. AreNames ls s.names) theories a.named in
    let names : s.names ≡ t.names = ascending_same s.names t.names named.ascend b.named.ascend (λ x.
    (λ m. (b.named.given x).1 ((named.given x).0 m), λ m. (named.given x).1 ((b.named.given x).0 m))) in
    λ i. record { names = names i; theories = theories i; refused = refused i; files = files i }

answer_theories : (files : List library.File) (theories : List (List ℕ)) → map (λ (a : Answer). a.theory) (map (answer_in files) theories) ≡ theories
answer_theories files [] = refl
answer_theories files (t ∷ theories) = ap (λ ts. t ∷ ts) (answer_theories files theories)

pub one_session : OneSession
one_session files s t a b =
    let theories : a.theories ≡ b.theories = ascending_once a.theories b.theories a.listed.ascend b.listed.ascend (λ t. a.listed.counted t ∙ sym (b.listed.counted t)) in
    session_of_once (map (answer_in files) b.theories) (subst (IsStrictlySortedBy byte_order) (sym (answer_theories files b.theories)) b.listed.ascend) s t
    (subst (λ ts. IsSessionOf (map (answer_in files) ts) s) theories a.session_of) b.session_of
