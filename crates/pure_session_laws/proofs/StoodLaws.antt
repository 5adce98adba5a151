-- What the file of a loaded theory says.
use Rattle.std.proofs.Common.{◌≡◌, ◌≤◌, inl, inr, ℕ, ◌+◌, Bool, true, false, cond, List, [], ◌∷◌, ◌++◌, length, map, refl, sym, ◌∙◌, ap, subst, Option, Some, None, nat_lt}
use Rattle.pure_text.specs.Lists.{IsIn}
use Rattle.pure_grammar.specs.Theories.TheoryText.{TheoryText}
use Rattle.pure_graph.specs.Limits.{most_files, most_bytes}
use Rattle.pure_graph.specs.Outcome.{Outcome, Refused, Stands, IsTheoryText, IsOwnOutcome, is_headed, is_large, tree_outcome}
use Rattle.pure_graph.specs.Reading.{Answer, File, IsTried, AreReadFrom, counted, file_parts}
use Rattle.pure_graph.specs.Graph.{IsOutcomeJudged, linked, first_absent, imports_of}
use Rattle.pure_graph.specs.Order.{Loaded, file_of, AreTakenBehind}
use Rattle.pure_graph.specs.Session.{Refusal, IsLoadingOf}
use Rattle.pure_graph.specs.declared.outcome.Reason.TheVariants.{TooManyFiles, TooLarge, HeaderName}
use Rattle.pure_session.proofs.GraphLemmas.{in_mapped}
use Rattle.pure_session.proofs.LoadedLemmas.{right_of, judged-before, linked-before, counted-before, tree-known}

-- The file of a theory stands by itself: its bytes aren't too many and have this tree, with the theory's name in front, which isn't too large.
pub record IsOwn (theory source : List ℕ) (text : TheoryText) : Type 0 where
  pub size : length source ≤ most_bytes
  pub spelled : IsTheoryText source text
  pub headed : is_headed theory text ≡ true
  pub fitting : is_large text ≡ false

-- what the tests on a tree leave
record IsLeft (theory source : List ℕ) (tree : TheoryText) (s : List ℕ) (x : TheoryText) : Type 0 where
  pub headed : is_headed theory tree ≡ true
  pub fitting : is_large tree ≡ false
  pub bytes : source ≡ s
  pub text : tree ≡ x

left-by : (theory source : List ℕ) (tree : TheoryText) (s : List ℕ) (x : TheoryText) (h l : Bool) → is_headed theory tree ≡ h → is_large tree ≡ l
    → cond h (cond l (Refused TooLarge) (Stands source tree)) (Refused HeaderName) ≡ Stands s x → IsLeft theory source tree s x
left-by theory source tree s x true true a b e = absurd (cc)
left-by theory source tree s x true false a b e = record { headed = a; fitting = b; bytes = cc; text = cc }
left-by theory source tree s x false l a b e = absurd (cc)

tree-left : (theory source : List ℕ) (tree : TheoryText) (s : List ℕ) (x : TheoryText) → tree_outcome theory source tree ≡ Stands s x → IsLeft theory source tree s x
tree-left theory source tree s x e = left-by theory source tree s x (is_headed theory tree) (is_large tree) refl refl (tree-known theory source tree s x e)

own-stands : (theory : List ℕ) (bytes : Option (List ℕ)) (s : List ℕ) (x : TheoryText) → IsOwnOutcome theory bytes (Stands s x) → IsOwn theory s x
own-stands theory None s x own = absurd (cc)
own-stands theory (Some source) s x (inl (l, o)) = absurd (cc)
own-stands theory (Some source) s x (inr (l, inl (at, f, o))) = absurd (cc)
own-stands theory (Some source) s x (inr (l, inr (tree, f, o))) =
    let left : IsLeft theory source tree s x = tree-left theory source tree s x (sym o) in
    record {
      size = subst (λ b. length b ≤ most_bytes) left.bytes l;
      spelled = subst (λ b. IsTheoryText b x) left.bytes (subst (IsTheoryText source) left.text f);
      headed = subst (λ t. is_headed theory t ≡ true) left.text left.headed;
      fitting = subst (λ t. is_large t ≡ false) left.text left.fitting;
    }

tried-stands : (is_read : Bool) (a : Answer) (own : Outcome) (s : List ℕ) (x : TheoryText) → IsTried is_read a own → own ≡ Stands s x → IsOwn a.theory s x
tried-stands true a own s x tried e = own-stands a.theory a.bytes s x (subst (IsOwnOutcome a.theory a.bytes) e tried)
tried-stands false a own s x tried e = let no : Refused TooManyFiles ≡ Stands s x = sym tried ∙ e in absurd (cc)

read-stands : (place n : ℕ) (answers : List Answer) (files : List File) (f : File) (s : List ℕ) (x : TheoryText) → AreReadFrom place n answers files → IsIn f files → f.outcome ≡ Stands s x → IsOwn f.theory s x
read-stands place n [] [] f s x read m o = absurd m
read-stands place n [] (g ∷ files) f s x read m o = absurd read
read-stands place n (a ∷ answers) [] f s x read m o = absurd m
read-stands place n (a ∷ answers) (g ∷ files) f s x (own, tried, made, rest) (inl e) o =
    let theory : f.theory ≡ a.theory = ap (λ (h : File). h.theory) (e ∙ made) in
    let said : counted n own ≡ Stands s x = sym (ap (λ (h : File). h.outcome) (e ∙ made)) ∙ o in
    subst (λ t. IsOwn t s x) (sym theory) (tried-stands (nat_lt place most_files) a own s x tried (counted-before n own s x said))
read-stands place n (a ∷ answers) (g ∷ files) f s x (own, tried, made, rest) (inr m) o =
    read-stands (place + 1) (n + file_parts (counted n own)) answers files f s x rest m o

-- a loaded theory is that of a file that stands
pub taken-stands : (files : List File) (taken : List (List ℕ)) (loaded : List Loaded) → AreTakenBehind files taken loaded → (l : Loaded) → IsIn l loaded → IsIn (file_of l.name l.source l.text) files
taken-stands files taken [] all l m = absurd m
taken-stands files taken (k ∷ loaded) all l (inl e) = subst (λ (x : Loaded). IsIn (file_of x.name x.source x.text) files) (sym e) all.0.ready.stands
taken-stands files taken (k ∷ loaded) all l (inr m) = taken-stands files (taken ++ k.name ∷ []) loaded all.2 l m

pub loaded-own : (answers : List Answer) (theories : List Loaded) (refused : List Refusal) (n : ℕ) → IsLoadingOf answers theories refused n → (l : Loaded) → IsIn l theories → IsOwn l.name l.source l.text
loaded-own answers theories refused n of l m =
    let listed : List (List ℕ) = map (λ (a : Answer). a.theory) answers in
    let all : List File = map (linked listed) of.read in
    let stood = taken-stands of.judged [] theories of.loaded l m in
    let f = right_of (λ (f j : File). (j.theory ≡ f.theory) × IsOutcomeJudged all f.theory f.outcome j.outcome) all of.judged (file_of l.name l.source l.text) of.are_judged stood in
    let said : f.0.outcome ≡ Stands l.source l.text = judged-before all f.0.theory f.0.outcome l.source l.text f.2.1 in
    let r = in_mapped (linked listed) f.0 of.read f.1 in
    let own : r.0.outcome ≡ Stands l.source l.text =
    linked-before r.0.outcome (first_absent listed (imports_of r.0.outcome)) l.source l.text (sym (ap (λ (h : File). h.outcome) r.2) ∙ said) in
    let name : l.name ≡ r.0.theory = f.2.0 ∙ ap (λ (h : File). h.theory) r.2 in
    subst (λ t. IsOwn t l.source l.text) (sym name) (read-stands 0 0 answers of.read r.0 l.source l.text of.are_read r.1 own)
