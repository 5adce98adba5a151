-- Look-ups of classes and sorts, step by step.
use Rattle.std.proofs.Common.{◌≡◌, ◌<◌, ℕ, ◌+◌, List, [], ◌∷◌, ◌++◌, take, get_or, length, refl, sym, ap, subst, inl, inr}
use Rattle.std.specs.Prelude.{Option, Some, None, Result, Ok, Err, IsErrAnd, IfErr}
use Rattle.std.specs.Global.{Vec}
use Rattle.pure_text.specs.Lists.{IsIn, Each, EachTwo}
use Rattle.pure_text.proofs.ListLaws.{any_read, any-map}
use Rattle.pure_definitions.specs.Declarations.Decl.{IsDeclaredClass, ConDecl}
use Rattle.pure_logic.specs.Content.{Content, IsContent}
use Rattle.pure_lookup.specs.Meaning.{constructors}
use Rattle.pure_lookup.specs.LookUps.{IsFoundName}
use Rattle.pure_lookup.specs.Laws.{IsInSession}
use Rattle.pure_lookup.proofs.MeaningLaws.{found_is_declared}
use Rattle.pure_script.specs.Seen.{sorts}
use Rattle.pure_elab.specs.Vocabulary.{Vocabulary}
use Rattle.pure_elab.specs.Found.{vocabulary_of}
use Rattle.pure_elab.specs.Table.{IsSortOf}
use Rattle.pure_elab.proofs.FoundLaws.{content_has_vocabulary}
use Rattle.pure_statements.specs.declared.reason.Reason.{Reason}
use Rattle.pure_statements.specs.declared.reason.Reason.TheVariants.{UnknownClass, UnknownType}
use Rattle.pure_statements.specs.declared.reason.Failed.{Failed}
use Rattle.pure_statements.specs.declared.reason.Failed.TheVariants.{Refused, Memory}
use Rattle.pure_statements.specs.Chain.{Answers, FailsAs, Found}
use Rattle.pure_declare.specs.Lookups.{AreWritten, HasUnknown, AreWrittenClasses, IsWrittenSort, AreWrittenSorts}
use Rattle.pure_declare.proofs.KnownLaws.{class-known, classes-known, two_more}

-- A failure that is passed on.
pub passed-on : {A B : Type 0} (F : Result A Reason → Type 0) (f : Failed) (r : Result B Failed) → IsErrAnd r (λ e. e ≡ f) → FailsAs F f → IfErr r (FailsAs F)
passed-on F f (Ok b) is h = absurd is
passed-on F f (Err e) is h = subst (λ (g : Failed). FailsAs F g) (sym is) h

pub passed-on_memory : {A B : Type 0} (F : Result A Reason → Type 0) (r : Result B Failed) → IsErrAnd r (λ e. e ≡ Memory) → IfErr r (FailsAs F)
passed-on_memory F r is = passed-on F Memory r is tt

not-found : (o : Option ℕ) (reason why : Reason) → Found o why (Err reason) → (o ≡ None) × (reason ≡ why)
not-found None reason why h = let same : reason ≡ why = cc in (refl, same)
not-found (Some n) reason why h = absurd (cc)

unknown : (V : Vocabulary) (ws : List (List ℕ)) (i : ℕ) (w : List ℕ) (f : Failed) → i < length ws → w ≡ get_or ws i w → Answers {A = ℕ} (Found (V.class_written w) UnknownClass) (Err f) → FailsAs (AreWrittenClasses V ws) f
unknown V ws i w (Refused reason) within is h =
    let none = not-found (V.class_written w) reason UnknownClass h in
    (any_read (λ x. V.class_written x ≡ None) ws i w within is none.0, none.1)
unknown V ws i w Memory within is h = tt

pub class-unknown : {B : Type 0} (V : Vocabulary) (ws : List (List ℕ)) (i : ℕ) (w v : List ℕ) (f : Failed) (r : Result B Failed) → i < length ws → w ≡ get_or ws i w → v ≡ w
    → Answers {A = ℕ} (Found (V.class_written v) UnknownClass) (Err f) → IsErrAnd r (λ e. e ≡ f) → IfErr r (FailsAs (AreWrittenClasses V ws))
class-unknown V ws i w v f r within is same h passed =
    passed-on (AreWrittenClasses V ws) f r passed (unknown V ws i w f within is (subst (λ (x : List ℕ). Answers {A = ℕ} (Found (V.class_written x) UnknownClass) (Err f)) same h))

sort-unknown-here : (V : Vocabulary) (ws : List (Vec (List ℕ))) (i : ℕ) (w : Vec (List ℕ)) (f : Failed) → i < length ws → w ≡ get_or ws i w → FailsAs (AreWrittenClasses V w.items) f → FailsAs (AreWrittenSorts V (sorts ws)) f
sort-unknown-here V ws i w (Refused reason) within is h =
    ((any-map (λ (v : Vec (List ℕ)). v.items) (HasUnknown V) ws).1 (any_read (λ v. HasUnknown V v.items) ws i w within is h.0), h.1)
sort-unknown-here V ws i w Memory within is h = tt

pub sort-unknown : {B : Type 0} (V : Vocabulary) (ws : List (Vec (List ℕ))) (i : ℕ) (w : Vec (List ℕ)) (v : List (List ℕ)) (f : Failed) (r : Result B Failed) → i < length ws → w ≡ get_or ws i w → v ≡ w.items
    → FailsAs (AreWrittenClasses V v) f → IsErrAnd r (λ e. e ≡ f) → IfErr r (FailsAs (AreWrittenSorts V (sorts ws)))
sort-unknown V ws i w v f r within is same h passed =
    passed-on (AreWrittenSorts V (sorts ws)) f r passed (sort-unknown-here V ws i w f within is (subst (λ (x : List (List ℕ)). FailsAs (AreWrittenClasses V x) f) same h))

found-some : (o : Option ℕ) (why : Reason) (n : ℕ) → Found o why (Ok n) → o ≡ Some n
found-some None why n h = absurd (cc)
found-some (Some m) why n h = let same : m ≡ n = cc in ap Some same

-- One class more that is found, and one sort more.
pub class-more : (V : Vocabulary) (ws : List (List ℕ)) (i : ℕ) (w v : List ℕ) (cs ds : List ℕ) (c : ℕ) → i < length ws → w ≡ get_or ws i w → v ≡ w → AreWritten V (take i ws) cs
    → Found (V.class_written v) UnknownClass (Ok c) → ds ≡ cs ++ c ∷ [] → AreWritten V (take (i + 1) ws) ds
class-more V ws i w v cs ds c within is same h found next =
    two_more (λ x d. V.class_written x ≡ Some d) ws i w cs ds c within is h (subst (λ (x : List ℕ). V.class_written x ≡ Some c) same (found-some (V.class_written v) UnknownClass c found)) next

-- The sorts are those of the classes written so, in order.
abbrev pub AreSorts : Vocabulary → List (Vec (List ℕ)) → List (List ℕ) → Type 0
AreSorts V ws ss = EachTwo (λ v s. IsWrittenSort V v.items s) ws ss

pub sort-more : (V : Vocabulary) (ws : List (Vec (List ℕ))) (i : ℕ) (w : Vec (List ℕ)) (v : List (List ℕ)) (ss ts : List (List ℕ)) (s : List ℕ) → i < length ws → w ≡ get_or ws i w → v ≡ w.items → AreSorts V (take i ws) ss
    → IsWrittenSort V v s → ts ≡ ss ++ s ∷ [] → AreSorts V (take (i + 1) ws) ts
sort-more V ws i w v ss ts s within is same h found next =
    two_more (λ x d. IsWrittenSort V x.items d) ws i w ss ts s within is h (subst (λ (x : List (List ℕ)). IsWrittenSort V x s) same found) next

pub sorts-all : (V : Vocabulary) (ws : List (Vec (List ℕ))) (ss : List (List ℕ)) → AreSorts V ws ss → EachTwo (IsWrittenSort V) (sorts ws) ss
sorts-all V [] [] h = tt
sorts-all V [] (s ∷ ss) h = absurd h
sorts-all V (w ∷ ws) [] h = absurd h
sorts-all V (w ∷ ws) (s ∷ ss) h = (h.0, sorts-all V ws ss h.1)

-- A sort of the classes that are found is one that is written so.
pub sort-written : (V : Vocabulary) (ws : List (List ℕ)) (cs ds s : List ℕ) → AreWritten V ws cs → ds ≡ cs → IsSortOf ds s → IsWrittenSort V ws s
sort-written V ws cs ds s written same h = (cs, written, subst (λ (x : List ℕ). IsSortOf x s) same h)

module _ (texts : List (List ℕ)) (Q : Content) (s : IsInSession texts Q) (content : IsContent Q) where
  each-known : (cs ds : List ℕ) → ((c : ℕ) → IsIn c ds → IsIn c cs) → Each (IsDeclaredClass Q.declarations) cs → Each (IsDeclaredClass Q.declarations) ds
  each-known cs [] from h = tt
  each-known cs (d ∷ ds) from h = (there cs (from d (inl refl)) h, each-known cs ds (λ c m. from c (inr m)) h)
    where
      there : (xs : List ℕ) → IsIn d xs → Each (IsDeclaredClass Q.declarations) xs → IsDeclaredClass Q.declarations d
      there [] m h = absurd m
      there (x ∷ xs) (inl e) h = subst (λ (y : ℕ). IsDeclaredClass Q.declarations y) (sym e) h.0
      there (x ∷ xs) (inr m) h = there xs m h.1

  -- The classes of sorts that are found are declared.
  pub sorts-known : (ws : List (List (List ℕ))) (ss : List (List ℕ)) → EachTwo (IsWrittenSort (vocabulary_of texts Q)) ws ss → Each (Each (IsDeclaredClass Q.declarations)) ss
  sorts-known [] [] h = tt
  sorts-known [] (c ∷ cs) h = absurd h
  sorts-known (w ∷ ws) [] h = absurd h
  sorts-known (w ∷ ws) (c ∷ cs) h =
      let first = h.0 in
      (each-known first.0 c (λ d m. (first.2.members d).0 m) (classes-known texts Q s content w first.0 first.1), sorts-known ws cs h.1)

  -- A type constructor that is found is declared, and so is a class.
  pub typ-known : (w : List ℕ) (k : ℕ) → Found ((vocabulary_of texts Q).constructor_written w) UnknownType (Ok k) → (n : ℕ) × IsIn (ConDecl k n) Q.declarations
  typ-known w k h =
      found_is_declared texts Q constructors w k
      (subst (λ (o : Option ℕ). IsFoundName texts Q constructors w o) (found-some ((vocabulary_of texts Q).constructor_written w) UnknownType k h) ((content_has_vocabulary texts Q s content).constructors_found w))

  pub one_class-known : (w : List ℕ) (c : ℕ) → Found ((vocabulary_of texts Q).class_written w) UnknownClass (Ok c) → IsDeclaredClass Q.declarations c
  one_class-known w c h = class-known texts Q s content w c (found-some ((vocabulary_of texts Q).class_written w) UnknownClass c h)
