-- A text has one answer at most.
use Rattle.std.proofs.Common.{◌≡◌, ◌≢◌, ℕ, ◌+◌, ◌<◌, ◌≤◌, ◌⊎◌, suc, List, [], ◌∷◌, ◌++◌, Option, Some, None, Result, Ok, Err, slice_get, inl, inr, refl, ap, sym, subst, ◌∙◌, arith}
use Rattle.std.specs.List.Sorted.{IsStrictlyIncreasing}
use Rattle.pure_text.specs.Lists.{IsIn, Each}
use Rattle.pure_text.proofs.ListLaws.{each-right}
use Rattle.pure_definitions.specs.Types.Typ.{Typ}
use Rattle.pure_definitions.specs.Types.Order.{Algebra}
use Rattle.pure_definitions.specs.Terms.Term.{Term, IsWithin}
use Rattle.pure_definitions.specs.Terms.Subst.{inst_typ}
use Rattle.pure_order.specs.OrderTables.Classes.{IsAntisymmetric}
use Rattle.pure_tunify.specs.Settings.{composed}
use Rattle.pure_tunify.specs.Procedure.{Outcome, Unified, NotTyped, TooBig}
use Rattle.pure_tunify.proofs.OneAnswerLaws.{unifies_one}
use Rattle.pure_grammar.specs.Terms.RawTree.{RawTypTree, RawTree}
use Rattle.pure_elab.specs.declared.fault.FaultAt.{FaultAt}
use Rattle.pure_elab.specs.declared.fault.ElabFault.{ElabFault}
use Rattle.pure_elab.specs.declared.fault.ElabFault.TheVariants.{UnknownName, UnknownSort, WrongCount, Schematic, IllTyped, Big, Memory}
use Rattle.pure_elab.specs.declared.classes.WrittenClass.{WrittenClass}
use Rattle.pure_elab.specs.Vocabulary.{Vocabulary}
use Rattle.pure_elab.specs.Faults.{IsEarliest, term_faults, typ_faults}
use Rattle.pure_elab.specs.Written.{IsReducedSort, AreSorts, written_typ, term_classes, typ_classes, classes_at}
use Rattle.pure_elab.specs.Numbered.{with_fixed}
use Rattle.pure_elab.specs.Drafts.{Constraint, Draft, whole_draft}
use Rattle.pure_elab.specs.Answers.{fault_of, Comes, IsTypingFault, IsDraftOf, IsNameFault, IsElaborated, IsNotTyped, IsElaboratedTyp}
use Rattle.pure_elab.specs.Laws.{IsElabAnswer, IsElabTypAnswer, OneNameFault, OneElabAnswer, OneElabTypAnswer}

-- the first of two cuts of a list at the earliest fault is the second
cut_once : (front others : List FaultAt) (f g : FaultAt) (back rest : List FaultAt) → front ++ f ∷ back ≡ others ++ g ∷ rest
    → Each (λ h. f.at < h.at) front → Each (λ h. f.at ≤ h.at) back → Each (λ h. g.at < h.at) others → Each (λ h. g.at ≤ h.at) rest → f ≡ g
cut_once [] [] f g back rest e a b c d = cc
cut_once [] (o ∷ os) f g back rest e a b c d =
    let first : f ≡ o = cc in
    let tails : back ≡ os ++ g ∷ rest = cc in
    let behind = each-right (λ h. f.at ≤ h.at) os (g ∷ rest) (subst (λ (l : List FaultAt). Each (λ h. f.at ≤ h.at) l) tails b) in
    let before = subst (λ (h : FaultAt). g.at < h.at) (sym first) c.0 in
    absurd (omega (arith, before, behind.0))
cut_once (x ∷ xs) [] f g back rest e a b c d =
    let first : x ≡ g = cc in
    let tails : xs ++ f ∷ back ≡ rest = cc in
    let behind = each-right (λ h. g.at ≤ h.at) xs (f ∷ back) (subst (λ (l : List FaultAt). Each (λ h. g.at ≤ h.at) l) (sym tails) d) in
    let before = subst (λ (h : FaultAt). f.at < h.at) first a.0 in
    absurd (omega (arith, before, behind.0))
cut_once (x ∷ xs) (o ∷ os) f g back rest e a b c d =
    let tails : xs ++ f ∷ back ≡ os ++ g ∷ rest = cc in
    cut_once xs os f g back rest tails a.1 b c.1 d

pub one_name_fault : OneNameFault
one_name_fault faults f g h k = cut_once h.front k.front f g h.back k.back (sym h.stands ∙ k.stands) h.before h.behind k.before k.behind

not_empty : (front back : List FaultAt) (f : FaultAt) → front ++ f ∷ back ≡ [] → ⊥
not_empty [] back f e = absurd (cc)
not_empty (x ∷ xs) back f e = absurd (cc)

rises_behind : (x : ℕ) (xs : List ℕ) → IsStrictlyIncreasing (x ∷ xs) → IsStrictlyIncreasing xs
rises_behind x xs rises k within = let later : suc k + 1 ≡ suc (k + 1) = omega arith in rw later at (rises (suc k) (omega arith))

rises_first : (x y : ℕ) (xs : List ℕ) → IsStrictlyIncreasing (x ∷ xs) → IsIn y xs → x < y
rises_first x y [] rises m = absurd m
rises_first x y (z ∷ zs) rises (inl e) = let first = rises 0 (omega arith) in rw e first
rises_first x y (z ∷ zs) rises (inr m) = let first = rises 0 (omega arith) in let rest = rises_first z y zs (rises_behind x (z ∷ zs) rises) m in omega arith

-- Ascending lists with the same members are one.
same_members : (xs ys : List ℕ) → IsStrictlyIncreasing xs → IsStrictlyIncreasing ys → ((c : ℕ) → IsIn c xs → IsIn c ys) → ((c : ℕ) → IsIn c ys → IsIn c xs) → xs ≡ ys
same_members [] [] f g there back = refl
same_members [] (y ∷ ys) f g there back = absurd (back y (inl refl))
same_members (x ∷ xs) [] f g there back = absurd (there x (inl refl))
same_members (x ∷ xs) (y ∷ ys) f g there back =
    let first = same_first (there x (inl refl)) (back y (inl refl)) in
    let rest = same_members xs ys (rises_behind x xs f) (rises_behind y ys g)
    (λ c m. behind x y c xs ys first (rises_first x c xs f m) (there c (inr m)))
    (λ c m. behind y x c ys xs (sym first) (rises_first y c ys g m) (back c (inr m))) in
    λ i. first i ∷ rest i
  where
    same_first : IsIn x (y ∷ ys) → IsIn y (x ∷ xs) → x ≡ y
    same_first (inl e) m = e
    same_first (inr n) (inl e) = sym e
    same_first (inr n) (inr m) = let a = rises_first y x ys g n in let b = rises_first x y xs f m in absurd (omega arith)

    behind : (x y c : ℕ) (xs ys : List ℕ) → x ≡ y → x < c → IsIn c (y ∷ ys) → IsIn c ys
    behind x y c xs ys e above (inl f) = absurd (omega arith)
    behind x y c xs ys e above (inr m) = m

reduced_once : (A : Algebra) (cs r q : List ℕ) → IsReducedSort A cs r → IsReducedSort A cs q → r ≡ q
reduced_once A cs r q f g = same_members r q f.ascend g.ascend (λ c m. (g.reduced c).1 ((f.reduced c).0 m)) (λ c m. (f.reduced c).1 ((g.reduced c).0 m))

-- Of one list of written classes there is one list of sorts.
pub sorts_once : (A : Algebra) (written : List WrittenClass) (sorts others : ℕ → List ℕ) → AreSorts A written sorts → AreSorts A written others → sorts ≡ others
sorts_once A written sorts others f g = λ i x. reduced_once A (classes_at written x) (sorts x) (others x) (f x) (g x) i

pub draft_once : (V : Vocabulary) (t : RawTree) (T : Typ) (d e : Draft) → IsDraftOf V t T d → IsDraftOf V t T e → d ≡ e
draft_once V t T d e f g =
    let same = sorts_once V.algebra (term_classes V t) f.sorts g.sorts f.are_sorts g.are_sorts in
    f.is ∙ ap (λ sorts. whole_draft V sorts t T) same ∙ sym g.is

-- What an outcome of unification makes of a draft.
abbrev pub ResultOf : Vocabulary → Draft → Outcome → Result Term ElabFault → Type 0
ResultOf V d (Unified sets next) a =
    (IsWithin (inst_typ (composed sets) d.term) × (a ≡ Ok (with_fixed V.fresh (inst_typ (composed sets) d.term))))
    ⊎ ((¬ IsWithin (inst_typ (composed sets) d.term)) × (a ≡ Err Big))
ResultOf V d (NotTyped k) a = (c : Constraint) × (slice_get d.constraints k ≡ Some c) × (a ≡ Err (IllTyped c.at))
ResultOf V d (TooBig k) a = a ≡ Err Big

result_once : (V : Vocabulary) (d : Draft) (o : Outcome) (a b : Result Term ElabFault) → ResultOf V d o a → ResultOf V d o b → a ≡ b
result_once V d (Unified sets next) a b (inl f) (inl g) = f.1 ∙ sym g.1
result_once V d (Unified sets next) a b (inl f) (inr g) = absurd (g.0 f.0)
result_once V d (Unified sets next) a b (inr f) (inl g) = absurd (f.0 g.0)
result_once V d (Unified sets next) a b (inr f) (inr g) = f.1 ∙ sym g.1
result_once V d (NotTyped k) a b f g =
    let same : f.0 ≡ g.0 = some_once (slice_get d.constraints k) f.0 g.0 f.1 g.1 in
    f.2 ∙ ap (λ (c : Constraint). Err (IllTyped c.at)) same ∙ sym g.2
  where
    some_once : (o : Option Constraint) (c e : Constraint) → o ≡ Some c → o ≡ Some e → c ≡ e
    some_once None c e h k = absurd (cc)
    some_once (Some x) c e h k = cc
result_once V d (TooBig k) a b f g = f ∙ sym g

-- An answer other than want of memory is that of the fault of names that decides, or that of the draft's outcome.
pub data IsReasoned (V : Vocabulary) (t : RawTree) (T : Typ) (a : Result Term ElabFault) : Type 0 where
  named : (found : FaultAt) → IsEarliest (term_faults V [] t) found → a ≡ Err (fault_of found) → IsReasoned V t T a
  drafted : (d : Draft) → IsDraftOf V t T d → (o : Outcome) → Comes V d o → ResultOf V d o a → IsReasoned V t T a

name-reasoned : (V : Vocabulary) (t : RawTree) (T : Typ) (f : ElabFault) → IsNameFault (term_faults V [] t) f → IsReasoned V t T (Err f)
name-reasoned V t T f h = named h.found h.earliest (ap Err h.is)

ok-reasoned : (V : Vocabulary) (t : RawTree) (T : Typ) (u : Term) → IsElaborated V t T u → IsReasoned V t T (Ok u)
ok-reasoned V t T u h = drafted h.draft h.of_text (Unified h.typed.sets h.typed.next) h.typed.unifies (inl (h.typed.within, ap Ok h.typed.is))

ill-reasoned : (V : Vocabulary) (t : RawTree) (T : Typ) (at : ℕ) → IsNotTyped V t T (IllTyped at) → IsReasoned V t T (Err (IllTyped at))
ill-reasoned V t T at h = drafted h.draft h.of_text (NotTyped h.reason.number) h.reason.unifies (h.reason.constraint, h.reason.stands, ap (λ n. Err (IllTyped n)) h.reason.place)

big-reasoned : (V : Vocabulary) (t : RawTree) (T : Typ) → IsNotTyped V t T Big → IsReasoned V t T (Err Big)
big-reasoned V t T h = of_reason h.reason
  where
    of_reason : IsTypingFault V h.draft Big → IsReasoned V t T (Err Big)
    of_reason (inl large) = drafted h.draft h.of_text (Unified large.sets large.next) large.unifies (inr (large.beyond, refl))
    of_reason (inr typing) = drafted h.draft h.of_text (TooBig typing.0) typing.1 refl

reasoned : (V : Vocabulary) (t : RawTree) (T : Typ) (a : Result Term ElabFault) → IsElabAnswer V t T a → a ≢ Err Memory → IsReasoned V t T a
reasoned V t T (Ok u) h n = ok-reasoned V t T u h
reasoned V t T (Err (UnknownName at)) h n = name-reasoned V t T (UnknownName at) h
reasoned V t T (Err (UnknownSort at)) h n = name-reasoned V t T (UnknownSort at) h
reasoned V t T (Err (WrongCount at)) h n = name-reasoned V t T (WrongCount at) h
reasoned V t T (Err (Schematic at)) h n = name-reasoned V t T (Schematic at) h
reasoned V t T (Err (IllTyped at)) h n = ill-reasoned V t T at h
reasoned V t T (Err Big) h n = big-reasoned V t T h
reasoned V t T (Err Memory) h n = absurd (n refl)

empty-unearly : (fs : List FaultAt) (f : FaultAt) → fs ≡ [] → IsEarliest fs f → ⊥
empty-unearly fs f e h = not_empty h.front h.back f (sym h.stands ∙ e)

reasoned_once : (V : Vocabulary) → IsAntisymmetric V.algebra → (t : RawTree) (T : Typ) (a b : Result Term ElabFault) → IsReasoned V t T a → IsReasoned V t T b → a ≡ b
reasoned_once V anti t T a b (named f h e) (named g k d) = e ∙ ap (λ x. Err (fault_of x)) (one_name_fault (term_faults V [] t) f g h k) ∙ sym d
reasoned_once V anti t T a b (named f h e) (drafted d i o c r) = absurd (empty-unearly (term_faults V [] t) f i.sound h)
reasoned_once V anti t T a b (drafted d i o c r) (named f h e) = absurd (empty-unearly (term_faults V [] t) f i.sound h)
reasoned_once V anti t T a b (drafted d i o c r) (drafted e j p k s) =
    let same = draft_once V t T e d j i in
    let comes = subst (λ (x : Draft). Comes V x p) same k in
    let outcome = unifies_one V.algebra anti 2 c comes in
    let result = subst (λ (x : Draft). ResultOf V x p b) same s in
    result_once V d p a b (subst (λ (x : Outcome). ResultOf V d x a) outcome r) result

pub one_elab_answer : OneElabAnswer
one_elab_answer V anti t T a b f g m n = reasoned_once V anti t T a b (reasoned V t T a f m) (reasoned V t T b g n)

-- The same of types.
pub data IsTypReasoned (V : Vocabulary) (t : RawTypTree) (a : Result Typ ElabFault) : Type 0 where
  named_typ : (found : FaultAt) → IsEarliest (typ_faults V t) found → a ≡ Err (fault_of found) → IsTypReasoned V t a
  said : (T : Typ) → IsElaboratedTyp V t T → a ≡ Ok T → IsTypReasoned V t a

name-typ_reasoned : (V : Vocabulary) (t : RawTypTree) (f : ElabFault) → IsNameFault (typ_faults V t) f → IsTypReasoned V t (Err f)
name-typ_reasoned V t f h = named_typ h.found h.earliest (ap Err h.is)

typ_reasoned : (V : Vocabulary) (t : RawTypTree) (a : Result Typ ElabFault) → IsElabTypAnswer V t a → a ≢ Err Memory → IsTypReasoned V t a
typ_reasoned V t (Ok T) h n = said T h refl
typ_reasoned V t (Err (UnknownName at)) h n = name-typ_reasoned V t (UnknownName at) h
typ_reasoned V t (Err (UnknownSort at)) h n = name-typ_reasoned V t (UnknownSort at) h
typ_reasoned V t (Err (WrongCount at)) h n = name-typ_reasoned V t (WrongCount at) h
typ_reasoned V t (Err (Schematic at)) h n = name-typ_reasoned V t (Schematic at) h
typ_reasoned V t (Err (IllTyped at)) h n = name-typ_reasoned V t (IllTyped at) h
typ_reasoned V t (Err Big) h n = name-typ_reasoned V t Big h
typ_reasoned V t (Err Memory) h n = absurd (n refl)

typ_reasoned_once : (V : Vocabulary) (t : RawTypTree) (a b : Result Typ ElabFault) → IsTypReasoned V t a → IsTypReasoned V t b → a ≡ b
typ_reasoned_once V t a b (named_typ f h e) (named_typ g k d) = e ∙ ap (λ x. Err (fault_of x)) (one_name_fault (typ_faults V t) f g h k) ∙ sym d
typ_reasoned_once V t a b (named_typ f h e) (said T i d) = absurd (empty-unearly (typ_faults V t) f i.sound h)
typ_reasoned_once V t a b (said T i d) (named_typ f h e) = absurd (empty-unearly (typ_faults V t) f i.sound h)
typ_reasoned_once V t a b (said T i d) (said U j e) =
    let same = sorts_once V.algebra (typ_classes V t) i.sorts j.sorts i.are_sorts j.are_sorts in
    d ∙ ap Ok (i.is ∙ ap (λ sorts. written_typ V sorts t) same ∙ sym j.is) ∙ sym e

pub one_elab_typ_answer : OneElabTypAnswer
one_elab_typ_answer V t a b f g m n = typ_reasoned_once V t a b (typ_reasoned V t a f m) (typ_reasoned V t b g n)
