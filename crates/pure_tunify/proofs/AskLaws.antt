-- Unions of sorts, place by place, and what sorts ask of the arguments of a constructor and of the variables of types.
use Rattle.std.proofs.Common.{◌≡◌, ℕ, ◌+◌, ◌<◌, ◌≤◌, List, [], ◌∷◌, ◌++◌, map, length, get_or, take, take_all, inl, inr, ◌↔◌, refl, ap, sym, ◌∙◌, arith, Bool, true, false, IsTrue, MatchBool}
use Rattle.std.proofs.lemmas.List.{length-map, length-take-le, append-nil, append_assoc}
use Rattle.pure_text.specs.Lists.{Each, EachTwo}
use Rattle.pure_text.proofs.ListLaws.{each_of, each_at, each-append, each-left, each-right, two_long, two_read, read_in}
use Rattle.pure_text.proofs.LoopLaws.{longer_by, two_turn}
use Rattle.pure_typ.specs.SortUnion.{IsSortUnion}
use Rattle.pure_definitions.specs.Types.Typ.{Typ, TFree, TVar, Con, Typs, typs_of}
use Rattle.pure_definitions.specs.Types.Order.{Algebra, IsSortBelow, IsOfClass, IsOfSort, AreOfSorts}
use Rattle.pure_definitions.specs.Terms.Subst.{typ_instance}
use Rattle.pure_definitions.proofs.InstanceLemmas.{typs_instance-of}
use Rattle.pure_order.proofs.DomainLaws.{are_of_sorts}
use Rattle.pure_order.proofs.WalkLaws.{sort_turn}
use Rattle.pure_tunify.specs.declared.asks.Asked.{Asked}
use Rattle.pure_tunify.specs.Occurrences.{schematics, schematics_of}
use Rattle.pure_tunify.specs.Asking.{asked_variable}
use Rattle.pure_tunify.specs.Asks.{AreUnions, AreAskedOfArguments, HasNoSuchArguments, IsMet, AreAsked, HasNoInstance, AskMore, AreOfEach, AllAskMore, HaveNoInstances}

-- A type is of a union exactly where it is of both sorts.
pub of_union : (A : Algebra) (t : Typ) (s r u : List ℕ) → IsSortUnion s r u → IsOfSort A t u ↔ (IsOfSort A t s × IsOfSort A t r)
of_union A t s r u is = (
  λ h. (each_of (IsOfClass A t) s (λ c m. each_at (IsOfClass A t) u h c ((is.members c).1 (inl m))), each_of (IsOfClass A t) r (λ c m. each_at (IsOfClass A t) u h c ((is.members c).1 (inr m)))),
  λ w. each_of (IsOfClass A t) u (λ c m. elim ((is.members c).0 m) [ inl n ↦ each_at (IsOfClass A t) s w.0 c n | inr n ↦ each_at (IsOfClass A t) r w.1 c n ]),
)

unions-snoc : (ss rs us : List (List ℕ)) (s r u : List ℕ) → AreUnions ss rs us → IsSortUnion s r u → AreUnions (ss ++ s ∷ []) (rs ++ r ∷ []) (us ++ u ∷ [])
unions-snoc [] [] [] s r u h is = (is, tt)
unions-snoc [] [] (v ∷ us) s r u h is = absurd h
unions-snoc [] (q ∷ rs) us s r u h is = absurd h
unions-snoc (p ∷ ss) [] us s r u h is = absurd h
unions-snoc (p ∷ ss) (q ∷ rs) [] s r u h is = absurd h
unions-snoc (p ∷ ss) (q ∷ rs) (v ∷ us) s r u h is = (h.0, unions-snoc ss rs us s r u h.1 is)

pub unions_turn : (ss rs us : List (List ℕ)) (i : ℕ) (s r u : List ℕ) → length ss ≡ length rs → i < length ss → s ≡ get_or ss i s → r ≡ get_or rs i r → AreUnions (take i ss) (take i rs) us → IsSortUnion s r u
    → AreUnions (take (i + 1) ss) (take (i + 1) rs) (us ++ u ∷ [])
unions_turn ss rs us i s r u same within at_left at_right h is = rw (longer_by ss i s within at_left, longer_by rs i r (omega arith) at_right) (unions-snoc (take i ss) (take i rs) us s r u h is)

unions_long : (ss rs us : List (List ℕ)) → AreUnions ss rs us → length us ≡ length ss
unions_long [] [] [] h = refl
unions_long [] [] (v ∷ us) h = absurd h
unions_long [] (q ∷ rs) us h = absurd h
unions_long (p ∷ ss) [] us h = absurd h
unions_long (p ∷ ss) (q ∷ rs) [] h = absurd h
unions_long (p ∷ ss) (q ∷ rs) (v ∷ us) h = let rest = unions_long ss rs us h.1 in omega arith

each_unions : (A : Algebra) (ts : List Typ) (ss rs us : List (List ℕ)) → AreUnions ss rs us → EachTwo (IsOfSort A) ts us ↔ (EachTwo (IsOfSort A) ts ss × EachTwo (IsOfSort A) ts rs)
each_unions A [] [] [] [] h = (λ e. (tt, tt), λ e. tt)
each_unions A (t ∷ ts) [] [] [] h = (λ e. absurd e, λ e. absurd e.0)
each_unions A ts [] [] (v ∷ us) h = absurd h
each_unions A ts [] (q ∷ rs) us h = absurd h
each_unions A ts (p ∷ ss) [] us h = absurd h
each_unions A ts (p ∷ ss) (q ∷ rs) [] h = absurd h
each_unions A [] (s ∷ ss) (r ∷ rs) (u ∷ us) h = (λ e. absurd e, λ e. absurd e.0)
each_unions A (t ∷ ts) (s ∷ ss) (r ∷ rs) (u ∷ us) h =
    let one = of_union A t s r u h.0 in
    let rest = each_unions A ts ss rs us h.1 in
    (λ e. (((one.0 e.0).0, (rest.0 e.1).0), ((one.0 e.0).1, (rest.0 e.1).1)), λ e. (one.1 (e.0.0, e.1.0), rest.1 (e.0.1, e.1.1)))

of_no_classes : (A : Algebra) (ts : List Typ) (ss : List (List ℕ)) → Each (λ s. s ≡ []) ss → length ts ≡ length ss → EachTwo (IsOfSort A) ts ss
of_no_classes A [] [] h same = tt
of_no_classes A [] (s ∷ ss) h same = absurd (omega arith)
of_no_classes A (t ∷ ts) [] h same = absurd (omega arith)
of_no_classes A (t ∷ ts) (s ∷ ss) h same = (rw h.0 tt, of_no_classes A ts ss h.1 (omega arith))

pub asked_none : (A : Algebra) (k count : ℕ) (sorts : List (List ℕ)) → length sorts ≡ count → Each (λ s. s ≡ []) sorts → AreAskedOfArguments A k [] count sorts
asked_none A k count sorts long empty = record { long = long; exactly = λ ts many. (λ h. of_no_classes A ts sorts empty (many ∙ sym long), λ h. tt) }

pub asked_turn : (A : Algebra) (k c count i : ℕ) (s : List ℕ) (domains sorts next : List (List ℕ)) → i < length s → c ≡ get_or s i c → ((ts : Typs) → IsOfClass A (Con k ts) c ↔ AreOfSorts A ts domains)
    → AreAskedOfArguments A k (take i s) count sorts → AreUnions sorts domains next → AreAskedOfArguments A k (take (i + 1) s) count next
asked_turn A k c count i s domains sorts next within read by asked is = record {
  long = unions_long sorts domains next is ∙ asked.long;
  exactly = λ ts many. (
      let turn = sort_turn A (Con k (typs_of ts)) s i c within read in
      let before = asked.exactly ts many in
      let each = each_unions A ts sorts domains next is in
      let one = by (typs_of ts) in
      let two = are_of_sorts A ts domains in
      (λ h. each.1 (before.0 (turn.0 h).0, two.0 (one.0 (turn.0 h).1)), λ e. turn.1 (before.1 (each.0 e).0, one.1 (two.1 (each.0 e).1))));
}

pub asked_all : (A : Algebra) (k count i : ℕ) (s r : List ℕ) (sorts : List (List ℕ)) → s ≡ r → length s ≤ i → AreAskedOfArguments A k (take i s) count sorts → AreAskedOfArguments A k r count sorts
asked_all A k count i s r sorts same full asked = let all : take i s ≡ r = take_all i s full ∙ same in rw all at asked

-- A class of the sort that no such type has, or none with so many arguments.
pub no_arguments : (A : Algebra) (k c count i : ℕ) (s r : List ℕ) → s ≡ r → i < length s → c ≡ get_or s i c → ((ts : Typs) → ¬ IsOfClass A (Con k ts) c) → HasNoSuchArguments A k r count
no_arguments A k c count i s r same within read none ts many h = none (typs_of ts) (each_at (IsOfClass A (Con k (typs_of ts))) s (rw (sym same) at h) c (read_in s i c within read))

pub other_count : (A : Algebra) (k c count i : ℕ) (s r : List ℕ) (domains : List (List ℕ)) → s ≡ r → i < length s → c ≡ get_or s i c → ((ts : Typs) → IsOfClass A (Con k ts) c ↔ AreOfSorts A ts domains) → ¬ (length domains ≡ count)
    → HasNoSuchArguments A k r count
other_count A k c count i s r domains same within read by other ts many h =
    let one : IsOfClass A (Con k (typs_of ts)) c = each_at (IsOfClass A (Con k (typs_of ts))) s (rw (sym same) at h) c (read_in s i c within read) in
    other (sym (two_long (IsOfSort A) ts domains ((are_of_sorts A ts domains).0 ((by (typs_of ts)).0 one))) ∙ many)

not_true : IsTrue false → ⊥
not_true h = cc

-- What is asked of a fixed variable is met by all instances or by none.
pub ask_fixed : (A : Algebra) (x : ℕ) (own s : List ℕ) (old : List Asked) (b : Bool) → (IsTrue b ↔ IsSortBelow A own s)
    → MatchBool b (AskMore A (TFree x own) s old old × (map asked_variable old ≡ map asked_variable old ++ [])) (HasNoInstance A (TFree x own) s)
ask_fixed A x own s old true test = (λ typs sub. (λ h. (rw (sub.keeps x own) (test.0 refl), h), λ w. w.1), sym (append-nil (map asked_variable old)))
ask_fixed A x own s old false test = λ typs sub h. (let below : IsOfSort A (TFree x own) s = rw (sub.keeps x own) at h in not_true (test.1 below))

variables-snoc : (old : List Asked) (a : Asked) → map asked_variable (old ++ a ∷ []) ≡ map asked_variable old ++ asked_variable a ∷ []
variables-snoc [] a = refl
variables-snoc (x ∷ old) a = ap (λ vs. asked_variable x ∷ vs) (variables-snoc old a)

pub ask_schematic : (A : Algebra) (x i : ℕ) (own s : List ℕ) (old new : List Asked) (a : Asked) → a.name ≡ x → a.index ≡ i → a.sort ≡ own → a.asked ≡ s → new ≡ old ++ a ∷ []
    → AskMore A (TVar x i own) s old new × (map asked_variable new ≡ map asked_variable old ++ TVar x i own ∷ [])
ask_schematic A x i own s old new a name index sort asked grown =
    (λ typs sub. (λ h. met typs (rw grown at h), λ w. rw grown (each-append (IsMet A typs) old (a ∷ []) w.1 (rw (name, index, sort, asked) w.0, tt))), variables)
  where
    met : (typs : Typ → Typ) → Each (IsMet A typs) (old ++ a ∷ []) → IsOfSort A (typs (TVar x i own)) s × Each (IsMet A typs) old
    met typs h = (rw (sym name, sym index, sym sort, sym asked) (each-right (IsMet A typs) old (a ∷ []) h).0, each-left (IsMet A typs) old (a ∷ []) h)

    variables : map asked_variable new ≡ map asked_variable old ++ TVar x i own ∷ []
    variables = ap (map asked_variable) grown ∙ (variables-snoc old a ∙ ap (λ v. map asked_variable old ++ v ∷ []) (λ l. TVar (name l) (index l) (sort l)))

two_map : (A : Algebra) (f : Typ → Typ) (ts : List Typ) (ss : List (List ℕ)) → EachTwo (IsOfSort A) (map f ts) ss ↔ EachTwo (λ t s. IsOfSort A (f t) s) ts ss
two_map A f [] [] = (λ h. h, λ h. h)
two_map A f [] (s ∷ ss) = (λ h. h, λ h. h)
two_map A f (t ∷ ts) [] = (λ h. h, λ h. h)
two_map A f (t ∷ ts) (s ∷ ss) = let rest = two_map A f ts ss in (λ h. (h.0, rest.0 h.1), λ h. (h.0, rest.1 h.1))

-- an instance of a constructor's type is of a sort exactly where the instances of its arguments are of what is asked of them
pub of_sort_by_arguments : (A : Algebra) (k : ℕ) (s : List ℕ) (ts : List Typ) (sorts : List (List ℕ)) → AreAskedOfArguments A k s (length ts) sorts → (typs : Typ → Typ)
    → IsOfSort A (typ_instance typs (Con k (typs_of ts))) s ↔ AreOfEach A typs ts sorts
of_sort_by_arguments A k s ts sorts asked typs = rw (typs_instance-of typs ts) (
    let by = asked.exactly (map (typ_instance typs) ts) (length-map ts (typ_instance typs)) in
    let each = two_map A (typ_instance typs) ts sorts in
    (λ h. each.0 (by.0 h), λ h. by.1 (each.1 h)))

pub ask_none : (A : Algebra) (k : ℕ) (s : List ℕ) (ts : List Typ) → HasNoSuchArguments A k s (length ts) → HasNoInstance A (Con k (typs_of ts)) s
ask_none A k s ts none typs sub h = none (map (typ_instance typs) ts) (length-map ts (typ_instance typs)) (rw (typs_instance-of typs ts) at h)

pub ask_constructor : (A : Algebra) (k : ℕ) (s : List ℕ) (ts : List Typ) (sorts : List (List ℕ)) (old new : List Asked) (b : Bool) → AreAskedOfArguments A k s (length ts) sorts
    → MatchBool b (AllAskMore A ts sorts old new × (map asked_variable new ≡ map asked_variable old ++ schematics_of (typs_of ts))) (HaveNoInstances A ts sorts)
    → MatchBool b (AskMore A (Con k (typs_of ts)) s old new × (map asked_variable new ≡ map asked_variable old ++ schematics_of (typs_of ts))) (HasNoInstance A (Con k (typs_of ts)) s)
ask_constructor A k s ts sorts old new true asked h = (
  λ typs sub. (
      let by = of_sort_by_arguments A k s ts sorts asked typs in
      let all = h.0 typs sub in
      (λ met. (by.1 (all.0 met).0, (all.0 met).1), λ w. all.1 (by.0 w.0, w.1))),
  h.1,
)
ask_constructor A k s ts sorts old new false asked h = λ typs sub of. h typs sub ((of_sort_by_arguments A k s ts sorts asked typs).0 of)

pub each_none : (A : Algebra) (old : List Asked) → AllAskMore A [] [] old old
each_none A old typs sub = (λ h. (tt, h), λ w. w.1)

two_front : (R : Typ → List ℕ → Type 0) (ts us : List Typ) (ss rs : List (List ℕ)) → length ts ≡ length ss → EachTwo R (ts ++ us) (ss ++ rs) → EachTwo R ts ss × EachTwo R us rs
two_front R [] us [] rs same h = (tt, h)
two_front R [] us (s ∷ ss) rs same h = absurd (omega arith)
two_front R (t ∷ ts) us [] rs same h = absurd (omega arith)
two_front R (t ∷ ts) us (s ∷ ss) rs same h = let rest = two_front R ts us ss rs (omega arith) h.1 in ((h.0, rest.0), rest.1)

two_turned : (R : Typ → List ℕ → Type 0) (ts : List Typ) (ss : List (List ℕ)) (i : ℕ) (t : Typ) (s : List ℕ) → length ts ≡ length ss → i < length ts → t ≡ get_or ts i t → s ≡ get_or ss i s
    → EachTwo R (take (i + 1) ts) (take (i + 1) ss) ↔ (EachTwo R (take i ts) (take i ss) × R t s)
two_turned R ts ss i t s same within at_type at_sort = (there, λ w. two_turn R ts ss i t s same within at_type at_sort w.0 w.1)
  where
    longer_types : take (i + 1) ts ≡ take i ts ++ t ∷ []
    longer_types = longer_by ts i t within at_type

    longer_sorts : take (i + 1) ss ≡ take i ss ++ s ∷ []
    longer_sorts = longer_by ss i s (omega arith) at_sort

    fronts : length (take i ts) ≡ length (take i ss)
    fronts = length-take-le i ts (omega arith) ∙ sym (length-take-le i ss (omega arith))

    there : EachTwo R (take (i + 1) ts) (take (i + 1) ss) → EachTwo R (take i ts) (take i ss) × R t s
    there h = let w = two_front R (take i ts) (t ∷ []) (take i ss) (s ∷ []) fronts (rw (longer_types, longer_sorts) at h) in (w.0, w.1.0)

pub each_turn : (A : Algebra) (ts : List Typ) (ss : List (List ℕ)) (i : ℕ) (t : Typ) (s : List ℕ) (old now next : List Asked) → length ts ≡ length ss → i < length ts → t ≡ get_or ts i t → s ≡ get_or ss i s
    → AllAskMore A (take i ts) (take i ss) old now → AskMore A t s now next → AllAskMore A (take (i + 1) ts) (take (i + 1) ss) old next
each_turn A ts ss i t s old now next same within at_type at_sort before one typs sub =
    let first = before typs sub in
    let last = one typs sub in
    let turn = two_turned (λ t s. IsOfSort A (typ_instance typs t) s) ts ss i t s same within at_type at_sort in
    (λ met. (turn.1 ((first.0 (last.0 met).1).0, (last.0 met).0), (first.0 (last.0 met).1).1), λ w. last.1 ((turn.0 w.0).1, first.1 ((turn.0 w.0).0, w.1)))

schematics-snoc : (ts : List Typ) (t : Typ) → schematics_of (typs_of (ts ++ t ∷ [])) ≡ schematics_of (typs_of ts) ++ schematics t
schematics-snoc [] t = append-nil (schematics t)
schematics-snoc (u ∷ ts) t = ap (λ vs. schematics u ++ vs) (schematics-snoc ts t) ∙ sym (append_assoc (schematics u) (schematics_of (typs_of ts)) (schematics t))

-- The variables of one type more.
pub variables_turn : (ts : List Typ) (i : ℕ) (t : Typ) (old now next : List Asked) → i < length ts → t ≡ get_or ts i t → map asked_variable now ≡ map asked_variable old ++ schematics_of (typs_of (take i ts))
    → map asked_variable next ≡ map asked_variable now ++ schematics t → map asked_variable next ≡ map asked_variable old ++ schematics_of (typs_of (take (i + 1) ts))
variables_turn ts i t old now next within at_type before one =
    one
    ∙ (ap (λ vs. vs ++ schematics t) before
    ∙ (append_assoc (map asked_variable old) (schematics_of (typs_of (take i ts))) (schematics t)
    ∙ (ap (λ vs. map asked_variable old ++ vs) (sym (schematics-snoc (take i ts) t))
    ∙ ap (λ us. map asked_variable old ++ schematics_of (typs_of us)) (sym (longer_by ts i t within at_type)))))

pub each_full : (A : Algebra) (ts : List Typ) (ss : List (List ℕ)) (i : ℕ) (old now : List Asked) → length ts ≡ length ss → length ts ≤ i → AllAskMore A (take i ts) (take i ss) old now → AllAskMore A ts ss old now
each_full A ts ss i old now same full all =
    let types : take i ts ≡ ts = take_all i ts full in
    let sorts : take i ss ≡ ss = take_all i ss (omega arith) in
    rw (types, sorts) at all

pub one_without : (A : Algebra) (ts : List Typ) (ss : List (List ℕ)) (i : ℕ) (t : Typ) (s : List ℕ) → i < length ts → t ≡ get_or ts i t → s ≡ get_or ss i s → HasNoInstance A t s → HaveNoInstances A ts ss
one_without A ts ss i t s within at_type at_sort none typs sub all = none typs sub (two_read (λ t s. IsOfSort A (typ_instance typs t) s) ts ss i t s within at_type at_sort all)

-- What was asked, from nothing.
pub asked_from_none : (A : Algebra) (t : Typ) (s : List ℕ) (asked : List Asked) → AskMore A t s [] asked → AreAsked A t s asked
asked_from_none A t s asked more typs sub = let by = more typs sub in (λ h. by.1 (h, tt), λ met. (by.0 met).0)

-- The clause of a Boolean that is false, or true.
pub when_false : (P Q : Type 0) (b : Bool) → MatchBool b P Q → b ≡ false → Q
when_false P Q b h e = rw e at h

pub when_true : (P Q : Type 0) (b : Bool) → MatchBool b P Q → b ≡ true → P
when_true P Q b h e = rw e at h
