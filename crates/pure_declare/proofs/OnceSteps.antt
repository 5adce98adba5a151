-- Each step of a command has one answer at most.
use Rattle.std.proofs.Common.{◌≡◌, ◌<◌, ℕ, ◌+◌, suc, List, [], ◌∷◌, refl, sym, ◌∙◌, ap, subst, inl, inr, arith}
use Rattle.std.specs.Prelude.{Option, Some, None, Result, Ok, Err, slice_range}
use Rattle.std.specs.List.Sorted.{IsStrictlyIncreasing}
use Rattle.std.proofs.lemmas.Option.{same_Some, none-some}
use Rattle.pure_text.specs.Lists.{IsIn, EachTwo, AnyOf}
use Rattle.pure_definitions.specs.Types.Typ.{Typ, prop}
use Rattle.pure_definitions.specs.Terms.Term.{Term}
use Rattle.pure_definitions.specs.Reduction.Beta as beta
use Rattle.pure_definitions.specs.Reduction.Beta.{BetaAnswer, IsBetaAnswer}
use Rattle.pure_term_laws.proofs.BetaLaws.{one_beta_answer}
use Rattle.pure_order.specs.OrderTables.Classes.{IsAntisymmetric}
use Rattle.pure_grammar.specs.declared.token.Token.{Token}
use Rattle.pure_grammar.specs.Theories.TheoryText.{Span}
use Rattle.pure_grammar.specs.Terms.RawTree.{RawTypTree, RawTree}
use Rattle.pure_grammar.proofs.Readings.{one_list, list_or_fault, one_fault}
use Rattle.pure_grammar.proofs.InnerLemmas.{one_term, one_type}
use Rattle.pure_read.specs.Stuck.{IsTooLong}
use Rattle.pure_read.proofs.FaultLaws.{term_or_fault, type_or_fault, one_term_fault, one_type_fault}
use Rattle.pure_elab.specs.Vocabulary.{Vocabulary}
use Rattle.pure_elab.specs.Table.{IsSortOf}
use Rattle.pure_elab.specs.declared.fault.ElabFault.{ElabFault}
use Rattle.pure_elab.specs.declared.fault.ElabFault.TheVariants as elab
use Rattle.pure_elab.proofs.AnswerLaws.{one_elab_answer, one_elab_typ_answer}
use Rattle.pure_statements.specs.declared.reason.Reason.{Reason}
use Rattle.pure_statements.specs.declared.reason.Reason.TheVariants.{Syntax, TooLong, TooLarge, TooManySteps}
use Rattle.pure_statements.specs.declared.reason.Failed.TheVariants.{Refused}
use Rattle.pure_statements.specs.Chain.{Then, Unless, Gives, Found, refuses, goes_on, holds, passes}
use Rattle.pure_statements.specs.Quoted.{AreTokensOf, IsTermOf, IsTypeOf, IsReadTerm, IsReadTyp, ended_at}
use Rattle.pure_statements.specs.Elaborated.{failed_elaboration, IsTypedTerm, IsWrittenTyp}
use Rattle.pure_statements.specs.Statement.{IsNormalised, IsLarge, IsStatedNormal, IsStatedTerm, IsStatedTree, IsStated, IsStatedTyp, stated}
use Rattle.pure_declare.specs.Lookups.{AreWritten, HasUnknown, AreWrittenClasses, IsWrittenSort, AreWrittenSorts}

-- There is one answer at most.
abbrev pub Once : {A : Type 0} → (Result A Reason → Type 0) → Type 0
Once {A} Is = (r s : Result A Reason) → Is r → Is s → r ≡ s

ok-same : {A : Type 0} (a b : A) → ◌≡◌ {A = Result A Reason} (Ok a) (Ok b) → a ≡ b
ok-same a b e = cc

err-same : {A : Type 0} (p q : Reason) → ◌≡◌ {A = Result A Reason} (Err p) (Err q) → p ≡ q
err-same p q e = cc

ok-no_err : {A : Type 0} (a : A) (p : Reason) → ◌≡◌ {A = Result A Reason} (Ok a) (Err p) → ⊥
ok-no_err a p e = absurd (cc)

err-no_ok : {A : Type 0} (a : A) (p : Reason) → ◌≡◌ {A = Result A Reason} (Err p) (Ok a) → ⊥
err-no_ok a p e = absurd (cc)

-- So it is where the answers of each kind agree, and where there aren't both a result and a refusal.
pub once-by : {A : Type 0} (Is : Result A Reason → Type 0) → ((a b : A) → Is (Ok a) → Is (Ok b) → a ≡ b) → ((a : A) (p : Reason) → Is (Ok a) → Is (Err p) → ⊥) → ((p q : Reason) → Is (Err p) → Is (Err q) → p ≡ q) → Once Is
once-by Is oks not errs (Ok a) (Ok b) h k = ap Ok (oks a b h k)
once-by Is oks not errs (Ok a) (Err q) h k = absurd (not a q h k)
once-by Is oks not errs (Err p) (Ok b) h k = absurd (not b p k h)
once-by Is oks not errs (Err p) (Err q) h k = ap Err (errs p q h k)

pub gives-once : {A : Type 0} (a : A) → Once (Gives a)
gives-once a r s h k = h ∙ sym k

pub found-once : {A : Type 0} (o : Option A) (why : Reason) → Once (Found o why)
found-once None why r s h k = h ∙ sym k
found-once (Some a) why r s h k = h ∙ sym k

pub then-once : {A B : Type 0} (first : Result A Reason → Type 0) (next : A → Result B Reason → Type 0) → Once first → ((a : A) → Once (next a)) → Once (Then first next)
then-once first next f n r s (refuses p h e) (refuses q k d) = e ∙ ap Err (err-same p q (f (Err p) (Err q) h k)) ∙ sym d
then-once first next f n r s (refuses p h e) (goes_on b k d) = absurd (err-no_ok b p (f (Err p) (Ok b) h k))
then-once first next f n r s (goes_on a h e) (refuses q k d) = absurd (ok-no_err a q (f (Ok a) (Err q) h k))
then-once first next f n r s (goes_on a h e) (goes_on b k d) = n b r s (subst (λ x. next x r) (ok-same a b (f (Ok a) (Ok b) h k)) e) d

pub unless-once : {B : Type 0} (P : Type 0) (reason : Reason) (next : Result B Reason → Type 0) → Once next → Once (Unless P reason next)
unless-once P reason next n r s (holds h e) (holds k d) = e ∙ sym d
unless-once P reason next n r s (holds h e) (passes k d) = absurd (k h)
unless-once P reason next n r s (passes h e) (holds k d) = absurd (h k)
unless-once P reason next n r s (passes h e) (passes k d) = n r s e d

-- Texts that are read.
module _ (source : List ℕ) (span : Span) where
  tokens-once : Once (AreTokensOf source span)
  tokens-once = once-by (AreTokensOf source span)
      (λ ts us h k. one_list span.to (slice_range source span.from span.to) ts us h k)
      (λ ts p h k. list_or_fault span.to k.0 (slice_range source span.from span.to) ts h k.1)
      (λ p q h k. h.2 ∙ ap Syntax (one_fault span.to h.0 k.0 (slice_range source span.from span.to) h.1 k.1) ∙ sym k.2)

  term-once : (tokens : List Token) → Once (IsTermOf source span tokens)
  term-once tokens = once-by (IsTermOf source span tokens)
      (λ t u h k. one_term source tokens t u h k)
      (λ t p h k. term_or_fault source tokens t k.0 h k.1)
      (λ p q h k. h.2 ∙ ap (λ n. Syntax (ended_at source span n)) (one_term_fault source tokens h.0 k.0 h.1 k.1) ∙ sym k.2)

  type-once : (tokens : List Token) → Once (IsTypeOf source span tokens)
  type-once tokens = once-by (IsTypeOf source span tokens)
      (λ t u h k. one_type source tokens t u h k)
      (λ t p h k. type_or_fault source tokens t k.0 h k.1)
      (λ p q h k. h.2 ∙ ap (λ n. Syntax (ended_at source span n)) (one_type_fault source tokens h.0 k.0 h.1 k.1) ∙ sym k.2)

  pub read_term-once : Once (IsReadTerm source span)
  read_term-once = then-once (AreTokensOf source span) (λ tokens. Unless (IsTooLong tokens) TooLong (IsTermOf source span tokens)) tokens-once
      (λ tokens. unless-once (IsTooLong tokens) TooLong (IsTermOf source span tokens) (term-once tokens))

  read_typ-once : Once (IsReadTyp source span)
  read_typ-once = then-once (AreTokensOf source span) (λ tokens. Unless (IsTooLong tokens) TooLong (IsTypeOf source span tokens)) tokens-once
      (λ tokens. unless-once (IsTooLong tokens) TooLong (IsTypeOf source span tokens) (type-once tokens))

-- A fault that refuses isn't want of memory.
not-memory : {A : Type 0} (f : ElabFault) (p : Reason) → failed_elaboration f ≡ Refused p → ◌≡◌ {A = Result A ElabFault} (Err f) (Err elab.Memory) → ⊥
not-memory f p h e =
    let memory : f ≡ elab.Memory = cc in
    let same : failed_elaboration elab.Memory ≡ Refused p = ap failed_elaboration (sym memory) ∙ h in
    absurd (cc)

no-fault : {A : Type 0} (a : A) (f : ElabFault) → ◌≡◌ {A = Result A ElabFault} (Ok a) (Err f) → ⊥
no-fault a f e = absurd (cc)

same-said : {A : Type 0} (a b : A) → ◌≡◌ {A = Result A ElabFault} (Ok a) (Ok b) → a ≡ b
same-said a b e = cc

same-reason : {A : Type 0} (f g : ElabFault) (p q : Reason) → failed_elaboration f ≡ Refused p → failed_elaboration g ≡ Refused q → ◌≡◌ {A = Result A ElabFault} (Err f) (Err g) → p ≡ q
same-reason f g p q h k e =
    let same : f ≡ g = cc in
    let both : Refused p ≡ Refused q = sym h ∙ ap failed_elaboration same ∙ k in
    cc

-- Trees that are elaborated.
module _ (V : Vocabulary) where
  pub typed-once : IsAntisymmetric V.algebra → (T : Typ) (raw : RawTree) → Once (IsTypedTerm V T raw)
  typed-once anti T raw = once-by (IsTypedTerm V T raw)
      (λ t u h k. same-said t u (one_elab_answer V anti raw T (Ok t) (Ok u) h k (no-fault t elab.Memory) (no-fault u elab.Memory)))
      (λ t p h k. no-fault t k.0 (one_elab_answer V anti raw T (Ok t) (Err k.0) h k.1 (no-fault t elab.Memory) (not-memory k.0 p k.2)))
      (λ p q h k. same-reason {A = Term} h.0 k.0 p q h.2 k.2 (one_elab_answer V anti raw T (Err h.0) (Err k.0) h.1 k.1 (not-memory h.0 p h.2) (not-memory k.0 q k.2)))

  written-once : (raw : RawTypTree) → Once (IsWrittenTyp V raw)
  written-once raw = once-by (IsWrittenTyp V raw)
      (λ t u h k. same-said t u (one_elab_typ_answer V raw (Ok t) (Ok u) h k (no-fault t elab.Memory) (no-fault u elab.Memory)))
      (λ t p h k. no-fault t k.0 (one_elab_typ_answer V raw (Ok t) (Err k.0) h k.1 (no-fault t elab.Memory) (not-memory k.0 p k.2)))
      (λ p q h k. same-reason {A = Typ} h.0 k.0 p q h.2 k.2 (one_elab_typ_answer V raw (Err h.0) (Err k.0) h.1 k.1 (not-memory h.0 p h.2) (not-memory k.0 q k.2)))

  pub stated_typ-once : (source : List ℕ) (span : Span) → Once (IsStatedTyp V source span)
  stated_typ-once source span = then-once (IsReadTyp source span) (IsWrittenTyp V) (read_typ-once source span) written-once

-- the step's answer where the normaliser answers so
abbrev pub answer_of : BetaAnswer → Result Term Reason
answer_of (beta.NormalForm u) = Ok u
answer_of beta.TooLarge = Err TooLarge
answer_of beta.TooManySteps = Err TooManySteps

answered : (t : Term) (r : Result Term Reason) → IsNormalised t r → (a : BetaAnswer) × IsBetaAnswer t a × (r ≡ answer_of a)
answered t (Ok u) h = (beta.NormalForm u, h, refl)
answered t (Err TooLarge) h = (beta.TooLarge, h, refl)
answered t (Err TooManySteps) h = (beta.TooManySteps, h, refl)
answered t (Err _) h = absurd h

-- Normal forms, and statements.
pub normalised-once : (t : Term) → Once (IsNormalised t)
normalised-once t r s h k =
    let a = answered t r h in
    let b = answered t s k in
    a.2 ∙ ap answer_of (one_beta_answer t a.0 b.0 a.1 b.1) ∙ sym b.2

pub stated-once : (V : Vocabulary) → IsAntisymmetric V.algebra → (source : List ℕ) (span : Span) → Once (IsStated V source span)
stated-once V anti source span = then-once (IsReadTerm source span) (IsStatedTree V) (read_term-once source span)
    (λ raw. then-once (IsTypedTerm V prop raw) IsStatedTerm (typed-once V anti prop raw)
    (λ t. then-once (IsNormalised t) IsStatedNormal (normalised-once t)
    (λ u. unless-once (IsLarge u) TooLarge (Gives (stated u)) (gives-once (stated u)))))

-- Written classes and sorts.
rises_behind : (x : ℕ) (xs : List ℕ) → IsStrictlyIncreasing (x ∷ xs) → IsStrictlyIncreasing xs
rises_behind x xs rises k within = let later : suc k + 1 ≡ suc (k + 1) = omega arith in rw later at (rises (suc k) (omega arith))

rises_first : (x y : ℕ) (xs : List ℕ) → IsStrictlyIncreasing (x ∷ xs) → IsIn y xs → x < y
rises_first x y [] rises m = absurd m
rises_first x y (z ∷ zs) rises (inl e) = let first = rises 0 (omega arith) in rw e first
rises_first x y (z ∷ zs) rises (inr m) = let first = rises 0 (omega arith) in let rest = rises_first z y zs (rises_behind x (z ∷ zs) rises) m in omega arith

-- Ascending lists with the same members are one.
same_members : (xs ys : List ℕ) → IsStrictlyIncreasing xs → IsStrictlyIncreasing ys → ((c : ℕ) → IsIn c xs → IsIn c ys) → ((c : ℕ) → IsIn c ys → IsIn c xs) → xs ≡ ys
same_members [] [] f g there back = refl
same_members [] (y ∷ ys) f g there back = absurd (back y (inl refl))
same_members (x ∷ xs) [] f g there back = absurd (there x (inl refl))
same_members (x ∷ xs) (y ∷ ys) f g there back =
    let first = same_first (there x (inl refl)) (back y (inl refl)) in
    let rest = same_members xs ys (rises_behind x xs f) (rises_behind y ys g)
    (λ c m. behind x y c xs ys first (rises_first x c xs f m) (there c (inr m)))
    (λ c m. behind y x c ys xs (sym first) (rises_first y c ys g m) (back c (inr m))) in
    λ i. first i ∷ rest i
  where
    same_first : IsIn x (y ∷ ys) → IsIn y (x ∷ xs) → x ≡ y
    same_first (inl e) m = e
    same_first (inr n) (inl e) = sym e
    same_first (inr n) (inr m) = let a = rises_first y x ys g n in let b = rises_first x y xs f m in absurd (omega arith)

    behind : (x y c : ℕ) (xs ys : List ℕ) → x ≡ y → x < c → IsIn c (y ∷ ys) → IsIn c ys
    behind x y c xs ys e above (inl f) = absurd (omega arith)
    behind x y c xs ys e above (inr m) = m

-- Where a relation answers once, it does so for lists.
two-once : {A B : Type 0} (R : A → B → Type 0) → ((a : A) (b c : B) → R a b → R a c → b ≡ c) → (xs : List A) (ys zs : List B) → EachTwo R xs ys → EachTwo R xs zs → ys ≡ zs
two-once R once [] [] [] h k = refl
two-once R once [] (y ∷ ys) zs h k = absurd h
two-once R once [] [] (z ∷ zs) h k = absurd k
two-once R once (x ∷ xs) [] zs h k = absurd h
two-once R once (x ∷ xs) (y ∷ ys) [] h k = absurd k
two-once R once (x ∷ xs) (y ∷ ys) (z ∷ zs) h k = let first = once x y z h.0 k.0 in let rest = two-once R once xs ys zs h.1 k.1 in λ i. first i ∷ rest i

-- What each element has, none lacks.
two-lacks : {A B : Type 0} (R : A → B → Type 0) (P : A → Type 0) → ((a : A) (b : B) → R a b → P a → ⊥) → (xs : List A) (ys : List B) → EachTwo R xs ys → AnyOf P xs → ⊥
two-lacks R P not [] ys h k = absurd k
two-lacks R P not (x ∷ xs) [] h k = absurd h
two-lacks R P not (x ∷ xs) (y ∷ ys) h (inl k) = not x y h.0 k
two-lacks R P not (x ∷ xs) (y ∷ ys) h (inr k) = two-lacks R P not xs ys h.1 k

module _ (V : Vocabulary) where
  written_classes-once : (ws : List (List ℕ)) (cs ds : List ℕ) → AreWritten V ws cs → AreWritten V ws ds → cs ≡ ds
  written_classes-once ws cs ds h k = two-once (λ w c. V.class_written w ≡ Some c) (λ w c d f g. same_Some c d (sym f ∙ g)) ws cs ds h k

  unwritten : (ws : List (List ℕ)) (cs : List ℕ) → AreWritten V ws cs → HasUnknown V ws → ⊥
  unwritten ws cs h k = two-lacks (λ w c. V.class_written w ≡ Some c) (λ w. V.class_written w ≡ None) (λ w c f g. none-some c (sym g ∙ f)) ws cs h k

  pub classes-once : (ws : List (List ℕ)) → Once (AreWrittenClasses V ws)
  classes-once ws = once-by (AreWrittenClasses V ws) (λ cs ds h k. written_classes-once ws cs ds h k) (λ cs p h k. unwritten ws cs h k.0) (λ p q h k. h.1 ∙ sym k.1)

  sort-once : (ws : List (List ℕ)) (s t : List ℕ) → IsWrittenSort V ws s → IsWrittenSort V ws t → s ≡ t
  sort-once ws s t (cs, h, f) (ds, k, g) =
      let e : IsSortOf cs t = subst (λ (l : List ℕ). IsSortOf l t) (written_classes-once ws ds cs k h) g in
      same_members s t f.ascend e.ascend (λ c m. (e.members c).1 ((f.members c).0 m)) (λ c m. (f.members c).1 ((e.members c).0 m))

  pub sorts-once : (ws : List (List (List ℕ))) → Once (AreWrittenSorts V ws)
  sorts-once ws = once-by (AreWrittenSorts V ws)
      (λ ss ts h k. two-once (IsWrittenSort V) sort-once ws ss ts h k)
      (λ ss p h k. two-lacks (IsWrittenSort V) (HasUnknown V) (λ w s f g. unwritten w f.0 f.1 g) ws ss h k.0)
      (λ p q h k. h.1 ∙ sym k.1)
