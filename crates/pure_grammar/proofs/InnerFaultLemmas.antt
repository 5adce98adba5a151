-- All that the reader of terms and types may have read begins some text, so that where it stops no text goes on.
use Rattle.std.proofs.Common.{◌≡◌, ℕ, List, [], ◌∷◌, ◌++◌, refl, sym, ◌∙◌, ap, append_assoc, append-nil, true≢false}
use Rattle.std.specs.Prelude.{Bool, true, false, Option, Some, None, codes}
use Rattle.pure_grammar.specs.declared.inner.Mark.TheVariants as mark
use Rattle.pure_grammar.specs.Terms.InnerLexeme.{InnerLexeme, Plain, Signed, Ends}
use Rattle.pure_grammar.specs.Terms.RawTree.{RawTypTree, RawTree}
use Rattle.pure_grammar.specs.Terms.InnerPhrase.{InnerName, Simple, InnerSort, NoSort, OneClass, NoClass, Classes, TypePhrase, DomainsType, PlainType, ArrowType, NoType, AndType, Post, NamedBase, ClosedBase, VarPhrase, NamedVar, PlainBinder, TypedBinder, BindersPhrase, OneTyped, TermPhrase, AllTerm, ImpTerm, PremisesImp, PlainImp, ArrowImp, NoTerm, AndTerm, PlainEq, BothEq, ConPhrase, LambdaCon, PlainCon, TypedCon, Application, NoAtom, NamedAtom, ClosedAtom}
use Rattle.pure_grammar.specs.Terms.InnerText.{sort_text, type_text, base_text, binders_text, term_text, con_text}
use Rattle.pure_grammar.specs.Terms.InnerTree.{term_raw, type_raw}
use Rattle.pure_grammar.specs.Terms.Inner.{IsTerm, IsType, BeginsTerm, BeginsType}
use Rattle.pure_grammar.specs.Terms.InnerReader.{AtTerm, AtType, State, In, DoneTerm, DoneType, next, goes_on, run}
use Rattle.pure_grammar.proofs.InnerLemmas.{run-IsTerm, run-IsType}
use Rattle.pure_grammar.proofs.InnerAround.{Goal, OfTerm, OfType, AppChain, AndArgument, app_chain_text, chain_app, chain_app-text, chain_imp, chain_imp-text, chain_domains, chain_domains-text, PostChain, Base, post_chain_text, chain_post, chain_post-text, chain_base, chain_base-text, BinderChain, Binder, binder_chain_text, chain_binders, chain_binders-text, Before, NoneBefore, SomeBefore, and_binder, TermAround, OnBase, UnderAll, AfterPremises, BehindImplies, TermBase, WholeTerm, InFirstPremise, InNextPremise, InParentheses, InArgument, ConAround, OnSide, UnderLambda, Side, LeftSide, OnRight, BodyAround, AllBodyIn, LambdaBodyIn, TypeAround, OnTypeBase, BehindDomains, BehindArrow, TypeBase, WholeType, InConstraint, InBinder, InOnlyBinder, InFirstDomain, InNextDomain, InTypeParentheses, InArguments, term_around_text, term_base_text, con_around_text, side_text, body_text, type_around_text, type_base_text, VariablePhrase, Fixed, Unknown, variable_text, variable_base, Reading, ReadingTerm, ReadingCon, ReadAtom, ReadPremises, ReadSign, ReadFirstVar, ReadBinders, ReadBinderOpening, ReadBinderVar, ReadingType, ReadVariable, ReadColons, ReadBrace, ReadClasses, ReadClassComma, ReadPost, ReadArguments, ReadDomains, ReadTerm, ReadType, reading_text, reading_state}
use Rattle.pure_grammar.proofs.InnerReadLemmas.{none-some, classes-text, run-reading}

-- a whole term or a whole type, as is read
data Whole (g : Goal) : Type 0 where
  IsWholeTerm : (term : TermPhrase) → (is : g ≡ OfTerm) → Whole g
  IsWholeType : (typ : TypePhrase) → (is : g ≡ OfType) → Whole g

abbrev whole_text : {g : Goal} → Whole g → List InnerLexeme
whole_text (IsWholeTerm t is) = term_text t (Ends ∷ [])
whole_text (IsWholeType t is) = type_text t (Ends ∷ [])

-- some tokens behind the text make it whole
record GoesOn (g : Goal) (text : List InnerLexeme → List InnerLexeme) : Type 0 where
  more : List InnerLexeme
  whole : Whole g
  is : text more ≡ whole_text whole

abbrev a_name : InnerName
a_name = Simple (codes "a") 0

abbrev a_lexeme : InnerLexeme
a_lexeme = Plain (codes "a") 0

abbrev a_con : ConPhrase
a_con = PlainCon (Application (NamedAtom a_name) NoAtom)

abbrev a_term : TermPhrase
a_term = ImpTerm (PlainImp (PlainEq a_con))

abbrev a_type : TypePhrase
a_type = PlainType (Post (NamedBase a_name) [])

-- with some tokens first
with : {g : Goal} {text : List InnerLexeme → List InnerLexeme} (other : List InnerLexeme → List InnerLexeme) (first : List InnerLexeme → List InnerLexeme)
    → ((r : List InnerLexeme) → other (first r) ≡ text r) → GoesOn g text → GoesOn g other
with other first e go = record { more = first go.more; whole = go.whole; is = e go.more ∙ go.is }

-- ---- each phrase with a gap is whole with a phrase in the gap and some tokens behind it
mutual
  goes-term : {g : Goal} (k : TermAround g) (t : TermPhrase) → GoesOn g (λ r. term_around_text k (term_text t r))
  goes-term (OnBase b) t = goes-base b t
  goes-term (UnderAll at bs k) t = goes-term k (AllTerm at bs t)
  goes-term (AfterPremises c k) t = with _ (λ r. r) (λ r. ap (term_around_text k) (sym (chain_imp-text c NoTerm t r))) (goes-term k (ImpTerm (chain_imp c NoTerm t)))
  goes-term (BehindImplies e k) t = goes-term k (ImpTerm (ArrowImp e t))

  goes-base : {g : Goal} (b : TermBase g) (t : TermPhrase) → GoesOn g (λ r. term_base_text b (term_text t r))
  goes-base (WholeTerm is) t = record { more = Ends ∷ []; whole = IsWholeTerm t is; is = refl }
  goes-base (InFirstPremise at k) t = with _ (λ r. Signed mark.ClosePremises ∷ Signed mark.Implies ∷ a_lexeme ∷ r) (λ r. refl) (goes-term k (ImpTerm (PremisesImp at t NoTerm a_term)))
  goes-base (InNextPremise c k) t =
      with _ (λ r. Signed mark.ClosePremises ∷ Signed mark.Implies ∷ a_lexeme ∷ r) (λ r. ap (term_around_text k) (sym (chain_imp-text c (AndTerm t NoTerm) a_term r)))
      (goes-term k (ImpTerm (chain_imp c (AndTerm t NoTerm) a_term)))
  goes-base (InParentheses at c) t = with _ (λ r. Signed mark.CloseParenthesis ∷ r) (λ r. refl) (goes-con c (PlainCon (Application (ClosedAtom at t) NoAtom)))
  goes-base (InArgument at a c) t =
      with _ (λ r. Signed mark.CloseParenthesis ∷ r) (λ r. ap (con_around_text c) (sym (chain_app-text (AndArgument a (ClosedAtom at t)) NoAtom r)))
      (goes-con c (PlainCon (chain_app (AndArgument a (ClosedAtom at t)) NoAtom)))

  goes-con : {g : Goal} (k : ConAround g) (c : ConPhrase) → GoesOn g (λ r. con_around_text k (con_text c r))
  goes-con (OnSide s) c = goes-side s c
  goes-con (UnderLambda at bs k) c = goes-con k (LambdaCon at bs c)

  goes-side : {g : Goal} (s : Side g) (c : ConPhrase) → GoesOn g (λ r. side_text s (con_text c r))
  goes-side (LeftSide k) c = goes-term k (ImpTerm (PlainImp (PlainEq c)))
  goes-side (OnRight d k) c = goes-term k (ImpTerm (PlainImp (BothEq d c)))

goes-app : {g : Goal} (k : ConAround g) (a : AppChain) → GoesOn g (λ r. con_around_text k (app_chain_text a r))
goes-app k a = with _ (λ r. r) (λ r. ap (con_around_text k) (sym (chain_app-text a NoAtom r))) (goes-con k (PlainCon (chain_app a NoAtom)))

-- binders go on with a dot and a body
goes-binders : {g : Goal} (q : BodyAround g) (at : ℕ) (bs : BindersPhrase) → GoesOn g (λ r. body_text q at (binders_text bs r))
goes-binders (AllBodyIn k) at bs = with _ (λ r. Signed mark.Dot ∷ a_lexeme ∷ r) (λ r. refl) (goes-term k (AllTerm at bs a_term))
goes-binders (LambdaBodyIn k) at bs = with _ (λ r. Signed mark.Dot ∷ a_lexeme ∷ r) (λ r. refl) (goes-con k (LambdaCon at bs a_con))

goes-chain : {g : Goal} (q : BodyAround g) (at : ℕ) (c : BinderChain) → GoesOn g (λ r. body_text q at (binder_chain_text c r))
goes-chain q at c = with _ (λ r. r) (λ r. ap (body_text q at) (sym (chain_binders-text c [] r))) (goes-binders q at (chain_binders c []))

goes-typed : {g : Goal} (q : BodyAround g) (at : ℕ) (before : Before) (p : ℕ) (x : VarPhrase) (t : TypePhrase)
    → GoesOn g (λ r. type_base_text (InBinder at before p x q) (type_text t r))
goes-typed q at NoneBefore p x t = with _ (λ r. Signed mark.CloseParenthesis ∷ r) (λ r. refl) (goes-chain q at (Binder (TypedBinder p x t)))
goes-typed q at (SomeBefore c) p x t = with _ (λ r. Signed mark.CloseParenthesis ∷ r) (λ r. refl) (goes-chain q at (and_binder (SomeBefore c) (TypedBinder p x t)))

mutual
  goes-type : {g : Goal} (k : TypeAround g) (t : TypePhrase) → GoesOn g (λ r. type_around_text k (type_text t r))
  goes-type (OnTypeBase b) t = goes-type_base b t
  goes-type (BehindDomains c k) t = with _ (λ r. r) (λ r. ap (type_around_text k) (sym (chain_domains-text c NoType t r))) (goes-type k (chain_domains c NoType t))
  goes-type (BehindArrow p k) t = goes-type k (ArrowType p t)

  goes-type_base : {g : Goal} (b : TypeBase g) (t : TypePhrase) → GoesOn g (λ r. type_base_text b (type_text t r))
  goes-type_base (WholeType is) t = record { more = Ends ∷ []; whole = IsWholeType t is; is = refl }
  goes-type_base (InConstraint a k) t =
      with _ (λ r. r) (λ r. ap (con_around_text k) (sym (chain_app-text a NoAtom (Signed mark.DoubleColon ∷ type_text t r)))) (goes-con k (TypedCon (chain_app a NoAtom) t))
  goes-type_base (InBinder at before p x q) t = goes-typed q at before p x t
  goes-type_base (InOnlyBinder at x q) t = goes-binders q at (OneTyped x t)
  goes-type_base (InFirstDomain at k) t = with _ (λ r. Signed mark.CloseBracket ∷ Signed mark.Arrow ∷ a_lexeme ∷ r) (λ r. refl) (goes-type k (DomainsType at t NoType a_type))
  goes-type_base (InNextDomain c k) t =
      with _ (λ r. Signed mark.CloseBracket ∷ Signed mark.Arrow ∷ a_lexeme ∷ r) (λ r. ap (type_around_text k) (sym (chain_domains-text c (AndType t NoType) a_type r)))
      (goes-type k (chain_domains c (AndType t NoType) a_type))
  goes-type_base (InTypeParentheses at k) t = with _ (λ r. Signed mark.CloseParenthesis ∷ r) (λ r. refl) (goes-type k (PlainType (Post (ClosedBase at t) [])))
  goes-type_base (InArguments at c k) t =
      with _ (λ r. Signed mark.CloseParenthesis ∷ a_lexeme ∷ r) (λ r. ap (type_around_text k) (sym (chain_base-text at c t NoType a_name r)))
      (goes-type k (PlainType (Post (chain_base at c t NoType a_name) [])))

goes-post : {g : Goal} (k : TypeAround g) (p : PostChain) → GoesOn g (λ r. type_around_text k (post_chain_text p r))
goes-post k p = with _ (λ r. r) (λ r. ap (type_around_text k) (sym (chain_post-text p [] r))) (goes-type k (PlainType (chain_post p [])))

goes-variable : {g : Goal} (k : TypeAround g) (v : VariablePhrase) (s : InnerSort) → GoesOn g (λ r. type_around_text k (base_text (variable_base v s) r))
goes-variable k v s = goes-post k (Base (variable_base v s))

variable_base-text : (v : VariablePhrase) (s : InnerSort) (r : List InnerLexeme) → variable_text v (sort_text s r) ≡ base_text (variable_base v s) r
variable_base-text (Fixed x p) s r = refl
variable_base-text (Unknown x p) s r = refl

-- all that was read goes on
goes-reading : {g : Goal} (p : Reading g) → GoesOn g (reading_text p)
goes-reading (ReadingTerm k) = with _ (λ r. a_lexeme ∷ r) (λ r. refl) (goes-term k a_term)
goes-reading (ReadingCon k) = with _ (λ r. a_lexeme ∷ r) (λ r. refl) (goes-con k a_con)
goes-reading (ReadAtom a k) = goes-app k a
goes-reading (ReadPremises c k) =
    with _ (λ r. Signed mark.Implies ∷ a_lexeme ∷ r) (λ r. ap (term_around_text k) (sym (chain_imp-text c NoTerm a_term r))) (goes-term k (ImpTerm (chain_imp c NoTerm a_term)))
goes-reading (ReadSign at q) = with _ (λ r. a_lexeme ∷ r) (λ r. refl) (goes-chain q at (Binder (PlainBinder (NamedVar (codes "a") 0))))
goes-reading (ReadFirstVar at x q) = with _ (λ r. r) (λ r. refl) (goes-chain q at (Binder (PlainBinder x)))
goes-reading (ReadBinders at c q) = goes-chain q at c
goes-reading (ReadBinderOpening at before p q) = with _ (λ r. a_lexeme ∷ Signed mark.DoubleColon ∷ a_lexeme ∷ r) (λ r. refl) (goes-typed q at before p (NamedVar (codes "a") 0) a_type)
goes-reading (ReadBinderVar at before p x q) = with _ (λ r. Signed mark.DoubleColon ∷ a_lexeme ∷ r) (λ r. refl) (goes-typed q at before p x a_type)
goes-reading (ReadingType k) = with _ (λ r. a_lexeme ∷ r) (λ r. refl) (goes-type k a_type)
goes-reading (ReadVariable v k) = with _ (λ r. r) (λ r. ap (type_around_text k) (variable_base-text v NoSort r)) (goes-variable k v NoSort)
goes-reading (ReadColons v k) = with _ (λ r. a_lexeme ∷ r) (λ r. ap (type_around_text k) (variable_base-text v (OneClass a_name) r)) (goes-variable k v (OneClass a_name))
goes-reading (ReadBrace v k) = with _ (λ r. Signed mark.CloseBrace ∷ r) (λ r. ap (type_around_text k) (variable_base-text v NoClass r)) (goes-variable k v NoClass)
goes-reading (ReadClasses v c cs k) = with _ (λ r. Signed mark.CloseBrace ∷ r) (λ r. ap (type_around_text k) (variable_base-text v (Classes c cs) r)) (goes-variable k v (Classes c cs))
goes-reading (ReadClassComma v c cs k) =
    with _ (λ r. a_lexeme ∷ Signed mark.CloseBrace ∷ r)
    (λ r. ap (type_around_text k) (classes-text v c cs a_name (Signed mark.CloseBrace ∷ r) ∙ variable_base-text v (Classes c (cs ++ a_name ∷ [])) r))
    (goes-variable k v (Classes c (cs ++ a_name ∷ [])))
goes-reading (ReadPost p k) = goes-post k p
goes-reading (ReadArguments at c t k) = with _ (λ r. a_lexeme ∷ r) (λ r. ap (type_around_text k) (sym (chain_base-text at c t NoType a_name r))) (goes-post k (Base (chain_base at c t NoType a_name)))
goes-reading (ReadDomains c k) = with _ (λ r. Signed mark.Arrow ∷ a_lexeme ∷ r) (λ r. ap (type_around_text k) (sym (chain_domains-text c NoType a_type r))) (goes-type k (chain_domains c NoType a_type))
goes-reading (ReadTerm t is) = record { more = []; whole = IsWholeTerm t is; is = refl }
goes-reading (ReadType t is) = record { more = []; whole = IsWholeType t is; is = refl }

-- ---- a term and a type are no two things
of_term : Goal → Option Goal
of_term OfTerm = None
of_term OfType = Some OfType

pub not-both : OfTerm ≡ OfType → ⊥
unfolding of_term
not-both e = none-some (ap of_term e)

abbrev pub begun_term : Reading OfTerm
begun_term = ReadingTerm (OnBase (WholeTerm refl))

abbrev pub begun_type : Reading OfType
begun_type = ReadingType (OnTypeBase (WholeType refl))

-- what the reader has read begins a term
begins-term : (ls : List InnerLexeme) (more : List InnerLexeme) (w : Whole OfTerm) → ls ++ more ≡ whole_text w → BeginsTerm ls
begins-term ls more (IsWholeTerm t is) e = (more, term_raw t, record { phrase = t; spelled = sym e; means = refl })
begins-term ls more (IsWholeType t is) e = absurd (not-both is)

begins-type : (ls : List InnerLexeme) (more : List InnerLexeme) (w : Whole OfType) → ls ++ more ≡ whole_text w → BeginsType ls
begins-type ls more (IsWholeType t is) e = (more, type_raw t, record { phrase = t; spelled = sym e; means = refl })
begins-type ls more (IsWholeTerm t is) e = absurd (not-both (sym is))

pub run-begins-term : (ls : List InnerLexeme) (s : State) → run (In AtTerm []) ls ≡ Some s → BeginsTerm ls
run-begins-term ls s e =
    let reached = run-reading ls begun_term s e in
    let go = goes-reading reached.to in
    begins-term ls go.more go.whole (reached.reads go.more ∙ go.is)

pub run-begins-type : (ls : List InnerLexeme) (s : State) → run (In AtType []) ls ≡ Some s → BeginsType ls
run-begins-type ls s e =
    let reached = run-reading ls begun_type s e in
    let go = goes-reading reached.to in
    begins-type ls go.more go.whole (reached.reads go.more ∙ go.is)

-- ---- what the reader says of a whole list
goes_on-goes_on : (o : Option State) (ls r : List InnerLexeme) → ((t : State) → run t (ls ++ r) ≡ goes_on (run t ls) (λ u. run u r))
    → goes_on o (λ t. run t (ls ++ r)) ≡ goes_on (goes_on o (λ t. run t ls)) (λ u. run u r)
goes_on-goes_on None ls r e = refl
goes_on-goes_on (Some t) ls r e = e t

pub run-append : (ls r : List InnerLexeme) (s : State) → run s (ls ++ r) ≡ goes_on (run s ls) (λ u. run u r)
run-append [] r s = refl
run-append (l ∷ ls) r s = goes_on-goes_on (next s l) ls r (run-append ls r)

-- where the reader stops, no list that goes on so is read
stuck-behind : (before more : List InnerLexeme) (found : InnerLexeme) (start s t : State) → run start before ≡ Some s → next s found ≡ None
    → run start ((before ++ found ∷ []) ++ more) ≡ Some t → ⊥
stuck-behind before more found start s t reads stops all =
    none-some (sym (ap (λ z. goes_on z (λ u. run u more)) stops)
    ∙ sym (ap (λ z. goes_on z (λ u. run u (found ∷ more))) reads)
    ∙ sym (run-append before (found ∷ more) start)
    ∙ sym (ap (run start) (append_assoc before (found ∷ []) more))
    ∙ all)

pub stuck-term : (before : List InnerLexeme) (found : InnerLexeme) (s : State) → run (In AtTerm []) before ≡ Some s → next s found ≡ None → BeginsTerm (before ++ found ∷ []) → ⊥
stuck-term before found s reads stops begins =
    stuck-behind before begins.0 found (In AtTerm []) s (DoneTerm begins.1) reads stops (run-IsTerm ((before ++ found ∷ []) ++ begins.0) begins.1 begins.2)

pub stuck-type : (before : List InnerLexeme) (found : InnerLexeme) (s : State) → run (In AtType []) before ≡ Some s → next s found ≡ None → BeginsType (before ++ found ∷ []) → ⊥
stuck-type before found s reads stops begins =
    stuck-behind before begins.0 found (In AtType []) s (DoneType begins.1) reads stops (run-IsType ((before ++ found ∷ []) ++ begins.0) begins.1 begins.2)

-- ---- what was read to the end
abbrev pub is_term : State → Bool
is_term (DoneTerm t) = true
is_term _ = false

abbrev pub is_type : State → Bool
is_type (DoneType t) = true
is_type _ = false

term_of : RawTree → State → RawTree
term_of t (DoneTerm u) = u
term_of t _ = t

type_of : RawTypTree → State → RawTypTree
type_of t (DoneType u) = u
type_of t _ = t

pub no-term : {s : State} {t : RawTree} → s ≡ DoneTerm t → is_term s ≡ false → ⊥
no-term e not = true≢false (sym (ap is_term e) ∙ not)

pub no-type : {s : State} {t : RawTypTree} → s ≡ DoneType t → is_type s ≡ false → ⊥
no-type e not = true≢false (sym (ap is_type e) ∙ not)

same-term : (t u : RawTree) → DoneTerm t ≡ DoneTerm u → t ≡ u
unfolding term_of
same-term t u e = ap (term_of t) e

same-type : (t u : RawTypTree) → DoneType t ≡ DoneType u → t ≡ u
unfolding type_of
same-type t u e = ap (type_of t) e

got-term : {g : Goal} (p : Reading g) (ls : List InnerLexeme) (t : RawTree) → reading_state p ≡ DoneTerm t → ls ++ [] ≡ reading_text p [] → IsTerm ls t
got-term (ReadTerm x is) ls t e reads = record { phrase = x; spelled = sym (sym (append-nil ls) ∙ reads); means = same-term (term_raw x) t e }
got-term p ls t e reads = absurd (no-term e refl)

got-type : {g : Goal} (p : Reading g) (ls : List InnerLexeme) (t : RawTypTree) → reading_state p ≡ DoneType t → ls ++ [] ≡ reading_text p [] → IsType ls t
got-type (ReadType x is) ls t e reads = record { phrase = x; spelled = sym (sym (append-nil ls) ∙ reads); means = same-type (type_raw x) t e }
got-type p ls t e reads = absurd (no-type e refl)

pub run-is-term : (ls : List InnerLexeme) (t : RawTree) → run (In AtTerm []) ls ≡ Some (DoneTerm t) → IsTerm ls t
run-is-term ls t e =
    let reached = run-reading ls begun_term (DoneTerm t) e in
    got-term reached.to ls t reached.is (reached.reads [])

pub run-is-type : (ls : List InnerLexeme) (t : RawTypTree) → run (In AtType []) ls ≡ Some (DoneType t) → IsType ls t
run-is-type ls t e =
    let reached = run-reading ls begun_type (DoneType t) e in
    got-type reached.to ls t reached.is (reached.reads [])
