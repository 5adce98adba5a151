-- What the reader of terms and types has read are phrases with a gap.
use Rattle.std.proofs.Common.{◌≡◌, ℕ, List, [], ◌∷◌, ◌++◌, map, refl, sym, ◌∙◌, ap, subst}
use Rattle.std.specs.Prelude.{Bool, true, false, nat_le, Option, Some, None}
use Rattle.pure_grammar.specs.declared.inner.Opening.TheVariants as opening
use Rattle.pure_grammar.specs.declared.inner.Mark.TheVariants as mark
use Rattle.pure_grammar.specs.Terms.InnerLexeme.{InnerLexeme, Plain, Dotted, Variable, Schematic, TypeSchematic, Bound, Opens, Signed, Ends}
use Rattle.pure_grammar.specs.Terms.RawTree.{RawTypTree, RawTree, raw_typs_of}
use Rattle.pure_grammar.specs.Terms.RawTree as tree
use Rattle.pure_grammar.specs.Terms.InnerPhrase.{InnerName, Simple, Full, NoSort, OneClass, NoClass, Classes, TypePhrase, PlainType, ArrowType, NoType, VariableBase, SchematicBase, NamedBase, ClosedBase, VarPhrase, NamedVar, BoundVar, PlainBinder, TypedBinder, OneTyped, TermPhrase, AllTerm, ImpTerm, PlainImp, ArrowImp, NoTerm, EqPhrase, PlainEq, BothEq, ConPhrase, LambdaCon, PlainCon, TypedCon, NoAtom, NamedAtom, SchematicAtom, BoundAtom, ClosedAtom}
use Rattle.pure_grammar.specs.Terms.InnerText.{each, name_text, comma_name_text, type_text, term_text, eq_text, con_text}
use Rattle.pure_grammar.specs.Terms.InnerTree.{name_of, class_raw, type_place, type_raw, con_place, eq_place, term_place, term_raw, eq_raw, con_raw}
use Rattle.pure_grammar.specs.Terms.InnerReader.{OfAll, OfLambda, AtTerm, AtCon, AfterPost, State, In, reduced, equals, implies, part_ends, con_ends, ranged, type_part_ends, next, goes_on, run}
use Rattle.pure_grammar.proofs.InnerReaderLemmas.{reduced-lambdas, reduced-alls, IsLoose, loose-alls, equals-loose, implies-loose}
use Rattle.pure_grammar.proofs.InnerAround.{Goal, AppChain, Function, AndArgument, app_chain_text, app_chain_place, app_chain_raw, chain_app, chain_app-text, chain_app-place, chain_app-raw, PremiseChain, Premise, AndPremise, chain_imp, chain_imp-text, chain_imp-reduced, chain-loose, DomainChain, Domain, AndDomain, chain_domains, chain_domains-text, chain_domains-ranged, PostChain, Base, AndConstructor, post_chain_text, post_chain_place, post_chain_raw, chain_post, chain_post-text, chain_post-place, chain_post-raw, ArgumentChain, OneArgument, AndTypeArgument, argument_chain_text, argument_chain_list, chain_base, chain_base-text, chain_base-place, chain_base-raw, BinderChain, Binder, AndBinder, chain_binders, chain_binders-text, chain_binders-frames, Before, NoneBefore, SomeBefore, TermAround, OnBase, UnderAll, AfterPremises, BehindImplies, TermBase, WholeTerm, InFirstPremise, InNextPremise, InParentheses, InArgument, ConAround, OnSide, UnderLambda, Side, LeftSide, OnRight, BodyAround, AllBodyIn, LambdaBodyIn, TypeAround, OnTypeBase, BehindDomains, BehindArrow, TypeBase, WholeType, InConstraint, InBinder, InOnlyBinder, InFirstDomain, InNextDomain, InTypeParentheses, InArguments, term_around_text, term_base_text, con_around_text, side_text, body_text, type_around_text, type_base_text, term_stack, term_base_stack, con_stack, side_stack, type_stack, type_base_stack, VariablePhrase, Fixed, Unknown, variable_text, Reading, ReadingTerm, ReadingCon, ReadAtom, ReadPremises, ReadSign, ReadFirstVar, ReadBinders, ReadBinderOpening, ReadBinderVar, ReadingType, ReadVariable, ReadColons, ReadBrace, ReadClasses, ReadClassComma, ReadPost, ReadArguments, ReadDomains, ReadTerm, ReadType, reading_text, reading_state}

-- behind one more token the reader has read one more token
pub record Step (g : Goal) (text : List InnerLexeme → List InnerLexeme) (l : InnerLexeme) (s : State) : Type 0 where
  pub to : Reading g
  pub is : reading_state to ≡ s
  pub reads : (r : List InnerLexeme) → text (l ∷ r) ≡ reading_text to r

is_some : {A : Type 0} → Option A → Bool
is_some None = false
is_some (Some x) = true

pub none-some : {A : Type 0} {s : A} → None ≡ Some s → ⊥
unfolding is_some
none-some e = cc

or_else : State → Option State → State
or_else t None = t
or_else t (Some s) = s

pub some-same : {s t : State} → Some s ≡ Some t → s ≡ t
unfolding or_else
some-same {s} {t} e = ap (or_else s) e

-- ---- a side of an equation that ends ends the binders before it
record OnSideOf (g : Goal) : Type 0 where
  con : ConPhrase
  side : Side g

abbrev lowered_con : {g : Goal} → ConPhrase → ConAround g → OnSideOf g
lowered_con c (OnSide s) = record { con = c; side = s }
lowered_con c (UnderLambda at bs k) = lowered_con (LambdaCon at bs c) k

lowered_con-text : {g : Goal} (k : ConAround g) (c : ConPhrase) (r : List InnerLexeme)
    → con_around_text k (con_text c r) ≡ side_text (lowered_con c k).side (con_text (lowered_con c k).con r)
lowered_con-text (OnSide s) c r = refl
lowered_con-text (UnderLambda at bs k) c r = lowered_con-text k (LambdaCon at bs c) r

lowered_con-reduced : {g : Goal} (k : ConAround g) (n : ℕ) (c : ConPhrase) → nat_le n 3 ≡ true
    → reduced n (con_place c) (con_raw c) (con_stack k) ≡ reduced n (con_place (lowered_con c k).con) (con_raw (lowered_con c k).con) (side_stack (lowered_con c k).side)
lowered_con-reduced (OnSide s) n c e = refl
lowered_con-reduced (UnderLambda at bs k) n c e = reduced-lambdas bs n (con_place c) at (con_raw c) (con_stack k) e ∙ lowered_con-reduced k n (LambdaCon at bs c) e

-- ---- an equation
abbrev side_eq : {g : Goal} → ConPhrase → Side g → EqPhrase
side_eq c (LeftSide k) = PlainEq c
side_eq c (OnRight d k) = BothEq d c

abbrev side_around : {g : Goal} → Side g → TermAround g
side_around (LeftSide k) = k
side_around (OnRight d k) = k

side_eq-text : {g : Goal} (s : Side g) (c : ConPhrase) (r : List InnerLexeme) → side_text s (con_text c r) ≡ term_around_text (side_around s) (eq_text (side_eq c s) r)
side_eq-text (LeftSide k) c r = refl
side_eq-text (OnRight d k) c r = refl

side_eq-reduced-2 : {g : Goal} (s : Side g) (c : ConPhrase)
    → reduced 2 (con_place c) (con_raw c) (side_stack s) ≡ reduced 2 (eq_place (side_eq c s)) (eq_raw (side_eq c s)) (term_stack (side_around s))
side_eq-reduced-2 (LeftSide k) c = refl
side_eq-reduced-2 (OnRight d k) c = refl

side_eq-reduced-1 : {g : Goal} (s : Side g) (c : ConPhrase)
    → reduced 1 (con_place c) (con_raw c) (side_stack s) ≡ reduced 1 (eq_place (side_eq c s)) (eq_raw (side_eq c s)) (term_stack (side_around s))
side_eq-reduced-1 (LeftSide k) c = refl
side_eq-reduced-1 (OnRight d k) c = refl

term-loose : {g : Goal} (k : TermAround g) → IsLoose (term_stack k)
term-loose (OnBase (WholeTerm is)) = tt
term-loose (OnBase (InFirstPremise at k)) = tt
term-loose (OnBase (InNextPremise c k)) = tt
term-loose (OnBase (InParentheses at c)) = tt
term-loose (OnBase (InArgument at a c)) = tt
term-loose (UnderAll at bs k) = loose-alls bs at (term_stack k)
term-loose (AfterPremises c k) = chain-loose c (term_stack k)
term-loose (BehindImplies e k) = tt

-- ---- a term that ends
record OnBaseOf (g : Goal) : Type 0 where
  term : TermPhrase
  base : TermBase g

abbrev lowered_term : {g : Goal} → TermPhrase → TermAround g → OnBaseOf g
lowered_term t (OnBase b) = record { term = t; base = b }
lowered_term t (UnderAll at bs k) = lowered_term (AllTerm at bs t) k
lowered_term t (AfterPremises c k) = lowered_term (ImpTerm (chain_imp c NoTerm t)) k
lowered_term t (BehindImplies e k) = lowered_term (ImpTerm (ArrowImp e t)) k

lowered_term-text : {g : Goal} (k : TermAround g) (t : TermPhrase) (r : List InnerLexeme)
    → term_around_text k (term_text t r) ≡ term_base_text (lowered_term t k).base (term_text (lowered_term t k).term r)
lowered_term-text (OnBase b) t r = refl
lowered_term-text (UnderAll at bs k) t r = lowered_term-text k (AllTerm at bs t) r
lowered_term-text (AfterPremises c k) t r = ap (term_around_text k) (sym (chain_imp-text c NoTerm t r)) ∙ lowered_term-text k (ImpTerm (chain_imp c NoTerm t)) r
lowered_term-text (BehindImplies e k) t r = lowered_term-text k (ImpTerm (ArrowImp e t)) r

lowered_term-reduced : {g : Goal} (k : TermAround g) (t : TermPhrase)
    → reduced 1 (term_place t) (term_raw t) (term_stack k) ≡ reduced 1 (term_place (lowered_term t k).term) (term_raw (lowered_term t k).term) (term_base_stack (lowered_term t k).base)
lowered_term-reduced (OnBase b) t = refl
lowered_term-reduced (UnderAll at bs k) t = reduced-alls bs (term_place t) at (term_raw t) (term_stack k) ∙ lowered_term-reduced k (AllTerm at bs t)
lowered_term-reduced (AfterPremises c k) t = chain_imp-reduced c NoTerm t (term_place t) (term_stack k) ∙ lowered_term-reduced k (ImpTerm (chain_imp c NoTerm t))
lowered_term-reduced (BehindImplies e k) t = lowered_term-reduced k (ImpTerm (ArrowImp e t))

-- what the token leads to that ends a whole term
step-base : {g : Goal} (t : TermPhrase) (b : TermBase g) (l : InnerLexeme) (s : State)
    → part_ends (reduced 1 (term_place t) (term_raw t) (term_base_stack b)) l ≡ Some s → Step g (λ r. term_base_text b (term_text t r)) l s
step-base t (WholeTerm is) Ends s e = record { to = ReadTerm t is; is = some-same e; reads = λ r. refl }
step-base t (WholeTerm is) l s e = absurd (none-some e)
step-base t (InFirstPremise at k) (Signed mark.Semicolon) s e = record { to = ReadingTerm (OnBase (InNextPremise (Premise at t) k)); is = some-same e; reads = λ r. refl }
step-base t (InFirstPremise at k) (Signed mark.ClosePremises) s e = record { to = ReadPremises (Premise at t) k; is = some-same e; reads = λ r. refl }
step-base t (InFirstPremise at k) l s e = absurd (none-some e)
step-base t (InNextPremise c k) (Signed mark.Semicolon) s e = record { to = ReadingTerm (OnBase (InNextPremise (AndPremise c t) k)); is = some-same e; reads = λ r. refl }
step-base t (InNextPremise c k) (Signed mark.ClosePremises) s e = record { to = ReadPremises (AndPremise c t) k; is = some-same e; reads = λ r. refl }
step-base t (InNextPremise c k) l s e = absurd (none-some e)
step-base t (InParentheses at c) (Signed mark.CloseParenthesis) s e = record { to = ReadAtom (Function (ClosedAtom at t)) c; is = some-same e; reads = λ r. refl }
step-base t (InParentheses at c) l s e = absurd (none-some e)
step-base t (InArgument at a c) (Signed mark.CloseParenthesis) s e = record { to = ReadAtom (AndArgument a (ClosedAtom at t)) c; is = some-same e; reads = λ r. refl }
step-base t (InArgument at a c) l s e = absurd (none-some e)

-- the same from a text that is the same
step-from : {g : Goal} {text other : List InnerLexeme → List InnerLexeme} {l : InnerLexeme} {s : State} → ((r : List InnerLexeme) → other r ≡ text r) → Step g text l s → Step g other l s
step-from {l = l} e step = record { to = step.to; is = step.is; reads = λ r. e (l ∷ r) ∙ step.reads r }

step-term : {g : Goal} (t : TermPhrase) (k : TermAround g) (l : InnerLexeme) (s : State)
    → part_ends (reduced 1 (term_place t) (term_raw t) (term_stack k)) l ≡ Some s → Step g (λ r. term_around_text k (term_text t r)) l s
step-term t k l s e =
    step-from (lowered_term-text k t) (step-base (lowered_term t k).term (lowered_term t k).base l s (ap (λ z. part_ends z l) (sym (lowered_term-reduced k t)) ∙ e))

step-side-equals : {g : Goal} (c : ConPhrase) (d : Side g) (s : State)
    → equals (reduced 3 (con_place c) (con_raw c) (side_stack d)) ≡ Some s → Step g (λ r. side_text d (con_text c r)) (Signed mark.Equals) s
step-side-equals c (LeftSide k) s e =
    record { to = ReadingCon (OnSide (OnRight c k)); is = some-same (sym (equals-loose (term_stack k) (con_place c) (con_raw c) (term-loose k)) ∙ e); reads = λ r. refl }
step-side-equals c (OnRight d k) s e = absurd (none-some e)

step-side-implies : {g : Goal} (c : ConPhrase) (d : Side g) (s : State)
    → implies (reduced 2 (con_place c) (con_raw c) (side_stack d)) ≡ Some s → Step g (λ r. side_text d (con_text c r)) (Signed mark.Implies) s
step-side-implies c d s e =
    record {
      to = ReadingTerm (BehindImplies (side_eq c d) (side_around d));
      is = some-same (sym (implies-loose (term_stack (side_around d)) (eq_place (side_eq c d)) (eq_raw (side_eq c d)) (term-loose (side_around d))) ∙ ap implies (sym (side_eq-reduced-2 d c)) ∙ e);
      reads = λ r. side_eq-text d c (Signed mark.Implies ∷ r);
    }

step-closes : {g : Goal} (c : ConPhrase) (k : ConAround g) (l : InnerLexeme) (s : State)
    → part_ends (reduced 1 (con_place c) (con_raw c) (con_stack k)) l ≡ Some s → Step g (λ r. con_around_text k (con_text c r)) l s
step-closes c k l s e =
    step-from (λ r. lowered_con-text k c r ∙ side_eq-text (lowered_con c k).side (lowered_con c k).con r)
    (step-term (ImpTerm (PlainImp (side_eq (lowered_con c k).con (lowered_con c k).side))) (side_around (lowered_con c k).side) l s
    (ap (λ z. part_ends z l) (sym (lowered_con-reduced k 1 c refl ∙ side_eq-reduced-1 (lowered_con c k).side (lowered_con c k).con)) ∙ e))

-- what the token leads to that ends a side of an equation
step-con : {g : Goal} (c : ConPhrase) (k : ConAround g) (l : InnerLexeme) (s : State)
    → con_ends (con_place c) (con_raw c) (con_stack k) l ≡ Some s → Step g (λ r. con_around_text k (con_text c r)) l s
step-con c k (Signed mark.Equals) s e =
    step-from (lowered_con-text k c) (step-side-equals (lowered_con c k).con (lowered_con c k).side s (ap equals (sym (lowered_con-reduced k 3 c refl)) ∙ e))
step-con c k (Signed mark.Implies) s e =
    step-from (lowered_con-text k c) (step-side-implies (lowered_con c k).con (lowered_con c k).side s (ap implies (sym (lowered_con-reduced k 2 c refl)) ∙ e))
step-con c k l s e = step-closes c k l s e

-- behind an application that another atom doesn't follow
step-app : {g : Goal} (a : AppChain) (k : ConAround g) (l : InnerLexeme) (s : State)
    → con_ends (app_chain_place a) (app_chain_raw a) (con_stack k) l ≡ Some s → Step g (λ r. con_around_text k (app_chain_text a r)) l s
step-app a k l s e =
    step-from (λ r. ap (con_around_text k) (sym (chain_app-text a NoAtom r)))
    (step-con (PlainCon (chain_app a NoAtom)) k l s (rw (chain_app-place a NoAtom, chain_app-raw a NoAtom) e))

step-atom : {g : Goal} (a : AppChain) (k : ConAround g) (l : InnerLexeme) (s : State) → next (reading_state (ReadAtom a k)) l ≡ Some s → Step g (λ r. reading_text (ReadAtom a k) r) l s
step-atom a k (Plain x p) s e = record { to = ReadAtom (AndArgument a (NamedAtom (Simple x p))) k; is = some-same e; reads = λ r. refl }
step-atom a k (Dotted x p) s e = record { to = ReadAtom (AndArgument a (NamedAtom (Full x p))) k; is = some-same e; reads = λ r. refl }
step-atom a k (Schematic x p) s e = record { to = ReadAtom (AndArgument a (SchematicAtom x p)) k; is = some-same e; reads = λ r. refl }
step-atom a k (Bound x p) s e = record { to = ReadAtom (AndArgument a (BoundAtom x p)) k; is = some-same e; reads = λ r. refl }
step-atom a k (Opens opening.Parenthesis p) s e = record { to = ReadingTerm (OnBase (InArgument p a k)); is = some-same e; reads = λ r. refl }
step-atom a k (Signed mark.DoubleColon) s e = record { to = ReadingType (OnTypeBase (InConstraint a k)); is = some-same e; reads = λ r. refl }
step-atom a k l s e = step-app a k l s e

-- ---- the first token of a term
step-con_begun : {g : Goal} (k : ConAround g) (l : InnerLexeme) (s : State) → next (In AtCon (con_stack k)) l ≡ Some s → Step g (con_around_text k) l s
step-con_begun k (Plain x p) s e = record { to = ReadAtom (Function (NamedAtom (Simple x p))) k; is = some-same e; reads = λ r. refl }
step-con_begun k (Dotted x p) s e = record { to = ReadAtom (Function (NamedAtom (Full x p))) k; is = some-same e; reads = λ r. refl }
step-con_begun k (Schematic x p) s e = record { to = ReadAtom (Function (SchematicAtom x p)) k; is = some-same e; reads = λ r. refl }
step-con_begun k (Bound x p) s e = record { to = ReadAtom (Function (BoundAtom x p)) k; is = some-same e; reads = λ r. refl }
step-con_begun k (Opens opening.Parenthesis p) s e = record { to = ReadingTerm (OnBase (InParentheses p k)); is = some-same e; reads = λ r. refl }
step-con_begun k (Opens opening.Lambda p) s e = record { to = ReadSign p (LambdaBodyIn k); is = some-same e; reads = λ r. refl }
step-con_begun k l s e = absurd (none-some e)

step-term_begun : {g : Goal} (k : TermAround g) (l : InnerLexeme) (s : State) → next (In AtTerm (term_stack k)) l ≡ Some s → Step g (term_around_text k) l s
step-term_begun k (Opens opening.All p) s e = record { to = ReadSign p (AllBodyIn k); is = some-same e; reads = λ r. refl }
step-term_begun k (Opens opening.Premises p) s e = record { to = ReadingTerm (OnBase (InFirstPremise p k)); is = some-same e; reads = λ r. refl }
step-term_begun k l s e = step-con_begun (OnSide (LeftSide k)) l s e

-- ---- binders
step-sign : {g : Goal} (at : ℕ) (q : BodyAround g) (l : InnerLexeme) (s : State) → next (reading_state (ReadSign at q)) l ≡ Some s → Step g (body_text q at) l s
step-sign at q (Plain x p) s e = record { to = ReadFirstVar at (NamedVar x p) q; is = some-same e; reads = λ r. refl }
step-sign at q (Bound x p) s e = record { to = ReadFirstVar at (BoundVar x p) q; is = some-same e; reads = λ r. refl }
step-sign at q (Opens opening.Parenthesis p) s e = record { to = ReadBinderOpening at NoneBefore p q; is = some-same e; reads = λ r. refl }
step-sign at q l s e = absurd (none-some e)

step-binders : {g : Goal} (at : ℕ) (c : BinderChain) (q : BodyAround g) (l : InnerLexeme) (s : State)
    → next (reading_state (ReadBinders at c q)) l ≡ Some s → Step g (reading_text (ReadBinders at c q)) l s
step-binders at c q (Plain x p) s e = record { to = ReadBinders at (AndBinder c (PlainBinder (NamedVar x p))) q; is = some-same e; reads = λ r. refl }
step-binders at c q (Bound x p) s e = record { to = ReadBinders at (AndBinder c (PlainBinder (BoundVar x p))) q; is = some-same e; reads = λ r. refl }
step-binders at c q (Opens opening.Parenthesis p) s e = record { to = ReadBinderOpening at (SomeBefore c) p q; is = some-same e; reads = λ r. refl }
step-binders at c (AllBodyIn k) (Signed mark.Dot) s e =
    record {
      to = ReadingTerm (UnderAll at (chain_binders c []) k);
      is = ap (In AtTerm) (chain_binders-frames c [] OfAll at (term_stack k)) ∙ some-same e;
      reads = λ r. ap (λ z. term_around_text k (Opens opening.All at ∷ z)) (sym (chain_binders-text c [] (Signed mark.Dot ∷ r)));
    }
step-binders at c (LambdaBodyIn k) (Signed mark.Dot) s e =
    record {
      to = ReadingCon (UnderLambda at (chain_binders c []) k);
      is = ap (In AtCon) (chain_binders-frames c [] OfLambda at (con_stack k)) ∙ some-same e;
      reads = λ r. ap (λ z. con_around_text k (Opens opening.Lambda at ∷ z)) (sym (chain_binders-text c [] (Signed mark.Dot ∷ r)));
    }
step-binders at c q l s e = absurd (none-some e)

step-first_var : {g : Goal} (at : ℕ) (x : VarPhrase) (q : BodyAround g) (l : InnerLexeme) (s : State)
    → next (reading_state (ReadFirstVar at x q)) l ≡ Some s → Step g (reading_text (ReadFirstVar at x q)) l s
step-first_var at x q (Signed mark.DoubleColon) s e = record { to = ReadingType (OnTypeBase (InOnlyBinder at x q)); is = some-same e; reads = λ r. refl }
step-first_var at x q l s e = step-binders at (Binder (PlainBinder x)) q l s e

step-binder_opening : {g : Goal} (at : ℕ) (before : Before) (p : ℕ) (q : BodyAround g) (l : InnerLexeme) (s : State)
    → next (reading_state (ReadBinderOpening at before p q)) l ≡ Some s → Step g (reading_text (ReadBinderOpening at before p q)) l s
step-binder_opening at before p q (Plain x v) s e = record { to = ReadBinderVar at before p (NamedVar x v) q; is = some-same e; reads = λ r. refl }
step-binder_opening at before p q (Bound x v) s e = record { to = ReadBinderVar at before p (BoundVar x v) q; is = some-same e; reads = λ r. refl }
step-binder_opening at before p q l s e = absurd (none-some e)

step-binder_var : {g : Goal} (at : ℕ) (before : Before) (p : ℕ) (x : VarPhrase) (q : BodyAround g) (l : InnerLexeme) (s : State)
    → next (reading_state (ReadBinderVar at before p x q)) l ≡ Some s → Step g (reading_text (ReadBinderVar at before p x q)) l s
step-binder_var at before p x q (Signed mark.DoubleColon) s e = record { to = ReadingType (OnTypeBase (InBinder at before p x q)); is = some-same e; reads = λ r. refl }
step-binder_var at before p x q l s e = absurd (none-some e)

-- ---- types
record OnTypeBaseOf (g : Goal) : Type 0 where
  typ : TypePhrase
  base : TypeBase g

abbrev lowered_type : {g : Goal} → TypePhrase → TypeAround g → OnTypeBaseOf g
lowered_type t (OnTypeBase b) = record { typ = t; base = b }
lowered_type t (BehindDomains c k) = lowered_type (chain_domains c NoType t) k
lowered_type t (BehindArrow p k) = lowered_type (ArrowType p t) k

lowered_type-text : {g : Goal} (k : TypeAround g) (t : TypePhrase) (r : List InnerLexeme)
    → type_around_text k (type_text t r) ≡ type_base_text (lowered_type t k).base (type_text (lowered_type t k).typ r)
lowered_type-text (OnTypeBase b) t r = refl
lowered_type-text (BehindDomains c k) t r = ap (type_around_text k) (sym (chain_domains-text c NoType t r)) ∙ lowered_type-text k (chain_domains c NoType t) r
lowered_type-text (BehindArrow p k) t r = lowered_type-text k (ArrowType p t) r

lowered_type-ranged : {g : Goal} (k : TypeAround g) (t : TypePhrase)
    → ranged (type_place t) (type_raw t) (type_stack k) ≡ ranged (type_place (lowered_type t k).typ) (type_raw (lowered_type t k).typ) (type_base_stack (lowered_type t k).base)
lowered_type-ranged (OnTypeBase b) t = refl
lowered_type-ranged (BehindDomains c k) t = chain_domains-ranged c NoType t (type_place t) (type_stack k) ∙ lowered_type-ranged k (chain_domains c NoType t)
lowered_type-ranged (BehindArrow p k) t = lowered_type-ranged k (ArrowType p t)

step-constraint : {g : Goal} (t : TypePhrase) (a : AppChain) (k : ConAround g) (l : InnerLexeme) (s : State)
    → con_ends (app_chain_place a) (tree.Typed (app_chain_place a) (app_chain_raw a) (type_raw t)) (con_stack k) l ≡ Some s
    → Step g (λ r. con_around_text k (app_chain_text a (Signed mark.DoubleColon ∷ type_text t r))) l s
step-constraint t a k l s e =
    step-from (λ r. ap (con_around_text k) (sym (chain_app-text a NoAtom (Signed mark.DoubleColon ∷ type_text t r))))
    (step-con (TypedCon (chain_app a NoAtom) t) k l s (rw (chain_app-place a NoAtom, chain_app-raw a NoAtom) e))

-- what the token leads to that ends a whole type
step-type_base : {g : Goal} (t : TypePhrase) (b : TypeBase g) (l : InnerLexeme) (s : State)
    → type_part_ends (ranged (type_place t) (type_raw t) (type_base_stack b)) l ≡ Some s → Step g (λ r. type_base_text b (type_text t r)) l s
step-type_base t (WholeType is) Ends s e = record { to = ReadType t is; is = some-same e; reads = λ r. refl }
step-type_base t (WholeType is) l s e = absurd (none-some e)
step-type_base t (InConstraint a k) l s e = step-constraint t a k l s e
step-type_base t (InBinder at NoneBefore p x q) (Signed mark.CloseParenthesis) s e = record { to = ReadBinders at (Binder (TypedBinder p x t)) q; is = some-same e; reads = λ r. refl }
step-type_base t (InBinder at (SomeBefore c) p x q) (Signed mark.CloseParenthesis) s e = record { to = ReadBinders at (AndBinder c (TypedBinder p x t)) q; is = some-same e; reads = λ r. refl }
step-type_base t (InBinder at before p x q) l s e = absurd (none-some e)
step-type_base t (InOnlyBinder at x (AllBodyIn k)) (Signed mark.Dot) s e = record { to = ReadingTerm (UnderAll at (OneTyped x t) k); is = some-same e; reads = λ r. refl }
step-type_base t (InOnlyBinder at x (LambdaBodyIn k)) (Signed mark.Dot) s e = record { to = ReadingCon (UnderLambda at (OneTyped x t) k); is = some-same e; reads = λ r. refl }
step-type_base t (InOnlyBinder at x q) l s e = absurd (none-some e)
step-type_base t (InFirstDomain at k) (Signed mark.Comma) s e = record { to = ReadingType (OnTypeBase (InNextDomain (Domain at t) k)); is = some-same e; reads = λ r. refl }
step-type_base t (InFirstDomain at k) (Signed mark.CloseBracket) s e = record { to = ReadDomains (Domain at t) k; is = some-same e; reads = λ r. refl }
step-type_base t (InFirstDomain at k) l s e = absurd (none-some e)
step-type_base t (InNextDomain c k) (Signed mark.Comma) s e = record { to = ReadingType (OnTypeBase (InNextDomain (AndDomain c t) k)); is = some-same e; reads = λ r. refl }
step-type_base t (InNextDomain c k) (Signed mark.CloseBracket) s e = record { to = ReadDomains (AndDomain c t) k; is = some-same e; reads = λ r. refl }
step-type_base t (InNextDomain c k) l s e = absurd (none-some e)
step-type_base t (InTypeParentheses at k) (Signed mark.CloseParenthesis) s e = record { to = ReadPost (Base (ClosedBase at t)) k; is = some-same e; reads = λ r. refl }
step-type_base t (InTypeParentheses at k) (Signed mark.Comma) s e = record { to = ReadingType (OnTypeBase (InArguments at (OneArgument t) k)); is = some-same e; reads = λ r. refl }
step-type_base t (InTypeParentheses at k) l s e = absurd (none-some e)
step-type_base t (InArguments at c k) (Signed mark.Comma) s e = record { to = ReadingType (OnTypeBase (InArguments at (AndTypeArgument c t) k)); is = some-same e; reads = λ r. refl }
step-type_base t (InArguments at c k) (Signed mark.CloseParenthesis) s e = record { to = ReadArguments at c t k; is = some-same e; reads = λ r. refl }
step-type_base t (InArguments at c k) l s e = absurd (none-some e)

step-whole_type : {g : Goal} (t : TypePhrase) (k : TypeAround g) (l : InnerLexeme) (s : State)
    → type_part_ends (ranged (type_place t) (type_raw t) (type_stack k)) l ≡ Some s → Step g (λ r. type_around_text k (type_text t r)) l s
step-whole_type t k l s e =
    step-from (lowered_type-text k t) (step-type_base (lowered_type t k).typ (lowered_type t k).base l s (ap (λ z. type_part_ends z l) (sym (lowered_type-ranged k t)) ∙ e))

-- behind a type that neither a constructor nor an arrow follows
step-chain : {g : Goal} (p : PostChain) (k : TypeAround g) (l : InnerLexeme) (s : State)
    → type_part_ends (ranged (post_chain_place p) (post_chain_raw p) (type_stack k)) l ≡ Some s → Step g (λ r. type_around_text k (post_chain_text p r)) l s
step-chain p k l s e =
    step-from (λ r. ap (type_around_text k) (sym (chain_post-text p [] r)))
    (step-whole_type (PlainType (chain_post p [])) k l s (rw (chain_post-place p [], chain_post-raw p []) e))

step-post : {g : Goal} (p : PostChain) (k : TypeAround g) (l : InnerLexeme) (s : State) → next (reading_state (ReadPost p k)) l ≡ Some s → Step g (reading_text (ReadPost p k)) l s
step-post p k (Plain x c) s e = record { to = ReadPost (AndConstructor p (Simple x c)) k; is = some-same e; reads = λ r. refl }
step-post p k (Dotted x c) s e = record { to = ReadPost (AndConstructor p (Full x c)) k; is = some-same e; reads = λ r. refl }
step-post p k (Signed mark.Arrow) s e =
    record {
      to = ReadingType (BehindArrow (chain_post p []) k);
      is = rw (chain_post-place p [], chain_post-raw p []) (some-same e);
      reads = λ r. ap (type_around_text k) (sym (chain_post-text p [] (Signed mark.Arrow ∷ r)));
    }
step-post p k l s e = step-chain p k l s e

step-variable : {g : Goal} (v : VariablePhrase) (k : TypeAround g) (l : InnerLexeme) (s : State) → next (reading_state (ReadVariable v k)) l ≡ Some s → Step g (reading_text (ReadVariable v k)) l s
step-variable v k (Signed mark.DoubleColon) s e = record { to = ReadColons v k; is = some-same e; reads = λ r. refl }
step-variable (Fixed x p) k l s e = step-post (Base (VariableBase x p NoSort)) k l s e
step-variable (Unknown x p) k l s e = step-post (Base (SchematicBase x p NoSort)) k l s e

step-colons : {g : Goal} (v : VariablePhrase) (k : TypeAround g) (l : InnerLexeme) (s : State) → next (reading_state (ReadColons v k)) l ≡ Some s → Step g (reading_text (ReadColons v k)) l s
step-colons v k (Signed mark.OpenBrace) s e = record { to = ReadBrace v k; is = some-same e; reads = λ r. refl }
step-colons (Fixed x p) k (Plain c q) s e = record { to = ReadPost (Base (VariableBase x p (OneClass (Simple c q)))) k; is = some-same e; reads = λ r. refl }
step-colons (Fixed x p) k (Dotted c q) s e = record { to = ReadPost (Base (VariableBase x p (OneClass (Full c q)))) k; is = some-same e; reads = λ r. refl }
step-colons (Unknown x p) k (Plain c q) s e = record { to = ReadPost (Base (SchematicBase x p (OneClass (Simple c q)))) k; is = some-same e; reads = λ r. refl }
step-colons (Unknown x p) k (Dotted c q) s e = record { to = ReadPost (Base (SchematicBase x p (OneClass (Full c q)))) k; is = some-same e; reads = λ r. refl }
step-colons v k l s e = absurd (none-some e)

step-brace : {g : Goal} (v : VariablePhrase) (k : TypeAround g) (l : InnerLexeme) (s : State) → next (reading_state (ReadBrace v k)) l ≡ Some s → Step g (reading_text (ReadBrace v k)) l s
step-brace (Fixed x p) k (Signed mark.CloseBrace) s e = record { to = ReadPost (Base (VariableBase x p NoClass)) k; is = some-same e; reads = λ r. refl }
step-brace (Unknown x p) k (Signed mark.CloseBrace) s e = record { to = ReadPost (Base (SchematicBase x p NoClass)) k; is = some-same e; reads = λ r. refl }
step-brace v k (Plain c q) s e = record { to = ReadClasses v (Simple c q) [] k; is = some-same e; reads = λ r. refl }
step-brace v k (Dotted c q) s e = record { to = ReadClasses v (Full c q) [] k; is = some-same e; reads = λ r. refl }
step-brace v k l s e = absurd (none-some e)

step-classes : {g : Goal} (v : VariablePhrase) (c : InnerName) (cs : List InnerName) (k : TypeAround g) (l : InnerLexeme) (s : State)
    → next (reading_state (ReadClasses v c cs k)) l ≡ Some s → Step g (reading_text (ReadClasses v c cs k)) l s
step-classes v c cs k (Signed mark.Comma) s e = record { to = ReadClassComma v c cs k; is = some-same e; reads = λ r. refl }
step-classes (Fixed x p) c cs k (Signed mark.CloseBrace) s e = record { to = ReadPost (Base (VariableBase x p (Classes c cs))) k; is = some-same e; reads = λ r. refl }
step-classes (Unknown x p) c cs k (Signed mark.CloseBrace) s e = record { to = ReadPost (Base (SchematicBase x p (Classes c cs))) k; is = some-same e; reads = λ r. refl }
step-classes v c cs k l s e = absurd (none-some e)

each-snoc : {A : Type 0} (text : A → List InnerLexeme → List InnerLexeme) (xs : List A) (x : A) (r : List InnerLexeme) → each text (xs ++ x ∷ []) r ≡ each text xs (text x r)
each-snoc text [] x r = refl
each-snoc text (y ∷ xs) x r = ap (text y) (each-snoc text xs x r)

map-snoc : {A B : Type 0} (f : A → B) (xs : List A) (x : A) → map f (xs ++ x ∷ []) ≡ map f xs ++ f x ∷ []
map-snoc f [] x = refl
map-snoc f (y ∷ xs) x = ap (λ z. f y ∷ z) (map-snoc f xs x)

pub classes-text : (v : VariablePhrase) (c : InnerName) (cs : List InnerName) (x : InnerName) (r : List InnerLexeme)
    → variable_text v (Signed mark.DoubleColon ∷ Signed mark.OpenBrace ∷ name_text c (each comma_name_text cs (Signed mark.Comma ∷ name_text x r)))
    ≡ variable_text v (Signed mark.DoubleColon ∷ Signed mark.OpenBrace ∷ name_text c (each comma_name_text (cs ++ x ∷ []) r))
classes-text v c cs x r = ap (λ z. variable_text v (Signed mark.DoubleColon ∷ Signed mark.OpenBrace ∷ name_text c z)) (sym (each-snoc comma_name_text cs x r))

step-class_comma : {g : Goal} (v : VariablePhrase) (c : InnerName) (cs : List InnerName) (k : TypeAround g) (l : InnerLexeme) (s : State)
    → next (reading_state (ReadClassComma v c cs k)) l ≡ Some s → Step g (reading_text (ReadClassComma v c cs k)) l s
step-class_comma v c cs k (Plain x p) s e =
    record {
      to = ReadClasses v c (cs ++ Simple x p ∷ []) k;
      is = rw (map-snoc class_raw cs (Simple x p)) (some-same e);
      reads = λ r. ap (type_around_text k) (classes-text v c cs (Simple x p) r);
    }
step-class_comma v c cs k (Dotted x p) s e =
    record {
      to = ReadClasses v c (cs ++ Full x p ∷ []) k;
      is = rw (map-snoc class_raw cs (Full x p)) (some-same e);
      reads = λ r. ap (type_around_text k) (classes-text v c cs (Full x p) r);
    }
step-class_comma v c cs k l s e = absurd (none-some e)

step-type_begun : {g : Goal} (k : TypeAround g) (l : InnerLexeme) (s : State) → next (reading_state (ReadingType k)) l ≡ Some s → Step g (type_around_text k) l s
step-type_begun k (Plain x p) s e = record { to = ReadPost (Base (NamedBase (Simple x p))) k; is = some-same e; reads = λ r. refl }
step-type_begun k (Dotted x p) s e = record { to = ReadPost (Base (NamedBase (Full x p))) k; is = some-same e; reads = λ r. refl }
step-type_begun k (Variable x p) s e = record { to = ReadVariable (Fixed x p) k; is = some-same e; reads = λ r. refl }
step-type_begun k (TypeSchematic x p) s e = record { to = ReadVariable (Unknown x p) k; is = some-same e; reads = λ r. refl }
step-type_begun k (Opens opening.Bracket p) s e = record { to = ReadingType (OnTypeBase (InFirstDomain p k)); is = some-same e; reads = λ r. refl }
step-type_begun k (Opens opening.Parenthesis p) s e = record { to = ReadingType (OnTypeBase (InTypeParentheses p k)); is = some-same e; reads = λ r. refl }
step-type_begun k l s e = absurd (none-some e)

-- the constructor behind its arguments
step-constructor : {g : Goal} (at : ℕ) (c : ArgumentChain) (t : TypePhrase) (n : InnerName) (k : TypeAround g) (l : InnerLexeme) (s : State)
    → ((r : List InnerLexeme) → name_text n r ≡ l ∷ r)
    → In (AfterPost at (tree.Con at (name_of n) (raw_typs_of (argument_chain_list c ++ type_raw t ∷ [])))) (type_stack k) ≡ s
    → Step g (reading_text (ReadArguments at c t k)) l s
step-constructor at c t n k l s front e =
    record {
      to = ReadPost (Base (chain_base at c t NoType n)) k;
      is = rw (chain_base-place at c t NoType n, chain_base-raw at c t n) e;
      reads = λ r. ap (λ z. type_around_text k (Opens opening.Parenthesis at ∷ argument_chain_text c (Signed mark.Comma ∷ type_text t (Signed mark.CloseParenthesis ∷ z)))) (sym (front r))
          ∙ ap (type_around_text k) (sym (chain_base-text at c t NoType n r));
    }

step-arguments : {g : Goal} (at : ℕ) (c : ArgumentChain) (t : TypePhrase) (k : TypeAround g) (l : InnerLexeme) (s : State)
    → next (reading_state (ReadArguments at c t k)) l ≡ Some s → Step g (reading_text (ReadArguments at c t k)) l s
step-arguments at c t k (Plain x p) s e = step-constructor at c t (Simple x p) k (Plain x p) s (λ r. refl) (some-same e)
step-arguments at c t k (Dotted x p) s e = step-constructor at c t (Full x p) k (Dotted x p) s (λ r. refl) (some-same e)
step-arguments at c t k l s e = absurd (none-some e)

step-domains : {g : Goal} (c : DomainChain) (k : TypeAround g) (l : InnerLexeme) (s : State) → next (reading_state (ReadDomains c k)) l ≡ Some s → Step g (reading_text (ReadDomains c k)) l s
step-domains c k (Signed mark.Arrow) s e = record { to = ReadingType (BehindDomains c k); is = some-same e; reads = λ r. refl }
step-domains c k l s e = absurd (none-some e)

step-premises : {g : Goal} (c : PremiseChain) (k : TermAround g) (l : InnerLexeme) (s : State) → next (reading_state (ReadPremises c k)) l ≡ Some s → Step g (reading_text (ReadPremises c k)) l s
step-premises c k (Signed mark.Implies) s e = record { to = ReadingTerm (AfterPremises c k); is = some-same e; reads = λ r. refl }
step-premises c k l s e = absurd (none-some e)

-- ---- each token leads from what was read to what was read with it
pub step-reading : {g : Goal} (p : Reading g) (l : InnerLexeme) (s : State) → next (reading_state p) l ≡ Some s → Step g (reading_text p) l s
step-reading (ReadingTerm k) l s e = step-term_begun k l s e
step-reading (ReadingCon k) l s e = step-con_begun k l s e
step-reading (ReadAtom a k) l s e = step-atom a k l s e
step-reading (ReadPremises c k) l s e = step-premises c k l s e
step-reading (ReadSign at q) l s e = step-sign at q l s e
step-reading (ReadFirstVar at x q) l s e = step-first_var at x q l s e
step-reading (ReadBinders at c q) l s e = step-binders at c q l s e
step-reading (ReadBinderOpening at before p q) l s e = step-binder_opening at before p q l s e
step-reading (ReadBinderVar at before p x q) l s e = step-binder_var at before p x q l s e
step-reading (ReadingType k) l s e = step-type_begun k l s e
step-reading (ReadVariable v k) l s e = step-variable v k l s e
step-reading (ReadColons v k) l s e = step-colons v k l s e
step-reading (ReadBrace v k) l s e = step-brace v k l s e
step-reading (ReadClasses v c cs k) l s e = step-classes v c cs k l s e
step-reading (ReadClassComma v c cs k) l s e = step-class_comma v c cs k l s e
step-reading (ReadPost p k) l s e = step-post p k l s e
step-reading (ReadArguments at c t k) l s e = step-arguments at c t k l s e
step-reading (ReadDomains c k) l s e = step-domains c k l s e
step-reading (ReadTerm t is) l s e = absurd (none-some e)
step-reading (ReadType t is) l s e = absurd (none-some e)

-- behind some tokens the reader has read them
pub record Reached (g : Goal) (text : List InnerLexeme → List InnerLexeme) (ls : List InnerLexeme) (s : State) : Type 0 where
  pub to : Reading g
  pub is : reading_state to ≡ s
  pub reads : (r : List InnerLexeme) → text (ls ++ r) ≡ reading_text to r

reached-by : {g : Goal} (l : InnerLexeme) (ls : List InnerLexeme) (p : Reading g) (s : State) (o : Option State) → next (reading_state p) l ≡ o → goes_on o (λ t. run t ls) ≡ Some s
    → ((q : Reading g) → run (reading_state q) ls ≡ Some s → Reached g (reading_text q) ls s) → Reached g (reading_text p) (l ∷ ls) s
reached-by l ls p s None goes on again = absurd (none-some on)
reached-by l ls p s (Some t) goes on again =
    let step = step-reading p l t goes in
    let rest = again step.to (subst (λ z. run z ls ≡ Some s) (sym step.is) on) in
    record { to = rest.to; is = rest.is; reads = λ r. step.reads (ls ++ r) ∙ rest.reads r }

pub run-reading : {g : Goal} (ls : List InnerLexeme) (p : Reading g) (s : State) → run (reading_state p) ls ≡ Some s → Reached g (reading_text p) ls s
run-reading [] p s e = record { to = p; is = some-same e; reads = λ r. refl }
run-reading (l ∷ ls) p s e = reached-by l ls p s (next (reading_state p) l) refl e (λ q f. run-reading ls q s f)
