-- What was read of a term or a type, as phrases with a gap, and that each gap can be filled.
use Rattle.std.proofs.Common.{◌≡◌, ℕ, List, [], ◌∷◌, ◌++◌, map, refl, sym, ◌∙◌, ap}
use Rattle.pure_grammar.specs.declared.token.TokenKind.TheVariants as kind
use Rattle.pure_grammar.specs.declared.inner.Opening.TheVariants as opening
use Rattle.pure_grammar.specs.declared.inner.Mark.TheVariants as mark
use Rattle.pure_grammar.specs.Terms.InnerLexeme.{InnerLexeme, Variable, TypeSchematic, Opens, Signed, Ends}
use Rattle.pure_grammar.specs.Terms.RawTree.{RawClassTree, RawTypTree, RawTypTrees, RawTree, raw_typs_of, implication, equation, function_type}
use Rattle.pure_grammar.specs.Terms.RawTree as tree
use Rattle.pure_grammar.specs.Terms.InnerPhrase.{InnerName, InnerSort, TypePhrase, DomainsType, TypePhrases, NoType, AndType, PostPhrase, Post, BasePhrase, VariableBase, SchematicBase, ArgumentsBase, VarPhrase, BinderPhrase, BindersPhrase, Binders, TermPhrase, ImpPhrase, PremisesImp, TermPhrases, AndTerm, EqPhrase, ConPhrase, AppPhrase, Application, AtomPhrases, AndAtom, AtomPhrase}
use Rattle.pure_grammar.specs.Terms.InnerText.{each, name_text, comma_name_text, type_text, types_text, post_text, base_text, var_text, binder_text, binders_text, term_text, imp_text, terms_text, eq_text, con_text, app_text, atoms_text, atom_text}
use Rattle.pure_grammar.specs.Terms.InnerTree.{name_of, class_raw, base_place, post_place, type_place, constructed, type_raw, functions_raw, types_raw, post_raw, base_raw, var_of, var_place, binder_var, binder_typ, binder_place, atom_place, app_place, con_place, eq_place, imp_place, term_place, term_raw, imp_raw, implications_raw, eq_raw, con_raw, app_raw, applied_raw, atom_raw}
use Rattle.pure_grammar.specs.Terms.InnerReader.{Written, Quantifier, OfAll, OfLambda, RightSide, Conclusion, FirstPremise, NextPremise, Enclosed, Argument, Constraint, BinderType, OnlyBinderType, FirstDomain, NextDomain, EnclosedType, MoreArguments, Frame, Joined, InTerm, Range, InType, AtTerm, AtCon, AfterAtom, AtImplies, AtBinder, AfterFirstVar, AfterBinder, AtBinderVar, AfterBinderVar, AtType, AfterVariable, AtSort, AtFirstClass, AfterClass, AtNextClass, AfterPost, AtConstructor, AtArrow, State, In, DoneTerm, DoneType, reduced, ranged, bound}
use Rattle.pure_grammar.proofs.InnerReaderLemmas.{more_binder_frames, binder_frames, IsLoose}

-- which of the two is read
pub data Goal : Type 0 where
  OfTerm : Goal
  OfType : Goal

-- ---- parts of phrases that may go on, from their first part

-- an application so far
pub data AppChain : Type 0 where
  Function : (atom : AtomPhrase) → AppChain
  AndArgument : AppChain → (atom : AtomPhrase) → AppChain

abbrev pub app_chain_text : AppChain → List InnerLexeme → List InnerLexeme
app_chain_text (Function f) r = atom_text f r
app_chain_text (AndArgument a x) r = app_chain_text a (atom_text x r)

abbrev pub app_chain_place : AppChain → ℕ
app_chain_place (Function f) = atom_place f
app_chain_place (AndArgument a x) = app_chain_place a

abbrev pub app_chain_raw : AppChain → RawTree
app_chain_raw (Function f) = atom_raw f
app_chain_raw (AndArgument a x) = tree.App (app_chain_place a) (app_chain_raw a) (atom_raw x)

abbrev pub chain_app : AppChain → AtomPhrases → AppPhrase
chain_app (Function f) xs = Application f xs
chain_app (AndArgument a x) xs = chain_app a (AndAtom x xs)

pub chain_app-text : (a : AppChain) (xs : AtomPhrases) (r : List InnerLexeme) → app_text (chain_app a xs) r ≡ app_chain_text a (atoms_text xs r)
chain_app-text (Function f) xs r = refl
chain_app-text (AndArgument a x) xs r = chain_app-text a (AndAtom x xs) r

pub chain_app-place : (a : AppChain) (xs : AtomPhrases) → app_place (chain_app a xs) ≡ app_chain_place a
chain_app-place (Function f) xs = refl
chain_app-place (AndArgument a x) xs = chain_app-place a (AndAtom x xs)

pub chain_app-raw : (a : AppChain) (xs : AtomPhrases) → app_raw (chain_app a xs) ≡ applied_raw (app_chain_place a) (app_chain_raw a) xs
chain_app-raw (Function f) xs = refl
chain_app-raw (AndArgument a x) xs = chain_app-raw a (AndAtom x xs)

-- premises so far
pub data PremiseChain : Type 0 where
  Premise : (at : ℕ) → (term : TermPhrase) → PremiseChain
  AndPremise : PremiseChain → (term : TermPhrase) → PremiseChain

abbrev pub premise_chain_text : PremiseChain → List InnerLexeme → List InnerLexeme
premise_chain_text (Premise at a) r = Opens opening.Premises at ∷ term_text a r
premise_chain_text (AndPremise c a) r = premise_chain_text c (Signed mark.Semicolon ∷ term_text a r)

abbrev pub premise_chain_frames : PremiseChain → List Frame → List Frame
premise_chain_frames (Premise at a) k = Joined (Conclusion at (term_raw a)) ∷ k
premise_chain_frames (AndPremise c a) k = Joined (Conclusion (term_place a) (term_raw a)) ∷ premise_chain_frames c k

abbrev pub chain_imp : PremiseChain → TermPhrases → TermPhrase → ImpPhrase
chain_imp (Premise at a) more b = PremisesImp at a more b
chain_imp (AndPremise c a) more b = chain_imp c (AndTerm a more) b

pub chain_imp-text : (c : PremiseChain) (more : TermPhrases) (b : TermPhrase) (r : List InnerLexeme)
    → imp_text (chain_imp c more b) r ≡ premise_chain_text c (terms_text more (Signed mark.ClosePremises ∷ Signed mark.Implies ∷ term_text b r))
chain_imp-text (Premise at a) more b r = refl
chain_imp-text (AndPremise c a) more b r = chain_imp-text c (AndTerm a more) b r

pub chain_imp-reduced : (c : PremiseChain) (more : TermPhrases) (b : TermPhrase) (at : ℕ) (k : List Frame)
    → reduced 1 at (implications_raw more (term_raw b)) (premise_chain_frames c k) ≡ reduced 1 (imp_place (chain_imp c more b)) (imp_raw (chain_imp c more b)) k
chain_imp-reduced (Premise p a) more b at k = refl
chain_imp-reduced (AndPremise c a) more b at k = chain_imp-reduced c (AndTerm a more) b (term_place a) k

pub chain-loose : (c : PremiseChain) (k : List Frame) → IsLoose (premise_chain_frames c k)
chain-loose (Premise at a) k = tt
chain-loose (AndPremise c a) k = tt

-- domains so far
pub data DomainChain : Type 0 where
  Domain : (at : ℕ) → (typ : TypePhrase) → DomainChain
  AndDomain : DomainChain → (typ : TypePhrase) → DomainChain

abbrev pub domain_chain_text : DomainChain → List InnerLexeme → List InnerLexeme
domain_chain_text (Domain at t) r = Opens opening.Bracket at ∷ type_text t r
domain_chain_text (AndDomain c t) r = domain_chain_text c (Signed mark.Comma ∷ type_text t r)

abbrev pub domain_chain_frames : DomainChain → List Frame → List Frame
domain_chain_frames (Domain at t) k = Range at (type_raw t) ∷ k
domain_chain_frames (AndDomain c t) k = Range (type_place t) (type_raw t) ∷ domain_chain_frames c k

abbrev pub chain_domains : DomainChain → TypePhrases → TypePhrase → TypePhrase
chain_domains (Domain at t) ts u = DomainsType at t ts u
chain_domains (AndDomain c t) ts u = chain_domains c (AndType t ts) u

pub chain_domains-text : (c : DomainChain) (ts : TypePhrases) (u : TypePhrase) (r : List InnerLexeme)
    → type_text (chain_domains c ts u) r ≡ domain_chain_text c (types_text ts (Signed mark.CloseBracket ∷ Signed mark.Arrow ∷ type_text u r))
chain_domains-text (Domain at t) ts u r = refl
chain_domains-text (AndDomain c t) ts u r = chain_domains-text c (AndType t ts) u r

pub chain_domains-ranged : (c : DomainChain) (ts : TypePhrases) (u : TypePhrase) (at : ℕ) (k : List Frame)
    → ranged at (functions_raw ts (type_raw u)) (domain_chain_frames c k) ≡ ranged (type_place (chain_domains c ts u)) (type_raw (chain_domains c ts u)) k
chain_domains-ranged (Domain p t) ts u at k = refl
chain_domains-ranged (AndDomain c t) ts u at k = chain_domains-ranged c (AndType t ts) u (type_place t) k

-- a type with constructors behind it, so far
pub data PostChain : Type 0 where
  Base : (base : BasePhrase) → PostChain
  AndConstructor : PostChain → (name : InnerName) → PostChain

abbrev pub post_chain_text : PostChain → List InnerLexeme → List InnerLexeme
post_chain_text (Base b) r = base_text b r
post_chain_text (AndConstructor c k) r = post_chain_text c (name_text k r)

abbrev pub post_chain_place : PostChain → ℕ
post_chain_place (Base b) = base_place b
post_chain_place (AndConstructor c k) = post_chain_place c

abbrev pub post_chain_raw : PostChain → RawTypTree
post_chain_raw (Base b) = base_raw b
post_chain_raw (AndConstructor c k) = tree.Con (post_chain_place c) (name_of k) (tree.also (post_chain_raw c) tree.none)

abbrev pub chain_post : PostChain → List InnerName → PostPhrase
chain_post (Base b) ks = Post b ks
chain_post (AndConstructor c k) ks = chain_post c (k ∷ ks)

pub chain_post-text : (c : PostChain) (ks : List InnerName) (r : List InnerLexeme) → post_text (chain_post c ks) r ≡ post_chain_text c (each name_text ks r)
chain_post-text (Base b) ks r = refl
chain_post-text (AndConstructor c k) ks r = chain_post-text c (k ∷ ks) r

pub chain_post-place : (c : PostChain) (ks : List InnerName) → post_place (chain_post c ks) ≡ post_chain_place c
chain_post-place (Base b) ks = refl
chain_post-place (AndConstructor c k) ks = chain_post-place c (k ∷ ks)

pub chain_post-raw : (c : PostChain) (ks : List InnerName) → post_raw (chain_post c ks) ≡ constructed (post_chain_place c) (post_chain_raw c) ks
chain_post-raw (Base b) ks = refl
chain_post-raw (AndConstructor c k) ks = chain_post-raw c (k ∷ ks)

-- arguments of a constructor so far
pub data ArgumentChain : Type 0 where
  OneArgument : (typ : TypePhrase) → ArgumentChain
  AndTypeArgument : ArgumentChain → (typ : TypePhrase) → ArgumentChain

abbrev pub argument_chain_text : ArgumentChain → List InnerLexeme → List InnerLexeme
argument_chain_text (OneArgument t) r = type_text t r
argument_chain_text (AndTypeArgument c t) r = argument_chain_text c (Signed mark.Comma ∷ type_text t r)

abbrev pub argument_chain_list : ArgumentChain → List RawTypTree
argument_chain_list (OneArgument t) = type_raw t ∷ []
argument_chain_list (AndTypeArgument c t) = argument_chain_list c ++ type_raw t ∷ []

abbrev pub chain_base : ℕ → ArgumentChain → TypePhrase → TypePhrases → InnerName → BasePhrase
chain_base at (OneArgument t) u ts k = ArgumentsBase at t u ts k
chain_base at (AndTypeArgument c t) u ts k = chain_base at c t (AndType u ts) k

pub chain_base-text : (at : ℕ) (c : ArgumentChain) (u : TypePhrase) (ts : TypePhrases) (k : InnerName) (r : List InnerLexeme)
    → base_text (chain_base at c u ts k) r ≡ Opens opening.Parenthesis at ∷ argument_chain_text c (Signed mark.Comma ∷ type_text u (types_text ts (Signed mark.CloseParenthesis ∷ name_text k r)))
chain_base-text at (OneArgument t) u ts k r = refl
chain_base-text at (AndTypeArgument c t) u ts k r = chain_base-text at c t (AndType u ts) k r

pub chain_base-place : (at : ℕ) (c : ArgumentChain) (u : TypePhrase) (ts : TypePhrases) (k : InnerName) → base_place (chain_base at c u ts k) ≡ at
chain_base-place at (OneArgument t) u ts k = refl
chain_base-place at (AndTypeArgument c t) u ts k = chain_base-place at c t (AndType u ts) k

-- the trees of a list, and then others
abbrev and_then : List RawTypTree → RawTypTrees → RawTypTrees
and_then [] us = us
and_then (t ∷ ts) us = tree.also t (and_then ts us)

and_then-snoc : (ts : List RawTypTree) (t : RawTypTree) (us : RawTypTrees) → and_then (ts ++ t ∷ []) us ≡ and_then ts (tree.also t us)
and_then-snoc [] t us = refl
and_then-snoc (x ∷ ts) t us = ap (tree.also x) (and_then-snoc ts t us)

and_then-none : (ts : List RawTypTree) → and_then ts tree.none ≡ raw_typs_of ts
and_then-none [] = refl
and_then-none (x ∷ ts) = ap (tree.also x) (and_then-none ts)

chain_base-and_then : (at : ℕ) (c : ArgumentChain) (u : TypePhrase) (ts : TypePhrases) (k : InnerName)
    → base_raw (chain_base at c u ts k) ≡ tree.Con at (name_of k) (and_then (argument_chain_list c) (tree.also (type_raw u) (types_raw ts)))
chain_base-and_then at (OneArgument t) u ts k = refl
chain_base-and_then at (AndTypeArgument c t) u ts k =
    chain_base-and_then at c t (AndType u ts) k ∙ ap (tree.Con at (name_of k)) (sym (and_then-snoc (argument_chain_list c) (type_raw t) (tree.also (type_raw u) (types_raw ts))))

pub chain_base-raw : (at : ℕ) (c : ArgumentChain) (u : TypePhrase) (k : InnerName)
    → base_raw (chain_base at c u NoType k) ≡ tree.Con at (name_of k) (raw_typs_of (argument_chain_list c ++ type_raw u ∷ []))
chain_base-raw at c u k =
    chain_base-and_then at c u NoType k
    ∙ ap (tree.Con at (name_of k)) (sym (and_then-snoc (argument_chain_list c) (type_raw u) tree.none) ∙ and_then-none (argument_chain_list c ++ type_raw u ∷ []))

-- binders so far
pub data BinderChain : Type 0 where
  Binder : (binder : BinderPhrase) → BinderChain
  AndBinder : BinderChain → (binder : BinderPhrase) → BinderChain

abbrev pub binder_chain_text : BinderChain → List InnerLexeme → List InnerLexeme
binder_chain_text (Binder b) r = binder_text b r
binder_chain_text (AndBinder c b) r = binder_chain_text c (binder_text b r)

abbrev pub binder_chain_frames : Quantifier → ℕ → BinderChain → List Frame → List Frame
binder_chain_frames q at (Binder b) k = bound q at (binder_place b) (binder_var b) (binder_typ b) ∷ k
binder_chain_frames q at (AndBinder c b) k = bound q (binder_place b) (binder_place b) (binder_var b) (binder_typ b) ∷ binder_chain_frames q at c k

abbrev pub chain_binders : BinderChain → List BinderPhrase → BindersPhrase
chain_binders (Binder b) bs = Binders b bs
chain_binders (AndBinder c b) bs = chain_binders c (b ∷ bs)

pub chain_binders-text : (c : BinderChain) (bs : List BinderPhrase) (r : List InnerLexeme) → binders_text (chain_binders c bs) r ≡ binder_chain_text c (each binder_text bs r)
chain_binders-text (Binder b) bs r = refl
chain_binders-text (AndBinder c b) bs r = chain_binders-text c (b ∷ bs) r

pub chain_binders-frames : (c : BinderChain) (bs : List BinderPhrase) (q : Quantifier) (at : ℕ) (k : List Frame)
    → binder_frames q at (chain_binders c bs) k ≡ more_binder_frames q bs (binder_chain_frames q at c k)
chain_binders-frames (Binder b) bs q at k = refl
chain_binders-frames (AndBinder c b) bs q at k = chain_binders-frames c (b ∷ bs) q at k

-- no binder so far, or some
pub data Before : Type 0 where
  NoneBefore : Before
  SomeBefore : (chain : BinderChain) → Before

abbrev pub before_text : Before → List InnerLexeme → List InnerLexeme
before_text NoneBefore r = r
before_text (SomeBefore c) r = binder_chain_text c r

abbrev pub before_frames : Quantifier → ℕ → Before → List Frame → List Frame
before_frames q at NoneBefore k = k
before_frames q at (SomeBefore c) k = binder_chain_frames q at c k

-- the place of the node of a binder: the first one has that of the sign
abbrev pub node_place : ℕ → Before → ℕ → ℕ
node_place at NoneBefore p = at
node_place at (SomeBefore c) p = p

abbrev pub and_binder : Before → BinderPhrase → BinderChain
and_binder NoneBefore b = Binder b
and_binder (SomeBefore c) b = AndBinder c b

-- ---- phrases with a gap

-- What stands round a term: all of it that ends with the term, and then what the term itself stands in.
mutual
  pub data TermAround (g : Goal) : Type 0 where
    OnBase : (base : TermBase g) → TermAround g
    UnderAll : (at : ℕ) → (binders : BindersPhrase) → (around : TermAround g) → TermAround g
    AfterPremises : (chain : PremiseChain) → (around : TermAround g) → TermAround g
    BehindImplies : (eq : EqPhrase) → (around : TermAround g) → TermAround g

  pub data TermBase (g : Goal) : Type 0 where
    WholeTerm : (is : g ≡ OfTerm) → TermBase g
    InFirstPremise : (at : ℕ) → (around : TermAround g) → TermBase g
    InNextPremise : (chain : PremiseChain) → (around : TermAround g) → TermBase g
    InParentheses : (at : ℕ) → (around : ConAround g) → TermBase g
    InArgument : (at : ℕ) → (app : AppChain) → (around : ConAround g) → TermBase g

  pub data ConAround (g : Goal) : Type 0 where
    OnSide : (side : Side g) → ConAround g
    UnderLambda : (at : ℕ) → (binders : BindersPhrase) → (around : ConAround g) → ConAround g

  pub data Side (g : Goal) : Type 0 where
    LeftSide : (around : TermAround g) → Side g
    OnRight : (left : ConPhrase) → (around : TermAround g) → Side g

-- what stands round the body of a binder
pub data BodyAround (g : Goal) : Type 0 where
  AllBodyIn : (around : TermAround g) → BodyAround g
  LambdaBodyIn : (around : ConAround g) → BodyAround g

-- what stands round a type
mutual
  pub data TypeAround (g : Goal) : Type 0 where
    OnTypeBase : (base : TypeBase g) → TypeAround g
    BehindDomains : (chain : DomainChain) → (around : TypeAround g) → TypeAround g
    BehindArrow : (post : PostPhrase) → (around : TypeAround g) → TypeAround g

  pub data TypeBase (g : Goal) : Type 0 where
    WholeType : (is : g ≡ OfType) → TypeBase g
    InConstraint : (app : AppChain) → (around : ConAround g) → TypeBase g
    InBinder : (at : ℕ) → (before : Before) → (place : ℕ) → (var : VarPhrase) → (around : BodyAround g) → TypeBase g
    InOnlyBinder : (at : ℕ) → (var : VarPhrase) → (around : BodyAround g) → TypeBase g
    InFirstDomain : (at : ℕ) → (around : TypeAround g) → TypeBase g
    InNextDomain : (chain : DomainChain) → (around : TypeAround g) → TypeBase g
    InTypeParentheses : (at : ℕ) → (around : TypeAround g) → TypeBase g
    InArguments : (at : ℕ) → (chain : ArgumentChain) → (around : TypeAround g) → TypeBase g

-- ---- the text before the gap, with `r` behind it
abbrev mutual
  pub term_around_text : {g : Goal} → TermAround g → List InnerLexeme → List InnerLexeme
  term_around_text (OnBase b) r = term_base_text b r
  term_around_text (UnderAll at bs k) r = term_around_text k (Opens opening.All at ∷ binders_text bs (Signed mark.Dot ∷ r))
  term_around_text (AfterPremises c k) r = term_around_text k (premise_chain_text c (Signed mark.ClosePremises ∷ Signed mark.Implies ∷ r))
  term_around_text (BehindImplies e k) r = term_around_text k (eq_text e (Signed mark.Implies ∷ r))

  pub term_base_text : {g : Goal} → TermBase g → List InnerLexeme → List InnerLexeme
  term_base_text (WholeTerm is) r = r
  term_base_text (InFirstPremise at k) r = term_around_text k (Opens opening.Premises at ∷ r)
  term_base_text (InNextPremise c k) r = term_around_text k (premise_chain_text c (Signed mark.Semicolon ∷ r))
  term_base_text (InParentheses at c) r = con_around_text c (Opens opening.Parenthesis at ∷ r)
  term_base_text (InArgument at a c) r = con_around_text c (app_chain_text a (Opens opening.Parenthesis at ∷ r))

  pub con_around_text : {g : Goal} → ConAround g → List InnerLexeme → List InnerLexeme
  con_around_text (OnSide s) r = side_text s r
  con_around_text (UnderLambda at bs c) r = con_around_text c (Opens opening.Lambda at ∷ binders_text bs (Signed mark.Dot ∷ r))

  pub side_text : {g : Goal} → Side g → List InnerLexeme → List InnerLexeme
  side_text (LeftSide k) r = term_around_text k r
  side_text (OnRight c k) r = term_around_text k (con_text c (Signed mark.Equals ∷ r))

abbrev pub body_text : {g : Goal} → BodyAround g → ℕ → List InnerLexeme → List InnerLexeme
body_text (AllBodyIn k) at r = term_around_text k (Opens opening.All at ∷ r)
body_text (LambdaBodyIn c) at r = con_around_text c (Opens opening.Lambda at ∷ r)

abbrev mutual
  pub type_around_text : {g : Goal} → TypeAround g → List InnerLexeme → List InnerLexeme
  type_around_text (OnTypeBase b) r = type_base_text b r
  type_around_text (BehindDomains c k) r = type_around_text k (domain_chain_text c (Signed mark.CloseBracket ∷ Signed mark.Arrow ∷ r))
  type_around_text (BehindArrow p k) r = type_around_text k (post_text p (Signed mark.Arrow ∷ r))

  pub type_base_text : {g : Goal} → TypeBase g → List InnerLexeme → List InnerLexeme
  type_base_text (WholeType is) r = r
  type_base_text (InConstraint a c) r = con_around_text c (app_chain_text a (Signed mark.DoubleColon ∷ r))
  type_base_text (InBinder at before p x q) r = body_text q at (before_text before (Opens opening.Parenthesis p ∷ var_text x (Signed mark.DoubleColon ∷ r)))
  type_base_text (InOnlyBinder at x q) r = body_text q at (var_text x (Signed mark.DoubleColon ∷ r))
  type_base_text (InFirstDomain at k) r = type_around_text k (Opens opening.Bracket at ∷ r)
  type_base_text (InNextDomain c k) r = type_around_text k (domain_chain_text c (Signed mark.Comma ∷ r))
  type_base_text (InTypeParentheses at k) r = type_around_text k (Opens opening.Parenthesis at ∷ r)
  type_base_text (InArguments at c k) r = type_around_text k (Opens opening.Parenthesis at ∷ argument_chain_text c (Signed mark.Comma ∷ r))

-- ---- what the reader holds open round the gap
abbrev mutual
  pub term_stack : {g : Goal} → TermAround g → List Frame
  term_stack (OnBase b) = term_base_stack b
  term_stack (UnderAll at bs k) = binder_frames OfAll at bs (term_stack k)
  term_stack (AfterPremises c k) = premise_chain_frames c (term_stack k)
  term_stack (BehindImplies e k) = Joined (Conclusion (eq_place e) (eq_raw e)) ∷ term_stack k

  pub term_base_stack : {g : Goal} → TermBase g → List Frame
  term_base_stack (WholeTerm is) = []
  term_base_stack (InFirstPremise at k) = InTerm (FirstPremise at) ∷ term_stack k
  term_base_stack (InNextPremise c k) = InTerm NextPremise ∷ premise_chain_frames c (term_stack k)
  term_base_stack (InParentheses at c) = InTerm (Enclosed at) ∷ con_stack c
  term_base_stack (InArgument at a c) = InTerm (Argument (app_chain_place a) (app_chain_raw a)) ∷ con_stack c

  pub con_stack : {g : Goal} → ConAround g → List Frame
  con_stack (OnSide s) = side_stack s
  con_stack (UnderLambda at bs c) = binder_frames OfLambda at bs (con_stack c)

  pub side_stack : {g : Goal} → Side g → List Frame
  side_stack (LeftSide k) = term_stack k
  side_stack (OnRight c k) = Joined (RightSide (con_place c) (con_raw c)) ∷ term_stack k

abbrev pub body_quantifier : {g : Goal} → BodyAround g → Quantifier
body_quantifier (AllBodyIn k) = OfAll
body_quantifier (LambdaBodyIn c) = OfLambda

abbrev pub body_stack : {g : Goal} → BodyAround g → List Frame
body_stack (AllBodyIn k) = term_stack k
body_stack (LambdaBodyIn c) = con_stack c

abbrev mutual
  pub type_stack : {g : Goal} → TypeAround g → List Frame
  type_stack (OnTypeBase b) = type_base_stack b
  type_stack (BehindDomains c k) = domain_chain_frames c (type_stack k)
  type_stack (BehindArrow p k) = Range (post_place p) (post_raw p) ∷ type_stack k

  pub type_base_stack : {g : Goal} → TypeBase g → List Frame
  type_base_stack (WholeType is) = []
  type_base_stack (InConstraint a c) = InType (Constraint (app_chain_place a) (app_chain_raw a)) ∷ con_stack c
  type_base_stack (InBinder at before p x q) = InType (BinderType (body_quantifier q) (node_place at before p) p (var_of x)) ∷ before_frames (body_quantifier q) at before (body_stack q)
  type_base_stack (InOnlyBinder at x q) = InType (OnlyBinderType (body_quantifier q) at (var_place x) (var_of x)) ∷ body_stack q
  type_base_stack (InFirstDomain at k) = InType (FirstDomain at) ∷ type_stack k
  type_base_stack (InNextDomain c k) = InType NextDomain ∷ domain_chain_frames c (type_stack k)
  type_base_stack (InTypeParentheses at k) = InType (EnclosedType at) ∷ type_stack k
  type_base_stack (InArguments at c k) = InType (MoreArguments at (argument_chain_list c)) ∷ type_stack k

-- ---- what was read

-- a type variable, by its kind
pub data VariablePhrase : Type 0 where
  Fixed : (text : List ℕ) → (at : ℕ) → VariablePhrase
  Unknown : (text : List ℕ) → (at : ℕ) → VariablePhrase

abbrev pub variable_text : VariablePhrase → List InnerLexeme → List InnerLexeme
variable_text (Fixed x at) r = Variable x at ∷ r
variable_text (Unknown x at) r = TypeSchematic x at ∷ r

abbrev pub variable_written : VariablePhrase → Written
variable_written (Fixed x at) = record { at = at; kind = kind.TypeVar; text = x }
variable_written (Unknown x at) = record { at = at; kind = kind.Schem; text = x }

abbrev pub variable_base : VariablePhrase → InnerSort → BasePhrase
variable_base (Fixed x at) s = VariableBase x at s
variable_base (Unknown x at) s = SchematicBase x at s

-- All that the reader may have read, by the places that it can be in.
pub data Reading (g : Goal) : Type 0 where
  ReadingTerm : (around : TermAround g) → Reading g
  ReadingCon : (around : ConAround g) → Reading g
  ReadAtom : (app : AppChain) → (around : ConAround g) → Reading g
  ReadPremises : (chain : PremiseChain) → (around : TermAround g) → Reading g
  ReadSign : (at : ℕ) → (around : BodyAround g) → Reading g
  ReadFirstVar : (at : ℕ) → (var : VarPhrase) → (around : BodyAround g) → Reading g
  ReadBinders : (at : ℕ) → (binders : BinderChain) → (around : BodyAround g) → Reading g
  ReadBinderOpening : (at : ℕ) → (before : Before) → (place : ℕ) → (around : BodyAround g) → Reading g
  ReadBinderVar : (at : ℕ) → (before : Before) → (place : ℕ) → (var : VarPhrase) → (around : BodyAround g) → Reading g
  ReadingType : (around : TypeAround g) → Reading g
  ReadVariable : (variable : VariablePhrase) → (around : TypeAround g) → Reading g
  ReadColons : (variable : VariablePhrase) → (around : TypeAround g) → Reading g
  ReadBrace : (variable : VariablePhrase) → (around : TypeAround g) → Reading g
  ReadClasses : (variable : VariablePhrase) → (class : InnerName) → (more : List InnerName) → (around : TypeAround g) → Reading g
  ReadClassComma : (variable : VariablePhrase) → (class : InnerName) → (more : List InnerName) → (around : TypeAround g) → Reading g
  ReadPost : (post : PostChain) → (around : TypeAround g) → Reading g
  ReadArguments : (at : ℕ) → (chain : ArgumentChain) → (last : TypePhrase) → (around : TypeAround g) → Reading g
  ReadDomains : (chain : DomainChain) → (around : TypeAround g) → Reading g
  ReadTerm : (term : TermPhrase) → (is : g ≡ OfTerm) → Reading g
  ReadType : (typ : TypePhrase) → (is : g ≡ OfType) → Reading g

abbrev pub reading_text : {g : Goal} → Reading g → List InnerLexeme → List InnerLexeme
reading_text (ReadingTerm k) r = term_around_text k r
reading_text (ReadingCon c) r = con_around_text c r
reading_text (ReadAtom a c) r = con_around_text c (app_chain_text a r)
reading_text (ReadPremises c k) r = term_around_text k (premise_chain_text c (Signed mark.ClosePremises ∷ r))
reading_text (ReadSign at q) r = body_text q at r
reading_text (ReadFirstVar at x q) r = body_text q at (var_text x r)
reading_text (ReadBinders at c q) r = body_text q at (binder_chain_text c r)
reading_text (ReadBinderOpening at before p q) r = body_text q at (before_text before (Opens opening.Parenthesis p ∷ r))
reading_text (ReadBinderVar at before p x q) r = body_text q at (before_text before (Opens opening.Parenthesis p ∷ var_text x r))
reading_text (ReadingType k) r = type_around_text k r
reading_text (ReadVariable v k) r = type_around_text k (variable_text v r)
reading_text (ReadColons v k) r = type_around_text k (variable_text v (Signed mark.DoubleColon ∷ r))
reading_text (ReadBrace v k) r = type_around_text k (variable_text v (Signed mark.DoubleColon ∷ Signed mark.OpenBrace ∷ r))
reading_text (ReadClasses v c cs k) r = type_around_text k (variable_text v (Signed mark.DoubleColon ∷ Signed mark.OpenBrace ∷ name_text c (each comma_name_text cs r)))
reading_text (ReadClassComma v c cs k) r = type_around_text k (variable_text v (Signed mark.DoubleColon ∷ Signed mark.OpenBrace ∷ name_text c (each comma_name_text cs (Signed mark.Comma ∷ r))))
reading_text (ReadPost p k) r = type_around_text k (post_chain_text p r)
reading_text (ReadArguments at c t k) r = type_around_text k (Opens opening.Parenthesis at ∷ argument_chain_text c (Signed mark.Comma ∷ type_text t (Signed mark.CloseParenthesis ∷ r)))
reading_text (ReadDomains c k) r = type_around_text k (domain_chain_text c (Signed mark.CloseBracket ∷ r))
reading_text (ReadTerm t is) r = term_text t (Ends ∷ r)
reading_text (ReadType t is) r = type_text t (Ends ∷ r)

-- the state of the reader
abbrev pub reading_state : {g : Goal} → Reading g → State
reading_state (ReadingTerm k) = In AtTerm (term_stack k)
reading_state (ReadingCon c) = In AtCon (con_stack c)
reading_state (ReadAtom a c) = In (AfterAtom (app_chain_place a) (app_chain_raw a)) (con_stack c)
reading_state (ReadPremises c k) = In AtImplies (premise_chain_frames c (term_stack k))
reading_state (ReadSign at q) = In (AtBinder (body_quantifier q) at) (body_stack q)
reading_state (ReadFirstVar at x q) = In (AfterFirstVar (body_quantifier q) at (var_place x) (var_of x)) (body_stack q)
reading_state (ReadBinders at c q) = In (AfterBinder (body_quantifier q)) (binder_chain_frames (body_quantifier q) at c (body_stack q))
reading_state (ReadBinderOpening at before p q) = In (AtBinderVar (body_quantifier q) (node_place at before p) p) (before_frames (body_quantifier q) at before (body_stack q))
reading_state (ReadBinderVar at before p x q) = In (AfterBinderVar (body_quantifier q) (node_place at before p) p (var_of x)) (before_frames (body_quantifier q) at before (body_stack q))
reading_state (ReadingType k) = In AtType (type_stack k)
reading_state (ReadVariable v k) = In (AfterVariable (variable_written v)) (type_stack k)
reading_state (ReadColons v k) = In (AtSort (variable_written v)) (type_stack k)
reading_state (ReadBrace v k) = In (AtFirstClass (variable_written v)) (type_stack k)
reading_state (ReadClasses v c cs k) = In (AfterClass (variable_written v) (class_raw c ∷ map class_raw cs)) (type_stack k)
reading_state (ReadClassComma v c cs k) = In (AtNextClass (variable_written v) (class_raw c ∷ map class_raw cs)) (type_stack k)
reading_state (ReadPost p k) = In (AfterPost (post_chain_place p) (post_chain_raw p)) (type_stack k)
reading_state (ReadArguments at c t k) = In (AtConstructor at (argument_chain_list c ++ type_raw t ∷ [])) (type_stack k)
reading_state (ReadDomains c k) = In AtArrow (domain_chain_frames c (type_stack k))
reading_state (ReadTerm t is) = DoneTerm (term_raw t)
reading_state (ReadType t is) = DoneType (type_raw t)
