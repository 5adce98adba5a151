-- The reader reads each phrase of terms and types.
use Rattle.std.proofs.Common.{◌≡◌, ℕ, List, [], ◌∷◌, ◌++◌, map, refl, sym, ◌∙◌, ap, append_assoc, append-nil}
use Rattle.std.specs.Prelude.{true, nat_le, Option, Some, None}
use Rattle.pure_grammar.specs.declared.inner.Mark.TheVariants as mark
use Rattle.pure_grammar.specs.Terms.InnerLexeme.{InnerLexeme, Plain, Dotted, Signed, Ends}
use Rattle.pure_grammar.specs.Terms.RawTree.{RawClassTree, RawTypTree, RawTree, raw_typs_of, implication, equation, generality, function_type}
use Rattle.pure_grammar.specs.Terms.RawTree as tree
use Rattle.pure_grammar.specs.Terms.InnerPhrase.{InnerName, Simple, Full, NoSort, OneClass, NoClass, Classes, TypePhrase, DomainsType, PlainType, ArrowType, TypePhrases, NoType, AndType, PostPhrase, Post, BasePhrase, VariableBase, SchematicBase, NamedBase, ClosedBase, ArgumentsBase, NamedVar, BoundVar, BinderPhrase, PlainBinder, TypedBinder, BindersPhrase, OneTyped, Binders, TermPhrase, AllTerm, ImpTerm, ImpPhrase, PremisesImp, PlainImp, ArrowImp, TermPhrases, NoTerm, AndTerm, EqPhrase, PlainEq, BothEq, ConPhrase, LambdaCon, PlainCon, TypedCon, AppPhrase, Application, AtomPhrases, NoAtom, AndAtom, AtomPhrase, NamedAtom, SchematicAtom, BoundAtom, ClosedAtom}
use Rattle.pure_grammar.specs.Terms.InnerText.{each, name_text, comma_name_text, type_text, types_text, post_text, base_text, binder_text, binders_text, term_text, imp_text, terms_text, eq_text, con_text, app_text, atoms_text, atom_text}
use Rattle.pure_grammar.specs.Terms.InnerTree.{class_raw, base_place, post_place, type_place, constructed, type_raw, functions_raw, types_raw, post_raw, base_raw, var_of, var_place, binder_var, binder_typ, binder_place, inner_lambdas, lambda_raw, inner_alls, all_raw, atom_place, app_place, con_place, eq_place, imp_place, term_place, term_raw, imp_raw, implications_raw, eq_raw, con_raw, app_raw, applied_raw, atom_raw}
use Rattle.pure_grammar.specs.Terms.InnerReader.{Written, Quantifier, OfAll, OfLambda, LambdaBody, RightSide, Conclusion, AllBody, FirstPremise, NextPremise, Enclosed, Argument, Constraint, BinderType, OnlyBinderType, FirstDomain, NextDomain, EnclosedType, MoreArguments, Frame, Joined, InTerm, Range, InType, AtTerm, AtCon, AfterAtom, AtBinder, AfterFirstVar, AfterBinder, AtType, AfterVariable, AfterClass, AfterPost, AtConstructor, In, DoneTerm, DoneType, reduced, equals, implies, premise_ends, part_ends, con_ends, after_atom, bound, body_place, variable_type, ranged, domain_ends, type_part_ends, type_ends, after_post, after_variable, goes_on, run}

-- ---- what may stand behind phrases

-- behind a term
pub data Closer : Type 0 where
  BehindPremises : Closer
  BehindPremise : Closer
  BehindParenthesis : Closer
  BehindAll : Closer

abbrev pub closer : Closer → InnerLexeme
closer BehindPremises = Signed mark.ClosePremises
closer BehindPremise = Signed mark.Semicolon
closer BehindParenthesis = Signed mark.CloseParenthesis
closer BehindAll = Ends

-- behind an equation
pub data EqStop : Type 0 where
  BeforeImplies : EqStop
  EqCloses : (by : Closer) → EqStop

abbrev pub eq_stop : EqStop → InnerLexeme
eq_stop BeforeImplies = Signed mark.Implies
eq_stop (EqCloses c) = closer c

-- behind a side of an equation
pub data ConStop : Type 0 where
  BeforeEquals : ConStop
  ConStops : (by : EqStop) → ConStop

abbrev pub con_stop : ConStop → InnerLexeme
con_stop BeforeEquals = Signed mark.Equals
con_stop (ConStops s) = eq_stop s

-- behind a type
pub data TypeStop : Type 0 where
  BeforeDot : TypeStop
  BeforeComma : TypeStop
  BeforeBracket : TypeStop
  TypeStops : (by : ConStop) → TypeStop

abbrev pub type_stop : TypeStop → InnerLexeme
type_stop BeforeDot = Signed mark.Dot
type_stop BeforeComma = Signed mark.Comma
type_stop BeforeBracket = Signed mark.CloseBracket
type_stop (TypeStops s) = con_stop s

abbrev pub parenthesis_stop : TypeStop
parenthesis_stop = TypeStops (ConStops (EqCloses BehindParenthesis))

-- behind a type without arrows
pub data PostStop : Type 0 where
  BeforeArrow : PostStop
  PostStops : (by : TypeStop) → PostStop

abbrev pub post_stop : PostStop → InnerLexeme
post_stop BeforeArrow = Signed mark.Arrow
post_stop (PostStops s) = type_stop s

-- ---- types

after_post-stop : (s : PostStop) (at : ℕ) (T : RawTypTree) (k : List Frame) → after_post at T k (post_stop s) ≡ type_ends at T k (post_stop s)
after_post-stop BeforeArrow at T k = refl
after_post-stop (PostStops BeforeDot) at T k = refl
after_post-stop (PostStops BeforeComma) at T k = refl
after_post-stop (PostStops BeforeBracket) at T k = refl
after_post-stop (PostStops (TypeStops BeforeEquals)) at T k = refl
after_post-stop (PostStops (TypeStops (ConStops BeforeImplies))) at T k = refl
after_post-stop (PostStops (TypeStops (ConStops (EqCloses BehindPremises)))) at T k = refl
after_post-stop (PostStops (TypeStops (ConStops (EqCloses BehindPremise)))) at T k = refl
after_post-stop (PostStops (TypeStops (ConStops (EqCloses BehindParenthesis)))) at T k = refl
after_post-stop (PostStops (TypeStops (ConStops (EqCloses BehindAll)))) at T k = refl

after_variable-stop : (s : PostStop) (w : Written) (k : List Frame) → after_variable w k (post_stop s) ≡ type_ends w.at (variable_type w []) k (post_stop s)
after_variable-stop BeforeArrow w k = refl
after_variable-stop (PostStops BeforeDot) w k = refl
after_variable-stop (PostStops BeforeComma) w k = refl
after_variable-stop (PostStops BeforeBracket) w k = refl
after_variable-stop (PostStops (TypeStops BeforeEquals)) w k = refl
after_variable-stop (PostStops (TypeStops (ConStops BeforeImplies))) w k = refl
after_variable-stop (PostStops (TypeStops (ConStops (EqCloses BehindPremises)))) w k = refl
after_variable-stop (PostStops (TypeStops (ConStops (EqCloses BehindPremise)))) w k = refl
after_variable-stop (PostStops (TypeStops (ConStops (EqCloses BehindParenthesis)))) w k = refl
after_variable-stop (PostStops (TypeStops (ConStops (EqCloses BehindAll)))) w k = refl

type_ends-stop : (s : TypeStop) (at : ℕ) (T : RawTypTree) (k : List Frame) → type_ends at T k (type_stop s) ≡ type_part_ends (ranged at T k) (type_stop s)
type_ends-stop BeforeDot at T k = refl
type_ends-stop BeforeComma at T k = refl
type_ends-stop BeforeBracket at T k = refl
type_ends-stop (TypeStops BeforeEquals) at T k = refl
type_ends-stop (TypeStops (ConStops BeforeImplies)) at T k = refl
type_ends-stop (TypeStops (ConStops (EqCloses BehindPremises))) at T k = refl
type_ends-stop (TypeStops (ConStops (EqCloses BehindPremise))) at T k = refl
type_ends-stop (TypeStops (ConStops (EqCloses BehindParenthesis))) at T k = refl
type_ends-stop (TypeStops (ConStops (EqCloses BehindAll))) at T k = refl

run-constructors : (ks : List InnerName) (at : ℕ) (T : RawTypTree) (k : List Frame) (s : PostStop) (r : List InnerLexeme)
    → run (In (AfterPost at T) k) (each name_text ks (post_stop s ∷ r)) ≡ goes_on (type_ends at (constructed at T ks) k (post_stop s)) (λ u. run u r)
run-constructors [] at T k s r = ap (λ z. goes_on z (λ u. run u r)) (after_post-stop s at T k)
run-constructors (Simple c p ∷ ks) at T k s r = run-constructors ks at (tree.Con at c (tree.also T tree.none)) k s r
run-constructors (Full c p ∷ ks) at T k s r = run-constructors ks at (tree.Con at c (tree.also T tree.none)) k s r

run-variable : (ks : List InnerName) (w : Written) (k : List Frame) (s : PostStop) (r : List InnerLexeme)
    → run (In (AfterVariable w) k) (each name_text ks (post_stop s ∷ r)) ≡ goes_on (type_ends w.at (constructed w.at (variable_type w []) ks) k (post_stop s)) (λ u. run u r)
run-variable [] w k s r = ap (λ z. goes_on z (λ u. run u r)) (after_variable-stop s w k)
run-variable (Simple c p ∷ ks) w k s r = run-constructors ks w.at (tree.Con w.at c (tree.also (variable_type w []) tree.none)) k s r
run-variable (Full c p ∷ ks) w k s r = run-constructors ks w.at (tree.Con w.at c (tree.also (variable_type w []) tree.none)) k s r

run-classes : (cs : List InnerName) (w : Written) (before : List RawClassTree) (k : List Frame) (r : List InnerLexeme)
    → run (In (AfterClass w before) k) (each comma_name_text cs (Signed mark.CloseBrace ∷ r)) ≡ run (In (AfterPost w.at (variable_type w (before ++ map class_raw cs))) k) r
run-classes [] w before k r = ap (λ z. run (In (AfterPost w.at (variable_type w z)) k) r) (sym (append-nil before))
run-classes (Simple c p ∷ cs) w before k r =
    run-classes cs w (before ++ (record { at = p; name = c }) ∷ []) k r
    ∙ ap (λ z. run (In (AfterPost w.at (variable_type w z)) k) r) (append_assoc before ((record { at = p; name = c }) ∷ []) (map class_raw cs))
run-classes (Full c p ∷ cs) w before k r =
    run-classes cs w (before ++ (record { at = p; name = c }) ∷ []) k r
    ∙ ap (λ z. run (In (AfterPost w.at (variable_type w z)) k) r) (append_assoc before ((record { at = p; name = c }) ∷ []) (map class_raw cs))

-- what stands behind a type that more types and a token follow: the next token, and the rest
abbrev types_stop : TypePhrases → TypeStop → TypeStop
types_stop NoType s = s
types_stop (AndType t ts) s = BeforeComma

abbrev types_behind : TypePhrases → TypeStop → List InnerLexeme → List InnerLexeme
types_behind NoType s r = r
types_behind (AndType t ts) s r = type_text t (types_text ts (type_stop s ∷ r))

types-front : (ts : TypePhrases) (s : TypeStop) (r : List InnerLexeme) → types_text ts (type_stop s ∷ r) ≡ type_stop (types_stop ts s) ∷ types_behind ts s r
types-front NoType s r = refl
types-front (AndType t ts) s r = refl

abbrev types_list : TypePhrases → List RawTypTree
types_list NoType = []
types_list (AndType t ts) = type_raw t ∷ types_list ts

raw_typs_of-types_list : (ts : TypePhrases) → raw_typs_of (types_list ts) ≡ types_raw ts
raw_typs_of-types_list NoType = refl
raw_typs_of-types_list (AndType t ts) = ap (tree.also (type_raw t)) (raw_typs_of-types_list ts)

-- what stands open behind domains
abbrev domain_frames : TypePhrases → List Frame → List Frame
domain_frames NoType k = k
domain_frames (AndType t ts) k = domain_frames ts (Range (type_place t) (type_raw t) ∷ k)

ranged-domains : (ts : TypePhrases) (a at : ℕ) (U D : RawTypTree) (k : List Frame)
    → ranged a U (domain_frames ts (Range at D ∷ k)) ≡ ranged at (function_type at D (functions_raw ts U)) k
ranged-domains NoType a at U D k = refl
ranged-domains (AndType t ts) a at U D k = ranged-domains ts a (type_place t) U (type_raw t) (Range at D ∷ k)

mutual
  pub run-type : (t : TypePhrase) (k : List Frame) (s : TypeStop) (r : List InnerLexeme)
      → run (In AtType k) (type_text t (type_stop s ∷ r)) ≡ goes_on (type_part_ends (ranged (type_place t) (type_raw t) k) (type_stop s)) (λ u. run u r)
  run-type (PlainType p) k s r = run-post p k (PostStops s) r ∙ ap (λ z. goes_on z (λ u. run u r)) (type_ends-stop s (post_place p) (post_raw p) k)
  run-type (ArrowType p u) k s r =
      run-post p k BeforeArrow (type_text u (type_stop s ∷ r)) ∙ run-type u (Range (post_place p) (post_raw p) ∷ k) s r
  run-type (DomainsType at t ts u) k s r =
      ap (λ z. run (In AtType (InType (FirstDomain at) ∷ k)) (type_text t z)) (types-front ts BeforeBracket (Signed mark.Arrow ∷ type_text u (type_stop s ∷ r)))
      ∙ run-type t (InType (FirstDomain at) ∷ k) (types_stop ts BeforeBracket) (types_behind ts BeforeBracket (Signed mark.Arrow ∷ type_text u (type_stop s ∷ r)))
      ∙ run-domains ts (Range at (type_raw t) ∷ k) (type_text u (type_stop s ∷ r))
      ∙ run-type u (domain_frames ts (Range at (type_raw t) ∷ k)) s r
      ∙ ap (λ z. goes_on (type_part_ends z (type_stop s)) (λ v. run v r)) (ranged-domains ts (type_place u) at (type_raw u) (type_raw t) k)

  run-domains : (ts : TypePhrases) (k : List Frame) (r : List InnerLexeme)
      → goes_on (domain_ends k (type_stop (types_stop ts BeforeBracket))) (λ u. run u (types_behind ts BeforeBracket (Signed mark.Arrow ∷ r))) ≡ run (In AtType (domain_frames ts k)) r
  run-domains NoType k r = refl
  run-domains (AndType t ts) k r =
      ap (λ z. run (In AtType (InType NextDomain ∷ k)) (type_text t z)) (types-front ts BeforeBracket (Signed mark.Arrow ∷ r))
      ∙ run-type t (InType NextDomain ∷ k) (types_stop ts BeforeBracket) (types_behind ts BeforeBracket (Signed mark.Arrow ∷ r))
      ∙ run-domains ts (Range (type_place t) (type_raw t) ∷ k) r

  run-arguments : (ts : TypePhrases) (at b : ℕ) (before : List RawTypTree) (T : RawTypTree) (k : List Frame) (r : List InnerLexeme)
      → goes_on (type_part_ends (ranged b T (InType (MoreArguments at before) ∷ k)) (type_stop (types_stop ts parenthesis_stop))) (λ u. run u (types_behind ts parenthesis_stop r))
      ≡ run (In (AtConstructor at (before ++ T ∷ types_list ts)) k) r
  run-arguments NoType at b before T k r = refl
  run-arguments (AndType t ts) at b before T k r =
      ap (λ z. run (In AtType (InType (MoreArguments at (before ++ T ∷ [])) ∷ k)) (type_text t z)) (types-front ts parenthesis_stop r)
      ∙ run-type t (InType (MoreArguments at (before ++ T ∷ [])) ∷ k) (types_stop ts parenthesis_stop) (types_behind ts parenthesis_stop r)
      ∙ run-arguments ts at (type_place t) (before ++ T ∷ []) (type_raw t) k r
      ∙ ap (λ z. run (In (AtConstructor at z) k) r) (append_assoc before (T ∷ []) (type_raw t ∷ types_list ts))

  run-post : (p : PostPhrase) (k : List Frame) (s : PostStop) (r : List InnerLexeme)
      → run (In AtType k) (post_text p (post_stop s ∷ r)) ≡ goes_on (type_ends (post_place p) (post_raw p) k (post_stop s)) (λ u. run u r)
  run-post (Post b ks) k s r = run-base b ks k s r

  run-base : (b : BasePhrase) (ks : List InnerName) (k : List Frame) (s : PostStop) (r : List InnerLexeme)
      → run (In AtType k) (base_text b (each name_text ks (post_stop s ∷ r))) ≡ goes_on (type_ends (base_place b) (constructed (base_place b) (base_raw b) ks) k (post_stop s)) (λ u. run u r)
  run-base (VariableBase text at NoSort) ks k s r = run-variable ks _ k s r
  run-base (VariableBase text at (OneClass (Simple c p))) ks k s r = run-constructors ks at _ k s r
  run-base (VariableBase text at (OneClass (Full c p))) ks k s r = run-constructors ks at _ k s r
  run-base (VariableBase text at NoClass) ks k s r = run-constructors ks at _ k s r
  run-base (VariableBase text at (Classes (Simple c p) cs)) ks k s r = run-classes cs _ _ k (each name_text ks (post_stop s ∷ r)) ∙ run-constructors ks at _ k s r
  run-base (VariableBase text at (Classes (Full c p) cs)) ks k s r = run-classes cs _ _ k (each name_text ks (post_stop s ∷ r)) ∙ run-constructors ks at _ k s r
  run-base (SchematicBase text at NoSort) ks k s r = run-variable ks _ k s r
  run-base (SchematicBase text at (OneClass (Simple c p))) ks k s r = run-constructors ks at _ k s r
  run-base (SchematicBase text at (OneClass (Full c p))) ks k s r = run-constructors ks at _ k s r
  run-base (SchematicBase text at NoClass) ks k s r = run-constructors ks at _ k s r
  run-base (SchematicBase text at (Classes (Simple c p) cs)) ks k s r = run-classes cs _ _ k (each name_text ks (post_stop s ∷ r)) ∙ run-constructors ks at _ k s r
  run-base (SchematicBase text at (Classes (Full c p) cs)) ks k s r = run-classes cs _ _ k (each name_text ks (post_stop s ∷ r)) ∙ run-constructors ks at _ k s r
  run-base (NamedBase (Simple c p)) ks k s r = run-constructors ks p _ k s r
  run-base (NamedBase (Full c p)) ks k s r = run-constructors ks p _ k s r
  run-base (ClosedBase at t) ks k s r =
      run-type t (InType (EnclosedType at) ∷ k) parenthesis_stop (each name_text ks (post_stop s ∷ r)) ∙ run-constructors ks at (type_raw t) k s r
  run-base (ArgumentsBase at t u ts (Simple c p)) ks k s r =
      run-type t (InType (EnclosedType at) ∷ k) BeforeComma (type_text u (types_text ts (type_stop parenthesis_stop ∷ Plain c p ∷ each name_text ks (post_stop s ∷ r))))
      ∙ ap (λ z. run (In AtType (InType (MoreArguments at (type_raw t ∷ [])) ∷ k)) (type_text u z)) (types-front ts parenthesis_stop (Plain c p ∷ each name_text ks (post_stop s ∷ r)))
      ∙ run-type u (InType (MoreArguments at (type_raw t ∷ [])) ∷ k) (types_stop ts parenthesis_stop) (types_behind ts parenthesis_stop (Plain c p ∷ each name_text ks (post_stop s ∷ r)))
      ∙ run-arguments ts at (type_place u) (type_raw t ∷ []) (type_raw u) k (Plain c p ∷ each name_text ks (post_stop s ∷ r))
      ∙ ap (λ z. run (In (AfterPost at (tree.Con at c (tree.also (type_raw t) (tree.also (type_raw u) z)))) k) (each name_text ks (post_stop s ∷ r))) (raw_typs_of-types_list ts)
      ∙ run-constructors ks at _ k s r
  run-base (ArgumentsBase at t u ts (Full c p)) ks k s r =
      run-type t (InType (EnclosedType at) ∷ k) BeforeComma (type_text u (types_text ts (type_stop parenthesis_stop ∷ Dotted c p ∷ each name_text ks (post_stop s ∷ r))))
      ∙ ap (λ z. run (In AtType (InType (MoreArguments at (type_raw t ∷ [])) ∷ k)) (type_text u z)) (types-front ts parenthesis_stop (Dotted c p ∷ each name_text ks (post_stop s ∷ r)))
      ∙ run-type u (InType (MoreArguments at (type_raw t ∷ [])) ∷ k) (types_stop ts parenthesis_stop) (types_behind ts parenthesis_stop (Dotted c p ∷ each name_text ks (post_stop s ∷ r)))
      ∙ run-arguments ts at (type_place u) (type_raw t ∷ []) (type_raw u) k (Dotted c p ∷ each name_text ks (post_stop s ∷ r))
      ∙ ap (λ z. run (In (AfterPost at (tree.Con at c (tree.also (type_raw t) (tree.also (type_raw u) z)))) k) (each name_text ks (post_stop s ∷ r))) (raw_typs_of-types_list ts)
      ∙ run-constructors ks at _ k s r

-- ---- binders

-- what stands open behind binders
abbrev pub more_binder_frames : Quantifier → List BinderPhrase → List Frame → List Frame
more_binder_frames q [] k = k
more_binder_frames q (b ∷ bs) k = more_binder_frames q bs (bound q (binder_place b) (binder_place b) (binder_var b) (binder_typ b) ∷ k)

abbrev pub binder_frames : Quantifier → ℕ → BindersPhrase → List Frame → List Frame
binder_frames q at (OneTyped x T) k = bound q at (var_place x) (var_of x) (Some (type_raw T)) ∷ k
binder_frames q at (Binders b bs) k = more_binder_frames q bs (bound q at (binder_place b) (binder_var b) (binder_typ b) ∷ k)

run-more_binders : (bs : List BinderPhrase) (q : Quantifier) (k : List Frame) (r : List InnerLexeme)
    → run (In (AfterBinder q) k) (each binder_text bs (Signed mark.Dot ∷ r)) ≡ run (In (body_place q) (more_binder_frames q bs k)) r
run-more_binders [] q k r = refl
run-more_binders (PlainBinder (NamedVar x at) ∷ bs) q k r = run-more_binders bs q (bound q at at x None ∷ k) r
run-more_binders (PlainBinder (BoundVar x at) ∷ bs) q k r = run-more_binders bs q (bound q at at x None ∷ k) r
run-more_binders (TypedBinder p (NamedVar x at) T ∷ bs) q k r =
    run-type T (InType (BinderType q p p x) ∷ k) parenthesis_stop (each binder_text bs (Signed mark.Dot ∷ r)) ∙ run-more_binders bs q (bound q p p x (Some (type_raw T)) ∷ k) r
run-more_binders (TypedBinder p (BoundVar x at) T ∷ bs) q k r =
    run-type T (InType (BinderType q p p x) ∷ k) parenthesis_stop (each binder_text bs (Signed mark.Dot ∷ r)) ∙ run-more_binders bs q (bound q p p x (Some (type_raw T)) ∷ k) r

-- behind the first variable stands another binder, or the dot
run-first_var : (bs : List BinderPhrase) (q : Quantifier) (at b : ℕ) (x : List ℕ) (k : List Frame) (r : List InnerLexeme)
    → run (In (AfterFirstVar q at b x) k) (each binder_text bs (Signed mark.Dot ∷ r)) ≡ run (In (AfterBinder q) (bound q at b x None ∷ k)) (each binder_text bs (Signed mark.Dot ∷ r))
run-first_var [] q at b x k r = refl
run-first_var (PlainBinder (NamedVar y p) ∷ bs) q at b x k r = refl
run-first_var (PlainBinder (BoundVar y p) ∷ bs) q at b x k r = refl
run-first_var (TypedBinder p y T ∷ bs) q at b x k r = refl

run-binders : (bs : BindersPhrase) (q : Quantifier) (at : ℕ) (k : List Frame) (r : List InnerLexeme)
    → run (In (AtBinder q at) k) (binders_text bs (Signed mark.Dot ∷ r)) ≡ run (In (body_place q) (binder_frames q at bs k)) r
run-binders (OneTyped (NamedVar x b) T) q at k r = run-type T (InType (OnlyBinderType q at b x) ∷ k) BeforeDot r
run-binders (OneTyped (BoundVar x b) T) q at k r = run-type T (InType (OnlyBinderType q at b x) ∷ k) BeforeDot r
run-binders (Binders (PlainBinder (NamedVar x b)) bs) q at k r = run-first_var bs q at b x k r ∙ run-more_binders bs q (bound q at b x None ∷ k) r
run-binders (Binders (PlainBinder (BoundVar x b)) bs) q at k r = run-first_var bs q at b x k r ∙ run-more_binders bs q (bound q at b x None ∷ k) r
run-binders (Binders (TypedBinder p (NamedVar x b) T) bs) q at k r =
    run-type T (InType (BinderType q at p x) ∷ k) parenthesis_stop (each binder_text bs (Signed mark.Dot ∷ r)) ∙ run-more_binders bs q (bound q at p x (Some (type_raw T)) ∷ k) r
run-binders (Binders (TypedBinder p (BoundVar x b) T) bs) q at k r =
    run-type T (InType (BinderType q at p x) ∷ k) parenthesis_stop (each binder_text bs (Signed mark.Dot ∷ r)) ∙ run-more_binders bs q (bound q at p x (Some (type_raw T)) ∷ k) r

-- what stands open behind binders ends as their abstractions
reduced-more_alls : (bs : List BinderPhrase) (a at b : ℕ) (x : List ℕ) (T : Option RawTypTree) (t : RawTree) (k : List Frame)
    → reduced 1 a t (more_binder_frames OfAll bs (Joined (AllBody at b x T) ∷ k)) ≡ reduced 1 at (generality at b x T (inner_alls bs t)) k
reduced-more_alls [] a at b x T t k = refl
reduced-more_alls (c ∷ bs) a at b x T t k = reduced-more_alls bs a (binder_place c) (binder_place c) (binder_var c) (binder_typ c) t (Joined (AllBody at b x T) ∷ k)

pub reduced-alls : (bs : BindersPhrase) (a at : ℕ) (t : RawTree) (k : List Frame) → reduced 1 a t (binder_frames OfAll at bs k) ≡ reduced 1 at (all_raw at bs t) k
reduced-alls (OneTyped x T) a at t k = refl
reduced-alls (Binders b bs) a at t k = reduced-more_alls bs a at (binder_place b) (binder_var b) (binder_typ b) t k

reduced-more_lambdas : (bs : List BinderPhrase) (n a at : ℕ) (x : List ℕ) (T : Option RawTypTree) (t : RawTree) (k : List Frame) → nat_le n 3 ≡ true
    → reduced n a t (more_binder_frames OfLambda bs (Joined (LambdaBody at x T) ∷ k)) ≡ reduced n at (tree.Abs at x T (inner_lambdas bs t)) k
reduced-more_lambdas [] n a at x T t k e = rw e refl
reduced-more_lambdas (c ∷ bs) n a at x T t k e = reduced-more_lambdas bs n a (binder_place c) (binder_var c) (binder_typ c) t (Joined (LambdaBody at x T) ∷ k) e ∙ rw e refl

pub reduced-lambdas : (bs : BindersPhrase) (n a at : ℕ) (t : RawTree) (k : List Frame) → nat_le n 3 ≡ true → reduced n a t (binder_frames OfLambda at bs k) ≡ reduced n at (lambda_raw at bs t) k
reduced-lambdas (OneTyped x T) n a at t k e = rw e refl
reduced-lambdas (Binders b bs) n a at t k e = reduced-more_lambdas bs n a at (binder_var b) (binder_typ b) t k e

con_ends-lambdas : (s : ConStop) (bs : BindersPhrase) (a at : ℕ) (t : RawTree) (k : List Frame)
    → con_ends a t (binder_frames OfLambda at bs k) (con_stop s) ≡ con_ends at (lambda_raw at bs t) k (con_stop s)
con_ends-lambdas BeforeEquals bs a at t k = ap equals (reduced-lambdas bs 3 a at t k refl)
con_ends-lambdas (ConStops BeforeImplies) bs a at t k = ap implies (reduced-lambdas bs 2 a at t k refl)
con_ends-lambdas (ConStops (EqCloses BehindPremises)) bs a at t k = ap (λ z. part_ends z (Signed mark.ClosePremises)) (reduced-lambdas bs 1 a at t k refl)
con_ends-lambdas (ConStops (EqCloses BehindPremise)) bs a at t k = ap (λ z. part_ends z (Signed mark.Semicolon)) (reduced-lambdas bs 1 a at t k refl)
con_ends-lambdas (ConStops (EqCloses BehindParenthesis)) bs a at t k = ap (λ z. part_ends z (Signed mark.CloseParenthesis)) (reduced-lambdas bs 1 a at t k refl)
con_ends-lambdas (ConStops (EqCloses BehindAll)) bs a at t k = ap (λ z. part_ends z Ends) (reduced-lambdas bs 1 a at t k refl)

-- ---- terms

after_atom-stop : (s : ConStop) (at : ℕ) (f : RawTree) (k : List Frame) → after_atom at f k (con_stop s) ≡ con_ends at f k (con_stop s)
after_atom-stop BeforeEquals at f k = refl
after_atom-stop (ConStops BeforeImplies) at f k = refl
after_atom-stop (ConStops (EqCloses BehindPremises)) at f k = refl
after_atom-stop (ConStops (EqCloses BehindPremise)) at f k = refl
after_atom-stop (ConStops (EqCloses BehindParenthesis)) at f k = refl
after_atom-stop (ConStops (EqCloses BehindAll)) at f k = refl

constraint-stop : (s : ConStop) (b at : ℕ) (f : RawTree) (T : RawTypTree) (k : List Frame)
    → type_part_ends (ranged b T (InType (Constraint at f) ∷ k)) (con_stop s) ≡ con_ends at (tree.Typed at f T) k (con_stop s)
constraint-stop s b at f T k = refl

right_side-stop : (s : EqStop) (b at : ℕ) (t u : RawTree) (k : List Frame)
    → con_ends b u (Joined (RightSide at t) ∷ k) (eq_stop s) ≡ con_ends at (equation at t u) k (eq_stop s)
right_side-stop BeforeImplies b at t u k = refl
right_side-stop (EqCloses BehindPremises) b at t u k = refl
right_side-stop (EqCloses BehindPremise) b at t u k = refl
right_side-stop (EqCloses BehindParenthesis) b at t u k = refl
right_side-stop (EqCloses BehindAll) b at t u k = refl

con_ends-closer : (c : Closer) (at : ℕ) (t : RawTree) (k : List Frame) → con_ends at t k (closer c) ≡ part_ends (reduced 1 at t k) (closer c)
con_ends-closer BehindPremises at t k = refl
con_ends-closer BehindPremise at t k = refl
con_ends-closer BehindParenthesis at t k = refl
con_ends-closer BehindAll at t k = refl

-- a term may begin here: nothing that is tighter than an equation stands open
abbrev pub IsLoose : List Frame → Type 0
IsLoose [] = Unit {0}
IsLoose (Joined (LambdaBody at x T) ∷ k) = ⊥
IsLoose (Joined (RightSide at t) ∷ k) = ⊥
IsLoose (Joined (Conclusion at a) ∷ k) = Unit {0}
IsLoose (Joined (AllBody at b x T) ∷ k) = Unit {0}
IsLoose (InTerm o ∷ k) = Unit {0}
IsLoose (Range at d ∷ k) = ⊥
IsLoose (InType o ∷ k) = ⊥

pub equals-loose : (k : List Frame) (at : ℕ) (t : RawTree) → IsLoose k → equals (reduced 3 at t k) ≡ Some (In AtCon (Joined (RightSide at t) ∷ k))
equals-loose [] at t l = refl
equals-loose (Joined (LambdaBody a x T) ∷ k) at t l = absurd l
equals-loose (Joined (RightSide a u) ∷ k) at t l = absurd l
equals-loose (Joined (Conclusion a p) ∷ k) at t l = refl
equals-loose (Joined (AllBody a b x T) ∷ k) at t l = refl
equals-loose (InTerm o ∷ k) at t l = refl
equals-loose (Range a d ∷ k) at t l = absurd l
equals-loose (InType o ∷ k) at t l = absurd l

pub implies-loose : (k : List Frame) (at : ℕ) (t : RawTree) → IsLoose k → implies (reduced 2 at t k) ≡ Some (In AtTerm (Joined (Conclusion at t) ∷ k))
implies-loose [] at t l = refl
implies-loose (Joined (LambdaBody a x T) ∷ k) at t l = absurd l
implies-loose (Joined (RightSide a u) ∷ k) at t l = absurd l
implies-loose (Joined (Conclusion a p) ∷ k) at t l = refl
implies-loose (Joined (AllBody a b x T) ∷ k) at t l = refl
implies-loose (InTerm o ∷ k) at t l = refl
implies-loose (Range a d ∷ k) at t l = absurd l
implies-loose (InType o ∷ k) at t l = absurd l

loose-more_alls : (bs : List BinderPhrase) (k : List Frame) → IsLoose k → IsLoose (more_binder_frames OfAll bs k)
loose-more_alls [] k l = l
loose-more_alls (b ∷ bs) k l = loose-more_alls bs (bound OfAll (binder_place b) (binder_place b) (binder_var b) (binder_typ b) ∷ k) tt

pub loose-alls : (bs : BindersPhrase) (at : ℕ) (k : List Frame) → IsLoose (binder_frames OfAll at bs k)
loose-alls (OneTyped x T) at k = tt
loose-alls (Binders b bs) at k = loose-more_alls bs (bound OfAll at (binder_place b) (binder_var b) (binder_typ b) ∷ k) tt

-- what stands behind a premise that more premises and a token follow: the next token, and the rest
abbrev terms_stop : TermPhrases → Closer → Closer
terms_stop NoTerm c = c
terms_stop (AndTerm a more) c = BehindPremise

abbrev terms_behind : TermPhrases → Closer → List InnerLexeme → List InnerLexeme
terms_behind NoTerm c r = r
terms_behind (AndTerm a more) c r = term_text a (terms_text more (closer c ∷ r))

terms-front : (more : TermPhrases) (c : Closer) (r : List InnerLexeme) → terms_text more (closer c ∷ r) ≡ closer (terms_stop more c) ∷ terms_behind more c r
terms-front NoTerm c r = refl
terms-front (AndTerm a more) c r = refl

-- what stands open behind premises
abbrev premise_frames : TermPhrases → List Frame → List Frame
premise_frames NoTerm k = k
premise_frames (AndTerm a more) k = premise_frames more (Joined (Conclusion (term_place a) (term_raw a)) ∷ k)

loose-premises : (more : TermPhrases) (k : List Frame) → IsLoose k → IsLoose (premise_frames more k)
loose-premises NoTerm k l = l
loose-premises (AndTerm a more) k l = loose-premises more (Joined (Conclusion (term_place a) (term_raw a)) ∷ k) tt

reduced-premises : (more : TermPhrases) (x at : ℕ) (a b : RawTree) (k : List Frame)
    → reduced 1 x b (premise_frames more (Joined (Conclusion at a) ∷ k)) ≡ reduced 1 at (implication at a (implications_raw more b)) k
reduced-premises NoTerm x at a b k = refl
reduced-premises (AndTerm c more) x at a b k = reduced-premises more x (term_place c) (term_raw c) b (Joined (Conclusion at a) ∷ k)

-- a side of an equation may stand where a term may
term-begins-con : (c : ConPhrase) (k : List Frame) (r : List InnerLexeme) → run (In AtTerm k) (con_text c r) ≡ run (In AtCon k) (con_text c r)
term-begins-con (LambdaCon at bs c) k r = refl
term-begins-con (PlainCon (Application (NamedAtom (Simple x p)) xs)) k r = refl
term-begins-con (PlainCon (Application (NamedAtom (Full x p)) xs)) k r = refl
term-begins-con (PlainCon (Application (SchematicAtom x p) xs)) k r = refl
term-begins-con (PlainCon (Application (BoundAtom x p) xs)) k r = refl
term-begins-con (PlainCon (Application (ClosedAtom p t) xs)) k r = refl
term-begins-con (TypedCon (Application (NamedAtom (Simple x p)) xs) T) k r = refl
term-begins-con (TypedCon (Application (NamedAtom (Full x p)) xs) T) k r = refl
term-begins-con (TypedCon (Application (SchematicAtom x p) xs) T) k r = refl
term-begins-con (TypedCon (Application (BoundAtom x p) xs) T) k r = refl
term-begins-con (TypedCon (Application (ClosedAtom p t) xs) T) k r = refl

mutual
  pub run-term : (t : TermPhrase) (k : List Frame) (c : Closer) (r : List InnerLexeme) → IsLoose k
      → run (In AtTerm k) (term_text t (closer c ∷ r)) ≡ goes_on (part_ends (reduced 1 (term_place t) (term_raw t) k) (closer c)) (λ u. run u r)
  run-term (AllTerm at bs t) k c r l =
      run-binders bs OfAll at k (term_text t (closer c ∷ r))
      ∙ run-term t (binder_frames OfAll at bs k) c r (loose-alls bs at k)
      ∙ ap (λ z. goes_on (part_ends z (closer c)) (λ u. run u r)) (reduced-alls bs (term_place t) at (term_raw t) k)
  run-term (ImpTerm i) k c r l = run-imp i k c r l

  run-imp : (i : ImpPhrase) (k : List Frame) (c : Closer) (r : List InnerLexeme) → IsLoose k
      → run (In AtTerm k) (imp_text i (closer c ∷ r)) ≡ goes_on (part_ends (reduced 1 (imp_place i) (imp_raw i) k) (closer c)) (λ u. run u r)
  run-imp (PremisesImp at a more b) k c r l =
      ap (λ z. run (In AtTerm (InTerm (FirstPremise at) ∷ k)) (term_text a z)) (terms-front more BehindPremises (Signed mark.Implies ∷ term_text b (closer c ∷ r)))
      ∙ run-term a (InTerm (FirstPremise at) ∷ k) (terms_stop more BehindPremises) (terms_behind more BehindPremises (Signed mark.Implies ∷ term_text b (closer c ∷ r))) tt
      ∙ run-premises more (Joined (Conclusion at (term_raw a)) ∷ k) (term_text b (closer c ∷ r))
      ∙ run-term b (premise_frames more (Joined (Conclusion at (term_raw a)) ∷ k)) c r (loose-premises more (Joined (Conclusion at (term_raw a)) ∷ k) tt)
      ∙ ap (λ z. goes_on (part_ends z (closer c)) (λ u. run u r)) (reduced-premises more (term_place b) at (term_raw a) (term_raw b) k)
  run-imp (PlainImp e) k c r l = run-eq e k (EqCloses c) r l ∙ ap (λ z. goes_on z (λ u. run u r)) (con_ends-closer c (eq_place e) (eq_raw e) k)
  run-imp (ArrowImp e b) k c r l =
      run-eq e k BeforeImplies (term_text b (closer c ∷ r)) l
      ∙ ap (λ z. goes_on z (λ u. run u (term_text b (closer c ∷ r)))) (implies-loose k (eq_place e) (eq_raw e) l)
      ∙ run-term b (Joined (Conclusion (eq_place e) (eq_raw e)) ∷ k) c r tt

  run-premises : (more : TermPhrases) (k : List Frame) (r : List InnerLexeme)
      → goes_on (premise_ends k (closer (terms_stop more BehindPremises))) (λ u. run u (terms_behind more BehindPremises (Signed mark.Implies ∷ r))) ≡ run (In AtTerm (premise_frames more k)) r
  run-premises NoTerm k r = refl
  run-premises (AndTerm a more) k r =
      ap (λ z. run (In AtTerm (InTerm NextPremise ∷ k)) (term_text a z)) (terms-front more BehindPremises (Signed mark.Implies ∷ r))
      ∙ run-term a (InTerm NextPremise ∷ k) (terms_stop more BehindPremises) (terms_behind more BehindPremises (Signed mark.Implies ∷ r)) tt
      ∙ run-premises more (Joined (Conclusion (term_place a) (term_raw a)) ∷ k) r

  run-eq : (e : EqPhrase) (k : List Frame) (s : EqStop) (r : List InnerLexeme) → IsLoose k
      → run (In AtTerm k) (eq_text e (eq_stop s ∷ r)) ≡ goes_on (con_ends (eq_place e) (eq_raw e) k (eq_stop s)) (λ u. run u r)
  run-eq (PlainEq c) k s r l = term-begins-con c k (eq_stop s ∷ r) ∙ run-con c k (ConStops s) r
  run-eq (BothEq c d) k s r l =
      term-begins-con c k (Signed mark.Equals ∷ con_text d (eq_stop s ∷ r))
      ∙ run-con c k BeforeEquals (con_text d (eq_stop s ∷ r))
      ∙ ap (λ z. goes_on z (λ u. run u (con_text d (eq_stop s ∷ r)))) (equals-loose k (con_place c) (con_raw c) l)
      ∙ run-con d (Joined (RightSide (con_place c) (con_raw c)) ∷ k) (ConStops s) r
      ∙ ap (λ z. goes_on z (λ u. run u r)) (right_side-stop s (con_place d) (con_place c) (con_raw c) (con_raw d) k)

  run-con : (c : ConPhrase) (k : List Frame) (s : ConStop) (r : List InnerLexeme)
      → run (In AtCon k) (con_text c (con_stop s ∷ r)) ≡ goes_on (con_ends (con_place c) (con_raw c) k (con_stop s)) (λ u. run u r)
  run-con (LambdaCon at bs c) k s r =
      run-binders bs OfLambda at k (con_text c (con_stop s ∷ r))
      ∙ run-con c (binder_frames OfLambda at bs k) s r
      ∙ ap (λ z. goes_on z (λ u. run u r)) (con_ends-lambdas s bs (con_place c) at (con_raw c) k)
  run-con (PlainCon a) k s r = run-app a k (con_stop s ∷ r) ∙ ap (λ z. goes_on z (λ u. run u r)) (after_atom-stop s (app_place a) (app_raw a) k)
  run-con (TypedCon a T) k s r =
      run-app a k (Signed mark.DoubleColon ∷ type_text T (con_stop s ∷ r)) ∙ run-type T (InType (Constraint (app_place a) (app_raw a)) ∷ k) (TypeStops s) r

  run-app : (a : AppPhrase) (k : List Frame) (r : List InnerLexeme) → run (In AtCon k) (app_text a r) ≡ run (In (AfterAtom (app_place a) (app_raw a)) k) r
  run-app (Application f xs) k r = run-function f k (atoms_text xs r) ∙ run-atoms xs (atom_place f) (atom_raw f) k r

  run-function : (f : AtomPhrase) (k : List Frame) (r : List InnerLexeme) → run (In AtCon k) (atom_text f r) ≡ run (In (AfterAtom (atom_place f) (atom_raw f)) k) r
  run-function (NamedAtom (Simple x p)) k r = refl
  run-function (NamedAtom (Full x p)) k r = refl
  run-function (SchematicAtom x p) k r = refl
  run-function (BoundAtom x p) k r = refl
  run-function (ClosedAtom p t) k r = run-term t (InTerm (Enclosed p) ∷ k) BehindParenthesis r tt

  run-atoms : (xs : AtomPhrases) (at : ℕ) (f : RawTree) (k : List Frame) (r : List InnerLexeme)
      → run (In (AfterAtom at f) k) (atoms_text xs r) ≡ run (In (AfterAtom at (applied_raw at f xs)) k) r
  run-atoms NoAtom at f k r = refl
  run-atoms (AndAtom x xs) at f k r = run-argument x at f k (atoms_text xs r) ∙ run-atoms xs at (tree.App at f (atom_raw x)) k r

  run-argument : (x : AtomPhrase) (at : ℕ) (f : RawTree) (k : List Frame) (r : List InnerLexeme)
      → run (In (AfterAtom at f) k) (atom_text x r) ≡ run (In (AfterAtom at (tree.App at f (atom_raw x))) k) r
  run-argument (NamedAtom (Simple x p)) at f k r = refl
  run-argument (NamedAtom (Full x p)) at f k r = refl
  run-argument (SchematicAtom x p) at f k r = refl
  run-argument (BoundAtom x p) at f k r = refl
  run-argument (ClosedAtom p t) at f k r = run-term t (InTerm (Argument at f) ∷ k) BehindParenthesis r tt

-- ---- a whole term, a whole type
pub run-term_text : (t : TermPhrase) → run (In AtTerm []) (term_text t (Ends ∷ [])) ≡ Some (DoneTerm (term_raw t))
run-term_text t = run-term t [] BehindAll [] tt

pub run-type_text : (t : TypePhrase) → run (In AtType []) (type_text t (Ends ∷ [])) ≡ Some (DoneType (type_raw t))
run-type_text t = run-type t [] (TypeStops (ConStops (EqCloses BehindAll))) []
