-- Each name and variable in the tree of a phrase stands in its text.
use Rattle.std.proofs.Common.{◌≡◌, ◌⊎◌, ℕ, List, [], ◌∷◌, map, inl, inr, refl, sym, subst}
use Rattle.std.specs.Prelude.{slice_range, codes, Option, Some}
use Rattle.std.specs.Option.{IfSome}
use Rattle.std.proofs.lemmas.Bool.{cond_both}
use Rattle.pure_text.specs.Lists.{IsIn, Each}
use Rattle.pure_text.proofs.ListLaws.{any_of}
use Rattle.pure_grammar.proofs.Beside.{beside, beside-has}
use Rattle.pure_grammar.specs.declared.token.Token.{Token}
use Rattle.pure_grammar.specs.declared.token.TokenKind.{TokenKind}
use Rattle.pure_grammar.specs.declared.token.TokenKind.TheVariants as kind
use Rattle.pure_grammar.specs.declared.inner.Opening.TheVariants as opening
use Rattle.pure_grammar.specs.declared.inner.Mark.TheVariants as mark
use Rattle.pure_grammar.specs.Terms.InnerLexeme.{InnerLexeme, Plain, Schematic, TypeSchematic, Bound, Opens, Signed, Other, Ends, mark_lexeme, sign_lexeme, inner_of, inners}
use Rattle.pure_grammar.specs.Terms.RawTree.{RawTypTree, RawTree, implication, equation, generality, function_type}
use Rattle.pure_grammar.specs.Terms.RawTree as tree
use Rattle.pure_grammar.specs.Terms.InnerPhrase.{InnerName, Simple, Full, InnerSort, NoSort, OneClass, NoClass, Classes, TypePhrase, DomainsType, PlainType, ArrowType, TypePhrases, NoType, AndType, PostPhrase, Post, BasePhrase, VariableBase, SchematicBase, NamedBase, ClosedBase, ArgumentsBase, VarPhrase, NamedVar, BoundVar, BinderPhrase, PlainBinder, TypedBinder, BindersPhrase, OneTyped, Binders, TermPhrase, AllTerm, ImpTerm, ImpPhrase, PremisesImp, PlainImp, ArrowImp, TermPhrases, NoTerm, AndTerm, EqPhrase, PlainEq, BothEq, ConPhrase, LambdaCon, PlainCon, TypedCon, AppPhrase, Application, AtomPhrases, NoAtom, AndAtom, AtomPhrase, NamedAtom, SchematicAtom, BoundAtom, ClosedAtom}
use Rattle.pure_grammar.specs.Terms.InnerText.{each, name_text, comma_name_text, sort_text, type_text, types_text, post_text, base_text, var_text, binder_text, binders_text, term_text, imp_text, terms_text, eq_text, con_text, app_text, atoms_text, atom_text}
use Rattle.pure_grammar.specs.Terms.InnerTree.{name_of, name_place, class_raw, sort_raw, base_place, post_place, type_place, var_place, binder_place, atom_place, con_place, eq_place, term_place, constructed, type_raw, functions_raw, types_raw, post_raw, base_raw, var_of, binder_var, binder_typ, inner_lambdas, lambda_raw, inner_alls, all_raw, name_raw, term_raw, imp_raw, implications_raw, eq_raw, con_raw, app_raw, applied_raw, atom_raw}
use Rattle.pure_grammar.specs.Terms.RawTexts.{SomeToken, has_apostrophe, IsWritten, NameAt, ClassAt, EachInType, EachInTypes, EachInTerm, TermIsWritten, TypeIsWritten}

-- ---- names

name-in : (P : InnerLexeme → Type 0) (x : InnerName) (r : List InnerLexeme) → Each P (name_text x r) → NameAt P (name_of x) (name_place x) × Each P r
name-in P (Simple text at) r h = (inl h.0, h.1)
name-in P (Full text at) r h = (inr h.0, h.1)

classes-in : (P : InnerLexeme → Type 0) (cs : List InnerName) (r : List InnerLexeme) → Each P (each comma_name_text cs r) → Each (ClassAt P) (map class_raw cs) × Each P r
classes-in P [] r h = (tt, h)
classes-in P (c ∷ cs) r h =
    let name = name-in P c (each comma_name_text cs r) h.1 in
    let more = classes-in P cs r name.1 in
    ((name.0, more.0), more.1)

sort-in : (P : InnerLexeme → Type 0) (s : InnerSort) (r : List InnerLexeme) → Each P (sort_text s r) → Each (ClassAt P) (sort_raw s) × Each P r
sort-in P NoSort r h = (tt, h)
sort-in P (OneClass c) r h = let name = name-in P c r h.1 in ((name.0, tt), name.1)
sort-in P NoClass r h = (tt, h.1.1.1)
sort-in P (Classes c cs) r h =
    let name = name-in P c (each comma_name_text cs (Signed mark.CloseBrace ∷ r)) h.1.1 in
    let more = classes-in P cs (Signed mark.CloseBrace ∷ r) name.1 in
    ((name.0, more.0), more.1.1)

constructed-in : (P : InnerLexeme → Type 0) (ks : List InnerName) (at : ℕ) (t : RawTypTree) (r : List InnerLexeme)
    → EachInType P t → Each P (each name_text ks r) → EachInType P (constructed at t ks) × Each P r
constructed-in P [] at t r inside h = (inside, h)
constructed-in P (k ∷ ks) at t r inside h =
    let name = name-in P k (each name_text ks r) h in
    constructed-in P ks at (tree.Con at (name_of k) (tree.also t tree.none)) r (inr (name_place k, name.0), (inside, tt)) name.1

-- ---- types

function-in : (P : InnerLexeme → Type 0) (at : ℕ) (t u : RawTypTree) → EachInType P t → EachInType P u → EachInType P (function_type at t u)
function-in P at t u domain range = (inl refl, (domain, (range, tt)))

mutual
  pub type-in : (P : InnerLexeme → Type 0) (t : TypePhrase) (r : List InnerLexeme) → Each P (type_text t r) → EachInType P (type_raw t) × Each P r
  type-in P (DomainsType at t ts u) r h =
      let domain = type-in P t (types_text ts (Signed mark.CloseBracket ∷ Signed mark.Arrow ∷ type_text u r)) h.1 in
      let more = functions-in P ts (type_raw u) (Signed mark.CloseBracket ∷ Signed mark.Arrow ∷ type_text u r) domain.1 in
      let range = type-in P u r more.1.1.1 in
      (function-in P at (type_raw t) (functions_raw ts (type_raw u)) domain.0 (more.0 range.0), range.1)
  type-in P (PlainType p) r h = post-in P p r h
  type-in P (ArrowType p u) r h =
      let domain = post-in P p (Signed mark.Arrow ∷ type_text u r) h in
      let range = type-in P u r domain.1.1 in
      (function-in P (post_place p) (post_raw p) (type_raw u) domain.0 range.0, range.1)

  functions-in : (P : InnerLexeme → Type 0) (ts : TypePhrases) (u : RawTypTree) (r : List InnerLexeme)
      → Each P (types_text ts r) → (EachInType P u → EachInType P (functions_raw ts u)) × Each P r
  functions-in P NoType u r h = (λ range. range, h)
  functions-in P (AndType t ts) u r h =
      let domain = type-in P t (types_text ts r) h.1 in
      let more = functions-in P ts u r domain.1 in
      (λ range. function-in P (type_place t) (type_raw t) (functions_raw ts u) domain.0 (more.0 range), more.1)

  types-in : (P : InnerLexeme → Type 0) (ts : TypePhrases) (r : List InnerLexeme) → Each P (types_text ts r) → EachInTypes P (types_raw ts) × Each P r
  types-in P NoType r h = (tt, h)
  types-in P (AndType t ts) r h =
      let first = type-in P t (types_text ts r) h.1 in
      let more = types-in P ts r first.1 in
      ((first.0, more.0), more.1)

  post-in : (P : InnerLexeme → Type 0) (p : PostPhrase) (r : List InnerLexeme) → Each P (post_text p r) → EachInType P (post_raw p) × Each P r
  post-in P (Post b ks) r h =
      let base = base-in P b (each name_text ks r) h in
      constructed-in P ks (base_place b) (base_raw b) r base.0 base.1

  base-in : (P : InnerLexeme → Type 0) (b : BasePhrase) (r : List InnerLexeme) → Each P (base_text b r) → EachInType P (base_raw b) × Each P r
  base-in P (VariableBase text at s) r h = let sort = sort-in P s r h.1 in ((h.0, sort.0), sort.1)
  base-in P (SchematicBase text at s) r h = let sort = sort-in P s r h.1 in ((h.0, sort.0), sort.1)
  base-in P (NamedBase k) r h = let name = name-in P k r h in ((inr (name_place k, name.0), tt), name.1)
  base-in P (ClosedBase at t) r h =
      let inside = type-in P t (Signed mark.CloseParenthesis ∷ r) h.1 in
      (inside.0, inside.1.1)
  base-in P (ArgumentsBase at t u ts k) r h =
      let first = type-in P t (Signed mark.Comma ∷ type_text u (types_text ts (Signed mark.CloseParenthesis ∷ name_text k r))) h.1 in
      let second = type-in P u (types_text ts (Signed mark.CloseParenthesis ∷ name_text k r)) first.1.1 in
      let more = types-in P ts (Signed mark.CloseParenthesis ∷ name_text k r) second.1 in
      let name = name-in P k r more.1.1 in
      ((inr (name_place k, name.0), (first.0, (second.0, more.0))), name.1)

-- ---- binders

abbrev VarIn : (InnerLexeme → Type 0) → List ℕ → Type 0
VarIn P var = (place : ℕ) × (P (Plain var place) ⊎ P (Bound var place))

var-in : (P : InnerLexeme → Type 0) (x : VarPhrase) (r : List InnerLexeme) → Each P (var_text x r) → VarIn P (var_of x) × Each P r
var-in P (NamedVar text at) r h = ((at, inl h.0), h.1)
var-in P (BoundVar text at) r h = ((at, inr h.0), h.1)

-- what a binder says of its variable and its type
abbrev BinderIn : (InnerLexeme → Type 0) → List ℕ → Option RawTypTree → Type 0
BinderIn P var typ = VarIn P var × IfSome typ (EachInType P)

binder-in : (P : InnerLexeme → Type 0) (b : BinderPhrase) (r : List InnerLexeme) → Each P (binder_text b r) → BinderIn P (binder_var b) (binder_typ b) × Each P r
binder-in P (PlainBinder x) r h = let var = var-in P x r h in ((var.0, tt), var.1)
binder-in P (TypedBinder at x t) r h =
    let var = var-in P x (Signed mark.DoubleColon ∷ type_text t (Signed mark.CloseParenthesis ∷ r)) h.1 in
    let typ = type-in P t (Signed mark.CloseParenthesis ∷ r) var.1.1 in
    ((var.0, typ.0), typ.1.1)

abs-in : (P : InnerLexeme → Type 0) (at : ℕ) (var : List ℕ) (typ : Option RawTypTree) (body : RawTree)
    → BinderIn P var typ → EachInTerm P body → EachInTerm P (tree.Abs at var typ body)
abs-in P at var typ body binder inside = (binder.0, binder.1, inside)

all-in : (P : InnerLexeme → Type 0) (at place : ℕ) (var : List ℕ) (typ : Option RawTypTree) (body : RawTree)
    → BinderIn P var typ → EachInTerm P body → EachInTerm P (generality at place var typ body)
all-in P at place var typ body binder inside = (inl (refl, inr (inr (inl refl))), abs-in P place var typ body binder inside)

more_lambdas-in : (P : InnerLexeme → Type 0) (bs : List BinderPhrase) (t : RawTree) (r : List InnerLexeme)
    → Each P (each binder_text bs r) → (EachInTerm P t → EachInTerm P (inner_lambdas bs t)) × Each P r
more_lambdas-in P [] t r h = (λ inside. inside, h)
more_lambdas-in P (b ∷ bs) t r h =
    let binder = binder-in P b (each binder_text bs r) h in
    let more = more_lambdas-in P bs t r binder.1 in
    (λ inside. abs-in P (binder_place b) (binder_var b) (binder_typ b) (inner_lambdas bs t) binder.0 (more.0 inside), more.1)

lambdas-in : (P : InnerLexeme → Type 0) (at : ℕ) (bs : BindersPhrase) (t : RawTree) (r : List InnerLexeme)
    → Each P (binders_text bs r) → (EachInTerm P t → EachInTerm P (lambda_raw at bs t)) × Each P r
lambdas-in P at (OneTyped x T) t r h =
    let var = var-in P x (Signed mark.DoubleColon ∷ type_text T r) h in
    let typ = type-in P T r var.1.1 in
    (λ inside. abs-in P at (var_of x) (Some (type_raw T)) t (var.0, typ.0) inside, typ.1)
lambdas-in P at (Binders b bs) t r h =
    let binder = binder-in P b (each binder_text bs r) h in
    let more = more_lambdas-in P bs t r binder.1 in
    (λ inside. abs-in P at (binder_var b) (binder_typ b) (inner_lambdas bs t) binder.0 (more.0 inside), more.1)

more_alls-in : (P : InnerLexeme → Type 0) (bs : List BinderPhrase) (t : RawTree) (r : List InnerLexeme)
    → Each P (each binder_text bs r) → (EachInTerm P t → EachInTerm P (inner_alls bs t)) × Each P r
more_alls-in P [] t r h = (λ inside. inside, h)
more_alls-in P (b ∷ bs) t r h =
    let binder = binder-in P b (each binder_text bs r) h in
    let more = more_alls-in P bs t r binder.1 in
    (λ inside. all-in P (binder_place b) (binder_place b) (binder_var b) (binder_typ b) (inner_alls bs t) binder.0 (more.0 inside), more.1)

alls-in : (P : InnerLexeme → Type 0) (at : ℕ) (bs : BindersPhrase) (t : RawTree) (r : List InnerLexeme)
    → Each P (binders_text bs r) → (EachInTerm P t → EachInTerm P (all_raw at bs t)) × Each P r
alls-in P at (OneTyped x T) t r h =
    let var = var-in P x (Signed mark.DoubleColon ∷ type_text T r) h in
    let typ = type-in P T r var.1.1 in
    (λ inside. all-in P at (var_place x) (var_of x) (Some (type_raw T)) t (var.0, typ.0) inside, typ.1)
alls-in P at (Binders b bs) t r h =
    let binder = binder-in P b (each binder_text bs r) h in
    let more = more_alls-in P bs t r binder.1 in
    (λ inside. all-in P at (binder_place b) (binder_var b) (binder_typ b) (inner_alls bs t) binder.0 (more.0 inside), more.1)

-- ---- terms

implication-in : (P : InnerLexeme → Type 0) (at : ℕ) (a b : RawTree) → EachInTerm P a → EachInTerm P b → EachInTerm P (implication at a b)
implication-in P at a b premise conclusion = ((inl (refl, inl refl), premise), conclusion)

equation-in : (P : InnerLexeme → Type 0) (at : ℕ) (t u : RawTree) → EachInTerm P t → EachInTerm P u → EachInTerm P (equation at t u)
equation-in P at t u left right = ((inl (refl, inr (inl refl)), left), right)

leaf-in : (P : InnerLexeme → Type 0) (x : InnerName) (r : List InnerLexeme) → Each P (name_text x r) → EachInTerm P (name_raw x) × Each P r
leaf-in P (Simple text at) r h = (inr h.0, h.1)
leaf-in P (Full text at) r h = (inr h.0, h.1)

mutual
  pub term-in : (P : InnerLexeme → Type 0) (t : TermPhrase) (r : List InnerLexeme) → Each P (term_text t r) → EachInTerm P (term_raw t) × Each P r
  term-in P (AllTerm at bs t) r h =
      let binders = alls-in P at bs (term_raw t) (Signed mark.Dot ∷ term_text t r) h.1 in
      let body = term-in P t r binders.1.1 in
      (binders.0 body.0, body.1)
  term-in P (ImpTerm i) r h = imp-in P i r h

  imp-in : (P : InnerLexeme → Type 0) (i : ImpPhrase) (r : List InnerLexeme) → Each P (imp_text i r) → EachInTerm P (imp_raw i) × Each P r
  imp-in P (PremisesImp at a more b) r h =
      let first = term-in P a (terms_text more (Signed mark.ClosePremises ∷ Signed mark.Implies ∷ term_text b r)) h.1 in
      let others = implications-in P more (term_raw b) (Signed mark.ClosePremises ∷ Signed mark.Implies ∷ term_text b r) first.1 in
      let conclusion = term-in P b r others.1.1.1 in
      (implication-in P at (term_raw a) (implications_raw more (term_raw b)) first.0 (others.0 conclusion.0), conclusion.1)
  imp-in P (PlainImp e) r h = eq-in P e r h
  imp-in P (ArrowImp e b) r h =
      let premise = eq-in P e (Signed mark.Implies ∷ term_text b r) h in
      let conclusion = term-in P b r premise.1.1 in
      (implication-in P (eq_place e) (eq_raw e) (term_raw b) premise.0 conclusion.0, conclusion.1)

  implications-in : (P : InnerLexeme → Type 0) (more : TermPhrases) (b : RawTree) (r : List InnerLexeme)
      → Each P (terms_text more r) → (EachInTerm P b → EachInTerm P (implications_raw more b)) × Each P r
  implications-in P NoTerm b r h = (λ inside. inside, h)
  implications-in P (AndTerm a more) b r h =
      let first = term-in P a (terms_text more r) h.1 in
      let others = implications-in P more b r first.1 in
      (λ inside. implication-in P (term_place a) (term_raw a) (implications_raw more b) first.0 (others.0 inside), others.1)

  eq-in : (P : InnerLexeme → Type 0) (e : EqPhrase) (r : List InnerLexeme) → Each P (eq_text e r) → EachInTerm P (eq_raw e) × Each P r
  eq-in P (PlainEq c) r h = con-in P c r h
  eq-in P (BothEq c d) r h =
      let left = con-in P c (Signed mark.Equals ∷ con_text d r) h in
      let right = con-in P d r left.1.1 in
      (equation-in P (con_place c) (con_raw c) (con_raw d) left.0 right.0, right.1)

  con-in : (P : InnerLexeme → Type 0) (c : ConPhrase) (r : List InnerLexeme) → Each P (con_text c r) → EachInTerm P (con_raw c) × Each P r
  con-in P (LambdaCon at bs c) r h =
      let binders = lambdas-in P at bs (con_raw c) (Signed mark.Dot ∷ con_text c r) h.1 in
      let body = con-in P c r binders.1.1 in
      (binders.0 body.0, body.1)
  con-in P (PlainCon a) r h = app-in P a r h
  con-in P (TypedCon a t) r h =
      let app = app-in P a (Signed mark.DoubleColon ∷ type_text t r) h in
      let typ = type-in P t r app.1.1 in
      ((app.0, typ.0), typ.1)

  app-in : (P : InnerLexeme → Type 0) (a : AppPhrase) (r : List InnerLexeme) → Each P (app_text a r) → EachInTerm P (app_raw a) × Each P r
  app-in P (Application f xs) r h =
      let function = atom-in P f (atoms_text xs r) h in
      applied-in P xs (atom_place f) (atom_raw f) r function.0 function.1

  applied-in : (P : InnerLexeme → Type 0) (xs : AtomPhrases) (at : ℕ) (f : RawTree) (r : List InnerLexeme)
      → EachInTerm P f → Each P (atoms_text xs r) → EachInTerm P (applied_raw at f xs) × Each P r
  applied-in P NoAtom at f r inside h = (inside, h)
  applied-in P (AndAtom x xs) at f r inside h =
      let argument = atom-in P x (atoms_text xs r) h in
      applied-in P xs at (tree.App at f (atom_raw x)) r (inside, argument.0) argument.1

  atom-in : (P : InnerLexeme → Type 0) (a : AtomPhrase) (r : List InnerLexeme) → Each P (atom_text a r) → EachInTerm P (atom_raw a) × Each P r
  atom-in P (NamedAtom x) r h = leaf-in P x r h
  atom-in P (SchematicAtom text at) r h = (inr h.0, h.1)
  atom-in P (BoundAtom text at) r h = (inr h.0, h.1)
  atom-in P (ClosedAtom at t) r h =
      let inside = term-in P t (Signed mark.CloseParenthesis ∷ r) h.1 in
      (inside.0, inside.1.1)

-- ---- tokens

abbrev marks : List (List ℕ × InnerLexeme)
marks =
    (codes "==>", Signed mark.Implies) ∷ (codes "==", Signed mark.Equals) ∷ (codes "=>", Signed mark.Arrow) ∷ (codes "::", Signed mark.DoubleColon)
    ∷ (codes "|]", Signed mark.ClosePremises) ∷ (codes ".", Signed mark.Dot) ∷ (codes ",", Signed mark.Comma) ∷ (codes ";", Signed mark.Semicolon)
    ∷ (codes ")", Signed mark.CloseParenthesis) ∷ (codes "]", Signed mark.CloseBracket) ∷ (codes "{", Signed mark.OpenBrace) ∷ (codes "}", Signed mark.CloseBrace) ∷ []

abbrev openings : ℕ → List (List ℕ × InnerLexeme)
openings at =
    (codes "!!", Opens opening.All at) ∷ (codes "%", Opens opening.Lambda at) ∷ (codes "[|", Opens opening.Premises at)
    ∷ (codes "(", Opens opening.Parenthesis at) ∷ (codes "[", Opens opening.Bracket at) ∷ []

mark-is : (bytes : List ℕ) → beside bytes marks Other ≡ mark_lexeme bytes
unfolding mark_lexeme
mark-is bytes = refl

sign-is : (bytes : List ℕ) (at : ℕ) → beside bytes (openings at) (mark_lexeme bytes) ≡ sign_lexeme bytes at
unfolding sign_lexeme
sign-is bytes at = refl

sign-written : (source : List ℕ) (tokens : List Token) (bytes : List ℕ) (at : ℕ) → IsWritten source tokens (sign_lexeme bytes at)
sign-written source tokens bytes at =
    let mark : IsWritten source tokens (beside bytes marks Other) =
    beside-has (IsWritten source tokens) bytes marks Other (tt, (tt, (tt, (tt, (tt, (tt, (tt, (tt, (tt, (tt, (tt, (tt, tt)))))))))))) tt in
    let sign : IsWritten source tokens (beside bytes (openings at) (mark_lexeme bytes)) =
    beside-has (IsWritten source tokens) bytes (openings at) (mark_lexeme bytes) (tt, (tt, (tt, (tt, (tt, tt))))) (subst (IsWritten source tokens) (mark-is bytes) mark) in
    subst (IsWritten source tokens) (sign-is bytes at) sign

some-token : (Fits : TokenKind → Type 0) (source : List ℕ) (tokens : List Token) (t : Token) → IsIn t tokens → Fits t.kind → SomeToken Fits source tokens (slice_range source t.from t.to) t.from
some-token Fits source tokens t m fits =
    any_of (λ (u : Token). Fits u.kind × (slice_range source u.from u.to ≡ slice_range source t.from t.to) × (u.from ≡ t.from)) t tokens m (fits, refl, refl)

token-written : (source : List ℕ) (tokens : List Token) (t : Token) (k : TokenKind) → t.kind ≡ k → IsIn t tokens → IsWritten source tokens (inner_of k (slice_range source t.from t.to) t.from)
token-written source tokens t kind.Word e m = some-token (λ k. (k ≡ kind.Word) ⊎ (k ≡ kind.Ident)) source tokens t m (inl e)
token-written source tokens t kind.Ident e m = some-token (λ k. (k ≡ kind.Word) ⊎ (k ≡ kind.Ident)) source tokens t m (inr e)
token-written source tokens t kind.Qualified e m = some-token (λ k. k ≡ kind.Qualified) source tokens t m e
token-written source tokens t kind.TypeVar e m = some-token (λ k. k ≡ kind.TypeVar) source tokens t m e
token-written source tokens t kind.Schem e m =
    let bytes : List ℕ = slice_range source t.from t.to in
    let some : SomeToken (λ k. k ≡ kind.Schem) source tokens (slice_range source t.from t.to) t.from = some-token (λ k. k ≡ kind.Schem) source tokens t m e in
    cond_both (has_apostrophe bytes) (TypeSchematic bytes t.from) (Schematic bytes t.from) (IsWritten source tokens) (λ of_types. (of_types, some)) (λ of_terms. (of_terms, some))
token-written source tokens t kind.BoundName e m = some-token (λ k. k ≡ kind.BoundName) source tokens t m e
token-written source tokens t kind.Number e m = tt
token-written source tokens t kind.Quote e m = tt
token-written source tokens t kind.Symbol e m = sign-written source tokens (slice_range source t.from t.to) t.from
token-written source tokens t kind.End e m = tt

each-written : (source : List ℕ) (all ts : List Token) → ((t : Token) → IsIn t ts → IsIn t all) → Each (IsWritten source all) (inners source ts)
each-written source all [] among = (tt, tt)
each-written source all (t ∷ ts) among =
    (token-written source all t t.kind refl (among t (inl refl)), each-written source all ts (λ u m. among u (inr m)))

pub term_is_written : TermIsWritten
term_is_written source tokens raw is =
    let texts = term-in (IsWritten source tokens) is.phrase (Ends ∷ []) (subst (Each (IsWritten source tokens)) (sym is.spelled) (each-written source tokens tokens (λ t m. m))) in
    subst (EachInTerm (IsWritten source tokens)) is.means texts.0

pub type_is_written : TypeIsWritten
type_is_written source tokens raw is =
    let texts = type-in (IsWritten source tokens) is.phrase (Ends ∷ []) (subst (Each (IsWritten source tokens)) (sym is.spelled) (each-written source tokens tokens (λ t m. m))) in
    subst (EachInType (IsWritten source tokens)) is.means texts.0
