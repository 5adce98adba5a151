-- The text of each phrase of terms and types, with `r` behind it.
use Rattle.std.specs.Prelude.{List, [], ◌∷◌}
use Rattle.pure_grammar.specs.declared.inner.Opening.TheVariants as opening
use Rattle.pure_grammar.specs.declared.inner.Mark.TheVariants as mark
use Rattle.pure_grammar.specs.Terms.InnerLexeme.{InnerLexeme, Plain, Dotted, Variable, Schematic, TypeSchematic, Bound, Opens, Signed}
use Rattle.pure_grammar.specs.Terms.InnerPhrase.{InnerName, Simple, Full, InnerSort, NoSort, OneClass, NoClass, Classes, TypePhrase, DomainsType, PlainType, ArrowType, TypePhrases, NoType, AndType, PostPhrase, Post, BasePhrase, VariableBase, SchematicBase, NamedBase, ClosedBase, ArgumentsBase, VarPhrase, NamedVar, BoundVar, BinderPhrase, PlainBinder, TypedBinder, BindersPhrase, OneTyped, Binders, TermPhrase, AllTerm, ImpTerm, ImpPhrase, PremisesImp, PlainImp, ArrowImp, TermPhrases, NoTerm, AndTerm, EqPhrase, PlainEq, BothEq, ConPhrase, LambdaCon, PlainCon, TypedCon, AppPhrase, Application, AtomPhrases, NoAtom, AndAtom, AtomPhrase, NamedAtom, SchematicAtom, BoundAtom, ClosedAtom}

-- {X}
abbrev pub each : {A : Type 0} → (A → List InnerLexeme → List InnerLexeme) → List A → List InnerLexeme → List InnerLexeme
each text [] r = r
each text (x ∷ xs) r = text x (each text xs r)

abbrev pub name_text : InnerName → List InnerLexeme → List InnerLexeme
name_text (Simple text at) r = Plain text at ∷ r
name_text (Full text at) r = Dotted text at ∷ r

-- "," Ident'
abbrev pub comma_name_text : InnerName → List InnerLexeme → List InnerLexeme
comma_name_text x r = Signed mark.Comma ∷ name_text x r

abbrev pub sort_text : InnerSort → List InnerLexeme → List InnerLexeme
sort_text NoSort r = r
sort_text (OneClass c) r = Signed mark.DoubleColon ∷ name_text c r
sort_text NoClass r = Signed mark.DoubleColon ∷ Signed mark.OpenBrace ∷ Signed mark.CloseBrace ∷ r
sort_text (Classes c cs) r = Signed mark.DoubleColon ∷ Signed mark.OpenBrace ∷ name_text c (each comma_name_text cs (Signed mark.CloseBrace ∷ r))

abbrev mutual
  pub type_text : TypePhrase → List InnerLexeme → List InnerLexeme
  type_text (DomainsType at t ts u) r = Opens opening.Bracket at ∷ type_text t (types_text ts (Signed mark.CloseBracket ∷ Signed mark.Arrow ∷ type_text u r))
  type_text (PlainType p) r = post_text p r
  type_text (ArrowType p u) r = post_text p (Signed mark.Arrow ∷ type_text u r)

  pub types_text : TypePhrases → List InnerLexeme → List InnerLexeme
  types_text NoType r = r
  types_text (AndType t ts) r = Signed mark.Comma ∷ type_text t (types_text ts r)

  pub post_text : PostPhrase → List InnerLexeme → List InnerLexeme
  post_text (Post b ks) r = base_text b (each name_text ks r)

  pub base_text : BasePhrase → List InnerLexeme → List InnerLexeme
  base_text (VariableBase text at s) r = Variable text at ∷ sort_text s r
  base_text (SchematicBase text at s) r = TypeSchematic text at ∷ sort_text s r
  base_text (NamedBase k) r = name_text k r
  base_text (ClosedBase at t) r = Opens opening.Parenthesis at ∷ type_text t (Signed mark.CloseParenthesis ∷ r)
  base_text (ArgumentsBase at t u ts k) r =
      Opens opening.Parenthesis at ∷ type_text t (Signed mark.Comma ∷ type_text u (types_text ts (Signed mark.CloseParenthesis ∷ name_text k r)))

abbrev pub var_text : VarPhrase → List InnerLexeme → List InnerLexeme
var_text (NamedVar text at) r = Plain text at ∷ r
var_text (BoundVar text at) r = Bound text at ∷ r

abbrev pub binder_text : BinderPhrase → List InnerLexeme → List InnerLexeme
binder_text (PlainBinder x) r = var_text x r
binder_text (TypedBinder at x t) r = Opens opening.Parenthesis at ∷ var_text x (Signed mark.DoubleColon ∷ type_text t (Signed mark.CloseParenthesis ∷ r))

abbrev pub binders_text : BindersPhrase → List InnerLexeme → List InnerLexeme
binders_text (OneTyped x t) r = var_text x (Signed mark.DoubleColon ∷ type_text t r)
binders_text (Binders b bs) r = binder_text b (each binder_text bs r)

abbrev mutual
  pub term_text : TermPhrase → List InnerLexeme → List InnerLexeme
  term_text (AllTerm at bs t) r = Opens opening.All at ∷ binders_text bs (Signed mark.Dot ∷ term_text t r)
  term_text (ImpTerm i) r = imp_text i r

  pub imp_text : ImpPhrase → List InnerLexeme → List InnerLexeme
  imp_text (PremisesImp at a as_more b) r = Opens opening.Premises at ∷ term_text a (terms_text as_more (Signed mark.ClosePremises ∷ Signed mark.Implies ∷ term_text b r))
  imp_text (PlainImp e) r = eq_text e r
  imp_text (ArrowImp e b) r = eq_text e (Signed mark.Implies ∷ term_text b r)

  pub terms_text : TermPhrases → List InnerLexeme → List InnerLexeme
  terms_text NoTerm r = r
  terms_text (AndTerm a as_more) r = Signed mark.Semicolon ∷ term_text a (terms_text as_more r)

  pub eq_text : EqPhrase → List InnerLexeme → List InnerLexeme
  eq_text (PlainEq c) r = con_text c r
  eq_text (BothEq c d) r = con_text c (Signed mark.Equals ∷ con_text d r)

  pub con_text : ConPhrase → List InnerLexeme → List InnerLexeme
  con_text (LambdaCon at bs c) r = Opens opening.Lambda at ∷ binders_text bs (Signed mark.Dot ∷ con_text c r)
  con_text (PlainCon a) r = app_text a r
  con_text (TypedCon a t) r = app_text a (Signed mark.DoubleColon ∷ type_text t r)

  pub app_text : AppPhrase → List InnerLexeme → List InnerLexeme
  app_text (Application f xs) r = atom_text f (atoms_text xs r)

  pub atoms_text : AtomPhrases → List InnerLexeme → List InnerLexeme
  atoms_text NoAtom r = r
  atoms_text (AndAtom x xs) r = atom_text x (atoms_text xs r)

  pub atom_text : AtomPhrase → List InnerLexeme → List InnerLexeme
  atom_text (NamedAtom x) r = name_text x r
  atom_text (SchematicAtom text at) r = Schematic text at ∷ r
  atom_text (BoundAtom text at) r = Bound text at ∷ r
  atom_text (ClosedAtom at t) r = Opens opening.Parenthesis at ∷ term_text t (Signed mark.CloseParenthesis ∷ r)
