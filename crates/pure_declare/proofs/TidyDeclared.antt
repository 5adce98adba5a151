-- Each command keeps a content's facts tidy.
use Rattle.std.proofs.Common.{◌≡◌, ℕ, List, [], ◌∷◌, ◌++◌, refl, sym, ◌∙◌, ap, subst, inl, inr}
use Rattle.std.specs.Prelude.{Result, Ok, Err}
use Rattle.pure_text.specs.Lists.{Each}
use Rattle.pure_text.proofs.ListLaws.{each-append}
use Rattle.pure_definitions.specs.Types.Typ.{Typ, prop}
use Rattle.pure_definitions.specs.Types.Order.{Arity}
use Rattle.pure_definitions.specs.Terms.Term.{Term}
use Rattle.pure_definitions.specs.Terms.Bounds.{IsClosed}
use Rattle.pure_definitions.specs.Terms.Subst.{typ_instance, inst_typ, retyped_variable}
use Rattle.pure_definitions.specs.Reduction.Beta.{IsBetaNormal}
use Rattle.pure_definitions.specs.Declarations.Decl.{Decl, ClassDecl, ConDecl, ArityDecl, ConstDecl, AxiomDecl, PromiseDecl}
use Rattle.pure_term_laws.proofs.TypingLaws.{typed-closed}
use Rattle.pure_term_laws.proofs.OccursLaws.{instance_is_closed}
use Rattle.pure_norm.proofs.BetaLaws.{normal_form-is_normal, normal_form-keeps_closed}
use Rattle.pure_grammar.specs.Theories.TheoryText.{Span, Step, Command, Class as ClassOf, TypeDecl, Arity as ArityOf, Const as ConstOf, Axiom, Definition, Lemma}
use Rattle.pure_grammar.specs.Terms.RawTree.{RawTree}
use Rattle.pure_logic.specs.Content.{Content, definition, schematic_typ_variable}
use Rattle.pure_theory.specs.Stage.{with_declarations}
use Rattle.pure_elab.specs.Vocabulary.{Vocabulary}
use Rattle.pure_elab.specs.Answers.{IsFixedTyp}
use Rattle.pure_elab.proofs.GeneralLaws.{answer_is_most_general}
use Rattle.pure_statements.specs.declared.reason.Reason.{Reason}
use Rattle.pure_statements.specs.declared.stated.Stated.{Stated}
use Rattle.pure_statements.specs.Chain.{refuses, goes_on, holds, passes}
use Rattle.pure_statements.specs.Schematic.{generalised, schematic_variable}
use Rattle.pure_statements.specs.Statement.{IsNormalised, IsStated, IsStatedTyp, stated}
use Rattle.pure_statements.specs.Elaborated.{IsTypedTerm}
use Rattle.pure_statements.proofs.ElaboratedLaws.{elaborated-fixed}
use Rattle.pure_statements.proofs.SchematicLaws.{normal-generalised}
use Rattle.pure_declare.specs.Notes.{Fork, Forked, Outcome, Change}
use Rattle.pure_declare.specs.Commands.{Place, vocabulary, IsOutcome, IsSaid, IsNewClassChange, IsClassChange, IsTypeChange, IsFoundArityChange, IsClassArityChange, IsDomainsArityChange, IsArityChange, IsNewConstChange, IsConstChange, IsAxiomChange, IsBodyChange, IsTermChange, IsTypedChange, IsTreeChange, IsTextChange, IsNewDefinitionChange, IsDefinitionChange, IsLemmaOutcome, declaring, declaring_const, declaring_definition, declaring_axiom, defining, forking}
use Rattle.pure_declare.specs.Fixing.{fixed_again}
use Rattle.pure_declare.specs.First.{outcome_of}
use Rattle.pure_declare.specs.Tidy.{HasTypIndexes, IsUnschematic, IsTidyFact, IsTidyDecl, IsTidy, IsTidyFork, PureIsTidy, DeclaresTidy, ForksTidy}
use Rattle.pure_declare.proofs.FixedLaws.{normal-has}
use Rattle.pure_declare.proofs.FixingLaws.{term-again}
use Rattle.pure_declare.proofs.TidyLaws.{Never, Zero, fixed-typ, typ-zero, generalised-zero, inst-zero, elaborated-never, normal-inst}

-- A normal form that is elaborated at a type.
pub record IsTidyTerm (u : Term) : Type 0 where
  pub normal : IsBetaNormal u
  pub closed : IsClosed u
  pub fixed : IsUnschematic u

tidy-term : (V : Vocabulary) (T : Typ) (raw : RawTree) (t u : Term) → IsFixedTyp T → IsTypedTerm V T raw (Ok t) → IsNormalised t (Ok u) → IsTidyTerm u
tidy-term V T raw t u fixed typed normal = record {
  normal = normal_form-is_normal t u normal;
  closed = normal_form-keeps_closed 0 t u normal (typed-closed t T (answer_is_most_general V raw T t fixed typed).typed);
  fixed = normal-has Never t u normal (elaborated-never V raw T t typed);
}

prop-fixed : IsFixedTyp prop
prop-fixed x i s o = elim o [ inl same ↦ absurd (cc) | inr none ↦ absurd none ]

generalised-closed : (t : Term) → IsClosed t → IsClosed (generalised t)
generalised-closed t h = instance_is_closed schematic_typ_variable schematic_variable (record { fixed = λ x T. tt; schematic = λ x i T. tt }) 0 t h

inst-closed : (t : Term) → IsClosed t → IsClosed (inst_typ schematic_typ_variable t)
inst-closed t h = instance_is_closed schematic_typ_variable (retyped_variable schematic_typ_variable) (record { fixed = λ x T. tt; schematic = λ x i T. tt }) 0 t h

-- A statement is such a term, and generalised.
pub record IsTidyStated (s : Stated) : Type 0 where
  pub term : IsTidyTerm s.fixed
  pub prop : s.prop ≡ generalised s.fixed

pub tidy-fact : (s : Stated) → IsTidyStated s → IsTidyFact s.prop
tidy-fact s h = subst IsTidyFact (sym h.prop) (record {
  normal = normal-generalised s.fixed h.term.normal;
  closed = generalised-closed s.fixed h.term.closed;
  zeros = generalised-zero s.fixed h.term.fixed;
})

pub stated-tidy : (V : Vocabulary) (source : List ℕ) (span : Span) (s : Stated) → IsStated V source span (Ok s) → IsTidyStated s
stated-tidy V source span s (refuses reason h e) = absurd (cc)
stated-tidy V source span s (goes_on raw read (refuses reason h e)) = absurd (cc)
stated-tidy V source span s (goes_on raw read (goes_on t typed (refuses reason h e))) = absurd (cc)
stated-tidy V source span s (goes_on raw read (goes_on t typed (goes_on u normal (holds large e)))) = absurd (cc)
stated-tidy V source span s (goes_on raw read (goes_on t typed (goes_on u normal (passes small e)))) =
    let same : stated u ≡ s = cc in
    subst IsTidyStated same (record { term = tidy-term V prop raw t u prop-fixed typed normal; prop = refl })

-- Its generalised form tells the statement.
pub stated-again : (V : Vocabulary) (source : List ℕ) (span : Span) (s : Stated) → IsStated V source span (Ok s) → fixed_again s.prop ≡ s.fixed
stated-again V source span s h = let tidy = stated-tidy V source span s h in ap fixed_again tidy.prop ∙ term-again s.fixed tidy.term.fixed

pub typ-fixed : (V : Vocabulary) (source : List ℕ) (span : Span) (T : Typ) → IsStatedTyp V source span (Ok T) → IsFixedTyp T
typ-fixed V source span T (refuses reason h e) = absurd (cc)
typ-fixed V source span T (goes_on raw read h) = elaborated-fixed V raw T h

-- The axiom of a definition.
defining-tidy : (c : ℕ) (T : Typ) (body : Term) → IsFixedTyp T → IsTidyTerm body → IsTidyFact (defining c T body)
defining-tidy c T body fixed h = record {
  normal = ((λ a. a), ((λ a. a), tt, tt), normal-inst schematic_typ_variable body h.normal);
  closed = ((tt, tt), inst-closed body h.closed);
  zeros = (((zero, ((zero, (tt, tt)), tt)), zero), inst-zero body h.fixed);
}
  where
    zero : HasTypIndexes Zero (typ_instance schematic_typ_variable T)
    zero = typ-zero T (fixed-typ T fixed)

module _ (P : Place) (old : IsTidy P.content) where
  more : (added : List Decl) (R : Content) → Each IsTidyDecl added → R ≡ with_declarations P.content (P.content.declarations ++ added) → IsTidy R
  more added R h e = subst IsTidy (sym e) (each-append IsTidyDecl P.content.declarations added old h)

  by-given : (c D : Change) (r t : Result Change Reason) → r ≡ Ok c → t ≡ Ok D → r ≡ t → IsTidy D.next → IsTidy c.next
  by-given c D r t a b e g = let same : D ≡ c = cc in subst (λ (x : Change). IsTidy x.next) same g

  said : (command : Command) (Is : Result Change Reason → Type 0) → ((c : Change) → Is (Ok c) → IsTidy c.next) → (o : Outcome) → IsSaid P command Is (Ok o) → IsTidy o.next
  unfolding IsSaid
  said command Is tidy o (refuses reason h e) = absurd (cc)
  said command Is tidy o (goes_on c h e) = let next : o.next ≡ c.next = cc in subst IsTidy (sym next) (tidy c h)

  class-tidy : (n : ℕ) (names : List (List ℕ)) (c : Change) → IsClassChange P n names (Ok c) → IsTidy c.next
  unfolding IsClassChange IsNewClassChange
  class-tidy n names c (holds h e) = absurd (cc)
  class-tidy n names c (passes new (refuses reason h e)) = absurd (cc)
  class-tidy n names c (passes new (goes_on cs found e)) = by-given c (declaring P [] (ClassDecl (record { name = n; above = cs }))) _ _ refl refl e (more (ClassDecl (record { name = n; above = cs }) ∷ []) _ (tt, tt) refl)

  typ-tidy : (n params : ℕ) (c : Change) → IsTypeChange P n params (Ok c) → IsTidy c.next
  unfolding IsTypeChange
  typ-tidy n params c (holds h e) = absurd (cc)
  typ-tidy n params c (passes new e) = by-given c (declaring P [] (ConDecl n params)) _ _ refl refl e (more (ConDecl n params ∷ []) _ (tt, tt) refl)

  found-tidy : (a : Arity) (c : Change) → IsFoundArityChange P a (Ok c) → IsTidy c.next
  unfolding IsFoundArityChange
  found-tidy a c (holds h e) = absurd (cc)
  found-tidy a c (passes m (holds h e)) = absurd (cc)
  found-tidy a c (passes m (passes new (refuses reason h e))) = absurd (cc)
  found-tidy a c (passes m (passes new (goes_on fits h e))) = by-given c (declaring P [] (ArityDecl a)) _ _ refl refl e (more (ArityDecl a ∷ []) _ (tt, tt) refl)

  arity-tidy : (con : List ℕ) (domains : List (List (List ℕ))) (class : List ℕ) (c : Change) → IsArityChange P con domains class (Ok c) → IsTidy c.next
  unfolding IsArityChange IsDomainsArityChange IsClassArityChange
  arity-tidy con domains class c (refuses reason h e) = absurd (cc)
  arity-tidy con domains class c (goes_on k found (refuses reason h e)) = absurd (cc)
  arity-tidy con domains class c (goes_on k found (goes_on sorts made (refuses reason h e))) = absurd (cc)
  arity-tidy con domains class c (goes_on k found (goes_on sorts made (goes_on d there h))) = found-tidy (record { con = k; domains = sorts; class = d }) c h

  const-tidy : (n : ℕ) (span : Span) (c : Change) → IsConstChange P n span (Ok c) → IsTidy c.next
  unfolding IsConstChange IsNewConstChange
  const-tidy n span c (holds h e) = absurd (cc)
  const-tidy n span c (passes new (refuses reason h e)) = absurd (cc)
  const-tidy n span c (passes new (goes_on T h e)) = by-given c (declaring_const P n T) _ _ refl refl e (more (ConstDecl n (typ_instance schematic_typ_variable T) ∷ []) _ (tt, tt) refl)

  axiom-tidy : (n : ℕ) (span : Span) (c : Change) → IsAxiomChange P n span (Ok c) → IsTidy c.next
  unfolding IsAxiomChange
  axiom-tidy n span c (holds h e) = absurd (cc)
  axiom-tidy n span c (passes new (refuses reason h e)) = absurd (cc)
  axiom-tidy n span c (passes new (goes_on s h e)) =
      by-given c (declaring_axiom P n s.prop) _ _ refl refl e (more (AxiomDecl n s.prop ∷ []) _ (tidy-fact s (stated-tidy (vocabulary P) P.source span s h), tt) refl)

  body-tidy : (n f : ℕ) (T : Typ) (body : Term) (c : Change) → IsFixedTyp T → IsTidyTerm body → IsBodyChange P n f T body (Ok c) → IsTidy c.next
  unfolding IsBodyChange
  body-tidy n f T body c fixed term (holds h e) = absurd (cc)
  body-tidy n f T body c fixed term (passes a (holds h e)) = absurd (cc)
  body-tidy n f T body c fixed term (passes a (passes b (holds h e))) = absurd (cc)
  body-tidy n f T body c fixed term (passes a (passes b (passes d e))) =
      by-given c (declaring_definition P n f T body) _ _ refl refl e (more (definition n f T body) _ (tt, (defining-tidy n T body fixed term, tt)) refl)

  text-tidy : (x : List ℕ) (n f : ℕ) (span : Span) (T : Typ) (c : Change) → IsFixedTyp T → IsTextChange P x n f span T (Ok c) → IsTidy c.next
  unfolding IsTextChange IsTreeChange IsTypedChange IsTermChange
  text-tidy x n f span T c fixed (refuses reason h e) = absurd (cc)
  text-tidy x n f span T c fixed (goes_on raw read (refuses reason h e)) = absurd (cc)
  text-tidy x n f span T c fixed (goes_on raw read (goes_on body is (refuses reason h e))) = absurd (cc)
  text-tidy x n f span T c fixed (goes_on raw read (goes_on body is (goes_on t typed (refuses reason h e)))) = absurd (cc)
  text-tidy x n f span T c fixed (goes_on raw read (goes_on body is (goes_on t typed (goes_on u normal h)))) =
      body-tidy n f T u c fixed (tidy-term (vocabulary P) T body t u fixed typed normal) h

  definition-tidy : (x : List ℕ) (n f : ℕ) (typ text : Span) (c : Change) → IsDefinitionChange P x n f typ text (Ok c) → IsTidy c.next
  unfolding IsDefinitionChange IsNewDefinitionChange
  definition-tidy x n f typ text c (holds h e) = absurd (cc)
  definition-tidy x n f typ text c (passes new (refuses reason h e)) = absurd (cc)
  definition-tidy x n f typ text c (passes new (goes_on T h k)) = text-tidy x n f text T c (typ-fixed (vocabulary P) P.source typ T h) k

  lemma-tidy : (n : ℕ) (span : Span) (script : List Step) (o : Outcome) → IsLemmaOutcome P n span script (Ok o) → IsTidy o.next
  unfolding IsLemmaOutcome
  lemma-tidy n span script o (holds h e) = absurd (cc)
  lemma-tidy n span script o (passes new (refuses reason h e)) = absurd (cc)
  lemma-tidy n span script o (passes new (goes_on s h e)) =
      let same : forking P n script s ≡ o = cc in
      subst (λ (x : Outcome). IsTidy x.next) same (more (PromiseDecl n P.label s.prop ∷ []) _ (tidy-fact s (stated-tidy (vocabulary P) P.source span s h), tt) refl)

  outcome-tidy : (command : Command) (o : Outcome) → IsOutcome P command (Ok o) → IsTidy o.next
  outcome-tidy (ClassOf x names) o (n, is, h) = said (ClassOf x names) (IsClassChange P n names) (class-tidy n names) o h
  outcome-tidy (TypeDecl x params) o (n, is, h) = said (TypeDecl x params) (IsTypeChange P n params) (typ-tidy n params) o h
  outcome-tidy (ArityOf con domains class) o h = said (ArityOf con domains class) (IsArityChange P con domains class) (arity-tidy con domains class) o h
  outcome-tidy (ConstOf x span) o (n, is, h) = said (ConstOf x span) (IsConstChange P n span) (const-tidy n span) o h
  outcome-tidy (Axiom x span) o (n, is, h) = said (Axiom x span) (IsAxiomChange P n span) (axiom-tidy n span) o h
  outcome-tidy (Definition x typ text) o (n, f, is, also, h) = said (Definition x typ text) (IsDefinitionChange P x n f typ text) (definition-tidy x n f typ text) o h
  outcome-tidy (Lemma x span haves script) o (n, is, h) = lemma-tidy n span script o h

  declared-tidy : (command : Command) (o : Outcome) (answer : Result Outcome Reason) → IsOutcome P command answer → o ≡ outcome_of P command answer → IsTidy o.next
  declared-tidy command o (Ok p) h e = subst (λ (x : Outcome). IsTidy x.next) (sym e) (outcome-tidy command p h)
  declared-tidy command o (Err reason) h e = subst (λ (x : Outcome). IsTidy x.next) (sym e) old

pub declares_tidy : DeclaresTidy
declares_tidy texts source label Q command note next tidy h =
    declared-tidy (record { texts = texts; source = source; label = label; theory = h.theory; content = Q }) tidy command (record { note = note; next = next }) h.declares.answer h.declares.is h.declares.comes

-- A lemma's fork.
module _ (P : Place) where
  no-fork : (command : Command) (Is : Result Change Reason → Type 0) (o : Outcome) (f : Fork) → IsSaid P command Is (Ok o) → o.note ≡ Forked f → ⊥
  unfolding IsSaid
  no-fork command Is o f (refuses reason h e) is = absurd (cc)
  no-fork command Is o f (goes_on c h e) is = absurd (cc)

  lemma-fork : (n : ℕ) (span : Span) (script : List Step) (o : Outcome) (f : Fork) → IsLemmaOutcome P n span script (Ok o) → o.note ≡ Forked f → IsTidyFork f
  unfolding IsLemmaOutcome
  lemma-fork n span script o f (holds h e) is = absurd (cc)
  lemma-fork n span script o f (passes new (refuses reason h e)) is = absurd (cc)
  lemma-fork n span script o f (passes new (goes_on s h e)) is =
      let tidy = stated-tidy (vocabulary P) P.source span s h in
      let same : record { label = P.label; name = n; lemma = n; content = P.content; fixed = s.fixed; prop = s.prop; script = script } ≡ f = cc in
      subst IsTidyFork same (record { normal = tidy.term.normal; closed = tidy.term.closed; fixed = tidy.term.fixed; prop = tidy.prop })

  outcome-fork : (command : Command) (o : Outcome) (f : Fork) → IsOutcome P command (Ok o) → o.note ≡ Forked f → IsTidyFork f
  outcome-fork (ClassOf x names) o f (n, is, h) e = absurd (no-fork (ClassOf x names) (IsClassChange P n names) o f h e)
  outcome-fork (TypeDecl x params) o f (n, is, h) e = absurd (no-fork (TypeDecl x params) (IsTypeChange P n params) o f h e)
  outcome-fork (ArityOf con domains class) o f h e = absurd (no-fork (ArityOf con domains class) (IsArityChange P con domains class) o f h e)
  outcome-fork (ConstOf x span) o f (n, is, h) e = absurd (no-fork (ConstOf x span) (IsConstChange P n span) o f h e)
  outcome-fork (Axiom x span) o f (n, is, h) e = absurd (no-fork (Axiom x span) (IsAxiomChange P n span) o f h e)
  outcome-fork (Definition x typ text) o f (n, g, is, also, h) e = absurd (no-fork (Definition x typ text) (IsDefinitionChange P x n g typ text) o f h e)
  outcome-fork (Lemma x span haves script) o f (n, is, h) e = lemma-fork n span script o f h e

  declared-fork : (command : Command) (o : Outcome) (f : Fork) (answer : Result Outcome Reason) → IsOutcome P command answer → o ≡ outcome_of P command answer → o.note ≡ Forked f → IsTidyFork f
  declared-fork command o f (Ok p) h e is = outcome-fork command p f h (ap (λ (x : Outcome). x.note) (sym e) ∙ is)
  declared-fork command o f (Err reason) h e is = absurd (cc)

pub forks_tidy : ForksTidy
forks_tidy texts source label Q command fork next h =
    declared-fork (record { texts = texts; source = source; label = label; theory = h.theory; content = Q }) command (record { note = Forked fork; next = next }) fork h.declares.answer h.declares.is h.declares.comes refl

pub pure_is_tidy : PureIsTidy
pure_is_tidy = (tt, (tt, (tt, (tt, (tt, (tt, (record { normal = ((λ a. a), ((λ a. a), tt, ((λ a. a), tt, tt)), tt); closed = ((tt, (tt, tt)), tt); zeros = (((tt, ((tt, (tt, tt)), tt)), ((tt, (tt, tt)), (refl, tt))), (refl, tt)) }, tt)))))))
