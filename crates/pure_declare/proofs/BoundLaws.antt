-- What is stated over a sound content is certified, and so are the statements of lemmas that are bound.
use Rattle.std.proofs.Common.{◌≡◌, ℕ, List, refl, sym, ◌∙◌, ap, subst}
use Rattle.std.specs.Prelude.{Ok}
use Rattle.pure_definitions.specs.Types.Typ.{Typ, prop}
use Rattle.pure_definitions.specs.Terms.Term.{Term}
use Rattle.pure_definitions.specs.Declarations.Decl.{PromiseDecl}
use Rattle.pure_definitions.specs.Declarations.Certified.{IsCertifiedTyp}
use Rattle.pure_grammar.specs.Theories.TheoryText.{Span, Command}
use Rattle.pure_grammar.specs.Terms.RawTree.{RawTree}
use Rattle.pure_logic.specs.Content.{Content, IsCertifiedOf, IsProposition, IsStatement}
use Rattle.pure_lookup.specs.Laws.{IsInSession}
use Rattle.pure_theory.specs.Stage.{IsSound, with_decl}
use Rattle.pure_elab.specs.Sound.{IsSoundVocabulary}
use Rattle.pure_elab.proofs.CertifiedAnswerLaws.{answer_is_certified, all_propositions, typ_certified}
use Rattle.pure_statements.specs.declared.stated.Stated.{Stated}
use Rattle.pure_statements.specs.Chain.{refuses, goes_on, holds, passes}
use Rattle.pure_statements.specs.Schematic.{generalised}
use Rattle.pure_statements.specs.Statement.{IsNormalised, IsStated, IsStatedTyp, stated}
use Rattle.pure_statements.specs.Elaborated.{IsTypedTerm}
use Rattle.pure_statements.proofs.ElaboratedLaws.{elaborated-fixed, normal-certified}
use Rattle.pure_statements.proofs.StatedLaws.{normal-statement}
use Rattle.pure_declare.specs.Notes.{Said, Forked, Fork, Outcome}
use Rattle.pure_declare.specs.Commands.{Place, vocabulary}
use Rattle.pure_declare.specs.Bound.{IsBoundAs, ForksBound}
use Rattle.pure_declare.specs.Promised.{ForksPromised}
use Rattle.pure_declare.proofs.QuotedLaws.{sound-vocabulary}
use Rattle.pure_declare.proofs.DoneLaws.{IsBinding, IsDone, changes, binds, is_refused, declared-done}

-- The lemma that is bound is the one that the command leaves.
module _ (P : Place) (command : Command) (o : Outcome) (f : Fork) (is : o.note ≡ Forked f) where
  abbrev fork_of : IsBinding P command o → Fork
  fork_of b = record { label = P.label; name = b.number; lemma = b.number; content = P.content; fixed = b.stated.fixed; prop = b.stated.prop; script = b.script }

  fork-same : (b : IsBinding P command o) → fork_of b ≡ f
  fork-same b =
      let note : Forked (fork_of b) ≡ Forked f = ap (λ (x : Outcome). x.note) (sym b.is) ∙ is in
      cc

  bound-so : IsDone P command o → IsBinding P command o
  bound-so (changes row said h) = let no_fork : Said row ≡ Forked f = sym said ∙ is in absurd (cc)
  bound-so (binds b) = b
  bound-so (is_refused row same) = let no_fork : Said row ≡ Forked f = ap (λ (x : Outcome). x.note) (sym same) ∙ is in absurd (cc)

  promised-so : IsBinding P command o → o.next ≡ with_decl P.content (PromiseDecl f.name f.label f.prop)
  promised-so b = ap (λ (x : Outcome). x.next) b.is ∙ ap (λ (g : Fork). with_decl P.content (PromiseDecl g.name g.label g.prop)) (fork-same b)

-- A statement of the content: a proposition, and generalised.
pub record IsStatedOf (Q : Content) (s : Stated) : Type 0 where
  pub proposition : IsProposition Q s.fixed
  pub statement : IsStatement Q s.prop

module _ (P : Place) (session : IsInSession P.texts P.content) (sound : IsSound P.content) where
  vocabulary-sound : IsSoundVocabulary P.content.declarations (vocabulary P)
  vocabulary-sound = sound-vocabulary P.texts P.content session sound

  pub stated-of : (source : List ℕ) (span : Span) (s : Stated) → IsStated (vocabulary P) source span (Ok s) → IsStatedOf P.content s
  stated-of source span s (refuses reason h e) = absurd (cc)
  stated-of source span s (goes_on raw read (refuses reason h e)) = absurd (cc)
  stated-of source span s (goes_on raw read (goes_on t typed (refuses reason h e))) = absurd (cc)
  stated-of source span s (goes_on raw read (goes_on t typed (goes_on u normal (holds large e)))) = absurd (cc)
  stated-of source span s (goes_on raw read (goes_on t typed (goes_on u normal (passes small e)))) =
      let same : stated u ≡ s = cc in
      let whole : IsProposition P.content t = all_propositions (vocabulary P) raw prop (Ok t) refl typed P.content vocabulary-sound in
      let short : IsProposition P.content u = normal-certified t u normal P.content prop whole in
      subst (IsStatedOf P.content) same (record { proposition = short; statement = normal-statement u (generalised u) refl P.content sound.content short })

  -- A type that is stated is certified.
  pub typ-of : (source : List ℕ) (span : Span) (T : Typ) → IsStatedTyp (vocabulary P) source span (Ok T) → IsCertifiedTyp P.content.declarations T
  typ-of source span T (refuses reason h e) = absurd (cc)
  typ-of source span T (goes_on raw read h) = typ_certified (vocabulary P) raw T h P.content vocabulary-sound

  -- A normal form that is elaborated at a type that is stated is certified of it.
  pub body-of : (source : List ℕ) (span : Span) (T : Typ) (raw : RawTree) (t u : Term) → IsStatedTyp (vocabulary P) source span (Ok T) → IsTypedTerm (vocabulary P) T raw (Ok t) → IsNormalised t (Ok u) → IsCertifiedOf P.content u T
  body-of source span T raw t u (refuses reason h e) typed normal = absurd (cc)
  body-of source span T raw t u (goes_on tree read h) typed normal =
      let certified = typ_certified (vocabulary P) tree T h P.content vocabulary-sound in
      normal-certified t u normal P.content T (answer_is_certified P.content (vocabulary P) vocabulary-sound raw T t (elaborated-fixed (vocabulary P) tree T h) certified typed)

  binding-bound : (command : Command) (o : Outcome) (f : Fork) → o.note ≡ Forked f → IsBinding P command o → IsBoundAs P.label P.content command f
  binding-bound command o f is b = subst (IsBoundAs P.label P.content command) (fork-same P command o f is b) (record {
    label_is = refl;
    content_is = refl;
    proposition = (stated-of P.source b.span b.stated b.states).proposition;
    from = (b.base, b.span, b.haves, b.command_is);
  })

pub forks_bound : ForksBound
forks_bound texts source label Q command f next session sound h =
    let P : Place = record { texts = texts; source = source; label = label; theory = h.theory; content = Q } in
    let o : Outcome = record { note = Forked f; next = next } in
    binding-bound P session sound command o f refl (bound-so P command o f refl (declared-done P command o h.declares))

pub forks_promised : ForksPromised
forks_promised texts source label Q command f next h =
    let P : Place = record { texts = texts; source = source; label = label; theory = h.theory; content = Q } in
    let o : Outcome = record { note = Forked f; next = next } in
    promised-so P command o f refl (bound-so P command o f refl (declared-done P command o h.declares))
