-- Each command keeps a content good.
use Rattle.std.proofs.Common.{◌≡◌, ℕ, List, [], ◌∷◌, ◌++◌, length, refl, sym, subst, inl, inr, append_assoc}
use Rattle.std.specs.Prelude.{Option, Some, None, Ok}
use Rattle.std.specs.List.Sorted.{IsStrictlyIncreasing}
use Rattle.std.proofs.lemmas.Bool.Decides.{eqb_tells}
use Rattle.pure_text.specs.Lists.{IsIn, Each, EachTwo}
use Rattle.pure_text.proofs.ListLaws.{each_of, each_imply, in_split}
use Rattle.pure_definitions.specs.Names.{Label}
use Rattle.pure_definitions.specs.Types.Typ.{Typ}
use Rattle.pure_definitions.specs.Types.Order.{Class, Arity, Algebra, IsCoregular}
use Rattle.pure_definitions.specs.Terms.Term.{Term}
use Rattle.pure_definitions.specs.Terms.Subst.{typ_instance}
use Rattle.pure_definitions.specs.Declarations.Decl.{Decl, ClassDecl, ConDecl, ArityDecl, ConstDecl, AxiomDecl, PromiseDecl, classes_of, arities_of, algebra_of, IsDeclaredClass}
use Rattle.pure_term_laws.proofs.DeclLaws.{declared_arities}
use Rattle.pure_order.specs.OrderTables.Classes.{IsDeclared, Follows}
use Rattle.pure_order.specs.OrderTables.Arities.{IsKnown, with_class, with_arity}
use Rattle.pure_order.proofs.OrderTables.BelowLaws.{antisymmetric, antisymmetric_at, follows-one_more}
use Rattle.pure_order.proofs.OrderTables.CoregularLaws.{coregular_with_class}
use Rattle.pure_theory_tables.specs.Facts as Facts
use Rattle.pure_theory_tables.specs.Facts.{fact, fact_decl}
use Rattle.pure_theory_tables.proofs.AlgebraLaws.{class_algebra, arity_algebra}
use Rattle.pure_grammar.specs.Theories.TheoryText.{Span, Command}
use Rattle.pure_logic.specs.Content.{Content, IsStatement, definition, schematic_typ_variable}
use Rattle.pure_logic.specs.PureContent.{pure_content}
use Rattle.pure_lookup.specs.Meaning.{constructors, constants, facts}
use Rattle.pure_lookup.specs.Laws.{IsInSession}
use Rattle.pure_certify.proofs.PartLemmas.{declared_class, class_declared}
use Rattle.pure_theory.specs.Stage.{IsSound, IsStage, with_declarations, with_decl}
use Rattle.pure_theory.specs.Refusals.{HasCon, IsLabelAbove}
use Rattle.pure_theory.proofs.GrowthLaws.{typ_stage, const_stage, axiom_stage, promise_stage, class_stage, arity_stage}
use Rattle.pure_theory.proofs.DefinitionLaws.{made_schematic, defined_typ-certified, definition_is_statement}
use Rattle.pure_theory.proofs.LookupLaws.{declared_fact}
use Rattle.pure_theory.proofs.PureLaws.{pure_is_sound}
use Rattle.pure_statements.specs.declared.stated.Stated.{Stated}
use Rattle.pure_statements.specs.Statement.{IsStated, IsStatedTyp}
use Rattle.pure_statements.proofs.SchematicLaws.{certified-schematic}
use Rattle.pure_elab.specs.Sound.{AreCertifiedDeclarations}
use Rattle.pure_declare.specs.Lookups.{IsWrittenSort}
use Rattle.pure_declare.specs.Notes.{Outcome}
use Rattle.pure_declare.specs.Commands.{Place, vocabulary, IsTaken, IsMiscounted, defining}
use Rattle.pure_declare.specs.Good.{IsGood, PureIsGood, DeclaresGood, GoodIsCertified}
use Rattle.pure_declare.proofs.KnownLaws.{classes-known}
use Rattle.pure_declare.proofs.LookupSteps.{sorts-known, typ-known, one_class-known}
use Rattle.pure_declare.proofs.QuotedLaws.{certified-declarations}
use Rattle.pure_declare.proofs.BoundLaws.{stated-of, typ-of, body-of}
use Rattle.pure_declare.proofs.DoneLaws.{IsFoundArity, IsFoundDefinition, IsChanged, a_class, a_typ, an_arity, a_const, an_axiom, a_definition, IsDone, changes, binds, is_refused, declared-done}

-- The order of declaration is enough.
good : (Q : Content) → IsSound Q → Follows [] (classes_of Q.declarations) → IsGood Q
good Q sound ordered = record { sound = sound; ordered = ordered; antisymmetric = antisymmetric_at (algebra_of Q.declarations) (algebra_of Q.declarations) refl (antisymmetric (classes_of Q.declarations) ordered) }

ordered-at : (A B : Algebra) → B ≡ A → Follows [] A.classes → Follows [] B.classes
ordered-at A B same f = subst (λ (X : Algebra). Follows [] X.classes) (sym same) f

-- The classes that arities name are declared.
arities-known : (ds : List Decl) → AreCertifiedDeclarations ds → Each (IsKnown (classes_of ds)) (arities_of ds)
arities-known ds h = each_of (IsKnown (classes_of ds)) (arities_of ds) (λ a m.
    let there = (declared_arities ds a).0 m in
    record {
      domains = each_imply (Each (IsDeclaredClass ds)) (Each (IsDeclared (classes_of ds))) a.domains (λ s k. each_imply (IsDeclaredClass ds) (IsDeclared (classes_of ds)) s (class_declared ds) k) (h.domains a there);
      class = class_declared ds a.class (h.classes a there);
    })

-- Sorts that are written ascend.
sorts-ascend : (P : Place) (ws : List (List (List ℕ))) (ss : List (List ℕ)) → EachTwo (IsWrittenSort (vocabulary P)) ws ss → Each IsStrictlyIncreasing ss
sorts-ascend P [] [] h = tt
sorts-ascend P [] (s ∷ ss) h = absurd h
sorts-ascend P (w ∷ ws) [] h = absurd h
sorts-ascend P (w ∷ ws) (s ∷ ss) h = (h.0.2.ascend, sorts-ascend P ws ss h.1)

-- A count that isn't another is this one.
counted-so : (ds : List Decl) (a : Arity) (n : ℕ) → (IsMiscounted ds a → ⊥) → IsIn (ConDecl a.con n) ds → HasCon ds a
counted-so ds a n none i = elim (eqb_tells n (length a.domains)) [ inl same ↦ subst (λ (j : ℕ). IsIn (ConDecl a.con j) ds) same.1 i | inr other ↦ absurd (none (n, i, other.1)) ]

-- A fact is no constant.
no-constant : (f : ℕ) (l : Option Label) (B : Term) (c : ℕ) (U : Typ) → fact f l B ≡ ConstDecl c U → ⊥
no-constant f None B c U e = absurd (cc)
no-constant f (Some l) B c U e = absurd (cc)

module _ (P : Place) (session : IsInSession P.texts P.content) (g : IsGood P.content) (labels : IsLabelAbove P.content.declarations P.label) where
  stage : IsStage P.content (algebra_of P.content.declarations)
  stage = record { sound = g.sound; order = refl }

  -- A content with the same classes.
  stage-good : (R : Content) → IsStage R (algebra_of P.content.declarations) → IsGood R
  stage-good R h = good R h.sound (ordered-at (algebra_of P.content.declarations) (algebra_of R.declarations) (sym h.order) g.ordered)

  class-good : (k : Class) → (IsDeclaredClass P.content.declarations k.name → ⊥) → Each (IsDeclaredClass P.content.declarations) k.above → IsGood (with_decl P.content (ClassDecl k))
  class-good k new above =
      let ds = P.content.declarations in
      let among : Each (IsDeclared (classes_of ds)) k.above = each_imply (IsDeclaredClass ds) (IsDeclared (classes_of ds)) k.above (class_declared ds) above in
      let fresh : IsDeclared (classes_of ds) k.name → ⊥ = λ m. new (declared_class ds k.name m) in
      let coregular : IsCoregular (with_class (algebra_of ds) k) = coregular_with_class (algebra_of ds) k g.ordered fresh (arities-known ds (certified-declarations P.content g.sound)) g.sound.content.coregular in
      good (with_decl P.content (ClassDecl k)) (class_stage P.content g.sound (algebra_of ds) (with_class (algebra_of ds) k) refl coregular k new among refl).sound
      (ordered-at (with_class (algebra_of ds) k) (algebra_of (ds ++ ClassDecl k ∷ [])) (class_algebra ds k) (follows-one_more [] (classes_of ds) k g.ordered fresh among))

  arity-good : (a : Arity) → IsFoundArity P a → IsGood (with_decl P.content (ArityDecl a))
  arity-good a is =
      let ds = P.content.declarations in
      let content = g.sound.content in
      let con = typ-known P.texts P.content session content is.con.0 a.con is.con.1 in
      let sorts = sorts-known P.texts P.content session content is.domains.0 a.domains is.domains.1 in
      let class = one_class-known P.texts P.content session content is.class.0 a.class is.class.1 in
      let known : IsKnown (classes_of ds) a = record {
        domains = each_imply (Each (IsDeclaredClass ds)) (Each (IsDeclared (classes_of ds))) a.domains (λ s k. each_imply (IsDeclaredClass ds) (IsDeclared (classes_of ds)) s (class_declared ds) k) sorts;
        class = class_declared ds a.class class;
      } in
      let there : HasCon ds a = counted-so ds a con.0 is.counted con.1 in
      good (with_decl P.content (ArityDecl a))
      (arity_stage P.content g.sound (algebra_of ds) (with_arity (algebra_of ds) a) refl is.coregular a there known is.new (sorts-ascend P is.domains.0 a.domains is.domains.1) refl).sound
      (ordered-at (with_arity (algebra_of ds) a) (algebra_of (ds ++ ArityDecl a ∷ [])) (arity_algebra ds a) g.ordered)

  typ-good : (n params : ℕ) → (IsTaken P constructors n → ⊥) → IsGood (with_decl P.content (ConDecl n params))
  typ-good n params new = stage-good (with_decl P.content (ConDecl n params)) (typ_stage P.content (algebra_of P.content.declarations) stage n params (λ m i. new (m, i)))

  const-good : (n : ℕ) (span : Span) (T : Typ) → (IsTaken P constants n → ⊥) → IsStatedTyp (vocabulary P) P.source span (Ok T) → IsGood (with_decl P.content (ConstDecl n (typ_instance schematic_typ_variable T)))
  const-good n span T new h =
      let U = typ_instance schematic_typ_variable T in
      let certified = certified-schematic P.content T (typ-of P session g.sound P.source span T h) in
      stage-good (with_decl P.content (ConstDecl n U)) (const_stage P.content (algebra_of P.content.declarations) stage n U (λ V m. new (V, m)) certified (made_schematic T))

  -- No fact has the name.
  none-stated : (x : ℕ) → (IsTaken P facts x → ⊥) → (s : Facts.Stated) → IsIn (fact_decl x s) P.content.declarations → ⊥
  none-stated x new s m = new (declared_fact P.content.declarations x s m)

  axiom-good : (n : ℕ) (span : Span) (s : Stated) → (IsTaken P facts n → ⊥) → IsStated (vocabulary P) P.source span (Ok s) → IsGood (with_decl P.content (AxiomDecl n s.prop))
  axiom-good n span s new h =
      stage-good (with_decl P.content (AxiomDecl n s.prop))
      (axiom_stage P.content (algebra_of P.content.declarations) stage n s.prop (none-stated n new) (stated-of P session g.sound P.source span s h).statement)

  pub promise-good : (n : ℕ) (span : Span) (s : Stated) → (IsTaken P facts n → ⊥) → IsStated (vocabulary P) P.source span (Ok s) → IsGood (with_decl P.content (PromiseDecl n P.label s.prop))
  promise-good n span s new h =
      stage-good (with_decl P.content (PromiseDecl n P.label s.prop))
      (promise_stage P.content (algebra_of P.content.declarations) stage n P.label s.prop (none-stated n new) labels (stated-of P session g.sound P.source span s h).statement)

  -- Nor has one where a constant is declared besides.
  none-later : (c f : ℕ) (U : Typ) → (IsTaken P facts f → ⊥) → (s : Facts.Stated) → IsIn (fact_decl f s) (P.content.declarations ++ ConstDecl c U ∷ []) → ⊥
  none-later c f U new s m = elim (in_split (fact_decl f s) P.content.declarations (ConstDecl c U ∷ []) m) [
    | inl old ↦ none-stated f new s old
    | inr one ↦ elim one [ inl same ↦ no-constant f s.label s.prop c U same | inr none ↦ absurd none ]
  ]

  definition-good : (c f : ℕ) (T : Typ) (body : Term) → IsFoundDefinition P c f T body → IsGood (with_declarations P.content (P.content.declarations ++ definition c f T body))
  definition-good c f T body is =
      let ds = P.content.declarations in
      let U = typ_instance schematic_typ_variable T in
      let B = defining c T body in
      let R = with_decl P.content (ConstDecl c U) in
      let certified = body-of P session g.sound P.source is.typ.0 T is.term.0 is.term.1 body is.typ.1 is.term.2 is.term.3 in
      let first : IsStage R (algebra_of ds) = const_stage P.content (algebra_of ds) stage c U (λ V m. is.new_constant (V, m)) (defined_typ-certified P.content g.sound T body certified) (made_schematic T) in
      let statement : IsStatement R B = definition_is_statement P.content g.sound T body certified c is.closed in
      let second : IsStage (with_decl R (AxiomDecl f B)) (algebra_of ds) = axiom_stage R (algebra_of ds) first f B (none-later c f U is.new_fact) statement in
      subst (λ (es : List Decl). IsGood (with_declarations P.content es)) (append_assoc ds (ConstDecl c U ∷ []) (AxiomDecl f B ∷ [])) (stage-good (with_decl R (AxiomDecl f B)) second)

  changed-good : (R : Content) → IsChanged P R → IsGood R
  changed-good R (a_class k names new found e) = subst IsGood (sym e) (class-good k new (classes-known P.texts P.content session g.sound.content names k.above found))
  changed-good R (a_typ n params new e) = subst IsGood (sym e) (typ-good n params new)
  changed-good R (an_arity a is e) = subst IsGood (sym e) (arity-good a is)
  changed-good R (a_const n span T new h e) = subst IsGood (sym e) (const-good n span T new h)
  changed-good R (an_axiom n span s new h e) = subst IsGood (sym e) (axiom-good n span s new h)
  changed-good R (a_definition c f T body is e) = subst IsGood (sym e) (definition-good c f T body is)

  done-good : (command : Command) (o : Outcome) → IsDone P command o → IsGood o.next
  done-good command o (changes row is h) = changed-good o.next h
  done-good command o (binds b) = subst (λ (x : Outcome). IsGood x.next) (sym b.is) (promise-good b.number b.span b.stated b.new b.states)
  done-good command o (is_refused row e) = subst (λ (x : Outcome). IsGood x.next) (sym e) g

pub declares_good : DeclaresGood
declares_good texts source label Q command note next session g labels h =
    let P : Place = record { texts = texts; source = source; label = label; theory = h.theory; content = Q } in
    let o : Outcome = record { note = note; next = next } in
    done-good P session g labels command o (declared-done P command o h.declares)

pub pure_is_good : PureIsGood
pure_is_good = good pure_content pure_is_sound tt

pub good_is_certified : GoodIsCertified
good_is_certified Q g = record { content = g.sound.content; above = g.sound.above_pure; certified = certified-declarations Q g.sound }
