-- A command has one outcome at most.
use Rattle.std.proofs.Common.{◌≡◌, ◌⊎◌, ◌≤◌, ℕ, List, [], ◌∷◌, refl, sym, ◌∙◌, ap, subst, inl, arith}
use Rattle.std.specs.Prelude.{Result}
use Rattle.std.proofs.lemmas.Option.{same_Some}
use Rattle.pure_text.proofs.ListLaws.{in-append_right}
use Rattle.pure_definitions.specs.Types.Typ.{Typ}
use Rattle.pure_definitions.specs.Types.Order.{Arity, Algebra, IsCoregular}
use Rattle.pure_definitions.specs.Terms.Term.{Term}
use Rattle.pure_definitions.specs.Declarations.Decl.{ClassDecl, ConDecl, ArityDecl, algebra_of}
use Rattle.pure_order.specs.OrderTables.Arities.{with_arity}
use Rattle.pure_order.specs.OrderTables.Checks.{IsLeastInConflict}
use Rattle.pure_order.specs.OrderTables.Classes.{IsAntisymmetric}
use Rattle.pure_order.specs.OrderTables.Unknown.{HasArityFor}
use Rattle.pure_grammar.specs.Theories.TheoryText.{Span, Step, Command, Class as ClassOf, TypeDecl, Arity as ArityOf, Const, Axiom, Definition, Lemma}
use Rattle.pure_typ.specs.NameTexts.{HasText}
use Rattle.pure_logic.specs.Content.{Content, TheoryId}
use Rattle.pure_lookup.specs.Meaning.{classes, constructors, constants, facts, full_text}
use Rattle.pure_lookup.specs.Laws.{IsInSession}
use Rattle.pure_lookup.proofs.TextLemmas.{one_name}
use Rattle.pure_theory.specs.Definitions.{HasVariable, HasExtraTyp}
use Rattle.pure_statements.specs.declared.reason.Reason.{Reason}
use Rattle.pure_statements.specs.declared.reason.Reason.TheVariants.{Duplicate, UnknownClass, UnknownType, WrongCount, NotCoregular, TooLarge, NotDefinition, NotClosed, ExtraTypeVariable}
use Rattle.pure_statements.specs.Chain.{Then, Unless, Gives, Found}
use Rattle.pure_statements.specs.Quoted.{IsReadTerm}
use Rattle.pure_statements.specs.Elaborated.{IsTypedTerm}
use Rattle.pure_statements.specs.Statement.{IsNormalised, IsLarge, IsStated, IsStatedTyp}
use Rattle.pure_statements.specs.Body.{body_of}
use Rattle.pure_declare.specs.Notes.{Outcome, Change}
use Rattle.pure_declare.specs.Lookups.{AreWrittenClasses, AreWrittenSorts}
use Rattle.pure_declare.specs.Commands.{Place, IsOwnText, vocabulary, IsNameOf, IsTaken, IsOutcome, IsSaid, IsMiscounted, IsFitting, IsNewClassChange, IsClassChange, IsTypeChange, IsFoundArityChange, IsClassArityChange, IsDomainsArityChange, IsArityChange, IsNewConstChange, IsConstChange, IsAxiomChange, IsBodyChange, IsTermChange, IsTypedChange, IsTreeChange, IsTextChange, IsNewDefinitionChange, IsDefinitionChange, IsLemmaOutcome, declaring, declaring_const, declaring_definition, declaring_axiom, defining, saying, forking, fact_base}
use Rattle.pure_declare.specs.First.{IsDeclaredAs, outcome_of}
use Rattle.pure_declare.specs.Once.{DeclaresOnce}
use Rattle.pure_declare.proofs.OnceSteps.{Once, once-by, gives-once, found-once, then-once, unless-once, read_term-once, typed-once, normalised-once, stated_typ-once, stated-once, classes-once, sorts-once}

-- Of an arity that doesn't fit there is one least class in conflict.
module _ (A : Algebra) (a : Arity) where
  fits-no_conflict : (d : ℕ) → IsCoregular (with_arity A a) → IsLeastInConflict (with_arity A a) a d → ⊥
  fits-no_conflict d coregular least =
      let b = least.is in
      b.1.conflict (coregular a b.0 (in-append_right a A.arities (a ∷ []) (inl refl)) b.1.declared (sym b.1.con))

  no-less : (d e : ℕ) → IsLeastInConflict (with_arity A a) a d → IsLeastInConflict (with_arity A a) a e → d ≤ e
  no-less d e h k = let b = k.is in subst (λ n. d ≤ n) b.2 (h.least b.0 b.1)

  one-least : (d e : ℕ) → IsLeastInConflict (with_arity A a) a d → IsLeastInConflict (with_arity A a) a e → d ≡ e
  one-least d e h k = let under = no-less d e h k in let over = no-less e d k h in omega arith

  fitting-once : Once (IsFitting A a)
  fitting-once = once-by (IsFitting A a) (λ x y h k. refl) (λ x p h k. fits-no_conflict k.0 h k.1) (λ p q h k. h.2 ∙ ap (λ d. NotCoregular a.con a.class d) (one-least h.0 k.0 h.1 k.1) ∙ sym k.2)

module _ (P : Place) (anti : IsAntisymmetric (algebra_of P.content.declarations)) where
  said-once : (command : Command) (Is : Result Change Reason → Type 0) → Once Is → Once (IsSaid P command Is)
  unfolding IsSaid
  said-once command Is once = then-once Is (λ c. Gives (saying P command c)) once (λ c. gives-once (saying P command c))

  class-once : (n : ℕ) (names : List (List ℕ)) → Once (IsClassChange P n names)
  unfolding IsClassChange IsNewClassChange
  class-once n names =
      unless-once (IsTaken P classes n) Duplicate (IsNewClassChange P n names)
      (then-once (AreWrittenClasses (vocabulary P) names) (λ cs. Gives (declaring P [] (ClassDecl (record { name = n; above = cs })))) (classes-once (vocabulary P) names)
      (λ cs. gives-once (declaring P [] (ClassDecl (record { name = n; above = cs })))))

  typ-once : (n params : ℕ) → Once (IsTypeChange P n params)
  unfolding IsTypeChange
  typ-once n params = unless-once (IsTaken P constructors n) Duplicate (Gives (declaring P [] (ConDecl n params))) (gives-once (declaring P [] (ConDecl n params)))

  found_arity-once : (a : Arity) → Once (IsFoundArityChange P a)
  unfolding IsFoundArityChange
  found_arity-once a =
      unless-once (IsMiscounted P.content.declarations a) WrongCount
      (Unless (HasArityFor (algebra_of P.content.declarations) a.con a.class) Duplicate (Then (IsFitting (algebra_of P.content.declarations) a) (λ fits. Gives (declaring P [] (ArityDecl a)))))
      (unless-once (HasArityFor (algebra_of P.content.declarations) a.con a.class) Duplicate (Then (IsFitting (algebra_of P.content.declarations) a) (λ fits. Gives (declaring P [] (ArityDecl a))))
      (then-once (IsFitting (algebra_of P.content.declarations) a) (λ fits. Gives (declaring P [] (ArityDecl a))) (fitting-once (algebra_of P.content.declarations) a) (λ fits. gives-once (declaring P [] (ArityDecl a)))))

  arity-once : (con : List ℕ) (domains : List (List (List ℕ))) (class : List ℕ) → Once (IsArityChange P con domains class)
  unfolding IsArityChange IsDomainsArityChange IsClassArityChange
  arity-once con domains class =
      then-once (Found ((vocabulary P).constructor_written con) UnknownType) (λ k. IsDomainsArityChange P k domains class) (found-once ((vocabulary P).constructor_written con) UnknownType)
      (λ k. then-once (AreWrittenSorts (vocabulary P) domains) (λ sorts. IsClassArityChange P k sorts class) (sorts-once (vocabulary P) domains)
      (λ sorts. then-once (Found ((vocabulary P).class_written class) UnknownClass) (λ c. IsFoundArityChange P (record { con = k; domains = sorts; class = c })) (found-once ((vocabulary P).class_written class) UnknownClass)
      (λ c. found_arity-once (record { con = k; domains = sorts; class = c }))))

  const-once : (n : ℕ) (span : Span) → Once (IsConstChange P n span)
  unfolding IsConstChange IsNewConstChange
  const-once n span =
      unless-once (IsTaken P constants n) Duplicate (IsNewConstChange P n span)
      (then-once (IsStatedTyp (vocabulary P) P.source span) (λ T. Gives (declaring_const P n T)) (stated_typ-once (vocabulary P) P.source span) (λ T. gives-once (declaring_const P n T)))

  axiom-once : (n : ℕ) (span : Span) → Once (IsAxiomChange P n span)
  unfolding IsAxiomChange
  axiom-once n span =
      unless-once (IsTaken P facts n) Duplicate (Then (IsStated (vocabulary P) P.source span) (λ s. Gives (declaring_axiom P n s.prop)))
      (then-once (IsStated (vocabulary P) P.source span) (λ s. Gives (declaring_axiom P n s.prop)) (stated-once (vocabulary P) anti P.source span) (λ s. gives-once (declaring_axiom P n s.prop)))

  body-once : (n f : ℕ) (T : Typ) (body : Term) → Once (IsBodyChange P n f T body)
  unfolding IsBodyChange
  body-once n f T body =
      unless-once (HasVariable body) NotClosed (Unless (HasExtraTyp T body) ExtraTypeVariable (Unless (IsLarge (defining n T body)) TooLarge (Gives (declaring_definition P n f T body))))
      (unless-once (HasExtraTyp T body) ExtraTypeVariable (Unless (IsLarge (defining n T body)) TooLarge (Gives (declaring_definition P n f T body)))
      (unless-once (IsLarge (defining n T body)) TooLarge (Gives (declaring_definition P n f T body)) (gives-once (declaring_definition P n f T body))))

  text-once : (x : List ℕ) (n f : ℕ) (text : Span) (T : Typ) → Once (IsTextChange P x n f text T)
  unfolding IsTextChange IsTreeChange IsTypedChange IsTermChange
  text-once x n f text T =
      then-once (IsReadTerm P.source text) (IsTreeChange P x n f T) (read_term-once P.source text)
      (λ raw. then-once (Found (body_of x raw) NotDefinition) (IsTypedChange P n f T) (found-once (body_of x raw) NotDefinition)
      (λ body. then-once (IsTypedTerm (vocabulary P) T body) (IsTermChange P n f T) (typed-once (vocabulary P) anti T body)
      (λ t. then-once (IsNormalised t) (IsBodyChange P n f T) (normalised-once t) (body-once n f T))))

  definition-once : (x : List ℕ) (n f : ℕ) (typ text : Span) → Once (IsDefinitionChange P x n f typ text)
  unfolding IsDefinitionChange IsNewDefinitionChange
  definition-once x n f typ text =
      unless-once (IsTaken P constants n ⊎ IsTaken P facts f) Duplicate (IsNewDefinitionChange P x n f typ text)
      (then-once (IsStatedTyp (vocabulary P) P.source typ) (IsTextChange P x n f text) (stated_typ-once (vocabulary P) P.source typ) (text-once x n f text))

  lemma-once : (n : ℕ) (span : Span) (script : List Step) → Once (IsLemmaOutcome P n span script)
  unfolding IsLemmaOutcome
  lemma-once n span script =
      unless-once (IsTaken P facts n) Duplicate (Then (IsStated (vocabulary P) P.source span) (λ s. Gives (forking P n script s)))
      (then-once (IsStated (vocabulary P) P.source span) (λ s. Gives (forking P n script s)) (stated-once (vocabulary P) anti P.source span) (λ s. gives-once (forking P n script s)))

  module _ (session : IsInSession P.texts P.content) where
    pub name-once : (base : List ℕ) (m n : ℕ) → IsNameOf P base m → IsNameOf P base n → m ≡ n
    name-once base m n h k = one_name P.texts session.names (full_text P.theory base) m n h k

    -- What is told of a name is told of the one name of the base.
    named-once : {B : Type 0} (base : List ℕ) (Is : ℕ → Result B Reason → Type 0) → ((n : ℕ) → Once (Is n)) → Once (λ answer. (n : ℕ) × IsNameOf P base n × Is n answer)
    named-once base Is once r s (m, h, f) (n, k, g) = once n r s (subst (λ i. Is i r) (name-once base m n h k) f) g

    -- The same of the two names of a definition.
    paired-once : (x : List ℕ) (typ text : Span) → Once (IsOutcome P (Definition x typ text))
    paired-once x typ text r s (m, e, h, i, f) (n, d, k, j, g) =
        let first = name-once x m n h k in
        let second = name-once (fact_base x) e d i j in
        let there = subst (λ o. IsSaid P (Definition x typ text) (IsDefinitionChange P x o e typ text) r) first f in
        said-once (Definition x typ text) (IsDefinitionChange P x n d typ text) (definition-once x n d typ text) r s (subst (λ o. IsSaid P (Definition x typ text) (IsDefinitionChange P x n o typ text) r) second there) g

    pub outcome-once : (command : Command) → Once (IsOutcome P command)
    outcome-once (ClassOf x names) = named-once x (λ n. IsSaid P (ClassOf x names) (IsClassChange P n names)) (λ n. said-once (ClassOf x names) (IsClassChange P n names) (class-once n names))
    outcome-once (TypeDecl x params) = named-once x (λ n. IsSaid P (TypeDecl x params) (IsTypeChange P n params)) (λ n. said-once (TypeDecl x params) (IsTypeChange P n params) (typ-once n params))
    outcome-once (ArityOf con domains class) = said-once (ArityOf con domains class) (IsArityChange P con domains class) (arity-once con domains class)
    outcome-once (Const x span) = named-once x (λ n. IsSaid P (Const x span) (IsConstChange P n span)) (λ n. said-once (Const x span) (IsConstChange P n span) (const-once n span))
    outcome-once (Axiom x span) = named-once x (λ n. IsSaid P (Axiom x span) (IsAxiomChange P n span)) (λ n. said-once (Axiom x span) (IsAxiomChange P n span) (axiom-once n span))
    outcome-once (Definition x typ text) = paired-once x typ text
    outcome-once (Lemma x span haves script) = named-once x (λ n. IsLemmaOutcome P n span script) (λ n. lemma-once n span script)

    declared-once : (command : Command) (o p : Outcome) → IsDeclaredAs P command o → IsDeclaredAs P command p → o ≡ p
    declared-once command o p h k = h.comes ∙ ap (outcome_of P command) (outcome-once command h.answer k.answer h.is k.is) ∙ sym k.comes

-- The own theory of a content has one text.
pub own-once : (texts : List (List ℕ)) (Q : Content) (a b : List ℕ) → IsOwnText texts Q a → IsOwnText texts Q b → a ≡ b
own-once texts Q a b h k =
    let same = same_Some h.own k.own (sym h.is_own ∙ k.is_own) in
    same_Some a b (sym (subst (λ (t : TheoryId). HasText texts t.name a) same h.text) ∙ k.text)

pub declares_once : DeclaresOnce
declares_once texts source label Q command note other next more session g h k =
    let at : List ℕ → Place = λ theory. record { texts = texts; source = source; label = label; theory = theory; content = Q } in
    let o : Outcome = record { note = note; next = next } in
    let p : Outcome = record { note = other; next = more } in
    let there = subst (λ theory. IsDeclaredAs (at theory) command o) (own-once texts Q h.theory k.theory h.own k.own) h.declares in
    let same : o ≡ p = declared-once (at k.theory) g.antisymmetric session command o p there k.declares in
    (ap (λ (x : Outcome). x.note) same, ap (λ (x : Outcome). x.next) same)
