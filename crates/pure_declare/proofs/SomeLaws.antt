-- A command has an outcome.
use Rattle.std.proofs.Common.{◌⊎◌, ℕ, List, [], refl}
use Rattle.std.specs.Prelude.{Result}
use Rattle.pure_definitions.specs.Types.Typ.{Typ}
use Rattle.pure_definitions.specs.Types.Order.{Arity, IsCoregular}
use Rattle.pure_definitions.specs.Terms.Term.{Term, term_size}
use Rattle.pure_definitions.specs.Declarations.Decl.{ClassDecl, ConDecl, ArityDecl, algebra_of}
use Rattle.pure_order.specs.OrderTables.Unknown.{HasArityFor}
use Rattle.pure_grammar.specs.Theories.TheoryText.{Span, Step, Command, Class as ClassOf, TypeDecl, Arity as ArityOf, Const, Axiom, Definition, Lemma}
use Rattle.pure_lookup.specs.Meaning.{Space, classes, constructors, constants, facts}
use Rattle.pure_theory.specs.Definitions.{HasVariable, HasExtraTyp}
use Rattle.pure_elab.specs.Answers.{IsFixedTyp}
use Rattle.pure_statements.specs.declared.reason.Reason.{Reason}
use Rattle.pure_statements.specs.declared.reason.Reason.TheVariants.{Duplicate, UnknownClass, UnknownType, WrongCount, TooLarge, NotDefinition, NotClosed, ExtraTypeVariable}
use Rattle.pure_statements.specs.Chain.{Then, Unless, Gives, Found}
use Rattle.pure_statements.specs.Quoted.{IsReadTerm}
use Rattle.pure_statements.specs.Elaborated.{IsTypedTerm}
use Rattle.pure_statements.specs.Statement.{IsNormalised, IsLarge, max_statement, IsStated, IsStatedTyp}
use Rattle.pure_statements.specs.Body.{body_of}
use Rattle.pure_declare.specs.Notes.{Change}
use Rattle.pure_declare.specs.Lookups.{AreWrittenClasses, AreWrittenSorts}
use Rattle.pure_declare.specs.Commands.{Place, vocabulary, IsTaken, IsOutcome, IsSaid, IsMiscounted, IsFitting, IsNewClassChange, IsClassChange, IsTypeChange, IsFoundArityChange, IsClassArityChange, IsDomainsArityChange, IsArityChange, IsNewConstChange, IsConstChange, IsAxiomChange, IsBodyChange, IsTermChange, IsTypedChange, IsTreeChange, IsTextChange, IsNewDefinitionChange, IsDefinitionChange, IsLemmaOutcome, declaring, declaring_const, declaring_definition, declaring_axiom, defining, saying, forking}
use Rattle.pure_declare.specs.First.{outcome_of}
use Rattle.pure_declare.specs.Premises.{HasFullNames, HasRanges, LiesIn}
use Rattle.pure_declare.specs.Good.{IsGood}
use Rattle.pure_declare.specs.Somehow.{DeclaresSomehow}
use Rattle.pure_declare.proofs.TidyDeclared.{typ-fixed}
use Rattle.pure_declare.proofs.SomeSteps.{Answered, gives-some, found-some, then-some, unless-some, below_or_not, read_term-some, typed-some, stated_typ-some, stated-some, normalised-some, classes-some, sorts-some}
use Rattle.pure_declare.proofs.SomeTests.{either_or_not, declared_or_not, miscounted_or_not, arity_or_none, fitting-some, variable_or_none, extra_typ_or_none}

module _ (P : Place) (g : IsGood P.content) where
  coregular : IsCoregular (algebra_of P.content.declarations)
  coregular = g.sound.content.coregular

  taken_or_not : (space : Space) (n : ℕ) → IsTaken P space n ⊎ (IsTaken P space n → ⊥)
  taken_or_not space n = declared_or_not P.content.declarations n space

  said-some : (command : Command) (Is : Result Change Reason → Type 0) → Answered Is → Answered (IsSaid P command Is)
  unfolding IsSaid
  said-some command Is some = then-some Is (λ c. Gives (saying P command c)) some (λ c h. gives-some (saying P command c))

  class-some : (n : ℕ) (names : List (List ℕ)) → Answered (IsClassChange P n names)
  unfolding IsClassChange IsNewClassChange
  class-some n names =
      unless-some (IsTaken P classes n) Duplicate (IsNewClassChange P n names) (taken_or_not classes n)
      (λ new. then-some (AreWrittenClasses (vocabulary P) names) (λ cs. Gives (declaring P [] (ClassDecl (record { name = n; above = cs })))) (classes-some (vocabulary P) names)
      (λ cs h. gives-some (declaring P [] (ClassDecl (record { name = n; above = cs })))))

  typ-some : (n params : ℕ) → Answered (IsTypeChange P n params)
  unfolding IsTypeChange
  typ-some n params = unless-some (IsTaken P constructors n) Duplicate (Gives (declaring P [] (ConDecl n params))) (taken_or_not constructors n) (λ new. gives-some (declaring P [] (ConDecl n params)))

  found_arity-some : (a : Arity) → Answered (IsFoundArityChange P a)
  unfolding IsFoundArityChange
  found_arity-some a =
      unless-some (IsMiscounted P.content.declarations a) WrongCount
      (Unless (HasArityFor (algebra_of P.content.declarations) a.con a.class) Duplicate (Then (IsFitting (algebra_of P.content.declarations) a) (λ fits. Gives (declaring P [] (ArityDecl a)))))
      (miscounted_or_not P.content.declarations a)
      (λ counted. unless-some (HasArityFor (algebra_of P.content.declarations) a.con a.class) Duplicate (Then (IsFitting (algebra_of P.content.declarations) a) (λ fits. Gives (declaring P [] (ArityDecl a))))
      (arity_or_none (algebra_of P.content.declarations) a.con a.class)
      (λ new. then-some (IsFitting (algebra_of P.content.declarations) a) (λ fits. Gives (declaring P [] (ArityDecl a))) (fitting-some (algebra_of P.content.declarations) g.ordered coregular a)
      (λ fits h. gives-some (declaring P [] (ArityDecl a)))))

  arity-some : (con : List ℕ) (domains : List (List (List ℕ))) (class : List ℕ) → Answered (IsArityChange P con domains class)
  unfolding IsArityChange IsDomainsArityChange IsClassArityChange
  arity-some con domains class =
      then-some (Found ((vocabulary P).constructor_written con) UnknownType) (λ k. IsDomainsArityChange P k domains class) (found-some ((vocabulary P).constructor_written con) UnknownType)
      (λ k h. then-some (AreWrittenSorts (vocabulary P) domains) (λ sorts. IsClassArityChange P k sorts class) (sorts-some (vocabulary P) domains)
      (λ sorts i. then-some (Found ((vocabulary P).class_written class) UnknownClass) (λ c. IsFoundArityChange P (record { con = k; domains = sorts; class = c })) (found-some ((vocabulary P).class_written class) UnknownClass)
      (λ c j. found_arity-some (record { con = k; domains = sorts; class = c }))))

  module _ (span : Span) (lies : LiesIn P.source span) where
    const-some : (n : ℕ) → Answered (IsConstChange P n span)
    unfolding IsConstChange IsNewConstChange
    const-some n =
        unless-some (IsTaken P constants n) Duplicate (IsNewConstChange P n span) (taken_or_not constants n)
        (λ new. then-some (IsStatedTyp (vocabulary P) P.source span) (λ T. Gives (declaring_const P n T)) (stated_typ-some (vocabulary P) g.antisymmetric P.source span lies) (λ T h. gives-some (declaring_const P n T)))

    axiom-some : (n : ℕ) → Answered (IsAxiomChange P n span)
    unfolding IsAxiomChange
    axiom-some n =
        unless-some (IsTaken P facts n) Duplicate (Then (IsStated (vocabulary P) P.source span) (λ s. Gives (declaring_axiom P n s.prop))) (taken_or_not facts n)
        (λ new. then-some (IsStated (vocabulary P) P.source span) (λ s. Gives (declaring_axiom P n s.prop)) (stated-some (vocabulary P) g.antisymmetric coregular P.source span lies) (λ s h. gives-some (declaring_axiom P n s.prop)))

    lemma-some : (n : ℕ) (script : List Step) → Answered (IsLemmaOutcome P n span script)
    unfolding IsLemmaOutcome
    lemma-some n script =
        unless-some (IsTaken P facts n) Duplicate (Then (IsStated (vocabulary P) P.source span) (λ s. Gives (forking P n script s))) (taken_or_not facts n)
        (λ new. then-some (IsStated (vocabulary P) P.source span) (λ s. Gives (forking P n script s)) (stated-some (vocabulary P) g.antisymmetric coregular P.source span lies) (λ s h. gives-some (forking P n script s)))

  body-some : (n f : ℕ) (T : Typ) (body : Term) → Answered (IsBodyChange P n f T body)
  unfolding IsBodyChange
  body-some n f T body =
      unless-some (HasVariable body) NotClosed (Unless (HasExtraTyp T body) ExtraTypeVariable (Unless (IsLarge (defining n T body)) TooLarge (Gives (declaring_definition P n f T body)))) (variable_or_none body)
      (λ closed. unless-some (HasExtraTyp T body) ExtraTypeVariable (Unless (IsLarge (defining n T body)) TooLarge (Gives (declaring_definition P n f T body))) (extra_typ_or_none T body)
      (λ typs. unless-some (IsLarge (defining n T body)) TooLarge (Gives (declaring_definition P n f T body)) (below_or_not max_statement (term_size (defining n T body))) (λ small. gives-some (declaring_definition P n f T body))))

  text-some : (x : List ℕ) (n f : ℕ) (text : Span) → LiesIn P.source text → (T : Typ) → IsFixedTyp T → Answered (IsTextChange P x n f text T)
  unfolding IsTextChange IsTreeChange IsTypedChange IsTermChange
  text-some x n f text lies T fixed =
      then-some (IsReadTerm P.source text) (IsTreeChange P x n f T) (read_term-some P.source text lies)
      (λ raw h. then-some (Found (body_of x raw) NotDefinition) (IsTypedChange P n f T) (found-some (body_of x raw) NotDefinition)
      (λ body i. then-some (IsTypedTerm (vocabulary P) T body) (IsTermChange P n f T) (typed-some (vocabulary P) g.antisymmetric coregular T body fixed)
      (λ t j. then-some (IsNormalised t) (IsBodyChange P n f T) (normalised-some t) (λ u k. body-some n f T u))))

  definition-some : (x : List ℕ) (n f : ℕ) (typ text : Span) → LiesIn P.source typ → LiesIn P.source text → Answered (IsDefinitionChange P x n f typ text)
  unfolding IsDefinitionChange IsNewDefinitionChange
  definition-some x n f typ text first second =
      unless-some (IsTaken P constants n ⊎ IsTaken P facts f) Duplicate (IsNewDefinitionChange P x n f typ text) (either_or_not (IsTaken P constants n) (IsTaken P facts f) (taken_or_not constants n) (taken_or_not facts f))
      (λ new. then-some (IsStatedTyp (vocabulary P) P.source typ) (IsTextChange P x n f text) (stated_typ-some (vocabulary P) g.antisymmetric P.source typ first)
      (λ T h. text-some x n f text second T (typ-fixed (vocabulary P) P.source typ T h)))

  pub outcome-some : (command : Command) → HasFullNames P.texts P.theory command → HasRanges P.source command → Answered (IsOutcome P command)
  outcome-some (ClassOf x names) full ranges = let n = full.0 in let r = said-some (ClassOf x names) (IsClassChange P n.0 names) (class-some n.0 names) in (r.0, (n.0, n.1, r.1))
  outcome-some (TypeDecl x params) full ranges = let n = full.0 in let r = said-some (TypeDecl x params) (IsTypeChange P n.0 params) (typ-some n.0 params) in (r.0, (n.0, n.1, r.1))
  outcome-some (ArityOf con domains class) full ranges = said-some (ArityOf con domains class) (IsArityChange P con domains class) (arity-some con domains class)
  outcome-some (Const x span) full ranges = let n = full.0 in let r = said-some (Const x span) (IsConstChange P n.0 span) (const-some span ranges.0 n.0) in (r.0, (n.0, n.1, r.1))
  outcome-some (Axiom x span) full ranges = let n = full.0 in let r = said-some (Axiom x span) (IsAxiomChange P n.0 span) (axiom-some span ranges.0 n.0) in (r.0, (n.0, n.1, r.1))
  outcome-some (Definition x typ text) full ranges =
      let n = full.0 in
      let f = full.1.0 in
      let r = said-some (Definition x typ text) (IsDefinitionChange P x n.0 f.0 typ text) (definition-some x n.0 f.0 typ text ranges.0 ranges.1.0) in
      (r.0, (n.0, f.0, n.1, f.1, r.1))
  outcome-some (Lemma x span haves script) full ranges = let n = full.0 in let r = lemma-some span ranges.0 n.0 script in (r.0, (n.0, n.1, r.1))

pub declares_somehow : DeclaresSomehow
declares_somehow texts source label Q command names ranges given g =
    let P : Place = record { texts = texts; source = source; label = label; theory = names.theory; content = Q } in
    let answer = outcome-some P g command names.full ranges in
    let outcome = outcome_of P command answer.0 in
    (outcome.note, outcome.next, record { theory = names.theory; own = names.own; declares = record { answer = answer.0; is = answer.1; comes = refl } })
