-- Arities, step by step.
use Rattle.std.proofs.Common.{◌≡◌, ℕ, List, [], ◌∷◌, ◌++◌, length, refl, sym, ap, subst, ⊎_elim, ◌∙◌}
use Rattle.std.specs.Prelude.{Result, Ok, Err, IsErrAnd}
use Rattle.pure_text.specs.Lists.{IsIn, Each, EachTwo}
use Rattle.pure_text.proofs.ListLaws.{each_imply, each_at}
use Rattle.pure_definitions.specs.Types.Order.{Arity, IsCoregular, Class}
use Rattle.pure_definitions.specs.Declarations.Decl.{Decl, ConDecl, ArityDecl, classes_of, algebra_of, IsDeclaredClass}
use Rattle.pure_logic.specs.Content.{Content, IsContent}
use Rattle.pure_order.specs.OrderTables.Classes.{IsDeclared}
use Rattle.pure_order.specs.OrderTables.Arities.{IsKnown, with_arity}
use Rattle.pure_order.specs.OrderTables.Unknown.{IsFirstUnknown, names_of, joined}
use Rattle.pure_certify.proofs.PartLemmas.{class_declared}
use Rattle.pure_theory_tables.proofs.AlgebraLaws.{arity_algebra}
use Rattle.pure_theory.specs.declared.fault.DeclFault.{DeclFault}
use Rattle.pure_theory.specs.declared.fault.DeclFault.TheVariants as fault
use Rattle.pure_theory.specs.Refusals.{IsArityRefusal, IsGivenArityRefusal, IsCountRefusal, HasCon, IsNewArity}
use Rattle.pure_theory.specs.Stage.{with_decl}
use Rattle.pure_statements.specs.declared.reason.Reason.TheVariants.{UnknownClass, UnknownType, NotCoregular}
use Rattle.pure_statements.specs.declared.reason.Failed.{Failed}
use Rattle.pure_statements.specs.Chain.{Gives, Answers, FailsAs, Found, refuses, goes_on, holds, passes}
use Rattle.pure_statements.proofs.ChainLaws.{answers-failed, answers-next, fails-answers}
use Rattle.pure_declare.specs.Notes.{Change}
use Rattle.pure_declare.specs.Changes.{failed_declaration}
use Rattle.pure_declare.specs.Commands.{Place, vocabulary, AreKnown, IsMiscounted, declaring, IsFoundArityChange, IsClassArityChange, IsDomainsArityChange, IsArityChange}
use Rattle.pure_declare.specs.Lookups.{IsWrittenSort, AreWrittenSorts}
use Rattle.pure_declare.proofs.KnownLaws.{first-in}

same-count : (Q : Content) → IsContent Q → (k m n : ℕ) → IsIn (ConDecl k m) Q.declarations → IsIn (ConDecl k n) Q.declarations → m ≡ n
same-count Q content k m n i j = let same = content.named_once (ConDecl k m) (ConDecl k n) i j refl in cc

counted : (Q : Content) → IsContent Q → (a : Arity) → HasCon Q.declarations a → IsMiscounted Q.declarations a → ⊥
counted Q content a con (n, m, other) = other (same-count Q content a.con n (length a.domains) m con)

behind : (cs : List Class) (xs ys zs : List ℕ) → Each (IsDeclared cs) xs → Each (IsDeclared cs) (ys ++ zs) → Each (IsDeclared cs) ((xs ++ ys) ++ zs)
behind cs [] ys zs h k = k
behind cs (x ∷ xs) ys zs h k = (h.0, behind cs xs ys zs h.1 k)

joined-known : (cs : List Class) (ss : List (List ℕ)) → Each (Each (IsDeclared cs)) ss → (rest : List ℕ) → Each (IsDeclared cs) rest → Each (IsDeclared cs) (joined ss ++ rest)
joined-known cs [] h rest k = k
joined-known cs (s ∷ ss) h rest k = behind cs s (joined ss) rest h.0 (joined-known cs ss h.1 rest k)

-- None of the classes that a known arity names is unknown.
none-unknown : (cs : List Class) (a : Arity) (c : ℕ) → IsKnown cs a → IsFirstUnknown cs (names_of a) c → ⊥
none-unknown cs a c known h = h.unknown (each_at (IsDeclared cs) (names_of a) (joined-known cs a.domains known.domains (a.class ∷ []) (known.class, tt)) c (first-in cs (names_of a) c h))

abbrev quiet : Content → Change
quiet Q = record { tail = []; next = Q }

module _ (P : Place) (content : IsContent P.content) (a : Arity) (known : AreKnown P a) where
  abbrev ds : List Decl
  ds = P.content.declarations

  count-refused : (f : DeclFault) → IsCountRefusal ds a.con (length a.domains) f → Answers (IsFoundArityChange P a) (Err (failed_declaration f))
  unfolding IsFoundArityChange
  count-refused (fault.UnknownType k) h = absurd (h.1 known.con.0 known.con.1)
  count-refused (fault.WrongCount k) h = holds h.1 refl
  count-refused fault.Duplicate h = absurd h
  count-refused (fault.UnknownClass c) h = absurd h
  count-refused (fault.NotCoregular k c d) h = absurd h
  count-refused fault.NotClosed h = absurd h
  count-refused fault.ExtraType h = absurd h
  count-refused fault.Memory h = absurd h

  given-refused : (f : DeclFault) → HasCon ds a → IsGivenArityRefusal (algebra_of ds) a f → Answers (IsFoundArityChange P a) (Err (failed_declaration f))
  unfolding IsFoundArityChange
  given-refused (fault.UnknownClass c) con h = absurd (none-unknown (classes_of ds) a c known.classes h)
  given-refused fault.Duplicate con h = passes (counted P.content content a con) (holds h.1 refl)
  given-refused (fault.NotCoregular k c d) con h =
      passes (counted P.content content a con) (passes h.1 (refuses (NotCoregular k c d) (d, h.4, named k c d h.2 h.3) refl))
    where
      named : (l e g : ℕ) → l ≡ a.con → e ≡ a.class → NotCoregular l e g ≡ NotCoregular a.con a.class g
      named l e g s t = cc
  given-refused (fault.UnknownType k) con h = absurd h
  given-refused (fault.WrongCount k) con h = absurd h
  given-refused fault.NotClosed con h = absurd h
  given-refused fault.ExtraType con h = absurd h
  given-refused fault.Memory con h = tt

  refused-here : (f : DeclFault) → IsArityRefusal ds a f → Answers (IsFoundArityChange P a) (Err (failed_declaration f))
  refused-here f h = ⊎_elim (λ count. count-refused f count) (λ given. given-refused f given.0 given.1) h

  -- A refusal of the theory is one of the command.
  pub arity-refused : (R : Content) (f : DeclFault) (g : Failed) → R ≡ P.content → IsArityRefusal R.declarations a f → g ≡ failed_declaration f → Answers (IsFoundArityChange P a) (Err g)
  arity-refused R f g same h e =
      subst (λ (x : Failed). Answers (IsFoundArityChange P a) (Err x)) (sym e)
      (refused-here f (subst (λ (Q : Content). IsArityRefusal Q.declarations a f) same h))

  made-here : (Q : Content) (c : Change) → IsNewArity ds a → IsCoregular (algebra_of Q.declarations) → Q ≡ with_decl P.content (ArityDecl a) → c ≡ record { tail = []; next = Q } → IsFoundArityChange P a (Ok c)
  unfolding IsFoundArityChange
  made-here Q c new coregular next e =
      passes (counted P.content content a new.con) (passes new.new (goes_on tt (fits Q next coregular) (given c (e ∙ said Q next))))
    where
      fits : (S : Content) → S ≡ with_decl P.content (ArityDecl a) → IsCoregular (algebra_of S.declarations) → IsCoregular (with_arity (algebra_of ds) a)
      fits S n g = subst IsCoregular (arity_algebra ds a) (subst (λ (T : Content). IsCoregular (algebra_of T.declarations)) n g)

      said : (S : Content) → S ≡ with_decl P.content (ArityDecl a) → quiet S ≡ declaring P [] (ArityDecl a)
      said S n = ap quiet n

      given : (d : Change) → d ≡ declaring P [] (ArityDecl a) → Gives (declaring P [] (ArityDecl a)) (Ok d)
      given d s = ap (λ (x : Change). Ok x) s

  pub arity-made : (R Q : Content) (c : Change) → R ≡ P.content → IsNewArity R.declarations a → IsCoregular (algebra_of Q.declarations) → Q ≡ with_decl R (ArityDecl a) → c ≡ record { tail = []; next = Q } → IsFoundArityChange P a (Ok c)
  arity-made R Q c same new coregular next e =
      made-here Q c (subst (λ (S : Content). IsNewArity S.declarations a) same new) coregular (subst (λ (S : Content). Q ≡ with_decl S (ArityDecl a)) same next) e

-- What is declared in the theory is known of the place.
pub known-of : (P : Place) (k : ℕ) (sorts : List (List ℕ)) (c : ℕ) → ((n : ℕ) × IsIn (ConDecl k n) P.content.declarations) → Each (Each (IsDeclaredClass P.content.declarations)) sorts → IsDeclaredClass P.content.declarations c
    → AreKnown P (record { con = k; domains = sorts; class = c })
known-of P k sorts c con domains class = record {
  con = con;
  classes = record {
    domains = each_imply (Each (IsDeclaredClass P.content.declarations)) (Each (IsDeclared (classes_of P.content.declarations))) sorts
        (λ s h. each_imply (IsDeclaredClass P.content.declarations) (IsDeclared (classes_of P.content.declarations)) s (class_declared P.content.declarations) h) domains;
    class = class_declared P.content.declarations c class;
  };
}

module _ (P : Place) where
  module _ (k : ℕ) (ss : List (List ℕ)) (class : List ℕ) where
    pub class-failed : (f : Failed) (r : Result Change Failed) → Answers {A = ℕ} (Found ((vocabulary P).class_written class) UnknownClass) (Err f) → IsErrAnd r (λ e. e ≡ f) → Answers (IsClassArityChange P k ss class) r
    unfolding IsClassArityChange
    class-failed f r h e =
        answers-failed {A = ℕ} (Found ((vocabulary P).class_written class) UnknownClass) (λ c. IsFoundArityChange P (record { con = k; domains = ss; class = c })) f r
        (fails-answers {A = ℕ} (Found ((vocabulary P).class_written class) UnknownClass) f h) e

    pub class-next : (c : ℕ) (r : Result Change Failed) → Found ((vocabulary P).class_written class) UnknownClass (Ok c) → Answers (IsFoundArityChange P (record { con = k; domains = ss; class = c })) r → Answers (IsClassArityChange P k ss class) r
    unfolding IsClassArityChange
    class-next c r h next = answers-next {A = ℕ} (Found ((vocabulary P).class_written class) UnknownClass) (λ d. IsFoundArityChange P (record { con = k; domains = ss; class = d })) c r h next

  module _ (k : ℕ) (domains : List (List (List ℕ))) (class : List ℕ) where
    pub domains-failed : (f : Failed) (r : Result Change Failed) → FailsAs (AreWrittenSorts (vocabulary P) domains) f → IsErrAnd r (λ e. e ≡ f) → Answers (IsDomainsArityChange P k domains class) r
    unfolding IsDomainsArityChange
    domains-failed f r h e = answers-failed (AreWrittenSorts (vocabulary P) domains) (λ ss. IsClassArityChange P k ss class) f r h e

    pub domains-next : (ss ts : List (List ℕ)) (r : Result Change Failed) → EachTwo (IsWrittenSort (vocabulary P)) domains ss → ts ≡ ss → Answers (IsClassArityChange P k ts class) r → Answers (IsDomainsArityChange P k domains class) r
    unfolding IsDomainsArityChange
    domains-next ss ts r h same next =
        answers-next (AreWrittenSorts (vocabulary P) domains) (λ us. IsClassArityChange P k us class) ss r h (subst (λ (us : List (List ℕ)). Answers (IsClassArityChange P k us class) r) same next)

  module _ (con : List ℕ) (domains : List (List (List ℕ))) (class : List ℕ) where
    pub con-failed : (f : Failed) (r : Result Change Failed) → Answers {A = ℕ} (Found ((vocabulary P).constructor_written con) UnknownType) (Err f) → IsErrAnd r (λ e. e ≡ f) → Answers (IsArityChange P con domains class) r
    unfolding IsArityChange
    con-failed f r h e =
        answers-failed {A = ℕ} (Found ((vocabulary P).constructor_written con) UnknownType) (λ k. IsDomainsArityChange P k domains class) f r
        (fails-answers {A = ℕ} (Found ((vocabulary P).constructor_written con) UnknownType) f h) e

    pub con-next : (k : ℕ) (r : Result Change Failed) → Found ((vocabulary P).constructor_written con) UnknownType (Ok k) → Answers (IsDomainsArityChange P k domains class) r → Answers (IsArityChange P con domains class) r
    unfolding IsArityChange
    con-next k r h next = answers-next {A = ℕ} (Found ((vocabulary P).constructor_written con) UnknownType) (λ l. IsDomainsArityChange P l domains class) k r h next
