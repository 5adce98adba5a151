-- Laws of equality, on what is proved: that it is an equivalence, that equals may be put for one another, and extensionality.
use Rattle.std.specs.Prelude.{◌↔◌, ℕ, List}
use Rattle.pure_definitions.specs.Names.{Label}
use Rattle.pure_definitions.specs.Types.Typ.{Typ, arrow, prop}
use Rattle.pure_definitions.specs.Terms.Term.{Term, Free, Bound, Abs, App}
use Rattle.pure_definitions.specs.Terms.Bounds.{subst_bound}
use Rattle.pure_logic.specs.Connectives.{all, imp, eq, protect}
use Rattle.pure_logic.specs.Content.{Content, IsContent, IsBelow, IsCertifiedOf, IsProposition}
use Rattle.pure_logic.specs.PureContent.{pure_content}
use Rattle.pure_logic.specs.Proves.{Proves}

-- What holds of each content above Pure's, and of what is proved over it from hypotheses, resting on promises.
abbrev pub Everywhere : ((Q : Content) → (Term → Type 0) → Type 0) → Type 0
Everywhere law = (Q : Content) → IsContent Q → IsBelow pure_content Q → (hyps : List Term) (rests : List Label) → law Q (Proves Q hyps rests)

-- `t == t`; from `t == u`, `u == t`; from `t == u` and `u == v`, `t == v`
abbrev pub ReflexiveEquality : Type 0
ReflexiveEquality = Everywhere (λ Q Proved. (T : Typ) (t : Term) → IsCertifiedOf Q t T → Proved (eq T t t))

abbrev pub SymmetricEquality : Type 0
SymmetricEquality = Everywhere (λ Q Proved. (T : Typ) (t u : Term) → Proved (eq T t u) → Proved (eq T u t))

abbrev pub TransitiveEquality : Type 0
TransitiveEquality = Everywhere (λ Q Proved. (T : Typ) (t u v : Term) → Proved (eq T t u) → Proved (eq T u v) → Proved (eq T t v))

-- From `t == u` and `B[t]`: `B[u]`, for an abstraction `%z. B[z]` to propositions.
abbrev pub EqualsAreReplaced : Type 0
EqualsAreReplaced = Everywhere (λ Q Proved. (T : Typ) (B t u : Term) → IsCertifiedOf Q (Abs T B) (arrow T prop) → Proved (eq T t u) → Proved (subst_bound B t) → Proved (subst_bound B u))

-- From `f == g` and `a == b`: `f a == g b`.
abbrev pub EqualApplications : Type 0
EqualApplications = Everywhere (λ Q Proved. (T U : Typ) (f g a b : Term) → Proved (eq (arrow T U) f g) → Proved (eq T a b) → Proved (eq U (App f a) (App g b)))

-- From `A ==> B` and `B ==> A`: `A == B`. From `A == B` and A: B.
abbrev pub EqualPropositions : Type 0
EqualPropositions = Everywhere (λ Q Proved. (A B : Term) → IsProposition Q A → IsProposition Q B → Proved (imp A B) → Proved (imp B A) → Proved (eq prop A B))

abbrev pub EqualIsProved : Type 0
EqualIsProved = Everywhere (λ Q Proved. (A B : Term) → Proved (eq prop A B) → Proved A → Proved B)

-- From `!!x. f x == g x`: `f == g`.
abbrev pub EqualFunctions : Type 0
EqualFunctions = Everywhere (λ Q Proved. (T U : Typ) (f g : Term) → IsCertifiedOf Q f (arrow T U) → IsCertifiedOf Q g (arrow T U)
    → Proved (all T (eq U (App f (Bound 0)) (App g (Bound 0)))) → Proved (eq (arrow T U) f g))

-- `(%x. b) a == b[a]`; and `%x. f x == f`
abbrev pub BetaEquality : Type 0
BetaEquality = Everywhere (λ Q Proved. (T U : Typ) (b a : Term) → IsCertifiedOf Q (App (Abs T b) a) U → Proved (eq U (App (Abs T b) a) (subst_bound b a)))

abbrev pub EtaEquality : Type 0
EtaEquality = Everywhere (λ Q Proved. (T U : Typ) (f : Term) → IsCertifiedOf Q f (arrow T U) → Proved (eq (arrow T U) (Abs T (App f (Bound 0))) f))

-- From `b[x] == c[x]` for the fixed variables x of the type: `%x. b == %x. c`.
abbrev pub EqualAbstractions : Type 0
EqualAbstractions = Everywhere (λ Q Proved. (T U : Typ) (b c : Term) → IsCertifiedOf Q (Abs T b) (arrow T U) → IsCertifiedOf Q (Abs T c) (arrow T U)
    → ((n : ℕ) → Proved (eq U (subst_bound b (Free n T)) (subst_bound c (Free n T)))) → Proved (eq (arrow T U) (Abs T b) (Abs T c)))

-- The mark of a goal means nothing: `# A` is proved exactly where A is.
abbrev pub MarkMeansNothing : Type 0
MarkMeansNothing = Everywhere (λ Q Proved. (A : Term) → IsProposition Q A → Proved (protect A) ↔ Proved A)
