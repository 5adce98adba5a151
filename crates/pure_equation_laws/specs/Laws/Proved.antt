-- Laws of what is proved: equated terms are equal where the equations of the pairs are proved.
use Rattle.std.specs.Prelude.{List, []}
use Rattle.pure_text.specs.Lists.{Each}
use Rattle.pure_definitions.specs.Names.{Label}
use Rattle.pure_definitions.specs.Types.Typ.{Typ, prop}
use Rattle.pure_definitions.specs.Terms.Term.{Term}
use Rattle.pure_logic.specs.Connectives.{eq}
use Rattle.pure_logic.specs.Content.{Content, IsContent, IsBelow, IsCertifiedOf}
use Rattle.pure_logic.specs.PureContent.{pure_content}
use Rattle.pure_logic.specs.Derivable.{Pair, Theorem, IsDerivable}
use Rattle.pure_logic.specs.Proves.{Proves}
use Rattle.pure_equation_laws.specs.Equated.{AreEquated, IsPairEquated}

-- The equation of the pair is proved, at some type.
abbrev pub IsPairProved : (Q : Content) → (hyps : List Term) → (rests : List Label) → Pair → Type 0
IsPairProved Q hyps rests p = (T : Typ) × Proves Q hyps rests (eq T p.left p.right)

-- Over a content above Pure's: where the equation of each pair is proved, the equation of two terms that are equated modulo the pairs, under no binders, is proved.
abbrev pub EquatedIsProved : Type 0
EquatedIsProved = (Q : Content) → IsContent Q → IsBelow pure_content Q → (hyps : List Term) (rests : List Label) (pairs : List Pair) → Each (IsPairProved Q hyps rests) pairs
    → (T : Typ) (t u : Term) → AreEquated Q.declarations pairs [] T t u → Proves Q hyps rests (eq T t u)

-- A proposition that is equated with a proved one is proved.
abbrev pub EquatedPropositionIsProved : Type 0
EquatedPropositionIsProved = (Q : Content) → IsContent Q → IsBelow pure_content Q → (hyps : List Term) (rests : List Label) (pairs : List Pair) → Each (IsPairProved Q hyps rests) pairs
    → (A B : Term) → AreEquated Q.declarations pairs [] prop A B → Proves Q hyps rests A → Proves Q hyps rests B

-- So the proposition of a derivable theorem may be replaced by one that is equated with it modulo the theorem's own pairs.
abbrev pub PropositionIsReplaced : Type 0
PropositionIsReplaced = (Q : Content) → IsContent Q → IsBelow pure_content Q → (th : Theorem) (B : Term) → AreEquated Q.declarations th.pairs [] prop th.prop B
    → IsDerivable Q th → IsDerivable Q (record th { prop = B })

-- Both sides of the pair are certified, of one type.
abbrev pub IsCertifiedPair : Content → Pair → Type 0
IsCertifiedPair Q p = (T : Typ) × IsCertifiedOf Q p.left T × IsCertifiedOf Q p.right T

-- And the pairs of a derivable theorem may be replaced by others, with certified sides, modulo which they are equated.
abbrev pub PairsAreReplaced : Type 0
PairsAreReplaced = (Q : Content) → IsContent Q → IsBelow pure_content Q → (th : Theorem) (others : List Pair) → Each (IsCertifiedPair Q) others → Each (IsPairEquated Q.declarations others) th.pairs
    → IsDerivable Q th → IsDerivable Q (record th { pairs = others })
