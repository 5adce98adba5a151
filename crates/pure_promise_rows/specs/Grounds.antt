-- What the theorem of one lemma takes another lemma for.
use Rattle.std.specs.Prelude.{◌≡◌, ℕ, List, []}
use Rattle.pure_text.specs.Lists.{IsIn}
use Rattle.pure_definitions.specs.Names.{Label}
use Rattle.pure_definitions.specs.Terms.Term.{Term}
use Rattle.pure_definitions.specs.Declarations.Decl.{PromiseDecl}
use Rattle.pure_logic.specs.Content.{Content, IsBelow}
use Rattle.pure_logic.specs.Derivable.{Theorem}
use Rattle.pure_theory.specs.Certified.{Certified}
use Rattle.pure_promise.specs.declared.entry.Entry.{Entry}
use Rattle.pure_promise.specs.declared.entry.Own.TheVariants.{Proved}

-- The promises on which its theorem rests are among these.
abbrev pub IsRestingOn : Entry → List Label → Type 0
IsRestingOn e labels = (r : Certified) → e.own ≡ Proved r → r.theorem.rests ≡ labels

-- The theorem is this statement, without hypotheses and pairs.
abbrev pub IsAlone : Theorem → Term → Type 0
IsAlone th A = (th.prop ≡ A) × (th.hyps ≡ []) × (th.pairs ≡ [])

-- Promises of its label state what it does.
abbrev pub IsStatedIn : Content → Entry → Type 0
IsStatedIn Q d = (name : ℕ) (A : Term) → IsIn (PromiseDecl name d.label A) Q.declarations → A ≡ d.prop.value

-- Its theorem's theory is below the content.
abbrev pub IsOfTheory : Content → Entry → Type 0
IsOfTheory Q d = (s : Certified) → d.own ≡ Proved s → IsBelow s.content Q

-- It is what the first one's theorem takes it for.
abbrev pub IsGroundedBy : Entry → Entry → Type 0
IsGroundedBy e d = (r : Certified) → e.own ≡ Proved r → IsStatedIn r.content d × IsOfTheory r.content d

-- It is so where the first one's theorem rests on it.
abbrev pub IsHeld : Entry → Entry → Type 0
IsHeld e d = (r : Certified) → e.own ≡ Proved r → IsIn d.label r.theorem.rests → IsStatedIn r.content d × IsOfTheory r.content d
