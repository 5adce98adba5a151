-- What quoted texts state, step by step, and that statements are certified.
use Rattle.std.proofs.Common.{◌≡◌, refl, sym, ap, subst}
use Rattle.std.specs.Prelude.{Result, Ok, Err, IfOk, IsErrAnd}
use Rattle.pure_definitions.specs.Terms.Term.{Term}
use Rattle.pure_logic.specs.Content.{Content, IsContent, IsProposition, IsStatement}
use Rattle.pure_statements.specs.declared.reason.Reason.{Reason}
use Rattle.pure_statements.specs.declared.reason.Reason.TheVariants.{TooLarge}
use Rattle.pure_statements.specs.declared.reason.Failed.{Failed}
use Rattle.pure_statements.specs.declared.stated.Stated.{Stated}
use Rattle.pure_statements.specs.Chain.{holds, passes}
use Rattle.pure_statements.specs.Schematic.{generalised}
use Rattle.pure_statements.specs.Statement.{IsLarge, IsStatedNormal, stated}
use Rattle.pure_statements.proofs.SchematicLaws.{statement-generalised}

pub normal-large : (u : Term) → IsLarge u → IsStatedNormal u (Err TooLarge)
normal-large u large = holds large refl

pub normal-stated : (u p : Term) → (IsLarge u → ⊥) → p ≡ generalised u → IsStatedNormal u (Ok (record { fixed = u; prop = p }))
normal-stated u p small is = passes small (ap (λ (q : Term). Ok (record { fixed = u; prop = q })) is)

pub normal-statement : (u p : Term) → p ≡ generalised u → (Q : Content) → IsContent Q → IsProposition Q u → IsStatement Q p
normal-statement u p is Q content h = subst (IsStatement Q) (sym is) (statement-generalised Q content u h)

-- A clause on an answer stays one where its premises are met by what came before.
pub if-ok : {A : Type 0} (P R : A → Type 0) → ((a : A) → P a → R a) → (r : Result A Failed) → IfOk r P → IfOk r R
if-ok P R from (Ok a) h = from a h
if-ok P R from (Err f) h = tt
