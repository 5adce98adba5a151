-- Theorems with the contents in which they are derivable, and when they can't be handed on.
use Rattle.std.specs.Prelude.{refl}
use Rattle.std.specs.Coded.{Coded, code_by, coded×}
use Rattle.pure_logic.specs.Content.{Content}
use Rattle.pure_logic.specs.Derivable.{Theorem}
use Rattle.pure_theory_tables.specs.Missing.{IsFirstMissing}
use Rattle.pure_theorem.specs.Codes.{coded_theorem}
use Rattle.pure_theory.specs.Codes.{coded_content}
use Rattle.pure_theory.specs.declared.cthm.TransferFault.{TransferFault}
use Rattle.pure_theory.specs.declared.cthm.TransferFault.TheVariants.{Missing, Memory}

-- a theorem with a content
pub record Certified : Type 0 where
  pub content : Content
  pub theorem : Theorem

abbrev pub coded_certified : Coded Certified
coded_certified = code_by (Content × Theorem) (coded× coded_content coded_theorem) (λ c. (c.content, c.theorem)) (λ p. record { content = p.0; theorem = p.1 }) (λ _. refl)

-- Of a theorem of the first content: the first declaration that the second lacks, so that the first isn't below it; or want of memory, which may come at any time.
abbrev pub IsTransferFault : Content → Content → TransferFault → Type 0
IsTransferFault Q R (Missing declaration) = IsFirstMissing Q.declarations R.declarations declaration
IsTransferFault Q R Memory = Unit {0}
