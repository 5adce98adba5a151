pub use Rattle.pure_text.proofs as Texts
pub use Rattle.pure_definitions.proofs as Definitions
pub use Rattle.pure_typ.proofs as Types
pub use Rattle.pure_term.proofs as Terms
pub use Rattle.pure_order.proofs as Orders
pub use Rattle.pure_logic.proofs as Logic
pub use Rattle.pure_theorem.proofs as Theorems
pub use Rattle.pure_certify.proofs as Certificates
pub use Rattle.pure_theory_tables.proofs as TheoryTables
pub use Rattle.pure_declare.proofs.Theory as Theories
pub use Rattle.pure_lookup.proofs as Lookup
pub use Rattle.pure_grammar.proofs as Grammar
pub use Rattle.pure_script.proofs as Script
pub use Rattle.pure_read.proofs as Read
pub use Rattle.pure_elab.proofs as Elab
pub use Rattle.pure_statements.proofs as Statements
pub use Rattle.pure_declare.proofs as Declare
pub use Rattle.pure_rules.proofs as Rules
pub use Rattle.pure_equal.proofs as Equal
pub use Rattle.pure_inst.proofs as Inst
pub use Rattle.pure_conv.proofs as Conv
pub use Rattle.pure_unify_nodes.proofs as UnifyNodes
pub use Rattle.pure_resolve.proofs.Pairs as Pairs
pub use Rattle.pure_resolve.proofs.GoalSteps as GoalSteps
pub use Rattle.pure_resolve.proofs as Goals
pub use Rattle.pure_print.proofs as Print
pub mod NameTableLaws
pub mod TheoryTextLaws
