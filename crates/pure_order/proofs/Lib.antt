pub use Rattle.pure_order_tables.proofs as OrderTables
pub mod DomainLaws
pub mod FaultLaws
pub mod ReduceLaws
pub mod PlaceLaws
pub mod WalkLaws
pub mod AlgebraLaws
