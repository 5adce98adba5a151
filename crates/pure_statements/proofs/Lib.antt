pub mod ChainLaws
pub mod QuotedLaws
pub mod SchematicLaws
pub mod ElaboratedLaws
pub mod StatedLaws
pub mod NormalLaws
pub mod JoinLaws
