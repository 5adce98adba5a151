pub mod Answer
pub mod UnfoldAnswer
pub mod Rules
pub mod Bottom
