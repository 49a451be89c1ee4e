pub mod Commands
pub mod Grammar
