pub mod CurveCalls
pub mod Examples
