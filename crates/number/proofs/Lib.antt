pub mod Laws
pub mod Nearest
pub mod Same
pub mod Respects
pub mod MaxMin
pub mod Exact
