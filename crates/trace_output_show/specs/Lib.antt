pub mod Feeds
pub mod Glyphs
