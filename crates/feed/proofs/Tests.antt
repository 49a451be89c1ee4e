-- The halves of a test, as list has them.
pub use Rattle.list.proofs.Bools.{which, or-false-l, or-false-r, or-true-cases, and-true-l, and_true_r}
