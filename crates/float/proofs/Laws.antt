-- What crates above may cite of rolls; the calculus of rounding is in Units, Magnitude, Fields and Sticky.
pub use Rattle.float.proofs.Below.{scaled_below}
pub use Rattle.float.proofs.Roll.{roll_in_bounds_lem}
pub use Rattle.float.proofs.KnownValues.{j1, j1_in_bounds}
