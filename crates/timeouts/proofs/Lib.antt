pub mod Single
pub mod Fresh
pub mod Numbers
pub mod NumbersTurns
pub mod SingleTimers
pub mod NotDue
pub mod Laws
