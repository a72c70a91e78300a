pub mod Section5
pub mod AlongARun
pub mod OneLoss
