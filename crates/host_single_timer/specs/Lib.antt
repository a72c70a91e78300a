pub mod SingleTimer
