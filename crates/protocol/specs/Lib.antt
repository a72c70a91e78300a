pub mod Runs
pub mod Machine
pub mod PlainMachine
pub mod Trace
pub mod KuroseRoss
pub mod KuroseRossRuns
