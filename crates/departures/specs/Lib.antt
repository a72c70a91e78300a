pub mod Departures
