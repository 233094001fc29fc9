pub mod Acknowledging
