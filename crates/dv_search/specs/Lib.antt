pub mod Facts
pub mod Laws
pub mod Nesting
pub mod Prepared
pub mod Sought
pub mod Stars
