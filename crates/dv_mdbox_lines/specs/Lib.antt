pub mod Scripts
pub mod Grammar
pub mod Views
pub mod Playing
pub mod Laws
pub mod Texts
