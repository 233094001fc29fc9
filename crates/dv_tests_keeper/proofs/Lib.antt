pub mod Asked
pub mod Beginning
