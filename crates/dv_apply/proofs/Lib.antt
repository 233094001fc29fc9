mod Appending
mod Applying
mod Testing
mod Lending
mod Readying
mod Lightness
mod Replacing
mod Changing
mod Becoming
mod Extending
pub mod Keeping
mod Naming
mod Others
pub mod Refusing
