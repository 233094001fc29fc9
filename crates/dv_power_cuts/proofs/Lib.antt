mod Growing
mod Kept
mod Written
mod Acknowledged
