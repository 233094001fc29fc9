mod Shallow
mod Texts
mod Served
mod Running
mod Searched
