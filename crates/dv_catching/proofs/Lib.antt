mod Sets
mod Joined
mod Answered
