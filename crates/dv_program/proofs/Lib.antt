mod Served
mod Opened
mod Forms
mod Maildrops
mod Untelling
mod NextRuns
