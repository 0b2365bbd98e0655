mod Answering
mod Calling
mod Kept
mod NameLists
mod Numbered
mod Reading
mod Starting
mod Summing
