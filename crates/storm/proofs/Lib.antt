mod Counting
mod Listing
mod Numbering
mod Right
mod Running
