-- To be read: what the words of the contracts mean.
pub mod Worlds
pub mod Truths
pub mod Serving
pub mod Replies
pub mod Reading
pub mod Frames
pub mod Laws
pub mod FrameLaws
pub mod Beneath
pub mod Sample
