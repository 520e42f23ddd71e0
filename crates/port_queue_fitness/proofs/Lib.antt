pub mod Frames
pub mod QueueTests
