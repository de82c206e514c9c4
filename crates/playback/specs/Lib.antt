pub mod Playback
pub mod Replay
pub mod ReplayExamples
pub mod Steps
