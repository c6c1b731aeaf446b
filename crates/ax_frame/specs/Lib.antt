pub mod Controls
pub mod Faults
pub mod Frames
pub mod Parts
pub mod Reading
pub mod FrameText
