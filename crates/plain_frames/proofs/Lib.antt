pub mod FrameWords
pub mod Plug
