pub mod Answering
pub mod Reading
pub mod StatusNotes
pub mod Statuses
pub mod StreamEnds
pub mod Streams
pub mod Told
pub mod Wider
