pub mod FramedSizes
pub mod WritingLemmas
pub mod StreamItems
pub mod StreamReads
pub mod WholeFiles
