pub mod Promises
pub mod Logs
pub mod Conversations
pub mod Hops
pub mod Datagrams
pub mod Returning
