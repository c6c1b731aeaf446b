pub mod Commands
pub mod MailCommands
pub mod Asked
pub mod Replies
