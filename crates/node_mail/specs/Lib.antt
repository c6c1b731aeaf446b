pub mod Wires
pub mod Lists
pub mod MailOnce
pub mod Runs
pub mod Kills
pub mod Queues
pub mod Mailboxes
pub mod Heads
