pub mod Names
mod Commands
