mod OneRead
mod OneByte
mod Endings
mod Commands
mod Files
