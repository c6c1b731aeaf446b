mod Calls
mod Clearing
mod Consoles
mod Dealing
mod Directs
mod Placing
mod Stands
mod Starts
