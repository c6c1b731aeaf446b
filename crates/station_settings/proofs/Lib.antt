mod OneBeacon
mod Started
