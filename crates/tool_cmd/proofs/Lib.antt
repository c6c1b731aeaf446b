pub mod StreamItems
pub mod ThreeWords
pub mod SentFrames
pub mod Gateways
pub mod GatewayWords
