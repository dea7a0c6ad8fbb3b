-- The laws of two moves and of an exchange.
pub mod TwoMoves
pub mod Exchanges
pub mod ExchangesOfTheGrid
