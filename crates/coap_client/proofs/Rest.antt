pub mod ExchangeTurns
