pub mod ObservationPlaces
