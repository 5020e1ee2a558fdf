pub mod ChosenAddresses
