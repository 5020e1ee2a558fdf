-- There are as many values as texts, where each value is what its text says.
pub use Rattle.coap_arguments.proofs.GivenTexts.{same_length}
