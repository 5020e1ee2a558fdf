-- How the exchanges of a client go, for proofs above.
pub use Rattle.coap_client_laws.proofs.Sending.OpenSince.{open_runs}
pub use Rattle.coap_client_laws.proofs.Sending.EndsInTime.{all_end_in_time}
pub use Rattle.coap_client_laws.proofs.Sending.RepliesToCons.{replies_to_cons}
pub use Rattle.coap_client_laws.proofs.Reporting.ByAnswers.{are_by_answers}
pub use Rattle.coap_client_laws.proofs.Fetching.FetchUnchanged.{fetches_unchanged}
pub use Rattle.coap_client_laws.proofs.Fetching.StaysUnchanged.{are_unchanged}
pub use Rattle.coap_client_laws.proofs.Sending.HeardOfOpen.{hears_of_open, answers_are_heard}
pub use Rattle.coap_client_laws.proofs.Sending.LastCancels.{failed_quiet}
pub use Rattle.coap_client_laws.proofs.Sending.SendsBegin.{sends_begin}
pub use Rattle.coap_client_laws.proofs.Sending.StaysOpen.{BeginsTo, open_before, closed_by}
