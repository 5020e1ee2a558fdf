-- What each call of a client does, for proofs above.
pub use Rattle.coap_client_laws.proofs.Reporting.AnswerCodes.{apart}
pub use Rattle.coap_client_laws.proofs.Uploading.BlocksApart.{blocks_apart}
pub use Rattle.coap_client_laws.proofs.Counting.AsksOnce.{ask_once}
pub use Rattle.coap_client_laws.proofs.Counting.Beyond.{within_or_beyond}
pub use Rattle.coap_client_laws.proofs.Reporting.FetchedParts.{part_asks}
pub use Rattle.coap_client_laws.proofs.Counting.Bounds.{are_bounded}
pub use Rattle.coap_client_laws.proofs.Reporting.CallsAlone.{calls_alone}
pub use Rattle.coap_client_laws.proofs.Reporting.Codes.{reports_codes}
pub use Rattle.coap_client_laws.proofs.Observing.Ended.{are_over}
pub use Rattle.coap_client_laws.proofs.Reporting.Ends.{all_ends}
pub use Rattle.coap_client_laws.proofs.Exact.Exactly.{stripped}
pub use Rattle.coap_client_laws.proofs.Places.GivesAll.{all_wait}
pub use Rattle.coap_client_laws.proofs.Progress.GoesOn.{goes_on}
pub use Rattle.coap_client_laws.proofs.Hearing.Noted.{are_noted}
pub use Rattle.coap_client_laws.proofs.Hearing.NotedAt.{are_noted_at, heard_then}
pub use Rattle.coap_client_laws.proofs.Observing.Notified.{are_taken}
pub use Rattle.coap_client_laws.proofs.Observing.OfObservations.{are_of_observations}
pub use Rattle.coap_client_laws.proofs.Queueing.OneByOne.{asks_runs}
pub use Rattle.coap_client_laws.proofs.Rest.ComesToRest.{comes_to_rest}
pub use Rattle.coap_client_laws.proofs.Observing.Rising.{values_rise}
pub use Rattle.coap_client_laws.proofs.Queueing.Taken.{all_taken}
pub use Rattle.coap_client_laws.proofs.Turning.Turns.{closing}
pub use Rattle.coap_client_laws.proofs.Hearing.RestsHere.{rests_here}
pub use Rattle.coap_client_laws.proofs.Hearing.Types.{are_of_types}
pub use Rattle.coap_client_laws.proofs.Observing.Values.{values_are_whole}
pub use Rattle.coap_client_laws.proofs.Uploading.TransferSteps.{AsksMore, asks_more}
pub use Rattle.coap_client_laws.proofs.Uploading.UploadSteps.{continues_is}
