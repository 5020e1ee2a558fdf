-- Each message of a smooth run arrives and is taken in time. The argument:
--
-- What a message layer sends, its end gives out in that turn (SentIsGivenOut), and no call but NextOut takes it
-- (OthersTakeNone). What is given out is fed to the other end within 1,000 ms (Delivery/FedInTime), which hands it to
-- its layer (WhereItArrives): so it arrives there within 1,000 ms (ArrivesInTime). An end is fed fewer messages in
-- EXCHANGE_LIFETIME than its layer remembers (FewArrive), so none is dropped as one too many: a CON is handed up as
-- what it carries (HandedAs) and acknowledged, and is over within 2,000 ms (TakenInTime, AllTaken).
pub mod AckTaken
pub mod AllTaken
pub mod ArrivesInTime
pub mod OthersTakeNone
pub mod SentIsGivenOut
pub mod TakenInTime
pub mod WhereItArrives
pub mod OnTime
pub mod HandedAs
pub mod FewArrive
pub mod HeardClient
pub mod ToClient
