pub mod EachOf
pub mod NoneRejected
pub mod NotifiesBy
