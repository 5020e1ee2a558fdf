-- What goes out, and in which order.
pub mod EachGoesOut
pub mod InOrder
