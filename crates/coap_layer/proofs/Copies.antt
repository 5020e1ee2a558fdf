-- How often a CON goes out, and when (RFC 7252, section 4.2).
pub mod CopiesInTime
pub mod WhatIsOpen
pub mod DueMoments
pub mod BackOffIsShort
pub mod FiveAtMost
pub mod OverStays
pub mod RestedSince
pub mod FirstMoments
