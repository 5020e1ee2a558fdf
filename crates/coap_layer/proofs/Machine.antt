-- The rows and the machine's steps say the same.
pub mod WhatIsDecided
pub mod ArrivalsAreSteps
pub mod RowsAreSteps
pub mod Forgetting
pub mod TicksAreRows
pub mod WhatIsRemembered
pub mod WhatIsReplied
pub mod WhatIsIssued
