-- What two layers do together.
pub mod WhatComesByType
pub mod WhatIsTaken
pub mod StoredReplies
pub mod TakenWhereRoom
pub mod TakenInTime
pub mod IdsAreFree
pub mod OverWithin
pub mod NonsAreTaken
pub mod WhatAResetSays
