pub mod IsRead
pub mod LongestRun
pub mod WhereNoneBegins
pub mod WhatIsLeft
