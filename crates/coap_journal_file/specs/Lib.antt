pub mod Boots
pub mod Judging
pub mod PutInPlace
pub mod Wishes
