pub mod CountsDeferred
pub mod IsAskableSo
pub mod IsSendableSo
pub mod StillHeld
pub mod WhyRefused
