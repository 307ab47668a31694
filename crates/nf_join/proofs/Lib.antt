pub mod MadeLemmas
pub mod StepLemmas
pub mod PlaceLemmas
pub mod OneLemmas
pub mod ExchangeLemmas
pub mod JoinLemmas
