pub mod Follow
pub mod Replay
pub mod Followers
pub mod Costs
pub mod Sessions
pub mod Drill
pub mod inner
