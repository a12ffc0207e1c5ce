mod TurnOrder
pub mod Steps
pub mod Receiving
pub mod Changes
pub mod AtPlaces
pub mod Ready
pub mod Resting
pub mod Returns
mod Reordered
mod MembersKept
mod Waiting
mod Siblings
mod Skipping
mod Saying
mod Heard
mod Hearing
mod Stirs
mod There
mod Unnoted
mod Telling
mod WordsSaid
mod Made
pub mod Slots
pub mod SlotPlaces
pub mod SlotBegins
pub mod SlotWaits
pub mod SlotChanges
pub mod SlotSteps
pub mod SlotEnds
pub mod Awake
pub mod Sleepers
pub mod TurnOut
pub mod TakenOut
mod Staying
pub mod TurnOfOne
pub mod Waking
pub mod TurnOfChildren
pub mod TurnByTurn
pub mod ByName
mod AtName
pub mod Depths
mod Leases
pub mod Leaving
mod Images
pub mod Finishing
mod LogKilled
mod BroodSlots
mod AllRest
mod Copies
mod Stuck
mod Broods
pub mod Spending
mod Calling
mod CallKill
mod CallJoin
mod CallFork
pub mod Giving
pub mod Beginning
pub mod Arriving
pub mod Crosses
