-- One subscription: begin with Rule, then LegalList, Standing and Reading. All slots: Slots, then
-- Changing. The state under the lock: Hold, then Applied, Noted and Closing.
pub mod Names
pub mod Updates
pub mod Rule
pub mod LegalList
pub mod Identity
pub mod Standing
pub mod Marking
pub mod Reading
pub mod Laws
pub mod Slots
pub mod Opening
pub mod Progress
pub mod Changing
pub mod Closing
pub mod Shown
pub mod Acts
pub mod Turn
pub mod TurnRun
pub mod Hold
pub mod Own
pub mod Leading
pub mod Applied
pub mod Noted
pub use Rattle.lq_desk_world.specs.Events
