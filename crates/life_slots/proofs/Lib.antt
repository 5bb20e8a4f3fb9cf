pub mod HoldingStill
pub mod OwnedAt
pub mod SlotObjects
pub mod SlotOperands
pub mod SlotsBehind
pub mod SlotsEnded
