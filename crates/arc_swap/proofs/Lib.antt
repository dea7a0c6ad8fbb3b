-- The laws of a run: emptying the stack, a vertex's turn, a pass, the passes, the call.
pub mod ShortStacks
pub mod Spreads
pub mod Drains
pub mod Taken
pub mod Passing
pub mod Running
pub mod Parts
pub mod Lights
pub mod Entering
pub mod Unique
pub mod Keeps
pub mod Demands
pub mod Quiet
pub mod Lasts
pub mod Promised
pub mod Refusals
pub mod Unused
