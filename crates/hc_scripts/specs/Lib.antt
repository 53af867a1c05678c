pub mod ScriptNames
pub mod ScriptLimits
pub mod Scripts
pub mod ScriptFaults
pub mod ScriptParts
pub mod Replays
