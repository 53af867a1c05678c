pub mod Notices
pub mod VoiceLaws
pub mod Voices
