pub mod Faults
pub mod Classes
pub mod Grammar
pub mod Reading
pub mod Marks
pub mod Texts
pub mod Answers
