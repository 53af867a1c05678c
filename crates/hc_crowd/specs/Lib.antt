pub mod Courses
pub mod CrowdLaws
pub mod Crowds
pub mod Held
pub mod Lightening
