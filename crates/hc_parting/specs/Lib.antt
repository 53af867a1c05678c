pub mod Filling
pub mod Laws
pub mod Ends
pub mod Manifests
