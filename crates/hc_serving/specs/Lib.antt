pub mod Outcomes
pub mod Proxies
