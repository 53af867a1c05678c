pub mod ProxyLemmas
