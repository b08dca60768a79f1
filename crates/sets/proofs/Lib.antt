pub mod ByRule
pub mod Chains
pub mod Differing
pub mod Uniting
pub mod SumTest
