pub mod Reports
pub mod Changes
