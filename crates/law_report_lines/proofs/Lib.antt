pub mod Lines
pub mod ProperOn
