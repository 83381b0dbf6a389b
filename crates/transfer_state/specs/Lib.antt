pub mod Outlet
pub mod Intake
