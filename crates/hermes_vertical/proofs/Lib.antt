pub mod Messages
pub mod Bodies
pub mod Fitting
pub mod Returning
pub mod Asking
pub mod Rowed
