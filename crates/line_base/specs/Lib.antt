pub mod Bytes
pub mod Results
pub mod Text
pub mod PlainText
pub mod Name
pub mod Number
pub mod Decimal
pub mod Moment
