pub mod Groups
pub mod Amounts
pub mod Greatest
pub mod LimitLaws
pub mod Payable
