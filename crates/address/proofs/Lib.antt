pub mod AddressLaws
pub mod JoinLaws
pub mod ClearLaws
pub mod OrderLaws
pub mod Computing
