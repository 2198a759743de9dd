pub mod Address
pub mod Picture
pub mod Order
