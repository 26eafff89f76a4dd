pub mod Ends
pub mod Statements
pub mod AllRows
pub mod Products
pub mod Rows
pub mod Made
pub mod Moves
pub mod Committing
