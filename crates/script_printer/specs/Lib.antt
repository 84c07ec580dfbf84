pub mod Printing
pub mod Laws
pub mod Building
pub mod Copying
