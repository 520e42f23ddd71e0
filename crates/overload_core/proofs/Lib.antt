pub mod Filling
pub mod Lacking
pub mod Reducing
pub mod Answering
pub mod Selling
