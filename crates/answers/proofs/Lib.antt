pub mod Reading
pub mod Printing
pub mod Splitting
pub mod Right
pub mod Known
