pub mod InsideShelves
pub mod Shelves
pub mod Tables
