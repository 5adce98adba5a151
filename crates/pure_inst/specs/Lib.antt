pub mod Named
pub mod Renaming
pub mod Image
pub mod Instance
pub mod Schematic
