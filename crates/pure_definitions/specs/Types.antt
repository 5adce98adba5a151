-- Types, the order of classes and sorts, and what occurs in types.
pub mod Typ
pub mod Occurs
pub mod Order
