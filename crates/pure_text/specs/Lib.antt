pub mod Lists
pub mod TextLists
