-- Laws of the orders, of pages, and of lists that take them.
pub mod Lists
pub mod Sorted
pub mod Page
pub mod Meaning
pub mod Pages
pub mod KeptBack
pub mod LastPages
pub mod Taking
pub mod Sound
pub mod Rooms
