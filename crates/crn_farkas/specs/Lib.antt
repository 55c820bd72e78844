pub mod Mixtures
pub mod Systems
pub mod Rooms
