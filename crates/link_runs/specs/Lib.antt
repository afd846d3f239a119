pub mod Statement
pub mod Acknowledged
pub mod Overuse
pub mod Packets
pub mod Answered
pub mod Good
pub mod InRange
