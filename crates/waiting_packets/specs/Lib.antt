pub mod WaitingPackets
pub mod Laws
