pub mod RecoveryProof
pub mod Runs
