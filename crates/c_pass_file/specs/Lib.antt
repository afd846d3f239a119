pub mod CPassFile
