pub mod Components
pub mod Escapes
pub mod Named
pub mod Names
pub mod Held
