pub mod Stealing
pub mod Undo
pub use Rattle.krb_aes.specs.Cipher
pub mod Inner
