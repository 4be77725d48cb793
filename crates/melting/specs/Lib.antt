pub mod Melting
