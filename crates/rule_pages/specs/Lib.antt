pub mod Roles
pub mod Said
pub mod Places
