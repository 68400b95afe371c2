pub mod Desks
pub mod Logins
