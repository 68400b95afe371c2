pub mod Login
