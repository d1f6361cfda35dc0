pub mod InSession
