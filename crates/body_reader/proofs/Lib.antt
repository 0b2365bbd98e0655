pub mod SelfFirst
