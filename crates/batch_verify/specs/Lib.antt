pub mod ByPlain
