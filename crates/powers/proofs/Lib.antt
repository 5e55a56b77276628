pub mod RootNumeral
