pub mod ByNumber
pub mod SheetAnswer
