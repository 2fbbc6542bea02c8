pub mod Drafted
pub mod FieldLaws
pub mod Files
pub mod InRange
pub mod LawfulLaws
pub mod ParamLaws
pub mod RowsComputed
pub mod FieldDigits
