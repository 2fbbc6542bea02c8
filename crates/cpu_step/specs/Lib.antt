pub mod Results
pub mod Families
pub mod LogicFamilies
pub mod IndexFamilies
pub mod Does
