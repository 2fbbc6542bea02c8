pub mod OctalText
