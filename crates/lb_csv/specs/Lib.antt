pub mod CsvTexts
pub mod Shown
pub mod Players
pub mod Csv
pub mod Verdicts
pub mod Windows
