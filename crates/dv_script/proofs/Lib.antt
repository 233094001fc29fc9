pub mod SpacedLemmas
pub mod Rests
pub mod LineByLine
pub mod Beside
pub mod KeyTexts
pub mod Printed
pub mod Grammar
pub mod FetchLines
