pub mod Parts
pub mod LineParts
pub mod Texts
pub mod Growing
pub mod OneList
pub mod OneAnswer
pub mod SaysOne
