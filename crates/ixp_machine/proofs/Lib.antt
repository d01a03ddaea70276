mod Families
pub mod InPlace
pub mod Making
pub mod OthersKept
pub mod OwnQuestions
