pub mod PastedMarks
pub mod KeptLine
pub mod GivenExamples
pub mod TakenApart
pub mod AnyCalls
pub mod IdleReads
pub use Rattle.session_questions.proofs.FilledPlaces
