pub mod PageLines
pub mod AnswerToAsk
