pub mod AnswerRows
