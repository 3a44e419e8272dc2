pub mod QuestionsAndLists
pub mod TablesAndRuns
