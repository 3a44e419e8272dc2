-- However the input is cut, what is handed to the writer is what the program says.
pub mod WholeInput
