-- laws    what the code puts into the buffer, and which of its returns is which answer
pub mod laws
