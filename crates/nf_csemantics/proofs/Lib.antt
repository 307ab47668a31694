pub mod Public
pub mod WorkedCalls
