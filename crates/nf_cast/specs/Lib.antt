pub mod Names
pub mod Contents
pub mod Written
pub mod Text
pub mod Placed
pub mod Book
pub mod Rules
pub mod Program
