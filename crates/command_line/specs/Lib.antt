pub mod Numbers
pub mod Commands
pub mod Program
pub mod Asked
