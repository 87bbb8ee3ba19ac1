-- What is proved of the definitions. Nothing here has to be believed.
pub mod Groups
