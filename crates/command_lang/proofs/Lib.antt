pub mod FormsExact
pub mod TypedTokens
pub mod TypedForms
pub mod TypedCommands
