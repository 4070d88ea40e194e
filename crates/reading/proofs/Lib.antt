-- laws      what is proved of them; a reader of the meaning needs neither search nor laws
-- Claims    there is exactly one list of all readings in order
pub mod laws
pub mod SearchClaims
pub mod Claims
