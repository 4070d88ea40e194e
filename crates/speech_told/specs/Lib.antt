-- Phrases   the parts of what the handset says
-- Sheet     the clips of the sheet for a language
-- Messages  what is said of a scored record, of its fu and of a refusal
-- Told      what two scores have in common
pub mod Phrases
pub mod Sheet
pub mod Messages
pub mod Told
