-- laws     what is proved of them; a reader of the meaning needs none of it
-- Claims   closed only, one instead of another, yakuman alone
pub mod laws
pub mod Claims
