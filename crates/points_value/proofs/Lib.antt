-- Claims  the theorems: what each yaku counts in an open hand; that fu is rounded as document 01 says, and its items add up to it; that dora is no yaku;
-- laws    what is proved of them; a reader of the meaning needs none of it
pub mod laws
pub mod Claims
