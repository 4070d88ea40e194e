-- Claim    a claim's bits, the reading and the gain that it names
-- Verdict  accepted, or the first of the four conditions that is false
-- IsJudged what Judge answers, for every record, claim, dealer and round wind
-- Judge    there is exactly one such answer
-- search   how the code finds it
pub mod Claim
pub mod Verdict
pub mod IsJudged
pub mod search
pub mod Judge
