-- Ready   how far an unfinished hand is from ready
-- Answer  there is one refusal and one number
-- search  what the functions promise each other
pub mod Ready
pub mod search
pub mod Answer
