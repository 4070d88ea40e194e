-- ExactlyOne  there is one refusal and one number
-- Claims      the theorem that 0 means ready
-- laws        from tiles held to tallies and back; a reader of the meaning needs neither search nor laws
pub mod laws
pub mod ExactlyOne
pub mod Claims
