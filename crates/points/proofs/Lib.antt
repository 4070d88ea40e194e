-- Claims  what holds of every payment: changes-sum-zero, gain-is-payments, gain-by-ron, gain-by-tsumo
-- laws    what is proved of them; a reader of the meaning needs none of it
pub mod laws
pub mod Claims
