-- Past      what has happened, by the bookings left standing alone
-- History   what a position holds, by what has happened
-- Payments  who pays what, seat by seat and case by case
pub mod Past
pub mod History
pub mod Payments
