-- Line    a line of a slip, and the labels
-- Slip    the values of a slip, the refusals, and what the page then holds
pub mod Line
pub mod Slip
