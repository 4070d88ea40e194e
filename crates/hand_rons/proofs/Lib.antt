-- laws     where the first of several ends, how their hands fill an array; what holds of records that read and are rons on one tile
pub mod laws
