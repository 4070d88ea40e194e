-- Write   the bytes of an unfinished hand; what its writers refuse, answer and store
pub mod Write
