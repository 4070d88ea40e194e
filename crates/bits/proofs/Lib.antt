-- laws    packing and unpacking undo each other
pub mod laws
