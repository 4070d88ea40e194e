-- laws     that it finds the first of those that no other beats, a yakuman among them, and counts right
pub mod laws
