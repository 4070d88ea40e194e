-- OfTiles  the yaku that go by the tiles alone
-- search   what the code keeps of a hand's tiles
pub mod OfTiles
pub mod search
