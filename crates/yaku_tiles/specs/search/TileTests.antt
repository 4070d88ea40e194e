-- What the code keeps of a hand's tiles, tested once for all its readings: what a reading is worth is stated without it (`tests_of`).
use Rattle.std.specs.Prelude.{Bool, List, ℕ}
use Rattle.tiles.specs.Kinds.{is_honour, is_terminal, is_yaochu, is_simple}
use Rattle.yaku_tiles.specs.declared.TileTests.{TileTests}
use Rattle.yaku_tiles.specs.OfTiles.{only, honour_present, half_flush, flush, is_green, gates}

-- all of these at once, 2, 15, 20, 23, 25 and 32 to 35: the same in every reading of a hand, so that the code tests them once
unfoldable pub tile_tests_of : List ℕ → Bool → TileTests
tile_tests_of t meldless = record {
  simples = only t is_simple;
  yaochus = only t is_yaochu;
  honour = honour_present t;
  half = half_flush t;
  flush = flush t;
  honours = only t is_honour;
  terminals = only t is_terminal;
  greens = only t is_green;
  gates = gates t meldless;
}
