-- The suits renamed (02, S-12): "any renaming of the three suits, indicator included and concealed tiles put back in order".
use Rattle.std.specs.Prelude.{Bool, false, cond, ◌≡◌, ℕ, ◌+◌, ◌*◌, ◌/◌, ◌%◌, ◌<◌, eqb, get_or}
use Rattle.tiles.specs.Below.{count}
use Rattle.tiles.specs.Kinds.{is_number}
use Rattle.hand.specs.declared.Fields.{Fields}
use Rattle.hand.specs.declared.Hand.{Hand}
use Rattle.hand.specs.Held.{meld_kind, meld_tile, in_others, descends}
use Rattle.points_fu.specs.declared.Items.{Items}
use Rattle.points_fu.specs.Fu.{fu}
use Rattle.score.specs.declared.Scored.{Scored}

-- "any renaming of the three suits": each of 0 man, 1 pin, 2 sou becomes one of them, and no two become the same
pub record IsRenaming (σ : ℕ → ℕ) : Type 0 where
  pub suit : (s : ℕ) → s < 3 → σ s < 3
  pub apart : (s t : ℕ) → s < 3 → t < 3 → σ s ≡ σ t → s ≡ t

-- a kind renamed: a number of a suit ("0-8 man 1-9, 9-17 pin, 18-26 sou") is the same number of another, an honour stays
unfoldable pub renamed : (ℕ → ℕ) → ℕ → ℕ
renamed σ k = cond (is_number k) (9 * σ (k / 9) + k % 9) k

-- a meld renamed: its kind stays and its tile is renamed; the lowest of a chi is the lowest again
unfoldable pub renamed_meld : (ℕ → ℕ) → ℕ → ℕ
renamed_meld σ b = 64 * meld_kind b + renamed σ (meld_tile b)

-- "indicator included": it and the winning tile
abbrev pub renamed_fields : (ℕ → ℕ) → Fields → Fields
renamed_fields σ f = record {
  how = f.how;
  winner = f.winner;
  discarder = f.discarder;
  riichi = f.riichi;
  situation = f.situation;
  indicator = renamed σ f.indicator;
  winning = renamed σ f.winning;
}

-- k is the hand h renamed, "indicator included and concealed tiles put back in order"
pub record IsRenamed (σ : ℕ → ℕ) (h k : Hand) : Type 0 where
  -- how it was won stays, with indicator and winning tile renamed
  pub fields : k.fields ≡ renamed_fields σ h.fields
  -- the melds stand where they stood, each renamed
  pub m : k.held.m ≡ h.held.m
  pub melds : (i : ℕ) → i < h.held.m → get_or k.held.melds i 0 ≡ renamed_meld σ (get_or h.held.melds i 0)
  -- of a kind, renamed, there are as many concealed tiles as there were of the kind
  pub tiles : (j : ℕ) → in_others k.held (renamed σ j) ≡ in_others h.held j
  -- "put back in order": they descend nowhere
  pub order : descends k.held ≡ false

-- "the hand is all green (yaku 34)": yaku 34 is in the yaku set of its score
abbrev pub is_all_green : Scored → Bool
is_all_green x = get_or x.yaku 34 false

-- ---- what stays

-- the items of fu (02, S-3): those of the four groups may stand in another order, as the groups do
pub record SameItems (x y : Items) : Type 0 where
  pub base : y.base ≡ x.base
  pub ron : y.ron ≡ x.ron
  pub pair : y.pair ≡ x.pair
  pub group : (n : ℕ) → count 4 (λ i. eqb (get_or y.group i (fu 0)).0 n) ≡ count 4 (λ i. eqb (get_or x.group i (fu 0)).0 n)
  pub wait : y.wait ≡ x.wait
  pub tsumo : y.tsumo ≡ x.tsumo
  pub rounding : y.rounding ≡ x.rounding

-- "leaves changes, h and fu as they were": x is the score of a record, y that of the renamed one; refusal, yaku set and readings tried (02, S-4) stay too
pub record SameScore (x y : Scored) : Type 0 where
  pub refusal : y.refusal ≡ x.refusal
  pub h : y.h.0 ≡ x.h.0
  pub fu : y.fu.0 ≡ x.fu.0
  pub items : SameItems x.items y.items
  -- "The yaku set may differ only where two readings tie": it never differs, not even there. Regular readings of the same tiles have their pairs in one
  -- suit, and with the same pair their groups differ within one suit (laws/Suits of reading), so a renaming keeps the order, and where two tie the image of
  -- the same one is reported
  pub yaku : y.yaku ≡ x.yaku
  pub tried : y.tried ≡ x.tried
  pub changes : y.changes ≡ x.changes
