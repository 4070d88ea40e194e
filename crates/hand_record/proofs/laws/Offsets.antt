-- A record's values by their widths are its parts by the bits at which these start.
use Rattle.std.specs.Prelude.{◌≡◌, get_or}
use Rattle.std.proofs.Common.{sym, ◌∙◌, add-zero, drop-drop, take_at, drop_at, get_or-drop}
use Rattle.std.proofs.Math.Path.{ap}
use mathlib.Core.List.{List, [], ◌∷◌, ◌++◌}
use Prim.Native.Nat.{ℕ, ◌+◌, ◌*◌, ◌-◌}
use Rattle.std.proofs.Math.ListN.{length, take, drop}
use Rattle.std.proofs.lemmas.List.{length-replicate}
use Rattle.bits.specs.Bits.{unpack, width_of, eights, fill}
use Rattle.bits.proofs.laws.Pack.{unpack_append, length_unpack, sum_replicate}
use Rattle.hand.specs.declared.Held.{Held}
use Rattle.hand_record.specs.Record.{head, sixes, pad_of, widths, head_of, held_by, hand_in, padding_of}
use Rattle.hand_record.specs.search.Offsets.{melds_of, tiles_of, held_in, padding_after, hand_at}

pub melds_length : (at m : ℕ) (b : List ℕ) → length (melds_of at m b) ≡ m
unfolding melds_of
melds_length at m b = length_unpack (eights m) (drop at b) ∙ length-replicate m 8

pub tiles_length : (at m : ℕ) (b : List ℕ) → length (tiles_of at m b) ≡ 13 - 3 * m
unfolding tiles_of
tiles_length at m b = length_unpack (sixes (13 - 3 * m)) (drop (at + 8 * m) b) ∙ length-replicate (13 - 3 * m) 6

-- ---- parts of a list

module _ (x y z t : List ℕ) where
  second : (n m : ℕ) → length x ≡ n → length y ≡ m → take m (drop n (x ++ (y ++ (z ++ t)))) ≡ y
  second n m ex ey = ap (take m) (drop_at x (y ++ (z ++ t)) n ex) ∙ take_at y (z ++ t) m ey

  after_second : (n m : ℕ) → length x ≡ n → length y ≡ m → drop (n + m) (x ++ (y ++ (z ++ t))) ≡ z ++ t
  after_second n m ex ey =
      sym (drop-drop m n (x ++ (y ++ (z ++ t)))) ∙ ap (drop m) (drop_at x (y ++ (z ++ t)) n ex) ∙ drop_at y (z ++ t) m ey

  third : (n m k : ℕ) → length x ≡ n → length y ≡ m → length z ≡ k → take k (drop (n + m) (x ++ (y ++ (z ++ t)))) ≡ z
  third n m k ex ey ez = ap (take k) (after_second n m ex ey) ∙ take_at z t k ez

  after_third : (n m k : ℕ) → length x ≡ n → length y ≡ m → length z ≡ k → drop (n + m + k) (x ++ (y ++ (z ++ t))) ≡ t
  after_third n m k ex ey ez =
      sym (drop-drop k (n + m) (x ++ (y ++ (z ++ t)))) ∙ ap (drop k) (after_second n m ex ey) ∙ drop_at z t k ez

-- the element at n is the first of what is left from n on
first_of : (n : ℕ) (l : List ℕ) → get_or l n 0 ≡ get_or (drop n l) 0 0
first_of n l = sym (get_or-drop n l 0 0 ∙ ap (λ (k : ℕ). get_or l k 0) (add-zero n))

-- ---- after a head of widths ws

module _ (ws : List ℕ) (m pad : ℕ) (b : List ℕ) where
  abbrev at : ℕ
  at = width_of ws

  abbrev values : List ℕ
  values = unpack (ws ++ (eights m ++ (sixes (13 - 3 * m) ++ (pad ∷ [])))) b

  pub by_parts : values ≡ unpack ws b ++ (melds_of at m b ++ (tiles_of at m b ++ (padding_after at m pad b ∷ [])))
  unfolding melds_of tiles_of padding_after
  by_parts =
      let k : ℕ = 13 - 3 * m in
      let b1 : List ℕ = drop at b in
      let b2 : List ℕ = drop (at + 8 * m) b in
      let e2 : drop (width_of (eights m)) b1 ≡ b2 = rw sum_replicate (drop-drop (8 * m) at b) in
      let e3 : drop (width_of (sixes k)) b2 ≡ drop (at + 8 * m + 6 * k) b = rw sum_replicate (drop-drop (6 * k) (at + 8 * m) b) in
      let p1 = unpack_append ws (eights m ++ (sixes k ++ (pad ∷ []))) b in
      let p2 : unpack (eights m ++ (sixes k ++ (pad ∷ []))) b1 ≡ unpack (eights m) b1 ++ unpack (sixes k ++ (pad ∷ [])) b2 =
      rw e2 at (unpack_append (eights m) (sixes k ++ (pad ∷ [])) b1) in
      let p3 : unpack (sixes k ++ (pad ∷ [])) b2 ≡ unpack (sixes k) b2 ++ unpack (pad ∷ []) (drop (at + 8 * m + 6 * k) b) =
      rw e3 at (unpack_append (sixes k) (pad ∷ []) b2) in
      p1 ∙ ap (λ (l : List ℕ). unpack ws b ++ l) (p2 ∙ ap (λ (l : List ℕ). unpack (eights m) b1 ++ l) p3)

  pub held_at : held_by (length ws) m values ≡ held_in at m b
  unfolding held_by held_in
  held_at =
      let n = length ws in
      let lw = length_unpack ws b in
      let lm = melds_length at m b in
      let lt = tiles_length at m b in
      let last : List ℕ = padding_after at m pad b ∷ [] in
      let em : take m (drop n values) ≡ melds_of at m b =
      ap (λ (l : List ℕ). take m (drop n l)) by_parts ∙ second (unpack ws b) (melds_of at m b) (tiles_of at m b) last n m lw lm in
      let et : take (13 - 3 * m) (drop (n + m) values) ≡ tiles_of at m b =
      ap (λ (l : List ℕ). take (13 - 3 * m) (drop (n + m) l)) by_parts
      ∙ third (unpack ws b) (melds_of at m b) (tiles_of at m b) last n m (13 - 3 * m) lw lm lt in
      ap (λ (l : List ℕ). record { m = m; melds = fill 4 l; concealed = fill 13 (take (13 - 3 * m) (drop (n + m) values)) }) em
      ∙ ap (λ (l : List ℕ). record { m = m; melds = fill 4 (melds_of at m b); concealed = fill 13 l }) et

  pub padding_at : get_or values (length ws + m + (13 - 3 * m)) 0 ≡ padding_after at m pad b
  padding_at =
      let n = length ws + m + (13 - 3 * m) in
      let last : List ℕ = padding_after at m pad b ∷ [] in
      let rest : drop n values ≡ last =
      ap (drop n) by_parts
      ∙ after_third (unpack ws b) (melds_of at m b) (tiles_of at m b) last (length ws) m (13 - 3 * m)
      (length_unpack ws b) (melds_length at m b) (tiles_length at m b) in
      first_of n values ∙ ap (λ (l : List ℕ). get_or l 0 0) rest

-- ---- a record of a finished hand

module _ (m : ℕ) (b : List ℕ) where
  pub padding_is : padding_of m b ≡ padding_after 25 m (pad_of m) b
  unfolding padding_of widths
  padding_is = padding_at head m (pad_of m) b

  pub hand_at_lem : hand_in m b ≡ hand_at m b
  unfolding hand_in widths head_of
  hand_at_lem = ap (λ (x : Held). record { fields = (head_of b).fields; held = x }) (held_at head m (pad_of m) b)

  -- its values
  pub unpack_widths : unpack (widths m) b ≡ unpack head b ++ (melds_of 25 m b ++ (tiles_of 25 m b ++ (padding_of m b ∷ [])))
  unfolding widths
  unpack_widths =
      by_parts head m (pad_of m) b
      ∙ ap (λ (k : ℕ). unpack head b ++ (melds_of 25 m b ++ (tiles_of 25 m b ++ (k ∷ [])))) (sym padding_is)
