-- The hand of a sound record can be written, and a hand that can be written has a sound record.
use Prim.Native.Nat.{ℕ, zero, suc, ◌+◌, ◌*◌, ◌-◌, ◌^◌, ◌≤◌, ◌<◌}
use Rattle.std.specs.Prelude.{◌≡◌, drop}
use Rattle.std.proofs.Common.{sym, ap, ◌∙◌}
use Rattle.std.proofs.Math.Path.{subst}
use mathlib.Core.List.{List}
use native.Mathlib.Omega.{arith}
use Rattle.std.proofs.Math.ListN.{length, get_or, length-replicate, length-drop}
use Rattle.bits.specs.Bits.{bits_of, eights}
use Rattle.bits.proofs.laws.Pack.{length_fill, length_bits_of, length_unpack, unpack_fit, below_drop, below_pack, below_fill, sum_replicate}
use Rattle.hand.specs.declared.Hand.{Hand}
use Rattle.hand.specs.Refusals.{unwritable}
use Rattle.hand_record.specs.Record.{HandRead}
use Rattle.hand_record.specs.Record.{sixes, refusal_in, hand_of, read_of, record_of, count_in, hand_in, IsSound, IsHand}
use Rattle.hand_record.specs.search.Offsets.{held_in, melds_of, tiles_of}
use Rattle.hand_record.proofs.laws.Offsets.{hand_at_lem}
use Rattle.hand_record.proofs.laws.Read.{whole}
use Rattle.hand_record.proofs.laws.Clean.{Accepted, accepted_of}
use Rattle.hand_record.proofs.laws.Claims.{sound_read, read_sound, is_read}
use Rattle.hand_record.proofs.laws.Round.{as_read, accepted_back, same_hand}

-- what was read is a hand that is accepted for writing
module _ (s : List ℕ) (y : IsSound s) where
  abbrev h : Hand
  h = hand_in (count_in s) (bits_of s)

  is_h : h ≡ hand_of (read_of s)
  is_h = sym (ap hand_of (as_read s h (is_read s (sound_read s y))))

  pub read_accepted : Accepted (hand_of (read_of s))
  read_accepted = subst (λ (x : Hand). Accepted x) is_h (accepted_of h (accepted_back s h (is_read s (sound_read s y))))

  pub read_is_hand : IsHand (hand_of (read_of s))
  unfolding held_in melds_of tiles_of
  read_is_hand =
      let f = (is_read s (sound_read s y)).right_length in
      let m : ℕ = count_in s in
      let w = whole m f.few in
      let b : List ℕ = bits_of s in
      let lm : length (melds_of 25 m b) ≡ m = length_unpack (eights m) (drop 25 b) ∙ length-replicate m 8 in
      let lt : length (tiles_of 25 m b) ≡ 13 - 3 * m = length_unpack (sixes (13 - 3 * m)) (drop (25 + 8 * m) b) ∙ length-replicate (13 - 3 * m) 6 in
      let room : 8 * m ≤ length (drop 25 b) = omega (arith, length-drop 25 b, length_bits_of s, f) in
      let fits = unpack_fit (eights m) (drop 25 b) (below_drop 2 25 b (below_pack (eights (length s)) s)) (omega (arith, sum_replicate m 8)) in
      subst (λ (x : Hand). IsHand x) (sym (hand_at_lem m b) ∙ is_h) (record {
        melds = length_fill 4 (melds_of 25 m b) (omega (arith, f));
        concealed = length_fill 13 (tiles_of 25 m b) (omega arith);
        bytes = below_fill 256 4 (melds_of 25 m b) (λ k. eight m k _ (fits k));
      })
    where
      eight : (m k x : ℕ) → x < 2 ^ get_or (eights m) k 0 → x < 256
      eight zero k x g = omega arith
      eight (suc m) zero x g = g
      eight (suc m) (suc k) x g = eight m k x g

-- what is written is sound, and it is the hand's
module _ (h : Hand) (e : unwritable h ≡ 0) (i : IsHand h) where
  pub written_back : hand_of (read_of (record_of h)) ≡ h
  written_back = ap hand_of (same_hand h e i.melds i.concealed i.bytes)

  pub written_sound : IsSound (record_of h)
  written_sound = read_sound (record_of h) (ap (λ (r : HandRead). refusal_in r.answer) (same_hand h e i.melds i.concealed i.bytes))
