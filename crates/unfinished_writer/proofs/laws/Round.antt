-- A sound unfinished hand read and written back gives the same bytes; accepted tiles held written and read give the same tiles held.
use Prim.Native.Nat.{ℕ, ◌-◌, ◌*◌, ◌≤◌, ◌<◌}
use Rattle.std.specs.Prelude.{◌≡◌, Bool, true, false, ltb, length, take}
use Rattle.std.proofs.Math.Path.{refl, sym, ap}
use Rattle.std.proofs.Common.{◌∙◌, arith, ltb-true, ltb-false, length-take, length-take-le, get_or-take, pow_pos}
use mathlib.Core.List.{List, [], ◌∷◌, ◌++◌}
use Rattle.std.proofs.Math.ListN.{get_or, get_or-eq_default}
use Rattle.std.proofs.lemmas.List.{length-replicate}
use Rattle.bits.specs.Bits.{val, pack, unpack, eights, bits_of, EachBelow}
use Rattle.bits.proofs.laws.Pack.{FitIn, fields_of, below_take, length_unpack, bytes_fields, fields_bytes, fit_cons, fit_nil, fit_run, fit_append, app_inj}
use Rattle.hand.specs.declared.Held.{Held}
use Rattle.hand.specs.Held.{unused_not_zero}
use Rattle.hand_record.specs.Record.{sixes, held_widths, held_values}
use Rattle.hand_record.specs.search.Offsets.{melds_of, tiles_of, held_in, padding_after}
use Rattle.hand_record.proofs.laws.Offsets.{by_parts}
use Rattle.hand_record.proofs.laws.Round.{held_values_lem, held_again}
use Rattle.unfinished.specs.Unfinished.{length_of, pad_of, widths, count_in, held_of, padding_of, held_refusal, refusal_of, read_of}
use Rattle.unfinished.proofs.laws.Read.{whole, RightLength, length_right, held_at, padding_at}
use Rattle.unfinished.proofs.laws.Sound.{clean_of, no_padding, are_kinds, SoundHeld, sound_held, read_sound}
use Rattle.unfinished_writer.specs.Write.{values_of, unfinished_bytes, unwritable, IsHeld}
use Rattle.unfinished_writer.proofs.laws.Store.{sum_widths, length_widths, accepted_of, of_accepted}

-- the values of an unfinished hand's bits, part by part
count_is : (s : List ℕ) → count_in s ≡ val 0 (take 3 (bits_of s))
unfolding count_in
count_is s = refl

unpack_widths : (m : ℕ) (b : List ℕ) → unpack (widths m) b
    ≡ val 0 (take 3 b) ∷ (melds_of 3 m b ++ (tiles_of 3 m b ++ (padding_after 3 m (pad_of m) b ∷ [])))
unfolding widths
unpack_widths m b = by_parts (3 ∷ []) m (pad_of m) b

-- ---- what was read

module _ (s : List ℕ) (e : refusal_of s ≡ 0) where
  y : SoundHeld s
  y = sound_held s e

  -- the tiles held are those of the bits
  held_are : held_of s ≡ held_in 3 (held_of s).m (bits_of s)
  held_are = held_at s ∙ ap (λ (m : ℕ). held_in 3 m (bits_of s)) (sym y.count)

  no_bits : padding_of s ≡ 0
  no_bits =
      let z = read_sound s e in
      no_padding (held_of s) (padding_of s) (record { held = z.held; order = z.order; four = z.four })

  -- the values that are written are its own
  values_are : values_of (held_of s) ≡ fields_of (widths (held_of s).m) s
  unfolding values_of
  values_are =
      let m : ℕ = (held_of s).m in
      let b : List ℕ = bits_of s in
      let pad : 0 ≡ padding_after 3 m (pad_of m) b = sym no_bits ∙ padding_at s ∙ ap (λ (n : ℕ). padding_after 3 n (pad_of n) b) (sym y.count) in
      ap (λ (l : List ℕ). m ∷ l) (held_values_lem (held_of s) 3 b held_are)
      ∙ ap (λ (n : ℕ). m ∷ (melds_of 3 m b ++ (tiles_of 3 m b ++ (n ∷ [])))) pad
      ∙ ap (λ (n : ℕ). n ∷ (melds_of 3 m b ++ (tiles_of 3 m b ++ (padding_after 3 m (pad_of m) b ∷ [])))) (y.count ∙ count_is s)
      ∙ sym (unpack_widths m b)

  pub same_length : length_of (held_of s).m ≡ length s
  same_length = ap length_of y.count ∙ sym y.right.right

  pub same_bytes : EachBelow 256 s → unfinished_bytes (held_of s) ≡ s
  unfolding unfinished_bytes
  same_bytes bs =
      let m : ℕ = (held_of s).m in
      rw (values_are, same_length) (bytes_fields (widths m) s bs (sum_widths m y.few ∙ ap (λ (k : ℕ). 8 * k) same_length))

  -- and the tiles held are accepted for writing
  pub accepted_back : unwritable (held_of s) ≡ 0
  accepted_back = of_accepted (held_of s) (record { few = y.few; unused = y.unused; unrefused = y.unrefused })

-- ---- what is written

-- a tile that six bits hold, where it stands
abbrev pub SixBits : Held → Type 0
SixBits x = (i : ℕ) → i < 13 - 3 * x.m → get_or x.concealed i 0 < 64

-- the values of tiles held fit their widths
values_fit : (x : Held) → x.m ≤ 4 → IsHeld x → SixBits x → FitIn (widths x.m) (values_of x)
unfolding widths values_of
values_fit x few i t =
    let m : ℕ = x.m in
    let k : ℕ = 13 - 3 * m in
    let em : length (take m x.melds) ≡ m = length-take-le m x.melds (omega (arith, i.melds)) in
    let et : length (take k x.concealed) ≡ k = length-take-le k x.concealed (omega (arith, i.concealed)) in
    let tail = fit_append (sixes k) (take k x.concealed) (pad_of m ∷ []) (0 ∷ []) (length-replicate k 6 ∙ sym et)
    (fit_run k 6 (take k x.concealed) (omega arith) six) (fit_cons (pad_of m) 0 [] [] (pow_pos (pad_of m)) fit_nil) in
    fit_cons 3 m (held_widths m (pad_of m)) (held_values x) (omega arith)
    (fit_append (eights m) (take m x.melds) (sixes k ++ (pad_of m ∷ [])) (take k x.concealed ++ (0 ∷ [])) (length-replicate m 8 ∙ sym em)
    (fit_run m 8 (take m x.melds) (omega arith) (below_take 256 m x.melds i.bytes)) tail)
  where
    six : EachBelow 64 (take (13 - 3 * x.m) x.concealed)
    six j = go (ltb j (13 - 3 * x.m)) refl
      where
        go : (b : Bool) → ltb j (13 - 3 * x.m) ≡ b → get_or (take (13 - 3 * x.m) x.concealed) j 0 < 64
        go true e = let h = ltb-true j (13 - 3 * x.m) e in rw (get_or-take (13 - 3 * x.m) x.concealed j 0 h) (t j h)
        go false e =
            let h = ltb-false j (13 - 3 * x.m) e in
            rw (get_or-eq_default (take (13 - 3 * x.m) x.concealed) 0 {n = j} (omega (arith, h, length-take (13 - 3 * x.m) x.concealed)))
            (omega arith)

pub length_bytes : (x : Held) → length (unfinished_bytes x) ≡ length_of x.m
unfolding unfinished_bytes
length_bytes x = length_unpack (eights (length_of x.m)) (pack (widths x.m) (values_of x)) ∙ length-replicate (length_of x.m) 8

-- refused or not, tiles that the bytes can hold are read as they were
module _ (x : Held) (i : IsHeld x) (few : x.m ≤ 4) (unused : unused_not_zero x ≡ false) (t : SixBits x) where
  same_fields : fields_of (widths x.m) (unfinished_bytes x) ≡ values_of x
  unfolding unfinished_bytes
  same_fields =
      fields_bytes (widths x.m) (values_of x) (length_of x.m)
      (length_widths x few (omega (arith, i.melds)) (omega (arith, i.concealed))) (values_fit x few i t) (sum_widths x.m few)

  -- the parts of what is written
  parts_back : (b : List ℕ) → b ≡ bits_of (unfinished_bytes x)
      → (val 0 (take 3 b) ≡ x.m) × (held_in 3 x.m b ≡ x) × (padding_after 3 x.m (pad_of x.m) b ≡ 0)
  unfolding values_of
  parts_back b eb =
      let m : ℕ = x.m in
      let p : ℕ = padding_after 3 m (pad_of m) b in
      let q : val 0 (take 3 b) ∷ (melds_of 3 m b ++ (tiles_of 3 m b ++ (p ∷ []))) ≡ m ∷ held_values x =
      sym (unpack_widths m b) ∙ ap (unpack (widths m)) eb ∙ same_fields in
      let q1 = app_inj (val 0 (take 3 b) ∷ []) (m ∷ []) _ _ refl q in
      let q2 = held_again x 3 p b few i.melds i.concealed unused q1.1 in
      (ap (λ (l : List ℕ). get_or l 0 0) q1.0, q2.0, q2.1)

  pub same_held : held_of (unfinished_bytes x) ≡ x
  same_held =
      let s : List ℕ = unfinished_bytes x in
      let p = parts_back (bits_of s) refl in
      held_at s ∙ ap (λ (m : ℕ). held_in 3 m (bits_of s)) (count_is s ∙ p.0) ∙ p.1

  pub refused_so : refusal_of (unfinished_bytes x) ≡ held_refusal x 0
  unfolding refusal_of
  refused_so =
      let s : List ℕ = unfinished_bytes x in
      let p = parts_back (bits_of s) refl in
      let ec : count_in s ≡ x.m = count_is s ∙ p.0 in
      let w = whole x.m few in
      let r : RightLength (length s) x.m = record { some = omega (arith, w, length_bytes x); few = few; right = length_bytes x } in
      let ep : padding_of s ≡ 0 = padding_at s ∙ ap (λ (m : ℕ). padding_after 3 m (pad_of m) (bits_of s)) ec ∙ p.2 in
      rw (same_held, ep, ec, length_right (length s) x.m r)

-- accepted tiles are read
pub same_read : (x : Held) → unwritable x ≡ 0 → IsHeld x → read_of (unfinished_bytes x) ≡ record { refusal = 0; held = x }
unfolding read_of
same_read x e i =
    let a = accepted_of x e in
    let c = clean_of x 0 a.unrefused in
    let t : SixBits x = λ j h. let k = are_kinds x 0 c j h in omega arith in
    rw (refused_so x i a.few a.unused t ∙ a.unrefused, same_held x i a.few a.unused t)
