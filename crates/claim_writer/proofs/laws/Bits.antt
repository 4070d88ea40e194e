-- Values at their widths with zero bits after them, as bytes: they have these fields, and no other bytes do.
use Rattle.std.specs.Prelude.{ℕ, zero, suc, ◌+◌, ◌*◌, ◌-◌, ◌/◌, ◌%◌, ◌^◌, ◌≤◌, ◌<◌, ◌≡◌, refl, List, [], ◌∷◌, ◌++◌, length, get_or, take, drop, replicate}
use Rattle.std.proofs.Common.{sym, ap, ◌∙◌, append-nil, arith, length-drop, take-append-drop, pow_mono, drop_at}
use native.Mathlib.Nat.{mod-eq_of_lt}
use Rattle.std.proofs.lemmas.List.{length-replicate}
use Rattle.std.proofs.Math.Seq.{take-append-add}
use Rattle.bits.specs.Bits.{digits, val, pack, unpack, width_of, EachBelow, eights, bits_of, fill}
use Rattle.bits.proofs.laws.Pack.{FitIn, below_pack, below_fill, below_drop, length_pack, length_fill, unpack_pack, pack_unpack, sum_eights}
use Rattle.bits.proofs.laws.Pack.{length_unpack, length_bits_of, fit_run, unpack_fit, below_replicate, val_digits, val_of_digits, digits_of_val, take_replicate}
use Rattle.claim.specs.Claim.{HasFields}

-- ---- zero bits

val_zeros : (n : ℕ) → val 0 (replicate n 0) ≡ 0
val_zeros zero = refl
val_zeros (suc n) = val_zeros n

digits_zero : (n : ℕ) → digits n 0 ≡ replicate n 0
digits_zero zero = refl
digits_zero (suc n) = let z : 0 / 2 ^ n % 2 ≡ 0 = rw (native.Mathlib.Nat.zero-div (2 ^ n)) in rw (z, digits_zero n)

-- bits that are 0 as a number
no_bit : (bs : List ℕ) → EachBelow 2 bs → val 0 bs ≡ 0 → bs ≡ replicate (length bs) 0
no_bit bs h e = sym (digits_of_val 0 bs h) ∙ ap (digits (length bs)) e ∙ digits_zero (length bs)

-- what is unpacked at widths of 8 are bytes
below_bytes : (n : ℕ) (bs : List ℕ) → EachBelow 2 bs → 8 * n ≤ length bs → EachBelow 256 (unpack (eights n) bs)
below_bytes n bs h l k =
    let few : get_or (eights n) k 0 ≤ 8 = omega (arith, below_replicate 9 n 8 (omega arith) k) in
    let m : 2 ^ get_or (eights n) k 0 ≤ 2 ^ 8 = pow_mono few in
    omega (arith, unpack_fit (eights n) bs h (omega (arith, sum_eights n)) k)

-- 17 bits in three parts
val_append : (a : ℕ) (l r : List ℕ) → val a (l ++ r) ≡ val (val a l) r
val_append a [] r = refl
val_append a (x ∷ l) r = val_append (a * 2 + x) l r

val_at : (a w v : ℕ) → v < 2 ^ w → val a (digits w v) ≡ a * 2 ^ w + v
val_at a w v h = val_digits a w v ∙ ap (λ (k : ℕ). a * 2 ^ w + k) (mod-eq_of_lt h)

val_three : (u v w x y z : ℕ) → x < 2 ^ u → y < 2 ^ v → z < 2 ^ w → val 0 (pack (u ∷ v ∷ w ∷ []) (x ∷ y ∷ z ∷ [])) ≡ (x * 2 ^ v + y) * 2 ^ w + z
val_three u v w x y z h k l =
    let r : List ℕ = digits v y ++ (digits w z ++ []) in
    val_append 0 (digits u x) r
    ∙ ap (λ (a : ℕ). val a r) (val_of_digits u x h)
    ∙ val_append x (digits v y) (digits w z ++ [])
    ∙ ap (λ (a : ℕ). val a (digits w z ++ [])) (val_at x v y k)
    ∙ ap (λ (l : List ℕ). val (x * 2 ^ v + y) l) (append-nil (digits w z))
    ∙ val_at (x * 2 ^ v + y) w z l

pub in_parts : (g : ℕ) → g < 131072 → pack (1 ∷ 8 ∷ 8 ∷ []) (g / 65536 ∷ g / 256 % 256 ∷ g % 256 ∷ []) ≡ pack (17 ∷ []) (g ∷ [])
in_parts g h =
    let b : List ℕ = pack (1 ∷ 8 ∷ 8 ∷ []) (g / 65536 ∷ g / 256 % 256 ∷ g % 256 ∷ []) in
    let s : (g / 65536 * 256 + g / 256 % 256) * 256 + g % 256 ≡ g = omega arith in
    let e : val 0 b ≡ g = val_three 1 8 8 (g / 65536) (g / 256 % 256) (g % 256) (omega arith) (omega arith) (omega arith) ∙ s in
    sym (digits_of_val 0 b (below_pack (1 ∷ 8 ∷ 8 ∷ []) (g / 65536 ∷ g / 256 % 256 ∷ g % 256 ∷ []))) ∙ ap (digits 17) e ∙ sym (append-nil (digits 17 g))

-- ---- bytes that have the fields

module _ (ws vs : List ℕ) where
  -- their bits
  abbrev p : List ℕ
  p = pack ws vs

  bits_of_lem : (s : List ℕ) → HasFields s ws vs → bits_of s ≡ p ++ replicate (8 * length s - width_of ws) 0
  bits_of_lem s f =
      let b : List ℕ = bits_of s in
      let w : ℕ = width_of ws in
      let room : w ≤ length b = omega (arith, f.size, length_bits_of s) in
      let below : EachBelow 2 b = below_pack (eights (length s)) s in
      let first : take w b ≡ p = sym (pack_unpack ws b below room) ∙ ap (pack ws) f.values in
      let rest : drop w b ≡ replicate (length (drop w b)) 0 = no_bit (drop w b) (below_drop 2 w b below) f.padding in
      let long : length (drop w b) ≡ 8 * length s - w = length-drop w b ∙ ap (λ (k : ℕ). k - w) (length_bits_of s) in
      sym (take-append-drop w b) ∙ ap (λ (l : List ℕ). l ++ drop w b) first
      ∙ ap (λ (l : List ℕ). p ++ l) (rest ∙ ap (λ (k : ℕ). replicate k 0) long)

  -- bytes by their bits
  bytes_by : (s : List ℕ) → EachBelow 256 s → s ≡ unpack (eights (length s)) (bits_of s)
  bytes_by s h =
      sym (ap (λ (l : List ℕ). unpack (eights (length s)) l) (sym (append-nil (bits_of s)))
      ∙ unpack_pack (eights (length s)) s [] (length-replicate (length s) 8) (fit_run (length s) 8 s (omega arith) h))

  -- no two lists of bytes have them
  pub one_list : (s t : List ℕ) → EachBelow 256 s → EachBelow 256 t → HasFields s ws vs → HasFields t ws vs → s ≡ t
  one_list s t h g f k =
      let l : length s ≡ length t = f.size ∙ sym k.size in
      bytes_by s h ∙ ap (λ (b : List ℕ). unpack (eights (length s)) b) (bits_of_lem s f)
      ∙ ap (λ (n : ℕ). unpack (eights n) (p ++ replicate (8 * n - width_of ws) 0)) l
      ∙ sym (bytes_by t g ∙ ap (λ (b : List ℕ). unpack (eights (length t)) b) (bits_of_lem t k))

  -- and with zeros up to 56 bits they have them
  module _ (n : ℕ) (l : length ws ≡ length vs) (fit : FitIn ws vs) (size : n ≡ (width_of ws + 7) / 8) (most : n ≤ 7) where
    abbrev s : List ℕ
    s = unpack (eights n) (fill 56 p)

    pub laid_length : length s ≡ n
    laid_length = length_unpack (eights n) (fill 56 p) ∙ length-replicate {A = ℕ} n 8

    laid_bits : bits_of s ≡ p ++ replicate (8 * n - width_of ws) 0
    laid_bits =
        let w : ℕ = width_of ws in
        let lp : length p ≡ w = length_pack ws vs l in
        let z : List ℕ = replicate (56 - length p) 0 in
        let e : 8 * n ≡ length p + (8 * n - w) = omega arith in
        ap (λ (k : ℕ). pack (eights k) s) laid_length
        ∙ pack_unpack (eights n) (fill 56 p) (below_fill 2 56 p (below_pack ws vs)) (omega (arith, sum_eights n, length_fill 56 p (omega arith)))
        ∙ ap (λ (k : ℕ). take k (p ++ z)) (sum_eights n ∙ e)
        ∙ take-append-add p z (8 * n - w)
        ∙ ap (λ (x : List ℕ). p ++ x) (take_replicate (8 * n - w) (56 - length p) 0 (omega arith))

    pub laid_fields : HasFields s ws vs
    laid_fields =
        let w : ℕ = width_of ws in
        let r : List ℕ = replicate (8 * n - w) 0 in
        record {
          size = laid_length ∙ size;
          values = ap (λ (b : List ℕ). unpack ws b) laid_bits ∙ unpack_pack ws vs r l fit;
          padding = ap (λ (b : List ℕ). val 0 (drop w b)) laid_bits ∙ ap (val 0) (drop_at p r w (length_pack ws vs l)) ∙ val_zeros (8 * n - w);
        }

    pub laid_below : EachBelow 256 s
    laid_below = below_bytes n (fill 56 p) (below_fill 2 56 p (below_pack ws vs)) (omega (arith, length_fill 56 p (omega (arith, length_pack ws vs l))))
