-- The sums of four scores and the sticks, as the machine makes them: each number passes through its 64 bits, `B`, and no sum wraps.
use mathlib.Core.Path.{◌≡◌, sym}
use Prim.Native.Nat.{ℕ, suc, ◌+◌, ◌-◌, ◌*◌, ◌<◌, ◌^◌}
use native.Mathlib.Omega.{arith}
use borrow.Author.Tests.{ne_eqb}
use lib.Dec.{eqb}
use lib.IntN.{ℤ, pos, negsuc, ◌+ℤ◌, ◌*ℤ◌}
use mir.Syntax.{w64}
use mir.Val.{SFits, to_z, of_z}
use mir.Facts.{to_z-of_z}
use Rattle.score.proofs.laws.Z.{Within, within_add, parts_mag}
use Rattle.position.specs.Ledger.{points_in_play, eq_z}
use Rattle.position.proofs.laws.Form.{same_leb, sum_of}

abbrev pub B : ℤ → ℤ
B z = to_z w64 (of_z w64 z)

pub fit : (z : ℤ) (h : ℕ) → Within z h → h < 2 ^ 63 → SFits w64 z
fit z h w l = record { sfits = parts_mag z (2 ^ 63) (omega arith) (omega arith) }

pub eqb_eq_z : (z : ℤ) (n : ℕ) → SFits w64 z → n < 2 ^ 63 → eqb (of_z w64 z) n ≡ eq_z z (pos n)
eqb_eq_z (pos m) n f l = sym (same_leb m n)
eqb_eq_z (negsuc m) n f l = ne_eqb (2 ^ 64 - suc m) n (λ e. omega (arith, f.sfits))

module _ (a b c d : ℤ) (k : ℕ) (wa : Within a 2147483648) (wb : Within b 2147483648) (wc : Within c 2147483648)
    (wd : Within d 2147483648) (hk : k < 2 ^ 32) where
  fa : SFits w64 a
  fa = fit a 2147483648 wa (omega arith)

  fb : SFits w64 b
  fb = fit b 2147483648 wb (omega arith)

  fc : SFits w64 c
  fc = fit c 2147483648 wc (omega arith)

  fd : SFits w64 d
  fd = fit d 2147483648 wd (omega arith)

  w2 : Within (a +ℤ b) 4294967296
  w2 = within_add a b 2147483648 2147483648 wa wb

  w3 : Within (a +ℤ b +ℤ c) 6442450944
  w3 = within_add (a +ℤ b) c 4294967296 2147483648 w2 wc

  w4 : Within (a +ℤ b +ℤ c +ℤ d) 8589934592
  w4 = within_add (a +ℤ b +ℤ c) d 6442450944 2147483648 w3 wd

  w5 : Within (sum_of a b c d k) (8589934592 + 1000 * k)
  w5 = within_add (a +ℤ b +ℤ c +ℤ d) (pos (1000 * k)) 8589934592 (1000 * k) w4 (omega arith, omega arith)

  f2 : SFits w64 (a +ℤ b)
  f2 = fit _ 4294967296 w2 (omega arith)

  f3 : SFits w64 (a +ℤ b +ℤ c)
  f3 = fit _ 6442450944 w3 (omega arith)

  f4 : SFits w64 (a +ℤ b +ℤ c +ℤ d)
  f4 = fit _ 8589934592 w4 (omega arith)

  f5 : SFits w64 (sum_of a b c d k)
  f5 = fit _ (8589934592 + 1000 * k) w5 (omega arith)

  fk : SFits w64 (pos (1000 * k))
  fk = record { sfits = omega arith }

  one_k : SFits w64 (pos k)
  one_k = record { sfits = omega arith }

  k_is : B (pos k) ≡ pos k
  k_is = to_z-of_z one_k

  pub sum2 : SFits w64 (B a +ℤ B b)
  sum2 = rw (to_z-of_z fa, to_z-of_z fb) f2

  pub sum3 : SFits w64 (B (B a +ℤ B b) +ℤ B c)
  sum3 = rw (to_z-of_z fa, to_z-of_z fb, to_z-of_z f2, to_z-of_z fc) f3

  pub sum_4 : SFits w64 (B (B (B a +ℤ B b) +ℤ B c) +ℤ B d)
  sum_4 = rw (to_z-of_z fa, to_z-of_z fb, to_z-of_z f2, to_z-of_z fc, to_z-of_z f3, to_z-of_z fd) f4

  all : B (B (B (B a +ℤ B b) +ℤ B c) +ℤ B d) +ℤ B (pos 1000 *ℤ B (pos k)) ≡ sum_of a b c d k
  all = rw (to_z-of_z fa, to_z-of_z fb, to_z-of_z f2, to_z-of_z fc, to_z-of_z f3, to_z-of_z fd, to_z-of_z f4, k_is, to_z-of_z fk)

  pub sum_5 : SFits w64 (B (B (B (B a +ℤ B b) +ℤ B c) +ℤ B d) +ℤ B (pos 1000 *ℤ B (pos k)))
  sum_5 = rw all f5

  pub test : eqb (of_z w64 (B (B (B (B a +ℤ B b) +ℤ B c) +ℤ B d) +ℤ B (pos 1000 *ℤ B (pos k)))) 120000 ≡ eq_z (sum_of a b c d k) points_in_play
  test = rw all (eqb_eq_z (sum_of a b c d k) 120000 f5 (omega arith))
