-- There is exactly one answer: what the code finds is one, and there is no other.
use Rattle.std.specs.Prelude.{ℕ, ◌<◌, ◌≤◌, ◌≡◌, Bool, cond, List, ◌++◌, length}
use Rattle.std.proofs.Common.{arith, sym, ap, ◌∙◌, subst, ltb-true, ltb-false}
use Rattle.std.proofs.Math.Path.{refl}
use Rattle.std.proofs.Math.Bool.{true, false}
use Rattle.std.proofs.lemmas.Bool.{false≢true}
use Rattle.std.proofs.Math.Dec.{ltb}
use Rattle.std.proofs.Math.ListN.{drop}
use Rattle.hand_record.specs.declared.Written.{Written}
use Rattle.claim_writer.specs.declared.Claim.{Claim}
use Rattle.claim_writer.specs.Writes.{refused_with, Writes, unnamed, short, written}
use Rattle.claim_writer.specs.search.Bytes.{is_nameable, length_for, bytes_for, found_written, found_buffer}
use Rattle.claim_writer.proofs.laws.Named.{passes, only_one, made, bytes_long}

module _ (c : Claim) (buf : List ℕ) where
  -- ---- what the code finds is an answer

  pub is_22 : is_nameable c ≡ false → Writes c buf (refused_with 22) buf
  is_22 e = unnamed (λ s i. false≢true (sym e ∙ passes c s i))

  pub is_13 : is_nameable c ≡ true → length buf < length_for c → Writes c buf (refused_with 13) buf
  is_13 e h = short (bytes_for c) (made c e) (omega (arith, bytes_long c))

  pub is_0 : is_nameable c ≡ true → length_for c ≤ length buf
      → Writes c buf (record { refusal = 0; len = length_for c }) (bytes_for c ++ drop (length_for c) buf)
  is_0 e h =
      subst (λ (n : ℕ). Writes c buf (record { refusal = 0; len = n }) (bytes_for c ++ drop n buf)) (bytes_long c)
      (written (bytes_for c) (made c e) (omega (arith, bytes_long c)))

  pub found_is : Writes c buf (found_written c buf) (found_buffer c buf)
  unfolding found_written found_buffer
  found_is = go (is_nameable c) refl (ltb (length buf) (length_for c)) refl
    where
      go : (x : Bool) → is_nameable c ≡ x → (y : Bool) → ltb (length buf) (length_for c) ≡ y
          → Writes c buf (cond x (cond y (refused_with 13) (record { refusal = 0; len = length_for c })) (refused_with 22))
          (cond x (cond y buf (bytes_for c ++ drop (length_for c) buf)) buf)
      go false e y f = is_22 e
      go true e true f = is_13 e (ltb-true (length buf) (length_for c) f)
      go true e false f = is_0 e (ltb-false (length buf) (length_for c) f)

  -- ---- and the only one

  pub only : {v w : Written} {k l : List ℕ} → Writes c buf v k → Writes c buf w l → (v ≡ w) × (k ≡ l)
  only (unnamed n) (unnamed o) = (refl, refl)
  only (unnamed n) (short s i h) = absurd (n s i)
  only (unnamed n) (written s i h) = absurd (n s i)
  only (short s i h) (unnamed n) = absurd (n s i)
  only (short s i h) (short t j g) = (refl, refl)
  only (short s i h) (written t j g) = absurd (let e : length s ≡ length t = ap (λ (x : List ℕ). length x) (only_one c s t i j) in omega arith)
  only (written s i h) (unnamed n) = absurd (n s i)
  only (written s i h) (short t j g) = absurd (let e : length s ≡ length t = ap (λ (x : List ℕ). length x) (only_one c s t i j) in omega arith)
  only (written s i h) (written t j g) =
      let e = only_one c s t i j in
      (ap (λ (x : List ℕ). record { refusal = 0; len = length x }) e, ap (λ (x : List ℕ). x ++ drop (length x) buf) e)

  abbrev pub exactly_one : (w : Written) × (out : List ℕ) × Writes c buf w out × ((v : Written) (l : List ℕ) → Writes c buf v l → (v ≡ w) × (l ≡ out))
  exactly_one = (found_written c buf, found_buffer c buf, found_is, λ v l i. only i found_is)
