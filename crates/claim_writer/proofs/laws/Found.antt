-- What the calls of the writer give and leave, step by step.
use Rattle.std.specs.Prelude.{ℕ, ◌+◌, ◌*◌, ◌-◌, ◌/◌, ◌%◌, ◌≤◌, ◌<◌, ◌≡◌, Bool, ◌&&◌, ◌||◌, cond, List, [], ◌∷◌, ◌++◌, ltb, leb, get_or, take, drop, replicate}
use Rattle.std.proofs.Math.Path.{refl}
use Rattle.std.proofs.Common.{sym, ap, ◌∙◌, subst, zero-add, arith, length-take-le}
use Rattle.std.proofs.Math.Bool.{true, false}
use borrow.Author.Tests.{eq-eqb, ne_eqb}
use Rattle.std.proofs.Math.Dec.{eqb}
use Rattle.std.proofs.Math.ListN.{length}
use Rattle.std.proofs.lemmas.List.{length-replicate}
use Rattle.std.proofs.lemmas.List.Edits.{sets, sets-eq}
use Rattle.bits.specs.Bits.{digits, pack, unpack, EachBelow, eights, fill}
use Rattle.bits.proofs.laws.Pack.{length_pack, sum_replicate, sets_append, sets_fill, take_replicate, pack_append, below_pack, below_fill}
use Rattle.bits.proofs.laws.Pack.{length_fill}
use Rattle.hand_record.specs.declared.Written.{Written}
use Rattle.claim.specs.search.Claimed.{length_of}
use Rattle.claim.proofs.laws.Claimed.{widths, sum_widths, sizes}
use Rattle.claim_writer.specs.declared.Claim.{Claim}
use Rattle.claim_writer.specs.Writes.{refused_with, Writes}
use Rattle.claim_writer.specs.Write.{written_of, buffer_of}
use Rattle.claim_writer.proofs.ExactlyOne.{one_answer}
use Rattle.claim_writer.specs.search.Bytes.{in_order, ordered, is_nameable, regular_values, other_values, widths_for, values_for, packed, length_for, bytes_for}
use Rattle.claim_writer.proofs.laws.Bits.{in_parts}
use Rattle.claim_writer.proofs.laws.Named.{parts, long_0, bytes_long}
use Rattle.claim_writer.proofs.laws.Exact.{is_22, is_13, is_0, found_is}

module _ (c : Claim) where
  abbrev m : ℕ
  m = c.m

  abbrev gain : ℕ
  gain = c.gain.0

  -- ---- the tests

  pub found_far : length c.groups ≡ 4 → ltb 4 m || ltb 131071 gain ≡ true → false ≡ is_nameable c
  unfolding is_nameable
  found_far l t = rw (l, t)

  pub found_0 : length c.groups ≡ 4 → ltb 4 m || ltb 131071 gain ≡ false → c.shape ≡ 0 → (x : Bool) → x ≡ ordered (4 - m) 0 c.groups
      → leb c.pair 33 && leb c.place (4 - m) && x ≡ is_nameable c
  unfolding is_nameable
  found_0 l t z x e = rw (l, t, eq-eqb c.shape 0 z, e)

  pub found_1 : length c.groups ≡ 4 → ltb 4 m || ltb 131071 gain ≡ false → (c.shape ≡ 0 → ⊥) → (x : Bool) → x ≡ ordered 0 0 c.groups
      → leb c.shape 2 && eqb c.pair 34 && eqb c.place 0 && x ≡ is_nameable c
  unfolding is_nameable
  found_1 l t z x e = rw (l, t, ne_eqb c.shape 0 z, e)

  -- ---- the length

  pub length_is : (n : ℕ) → n ≡ length_of c.shape m → n ≡ length_for c
  unfolding length_for
  length_is n e = e

  pub length_most : m ≤ 4 → length_for c ≤ 7
  unfolding length_for
  length_most few = (sizes c.shape m few).1

  -- ---- the bits

  pub packed_0 : c.shape ≡ 0 → (b : List ℕ) → b ≡ fill 56 (pack (widths m) (regular_values c)) → b ≡ packed c
  unfolding packed
  packed_0 z b e = e ∙ rw (eq-eqb c.shape 0 z)

  pub packed_1 : (c.shape ≡ 0 → ⊥) → (b : List ℕ) → b ≡ fill 56 (pack (2 ∷ 17 ∷ []) (other_values c)) → b ≡ packed c
  unfolding packed
  packed_1 z b e = e ∙ rw (ne_eqb c.shape 0 z)

  pub other_stored : gain < 131072 → (b : List ℕ)
      → b ≡ sets (replicate 56 0) 0 (pack (2 ∷ 1 ∷ 8 ∷ 8 ∷ []) (c.shape ∷ gain / 65536 ∷ gain / 256 % 256 ∷ gain % 256 ∷ []))
      → b ≡ fill 56 (pack (2 ∷ 17 ∷ []) (other_values c))
  other_stored h b e =
      let p : List ℕ = pack (2 ∷ 17 ∷ []) (other_values c) in
      e ∙ ap (λ (l : List ℕ). sets (replicate 56 0) 0 (digits 2 c.shape ++ l)) (in_parts gain h)
      ∙ sets_fill 56 p (omega (arith, length_pack (2 ∷ 17 ∷ []) (other_values c) refl))

  -- three runs of stores, one after the other
  chain : (z a b d : List ℕ) (i j : ℕ) → length a ≡ i → i + length b ≡ j → sets (sets (sets z 0 a) i b) j d ≡ sets z 0 (a ++ (b ++ d))
  chain z a b d i j ei ej =
      let s1 : sets z 0 (a ++ (b ++ d)) ≡ sets (sets z 0 a) i (b ++ d) = rw (zero-add, ei) at (sets_append z 0 a (b ++ d)) in
      let s2 : sets (sets z 0 a) i (b ++ d) ≡ sets (sets (sets z 0 a) i b) j d = rw ej at (sets_append (sets z 0 a) i b d) in
      sym (s1 ∙ s2)

  module _ (few : m ≤ 4) (four : length c.groups ≡ 4) where
    abbrev codes : List ℕ
    codes = take (4 - m) c.groups

    size : length codes ≡ 4 - m
    size = length-take-le (4 - m) c.groups (omega arith)

    pub regular_long : length (pack (widths m) (regular_values c)) ≡ 28 + 7 * (4 - m)
    regular_long = length_pack (widths m) (regular_values c) (long_0 c size) ∙ sum_widths m

    pub regular_stored : gain < 131072 → (b1 b2 b3 : List ℕ)
        → b1 ≡ sets (replicate 56 0) 0 (pack (2 ∷ 6 ∷ []) (0 ∷ c.pair ∷ []))
        → b2 ≡ sets b1 8 (pack (take (4 - m) (replicate 4 7)) codes)
        → b3 ≡ sets b2 (8 + 7 * (4 - m)) (pack (3 ∷ 1 ∷ 8 ∷ 8 ∷ []) (c.place ∷ gain / 65536 ∷ gain / 256 % 256 ∷ gain % 256 ∷ []))
        → b3 ≡ fill 56 (pack (widths m) (regular_values c))
    regular_stored h b1 b2 b3 e1 e2 e3 =
        let ws : List ℕ = replicate (4 - m) 7 in
        let ends : List ℕ = c.place ∷ gain ∷ [] in
        let o : List ℕ = replicate 56 0 in
        let a : List ℕ = pack (2 ∷ 6 ∷ []) (0 ∷ c.pair ∷ []) in
        let b : List ℕ = pack ws codes in
        let d : List ℕ = pack (3 ∷ 17 ∷ []) ends in
        let l : length ws ≡ length codes = length-replicate {A = ℕ} (4 - m) 7 ∙ sym size in
        let lb : length b ≡ 7 * (4 - m) = length_pack ws codes l ∙ sum_replicate (4 - m) 7 in
        let f2 : b2 ≡ sets b1 8 b = rw (take_replicate (4 - m) 4 7 (omega arith)) at e2 in
        let f3 : b3 ≡ sets b2 (8 + 7 * (4 - m)) d =
        e3 ∙ ap (λ (x : List ℕ). sets b2 (8 + 7 * (4 - m)) (digits 3 c.place ++ x)) (in_parts gain h) in
        let whole : a ++ (b ++ d) ≡ pack (widths m) (regular_values c) = ap (λ (x : List ℕ). a ++ x) (sym (pack_append ws (3 ∷ 17 ∷ []) codes ends l)) in
        f3 ∙ ap (λ (x : List ℕ). sets x (8 + 7 * (4 - m)) d) (f2 ∙ ap (λ (x : List ℕ). sets x 8 b) e1)
        ∙ chain o a b d 8 (8 + 7 * (4 - m)) refl (omega arith)
        ∙ ap (λ (x : List ℕ). sets o 0 x) whole
        ∙ sets_fill 56 (pack (widths m) (regular_values c)) (omega (arith, regular_long))

    -- there are 56
    pub packed_long : length (packed c) ≡ 56
    unfolding packed
    packed_long = go (eqb c.shape 0) refl
      where
        go : (x : Bool) → eqb c.shape 0 ≡ x → length (fill 56 (pack (cond x (widths m) (2 ∷ 17 ∷ [])) (cond x (regular_values c) (other_values c)))) ≡ 56
        go true x = length_fill 56 (pack (widths m) (regular_values c)) (omega (arith, regular_long))
        go false x = length_fill 56 (pack (2 ∷ 17 ∷ []) (other_values c)) (omega (arith, length_pack (2 ∷ 17 ∷ []) (other_values c) refl))

  pub packed_bits : EachBelow 2 (packed c)
  unfolding packed
  packed_bits = below_fill 2 56 (pack (widths_for c) (values_for c)) (below_pack (widths_for c) (values_for c))

  bytes_are : (n : ℕ) → n ≡ length_for c → n ≤ 7 → (b : List ℕ) → b ≡ packed c → unpack (take n (eights 7)) b ≡ bytes_for c
  unfolding bytes_for
  bytes_are n k l b e = rw (take_replicate n 7 8 l, k, e)

  -- ---- the answer

  -- an answer, three times: as `Writes` has it, and as the one that there is
  abbrev pub Answered : List ℕ → Written → List ℕ → Type 0
  Answered buf w out = Writes c buf w out × ((w ≡ written_of c buf) × (out ≡ buffer_of c buf))

  answered : (buf : List ℕ) (w : Written) (out : List ℕ) → Writes c buf w out → Answered buf w out
  answered buf w out i = let e = one_answer c buf w out i in (i, (e.0, e.1))

  module _ (buf : List ℕ) (x : Bool) (e : x ≡ is_nameable c) where
    pub kept_22 : x ≡ false → Answered buf (refused_with 22) buf
    kept_22 f = answered buf (refused_with 22) buf (is_22 c buf (sym e ∙ f))

    pub kept_13 : x ≡ true → (n : ℕ) → n ≡ length_for c → length buf < n → Answered buf (refused_with 13) buf
    kept_13 f n k h = answered buf (refused_with 13) buf (is_13 c buf (sym e ∙ f) (omega arith))

    pub stored : x ≡ true → (n : ℕ) → n ≡ length_for c → n ≤ length buf → (b out : List ℕ) → b ≡ packed c
        → out ≡ sets buf 0 (unpack (take n (eights 7)) b) → Answered buf (record { refusal = 0; len = n }) out
    stored f n k h b out eb eo =
        let t : is_nameable c ≡ true = sym e ∙ f in
        let few = (parts c t).0 in
        let u : unpack (take n (eights 7)) b ≡ bytes_for c = bytes_are n k (omega (arith, length_most few)) b eb in
        let q : out ≡ bytes_for c ++ drop (length_for c) buf =
        eo ∙ ap (λ (l : List ℕ). sets buf 0 l) u ∙ sets-eq (bytes_for c) buf 0 (omega (arith, bytes_long c))
        ∙ rw (zero-add, bytes_long c) in
        subst (λ (l : List ℕ). Answered buf (record { refusal = 0; len = n }) l) (sym q)
        (subst (λ (j : ℕ). Answered buf (record { refusal = 0; len = j }) (bytes_for c ++ drop (length_for c) buf)) (sym k)
        (answered buf (record { refusal = 0; len = length_for c }) (bytes_for c ++ drop (length_for c) buf) (is_0 c buf t (omega arith))))

-- the one answer
pub writes_of : (c : Claim) (buf : List ℕ) (w : Written) (out : List ℕ) → w ≡ written_of c buf → out ≡ buffer_of c buf → Writes c buf w out
unfolding written_of buffer_of
writes_of c buf w out e f = rw (e, f) (found_is c buf)
