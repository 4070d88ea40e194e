-- A field lies in a few bytes: it is read by a shift of the number that they are.
use Rattle.std.specs.Prelude.{ℕ, zero, suc, ◌+◌, ◌*◌, ◌/◌, ◌%◌, ◌^◌, ◌-◌, ◌<◌, ◌≤◌, ◌≡◌, refl, List, [], ◌∷◌, ◌++◌, length, get_or, take, drop, set, replicate}
use Rattle.std.proofs.Common.{sym, ap, ◌∙◌, subst, append_assoc, append-nil, zero-add, add-zero, suc-add, zero-mul, mul-suc, add_comm, add-one, arith, length-drop, drop-drop, get_or-drop, shr-shr}
use Rattle.std.proofs.lemmas.List.{take-append-le, drop-append-le}
use Rattle.std.proofs.Math.Seq.{drop-append-add, drop-nil}
use Rattle.std.proofs.lemmas.List.Edits.{sets}
use Rattle.std.proofs.Math.Pow.{high, low}
use Rattle.bits.specs.Bits.{digits, val, unpack, EachBelow, bits_of, joined}
use Rattle.bits.proofs.laws.Pack.{length_digits, val_digits, below_digits, digits_of_val}

-- the last k of p + k digits, and the first w of w + q
drop_digits : (p k v : ℕ) → drop p (digits (p + k) v) ≡ digits k v
drop_digits zero k v = rw zero-add
drop_digits (suc p) k v = rw suc-add (drop_digits p k v)

take_digits : (w q v : ℕ) → take w (digits (w + q) v) ≡ digits w (v / 2 ^ q)
take_digits zero q v = refl
take_digits (suc w) q v =
    let e : v / 2 ^ (w + q) ≡ v / 2 ^ q / 2 ^ w = rw (add_comm w q) (sym (shr-shr v q w)) in
    rw (suc-add, e, take_digits w q v)

-- digits end to end
digits_low : (b v : ℕ) → digits b (v % 2 ^ b) ≡ digits b v
digits_low b v =
    let e : val 0 (digits b v) ≡ v % 2 ^ b = omega (arith, val_digits 0 b v, zero-mul (2 ^ b)) in
    rw (length_digits b v, e) at (digits_of_val 0 (digits b v) (below_digits b v))

digits_append : (a b x y : ℕ) → y < 2 ^ b → digits a x ++ digits b y ≡ digits (a + b) (x * 2 ^ b + y)
digits_append zero b x y h = rw zero-add (rw (low x b h) at (digits_low b (x * 2 ^ b + y)))
digits_append (suc a) b x y h =
    let v : ℕ = x * 2 ^ b + y in
    let e : v / 2 ^ (a + b) ≡ x / 2 ^ a = rw (add_comm a b) (sym (shr-shr v b a) ∙ ap (λ (k : ℕ). k / 2 ^ a) (high x b h)) in
    rw (suc-add, e, digits_append a b x y h)

-- the value of w digits from p on, with q after them
val_part : (p w q v : ℕ) → val 0 (take w (drop p (digits (p + (w + q)) v))) ≡ v / 2 ^ q % 2 ^ w
val_part p w q v = rw (drop_digits p (w + q) v, take_digits w q v) (omega (arith, val_digits 0 w (v / 2 ^ q), zero-mul (2 ^ w)))

-- a part that ends within a list does not see what follows
part : (w p : ℕ) (l r : List ℕ) → p + w ≤ length l → take w (drop p (l ++ r)) ≡ take w (drop p l)
part w p l r h = rw (drop-append-le p l r (omega arith)) (take-append-le w (drop p l) r (omega (arith, length-drop p l)))

-- a part of n digits and of the bytes after them is a part of the number that they are with k of these bytes, if it ends within them
joined_part : (k n l a p w : ℕ) (s : List ℕ) (f : ℕ → ℕ) → ((d : ℕ) → get_or s d 0 ≡ f d) → ((d : ℕ) → f d < 256)
    → l ≡ n + 8 * k → p + w ≤ l → p + w ≤ n + 8 * length s → take w (drop p (digits n a ++ bits_of s)) ≡ take w (drop p (digits l (joined a k f)))
joined_part zero n l a p w s f t b e h g =
    let z : l ≡ n = omega arith in
    rw z (part w p (digits n a) (bits_of s) (omega (arith, length_digits n a)))
joined_part (suc k) n l a p w [] f t b e h g =
    let d : List ℕ = digits n a in
    part w p d [] (omega (arith, length_digits n a))
    ∙ sym (part w p d (digits 8 (f 0)) (omega (arith, length_digits n a)))
    ∙ ap (λ (x : List ℕ). take w (drop p x)) (digits_append n 8 a (f 0) (b 0) ∙ sym (append-nil (digits (n + 8) (a * 256 + f 0))))
    ∙ joined_part k (n + 8) l (a * 256 + f 0) p w [] (λ d. f (suc d)) (λ d. t (suc d)) (λ d. b (suc d)) (omega arith) h (omega arith)
joined_part (suc k) n l a p w (y ∷ s) f t b e h g =
    let m : digits n a ++ digits 8 y ≡ digits (n + 8) (a * 256 + f 0) = ap (λ (x : ℕ). digits n a ++ digits 8 x) (t 0) ∙ digits_append n 8 a (f 0) (b 0) in
    ap (λ (x : List ℕ). take w (drop p x)) (sym (append_assoc (digits n a) (digits 8 y) (bits_of s)) ∙ ap (λ (x : List ℕ). x ++ bits_of s) m)
    ∙ joined_part k (n + 8) l (a * 256 + f 0) p w s (λ d. f (suc d)) (λ d. t (suc d)) (λ d. b (suc d)) (omega arith) h (omega arith)

-- the bits from byte i on
bits_from : (s : List ℕ) (i : ℕ) → drop (8 * i) (bits_of s) ≡ bits_of (drop i s)
bits_from s zero = refl
bits_from [] (suc i) = drop-nil (8 * suc i)
bits_from (x ∷ s) (suc i) =
    let e : 8 * suc i ≡ 8 + 8 * i = omega arith in
    ap (λ (n : ℕ). drop n (bits_of (x ∷ s))) e ∙ drop-append-add (digits 8 x) (bits_of s) (8 * i) ∙ bits_from s i

-- THE FIELD of w bits from bit j of byte i on, if it ends within k bytes
field_in : (k i j w : ℕ) (s : List ℕ) → EachBelow 256 s → j + w ≤ 8 * k → 8 * i + j + w ≤ 8 * length s
    → joined 0 k (λ d. get_or s (i + d) 0) / 2 ^ (8 * k - w - j) % 2 ^ w ≡ val 0 (take w (drop (8 * i + j) (bits_of s)))
field_in k i j w s b h g =
    let q : ℕ = 8 * k - w - j in
    let v : ℕ = joined 0 k (λ d. get_or s (i + d) 0) in
    let e : j + (w + q) ≡ 8 * k = omega arith in
    let d : drop (8 * i + j) (bits_of s) ≡ drop j (bits_of (drop i s)) = sym (drop-drop j (8 * i) (bits_of s)) ∙ ap (drop j) (bits_from s i) in
    let r : take w (drop j (bits_of (drop i s))) ≡ take w (drop j (digits (8 * k) v)) =
    joined_part k 0 (8 * k) 0 j w (drop i s) (λ d. get_or s (i + d) 0) (λ d. get_or-drop i s d 0) (λ d. b (i + d))
    (sym (zero-add (8 * k))) h (omega (arith, length-drop i s)) in
    sym (ap (λ (l : List ℕ). val 0 (take w l)) d ∙ ap (val 0) r
    ∙ subst (λ (n : ℕ). val 0 (take w (drop j (digits n v))) ≡ v / 2 ^ q % 2 ^ w) e (val_part j w q v))

-- from bit p on: d bits after it, in k bytes from its own on
field_after : (k p d w : ℕ) (s : List ℕ) → EachBelow 256 s → p % 8 + d + w ≤ 8 * k → p + d + w ≤ 8 * length s
    → joined 0 k (λ e. get_or s (p / 8 + e) 0) / 2 ^ (8 * k - w - (p % 8 + d)) % 2 ^ w ≡ val 0 (take w (drop (p + d) (bits_of s)))
field_after k p d w s b h g =
    let e : 8 * (p / 8) + (p % 8 + d) ≡ p + d = omega arith in
    field_in k (p / 8) (p % 8 + d) w s b h (omega arith) ∙ ap (λ (n : ℕ). val 0 (take w (drop n (bits_of s)))) e

-- the last bits
pub last_of : (s : List ℕ) (w : ℕ) → EachBelow 256 s → w ≤ 8 → 0 < length s
    → get_or s (length s - 1) 0 / 2 ^ 0 % 2 ^ w ≡ val 0 (take w (drop (8 * length s - w) (bits_of s)))
last_of s w b u h =
    let n : ℕ = length s - 1 in
    let e : 8 * n + (8 - w) ≡ 8 * length s - w = omega arith in
    let q : 8 - w - (8 - w) ≡ 0 = omega arith in
    let x : 0 * 256 + get_or s (n + 0) 0 ≡ get_or s n 0 = rw add-zero (omega arith) in
    rw (q, x, e) at (field_in 1 n (8 - w) w s b (omega arith) (omega arith))

-- a field of two and of three bytes, and three fields of four
module _ (s : List ℕ) (p w : ℕ) (b : EachBelow 256 s) where
  abbrev i : ℕ
  i = p / 8

  pub field_of : p + w ≤ 8 * length s → w ≤ 8 → (get_or s i 0 * 256 + get_or s (i + 1) 0) / 2 ^ (16 - w - p % 8) % 2 ^ w ≡ val 0 (take w (drop p (bits_of s)))
  field_of h u =
      let e : get_or s i 0 * 256 + get_or s (i + 1) 0 ≡ joined 0 2 (λ d. get_or s (i + d) 0) = rw add-zero (omega arith) in
      rw e (rw (add-zero (p % 8), add-zero p) at (field_after 2 p 0 w s b (omega arith) (omega arith)))

  pub long_of : p + w ≤ 8 * length s → w ≤ 17
      → ((get_or s i 0 * 256 + get_or s (i + 1) 0) * 256 + get_or s (i + 2) 0) / 2 ^ (24 - w - p % 8) % 2 ^ w ≡ val 0 (take w (drop p (bits_of s)))
  long_of h u =
      let e : (get_or s i 0 * 256 + get_or s (i + 1) 0) * 256 + get_or s (i + 2) 0 ≡ joined 0 3 (λ d. get_or s (i + d) 0) = rw add-zero (omega arith) in
      rw e (rw (add-zero (p % 8), add-zero p) at (field_after 3 p 0 w s b (omega arith) (omega arith)))

  pub three_of_lem : (x : ℕ) → x ≡ joined 0 4 (λ d. get_or s (i + d) 0) → p + 3 * w ≤ 8 * length s → w ≤ 8
      → x / 2 ^ (32 - 3 * w - p % 8) / 2 ^ (2 * w) % 2 ^ w ∷ x / 2 ^ (32 - 3 * w - p % 8) / 2 ^ w % 2 ^ w ∷ x / 2 ^ (32 - 3 * w - p % 8) / 2 ^ 0 % 2 ^ w ∷ []
      ≡ unpack (replicate 3 w) (drop p (bits_of s))
  three_of_lem x e h u =
      let l : List ℕ = bits_of s in
      let q : ℕ = 32 - 3 * w - p % 8 in
      let f0 : x / 2 ^ q / 2 ^ (2 * w) % 2 ^ w ≡ val 0 (take w (drop (p + 0) l)) = at 0 (2 * w) (omega arith) in
      let f1 : x / 2 ^ q / 2 ^ w % 2 ^ w ≡ val 0 (take w (drop (p + w) l)) = at w w (omega arith) in
      let f2 : x / 2 ^ q / 2 ^ 0 % 2 ^ w ≡ val 0 (take w (drop (p + 2 * w) l)) = at (2 * w) 0 (omega arith) in
      let d1 : drop w (drop p l) ≡ drop (p + w) l = drop-drop w p l in
      let t : p + w + w ≡ p + 2 * w = omega arith in
      let d2 : drop w (drop (p + w) l) ≡ drop (p + 2 * w) l = drop-drop w (p + w) l ∙ ap (λ (n : ℕ). drop n l) t in
      rw (f0, f1, f2, d1, d2, add-zero p)
    where
      -- d bits on, with r bits after it
      at : (d r : ℕ) → d + r ≡ 2 * w → x / 2 ^ (32 - 3 * w - p % 8) / 2 ^ r % 2 ^ w ≡ val 0 (take w (drop (p + d) (bits_of s)))
      at d r g =
          let k : 32 - 3 * w - p % 8 + r ≡ 32 - w - (p % 8 + d) = omega arith in
          rw (shr-shr x (32 - 3 * w - p % 8) r, k, e) (field_after 4 p d w s b (omega arith) (omega arith))

-- a turn of a run of fields of one width: the bits of the fields left, and what they give
pub run_turn : (w n i : ℕ) → i < n → w * (n - i) ≡ w + w * (n - (i + 1))
run_turn w n i h =
    let e : n - i ≡ suc (n - (i + 1)) = omega arith in
    ap (λ (k : ℕ). w * k) e ∙ mul-suc w (n - (i + 1)) ∙ add_comm (w * (n - (i + 1))) w

pub run_step : (b out : List ℕ) (w n i o : ℕ) → i < n
    → sets out i (unpack (replicate (n - i) w) (drop o b)) ≡ sets (set out i (val 0 (take w (drop o b)))) (i + 1)
    (unpack (replicate (n - (i + 1)) w) (drop (o + w) b))
run_step b out w n i o h =
    let e : n - i ≡ suc (n - (i + 1)) = omega arith in
    ap (λ (k : ℕ). sets out i (unpack (replicate k w) (drop o b))) e ∙ rw (drop-drop, add-one)

-- and a turn of three of them
pub run_turns : (w n i : ℕ) → i + 3 ≤ n → w * (n - i) ≡ 3 * w + w * (n - (i + 3))
run_turns w n i h =
    let k : ℕ = n - (i + 3) in
    let e : n - i ≡ suc (suc (suc k)) = omega arith in
    ap (λ (l : ℕ). w * l) e ∙ omega (arith, mul-suc w (suc (suc k)), mul-suc w (suc k), mul-suc w k)

pub run_three : (b out t : List ℕ) (w n i o : ℕ) → t ≡ unpack (replicate 3 w) (drop o b) → i + 3 ≤ n
    → sets out i (unpack (replicate (n - i) w) (drop o b))
    ≡ sets (set (set (set out i (get_or t 0 0)) (i + 1) (get_or t 1 0)) (i + 2) (get_or t 2 0)) (i + 3) (unpack (replicate (n - (i + 3)) w) (drop (o + 3 * w) b))
run_three b out t w n i o e h =
    let k : n - i ≡ suc (suc (suc (n - (i + 3)))) = omega arith in
    let i1 : i + 1 ≡ suc i = omega arith in
    let i2 : i + 2 ≡ suc (suc i) = omega arith in
    let i3 : i + 3 ≡ suc (suc (suc i)) = omega arith in
    let m : o + w + w + w ≡ o + 3 * w = omega arith in
    let d : drop w (drop w (drop w (drop o b))) ≡ drop (o + 3 * w) b =
    ap (λ (l : List ℕ). drop w (drop w l)) (drop-drop w o b) ∙ ap (drop w) (drop-drop w (o + w) b) ∙ drop-drop w (o + w + w) b ∙ ap (λ (l : ℕ). drop l b) m in
    ap (λ (l : ℕ). sets out i (unpack (replicate l w) (drop o b))) k ∙ rw (e, d, i1, i2, i3)
