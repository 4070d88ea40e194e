-- Packing and unpacking undo each other.
use Rattle.std.specs.Prelude.{ℕ, zero, suc, ◌+◌, ◌*◌, ◌/◌, ◌%◌, ◌^◌, ◌-◌, ◌<◌, ◌≤◌, ◌≡◌, refl, List, [], ◌∷◌, ◌++◌, map, length, get_or, take, drop, set, replicate}
use Rattle.std.proofs.Common.{sym, ap, ◌∙◌, append_assoc, append-nil, mod-lt, mod-eq_of_lt, le_of_suc-le-suc, not-suc-le-zero, mul-one, zero-mul, div-one, mul_assoc, add-mul, suc-ne-zero, add-zero, add-suc, suc-add, mul-zero, mul-suc, add_comm, zero-add, one-mul, div-lt_iff_lt-mul, add-one, one-add, sub-one, arith, length-append, length-drop, drop-drop, drop-cons, take_at, drop_at, take-add, length-take-le, get_or-drop, pow_pos, pow_mono, shr-shr}
use Rattle.std.proofs.Math.Nat.{mod-one, pow-succ', suc_inj, sub-zero, zero-sub, suc-sub-suc}
use Rattle.std.proofs.lemmas.List.{length-replicate, take-append-le, drop-append-le}
use Rattle.std.proofs.lemmas.List.Edits.{sets, sets-eq}
use Rattle.std.proofs.Math.Seq.{take-length}
use Rattle.std.proofs.lemmas.Nat.{mod-pow-add}
use Rattle.bits.specs.Bits.{digits, val, pack, unpack, width_of, EachBelow, eights, bits_of, fill, pack_bytes}

-- each value fits its width
abbrev pub FitIn : List ℕ → List ℕ → Type 0
FitIn ws vs = (k : ℕ) → get_or vs k 0 < 2 ^ get_or ws k 0

-- bytes as fields
abbrev pub fields_of : List ℕ → List ℕ → List ℕ
fields_of ws s = unpack ws (bits_of s)

pub length_digits : (w v : ℕ) → length (digits w v) ≡ w
length_digits zero v = refl
length_digits (suc w) v = ap suc (length_digits w v)

-- the value of the digits
pub val_digits : (a w v : ℕ) → val a (digits w v) ≡ a * 2 ^ w + v % 2 ^ w
val_digits a zero v = omega (arith, mod-one v, mul-one a)
val_digits a (suc w) v =
    let d : ℕ = v / 2 ^ w % 2 in
    let e1 : v % 2 ^ suc w ≡ d * 2 ^ w + v % 2 ^ w = rw one-add at (mod-pow-add v 1 w) in
    let e2 : a * 2 ^ suc w ≡ a * 2 * 2 ^ w = ap (λ (k : ℕ). a * k) (pow-succ' 2 w) ∙ sym (mul_assoc a 2 (2 ^ w)) in
    let e3 : (a * 2 + d) * 2 ^ w ≡ a * 2 * 2 ^ w + d * 2 ^ w = add-mul (a * 2) d (2 ^ w) in
    val_digits (a * 2 + d) w v ∙ omega arith

pub val_of_digits : (w v : ℕ) → v < 2 ^ w → val 0 (digits w v) ≡ v
val_of_digits w v h = omega (arith, val_digits 0 w v, mod-eq_of_lt h, zero-mul (2 ^ w))

-- the digits of a value
tail_below : (b x : ℕ) (l : List ℕ) → EachBelow b (x ∷ l) → EachBelow b l
tail_below b x l h = λ k. h (suc k)

val_div : (a : ℕ) (bs : List ℕ) → EachBelow 2 bs → val a bs / 2 ^ length bs ≡ a
val_div a [] h = div-one a
val_div a (b ∷ bs) h =
    let r : val (a * 2 + b) bs / 2 ^ length bs ≡ a * 2 + b = val_div (a * 2 + b) bs (tail_below 2 b bs h) in
    let s : val (a * 2 + b) bs / 2 ^ suc (length bs) ≡ val (a * 2 + b) bs / 2 ^ length bs / 2 =
    sym (rw add-one at (shr-shr (val (a * 2 + b) bs) (length bs) 1)) in
    s ∙ ap (λ (k : ℕ). k / 2) r ∙ omega (arith, h 0)

pub digits_of_val : (a : ℕ) (bs : List ℕ) → EachBelow 2 bs → digits (length bs) (val a bs) ≡ bs
digits_of_val a [] h = refl
digits_of_val a (b ∷ bs) h =
    let t : EachBelow 2 bs = tail_below 2 b bs h in
    let e : val (a * 2 + b) bs / 2 ^ length bs % 2 ≡ b = rw (val_div (a * 2 + b) bs t) (omega (arith, h 0)) in
    rw (e, digits_of_val (a * 2 + b) bs t)

-- lists
pub below_nil : (b : ℕ) → 0 < b → EachBelow b []
below_nil b h = λ k. h

pub below_cons : (b x : ℕ) (l : List ℕ) → x < b → EachBelow b l → EachBelow b (x ∷ l)
below_cons b x l h t zero = h
below_cons b x l h t (suc k) = t k

pub below_take : (b n : ℕ) (l : List ℕ) → EachBelow b l → EachBelow b (take n l)
below_take b zero l h k = omega (arith, h k)
below_take b (suc n) [] h k = h k
below_take b (suc n) (x ∷ l) h zero = h 0
below_take b (suc n) (x ∷ l) h (suc k) = below_take b n l (tail_below b x l h) k

pub below_drop : (b n : ℕ) (l : List ℕ) → EachBelow b l → EachBelow b (drop n l)
below_drop b n l h k = rw get_or-drop (h (n + k))

pub below_append : (b : ℕ) (l r : List ℕ) → EachBelow b l → EachBelow b r → EachBelow b (l ++ r)
below_append b [] r h g = g
below_append b (x ∷ l) r h g = below_cons b x (l ++ r) (h 0) (below_append b l r (tail_below b x l h) g)

pub below_map : (b : ℕ) (f : ℕ → ℕ) (l : List ℕ) → 0 < b → ((k : ℕ) → k < b → f k < b) → EachBelow b l → EachBelow b (map f l)
below_map b f [] p h s k = p
below_map b f (x ∷ l) p h s zero = h x (s 0)
below_map b f (x ∷ l) p h s (suc k) = below_map b f l p h (λ j. s (suc j)) k

pub below_digits : (w v : ℕ) → EachBelow 2 (digits w v)
below_digits zero v = λ k. omega arith
below_digits (suc w) v = below_cons 2 (v / 2 ^ w % 2) (digits w v) (mod-lt (v / 2 ^ w) (omega arith)) (below_digits w v)

pub below_pack : (ws vs : List ℕ) → EachBelow 2 (pack ws vs)
below_pack [] vs = λ k. omega arith
below_pack (w ∷ ws) [] = λ k. omega arith
below_pack (w ∷ ws) (v ∷ vs) = below_append 2 (digits w v) (pack ws vs) (below_digits w v) (below_pack ws vs)

pub length_pack : (ws vs : List ℕ) → length ws ≡ length vs → length (pack ws vs) ≡ width_of ws
length_pack [] vs e = refl
length_pack (w ∷ ws) [] e = absurd (suc-ne-zero _ e)
length_pack (w ∷ ws) (v ∷ vs) e =
    simp (length-append, length_digits) (ap (λ (k : ℕ). w + k) (length_pack ws vs (suc_inj e)))

pub length_unpack : (ws bs : List ℕ) → length (unpack ws bs) ≡ length ws
length_unpack [] bs = refl
length_unpack (w ∷ ws) bs = ap suc (length_unpack ws (drop w bs))

-- THE TWO LAWS
pub unpack_pack : (ws vs r : List ℕ) → length ws ≡ length vs → FitIn ws vs → unpack ws (pack ws vs ++ r) ≡ vs
unpack_pack [] [] r e h = refl
unpack_pack [] (v ∷ vs) r e h = absurd (suc-ne-zero _ (sym e))
unpack_pack (w ∷ ws) [] r e h = absurd (suc-ne-zero _ e)
unpack_pack (w ∷ ws) (v ∷ vs) r e h =
    let p : List ℕ = digits w v in
    let q : List ℕ = pack ws vs ++ r in
    let l : length p ≡ w = length_digits w v in
    rw (append_assoc p (pack ws vs) r, take_at p q w l, drop_at p q w l, val_of_digits w v (h 0), unpack_pack ws vs r (suc_inj e) (λ k. h (suc k)))

pub pack_unpack : (ws bs : List ℕ) → EachBelow 2 bs → width_of ws ≤ length bs → pack ws (unpack ws bs) ≡ take (width_of ws) bs
pack_unpack [] bs h f = refl
pack_unpack (w ∷ ws) bs h f =
    let t : List ℕ = take w bs in
    let l : length t ≡ w = length-take-le w bs (omega arith) in
    let d : digits w (val 0 t) ≡ t = rw l at (digits_of_val 0 t (below_take 2 w bs h)) in
    let r : pack ws (unpack ws (drop w bs)) ≡ take (width_of ws) (drop w bs) =
    pack_unpack ws (drop w bs) (below_drop 2 w bs h) (omega (arith, length-drop w bs)) in
    rw (d, r) (sym (take-add w (width_of ws) bs))

-- what is past the widths does not count
pub unpack_more : (ws bs r : List ℕ) → width_of ws ≤ length bs → unpack ws (bs ++ r) ≡ unpack ws bs
unpack_more [] bs r f = refl
unpack_more (w ∷ ws) bs r f =
    let f1 : w ≤ length bs = omega arith in
    rw (take-append-le w bs r f1, drop-append-le w bs r f1, unpack_more ws (drop w bs) r (omega (arith, length-drop w bs)))

-- values that fit their widths
pub fit_cons : (w v : ℕ) (ws vs : List ℕ) → v < 2 ^ w → FitIn ws vs → FitIn (w ∷ ws) (v ∷ vs)
fit_cons w v ws vs h t zero = h
fit_cons w v ws vs h t (suc k) = t k

pub fit_nil : FitIn [] []
fit_nil k = omega arith

-- a test that `omega` proves part by part
abbrev pub AllFit : List ℕ → List ℕ → Type 0
AllFit [] vs = ◌≡◌ {A = ℕ} (length vs) 0
AllFit (w ∷ ws) [] = ◌<◌ 0 1
AllFit (w ∷ ws) (v ∷ vs) = (v < 2 ^ w) × AllFit ws vs

pub fit_all : (ws vs : List ℕ) → AllFit ws vs → FitIn ws vs
fit_all [] [] h = fit_nil
fit_all [] (v ∷ vs) h = absurd (suc-ne-zero _ h)
fit_all (w ∷ ws) [] h = λ k. pow_pos (get_or (w ∷ ws) k 0)
fit_all (w ∷ ws) (v ∷ vs) h = fit_cons w v ws vs h.0 (fit_all ws vs h.1)

pub fit_run : (n w : ℕ) (s : List ℕ) → length s ≤ n → EachBelow (2 ^ w) s → FitIn (replicate n w) s
fit_run zero w [] e h = fit_nil
fit_run zero w (x ∷ s) e h = absurd (not-suc-le-zero e)
fit_run (suc n) w [] e h = λ k. pow_pos (get_or (replicate (suc n) w) k 0)
fit_run (suc n) w (x ∷ s) e h = fit_cons w x (replicate n w) s (h 0) (fit_run n w s (le_of_suc-le-suc e) (λ k. h (suc k)))

pub fit_append : (ws vs us xs : List ℕ) → length ws ≡ length vs → FitIn ws vs → FitIn us xs → FitIn (ws ++ us) (vs ++ xs)
fit_append [] [] us xs e h g = g
fit_append [] (v ∷ vs) us xs e h g = absurd (suc-ne-zero _ (sym e))
fit_append (w ∷ ws) [] us xs e h g = absurd (suc-ne-zero _ e)
fit_append (w ∷ ws) (v ∷ vs) us xs e h g =
    fit_cons w v (ws ++ us) (vs ++ xs) (h 0) (fit_append ws vs us xs (suc_inj e) (λ k. h (suc k)) g)

-- bytes
pub sum_eights : (n : ℕ) → width_of (eights n) ≡ 8 * n
sum_eights zero = refl
sum_eights (suc n) = omega (arith, sum_eights n)

-- THE ROUND TRIPS
pub bytes_fields : (ws s : List ℕ) → EachBelow 256 s → width_of ws ≡ 8 * length s → pack_bytes (length s) ws (fields_of ws s) ≡ s
bytes_fields ws s h e =
    let n : ℕ = length s in
    let b : List ℕ = pack (eights n) s in
    let ln : length (eights n) ≡ n = length-replicate n 8 in
    let lb : length b ≡ width_of ws = length_pack (eights n) s ln ∙ sum_eights n ∙ sym e in
    let p : pack ws (unpack ws b) ≡ b =
    pack_unpack ws b (below_pack (eights n) s) (omega arith) ∙ rw (sym lb) (take-length b) in
    rw p (ap (λ (l : List ℕ). unpack (eights n) l) (sym (append-nil b)) ∙ unpack_pack (eights n) s [] ln (fit_run n 8 s (omega arith) h))

pub fields_bytes : (ws vs : List ℕ) (n : ℕ) → length ws ≡ length vs → FitIn ws vs → width_of ws ≡ 8 * n → fields_of ws (pack_bytes n ws vs) ≡ vs
fields_bytes ws vs n l h e =
    let b : List ℕ = pack ws vs in
    let lb : length b ≡ width_of ws = length_pack ws vs l in
    let k : length (pack_bytes n ws vs) ≡ n = length_unpack (eights n) b ∙ length-replicate n 8 in
    let p : pack (eights n) (unpack (eights n) b) ≡ b =
    pack_unpack (eights n) b (below_pack ws vs) (omega (arith, sum_eights n)) ∙ rw (sum_eights n, sym e, sym lb) (take-length b) in
    rw (k, p) (ap (λ (x : List ℕ). unpack ws x) (sym (append-nil b)) ∙ unpack_pack ws vs [] l h)

-- ONE TURN of each loop
pub gather_step : (b : List ℕ) (i l r : ℕ) → i < length b → 0 < l → val r (take l (drop i b)) ≡ val (r * 2 + get_or b i 0) (take (l - 1) (drop (i + 1) b))
gather_step b i zero r h p = absurd (not-suc-le-zero p)
gather_step b i (suc l) r h p = rw (add-one, drop-cons b i 0 h, sub-one)

pub put_step : (b : List ℕ) (i l v : ℕ) → 0 < l → sets b i (digits l v) ≡ sets (set b i (v / 2 ^ (l - 1) % 2)) (i + 1) (digits (l - 1) v)
put_step b i zero v p = absurd (not-suc-le-zero p)
put_step b i (suc l) v p = rw (add-one, sub-one)

-- a value of l bits less than eight takes one more bit
pub grow : (n l r x : ℕ) → n ≤ 8 → 0 < l → l ≤ n → r < 2 ^ (n - l) → x < 2 → (r < 128) × (r * 2 + x < 2 ^ (n - (l - 1)))
grow n zero r x u p q h g = absurd (not-suc-le-zero p)
grow n (suc l) r x u p q h g =
    let e : n - l ≡ suc (n - suc l) = omega arith in
    let f : n - suc l ≤ 7 = omega arith in
    let m : 2 ^ (n - suc l) ≤ 128 = pow_mono f in
    (omega arith, rw (sub-one, e, pow-succ' 2 (n - suc l)) (omega arith))

pub sets_append : (b : List ℕ) (i : ℕ) (xs ys : List ℕ) → sets b i (xs ++ ys) ≡ sets (sets b i xs) (i + length xs) ys
sets_append b i [] ys = rw add-zero
sets_append b i (x ∷ xs) ys = rw (add-suc, ← suc-add) (sets_append (set b i x) (suc i) xs ys)

pub sum_step : (ws : List ℕ) (i : ℕ) → i < length ws → width_of (drop i ws) ≡ get_or ws i 0 + width_of (drop (i + 1) ws)
sum_step ws i h = rw (add-one, drop-cons ws i 0 h)

-- a turn at width i, with its bits from o on: the width is at most 8, its bits end by n, and with those of the later widths they end at `end`
abbrev pub Turn : List ℕ → ℕ → ℕ → ℕ → ℕ → Type 0
Turn ws i o end n = (get_or ws i 0 ≤ 8) × (o + get_or ws i 0 ≤ n) × (o + get_or ws i 0 + width_of (drop (i + 1) ws) ≡ end)

pub turn : (ws : List ℕ) (i o end n : ℕ) → i < length ws → EachBelow 9 ws → o + width_of (drop i ws) ≡ end → end ≤ n → Turn ws i o end n
turn ws i o end n h w e l = omega (arith, sum_step ws i h, w i)

pub pack_step : (ws vs b : List ℕ) (i o : ℕ) → i < length ws → i < length vs
    → sets b o (pack (drop i ws) (drop i vs)) ≡ sets (sets b o (digits (get_or ws i 0) (get_or vs i 0))) (o + get_or ws i 0)
    (pack (drop (i + 1) ws) (drop (i + 1) vs))
pack_step ws vs b i o h g =
    let d : List ℕ = digits (get_or ws i 0) (get_or vs i 0) in
    rw (add-one, drop-cons ws i 0 h, drop-cons vs i 0 g)
    (sets_append b o d _ ∙ rw (length_digits (get_or ws i 0) (get_or vs i 0)))

pub unpack_step : (ws b out : List ℕ) (i o : ℕ) → i < length ws
    → sets out i (unpack (drop i ws) (drop o b)) ≡ sets (set out i (val 0 (take (get_or ws i 0) (drop o b)))) (i + 1)
    (unpack (drop (i + 1) ws) (drop (o + get_or ws i 0) b))
unpack_step ws b out i o h = rw (add-one, drop-cons ws i 0 h, drop-drop)

-- runs of one width, and tests that compute
pub take_replicate : (n m v : ℕ) → n ≤ m → take n (replicate m v) ≡ replicate n v
take_replicate zero m v h = refl
take_replicate (suc n) zero v h = absurd (not-suc-le-zero h)
take_replicate (suc n) (suc m) v h = ap (λ (l : List ℕ). v ∷ l) (take_replicate n m v (le_of_suc-le-suc h))

pub below_replicate : (b n v : ℕ) → v < b → EachBelow b (replicate n v)
below_replicate b zero v h = λ k. omega arith
below_replicate b (suc n) v h = below_cons b v (replicate n v) h (below_replicate b n v h)

pub sum_replicate : (n v : ℕ) → width_of (replicate n v) ≡ v * n
sum_replicate zero v = sym (mul-zero v)
sum_replicate (suc n) v = rw (mul-suc, sum_replicate n v) (add_comm v (v * n))

abbrev pub AllBelow : ℕ → List ℕ → Type 0
AllBelow b [] = 0 < b
AllBelow b (x ∷ l) = (x < b) × AllBelow b l

pub below_all : (b : ℕ) (l : List ℕ) → AllBelow b l → EachBelow b l
below_all b [] t = λ k. t
below_all b (x ∷ l) t = below_cons b x l t.0 (below_all b l t.1)

pub drop_replicate : (n m v : ℕ) → drop n (replicate m v) ≡ replicate (m - n) v
drop_replicate zero m v = rw sub-zero
drop_replicate (suc n) zero v = rw zero-sub
drop_replicate (suc n) (suc m) v = drop_replicate n m v ∙ rw suc-sub-suc

pub length_bits_of : (s : List ℕ) → length (bits_of s) ≡ 8 * length s
length_bits_of s = length_pack (eights (length s)) s (length-replicate (length s) 8) ∙ sum_eights (length s)

pub sets_fill : (n : ℕ) (l : List ℕ) → length l ≤ n → sets (replicate n 0) 0 l ≡ fill n l
sets_fill n l h =
    sets-eq l (replicate n 0) 0 (omega (arith, length-replicate {A = ℕ} n 0))
    ∙ rw (zero-add, drop_replicate)

pub below_fill : (b n : ℕ) (l : List ℕ) → EachBelow b l → EachBelow b (fill n l)
below_fill b n l h = below_append b l (replicate (n - length l) 0) h (below_replicate b (n - length l) 0 (omega (arith, h 0)))

pub length_fill : (n : ℕ) (l : List ℕ) → length l ≤ n → length (fill n l) ≡ n
length_fill n l h = simp (length-append, length-replicate) (omega arith)

-- a part of the bits does not see the fill
pub part_fill : (n at : ℕ) (ws l : List ℕ) → at + width_of ws ≤ length l → unpack ws (drop at (fill n l)) ≡ unpack ws (drop at l)
part_fill n at ws l h =
    let r : List ℕ = replicate (n - length l) 0 in
    let g : at ≤ length l = omega arith in
    rw (drop-append-le at l r g) (unpack_more ws (drop at l) r (omega (arith, length-drop at l)))

-- what is unpacked fits
pub val_lt : (bs : List ℕ) → EachBelow 2 bs → val 0 bs < 2 ^ length bs
val_lt bs h =
    let d : val 0 bs / 2 ^ length bs < 1 = rw (val_div 0 bs h) (omega arith) in
    rw one-mul at ((div-lt_iff_lt-mul (pow_pos (length bs))).0 d)

pub unpack_fit : (ws bs : List ℕ) → EachBelow 2 bs → width_of ws ≤ length bs → FitIn ws (unpack ws bs)
unpack_fit [] bs h f k = omega arith
unpack_fit (w ∷ ws) bs h f zero =
    let l : length (take w bs) ≡ w = length-take-le w bs (omega arith) in
    rw l at (val_lt (take w bs) (below_take 2 w bs h))
unpack_fit (w ∷ ws) bs h f (suc k) = unpack_fit ws (drop w bs) (below_drop 2 w bs h) (omega (arith, length-drop w bs)) k

-- lists of fields end to end
pub pack_append : (ws us vs xs : List ℕ) → length ws ≡ length vs → pack (ws ++ us) (vs ++ xs) ≡ pack ws vs ++ pack us xs
pack_append [] us [] xs e = refl
pack_append [] us (v ∷ vs) xs e = absurd (suc-ne-zero _ (sym e))
pack_append (w ∷ ws) us [] xs e = absurd (suc-ne-zero _ e)
pack_append (w ∷ ws) us (v ∷ vs) xs e = rw (pack_append ws us vs xs (suc_inj e)) (sym (append_assoc (digits w v) (pack ws vs) (pack us xs)))

pub unpack_append : (ws us bs : List ℕ) → unpack (ws ++ us) bs ≡ unpack ws bs ++ unpack us (drop (width_of ws) bs)
unpack_append [] us bs = refl
unpack_append (w ∷ ws) us bs = ap (λ (l : List ℕ). val 0 (take w bs) ∷ l) (unpack_append ws us (drop w bs) ∙ rw drop-drop)

pub sum_append : (ws us : List ℕ) → width_of (ws ++ us) ≡ width_of ws + width_of us
sum_append [] us = sym (zero-add (width_of us))
sum_append (w ∷ ws) us = omega (arith, sum_append ws us)

-- lists that start with parts of one length
pub app_inj : (a b c d : List ℕ) → length a ≡ length b → a ++ c ≡ b ++ d → (a ≡ b) × (c ≡ d)
app_inj [] [] c d e q = (refl, q)
app_inj [] (y ∷ b) c d e q = absurd (suc-ne-zero _ (sym e))
app_inj (x ∷ a) [] c d e q = absurd (suc-ne-zero _ e)
app_inj (x ∷ a) (y ∷ b) c d e q =
    let hd : x ≡ y = cc in
    let tl : a ++ c ≡ b ++ d = cc in
    let r = app_inj a b c d (suc_inj e) tl in
    (rw (hd, r.0), r.1)
