-- There is one list of all readings in order: two lists in order with the same members are the same.
use Rattle.std.specs.Prelude.{◌≡◌, refl, ℕ, length}
use Rattle.std.proofs.Common.{sym, ◌∙◌, subst, inl, inr, ⊎_elim, arith}
use mathlib.Core.List.Memᴰ
use mathlib.Core.List.{List, [], ◌∷◌, Memᴰ as Member}
use Rattle.reading.specs.declared.Reading.{Reading}
use Rattle.reading.specs.Order.{Lex, key_of, Before}
use Rattle.reading.specs.All.{Pairwise, Each, first, IsAll}
use Rattle.reading.specs.search.Readings.{readings}
use Rattle.reading.proofs.laws.Lists.{each_member}
use Rattle.reading.proofs.laws.Readings.{readings_each, readings_has, readings_ascend, lex_irreflexive}

pub lex_trans : (a b c : List ℕ) → Lex a b → Lex b c → Lex a c
lex_trans [] b c h g = absurd h
lex_trans (x ∷ a) [] c h g = absurd h
lex_trans (x ∷ a) (y ∷ b) [] h g = absurd g
lex_trans (x ∷ a) (y ∷ b) (z ∷ c) h g =
    ⊎_elim
    (λ l. ⊎_elim (λ k. inl (omega arith)) (λ k. inl (rw k.0 at l)) g)
    (λ l. ⊎_elim (λ k. inl (rw l.0 k)) (λ k. inr (l.0 ∙ k.0, lex_trans a b c l.1 k.1)) g)
    h

-- neither of two comes before the other
pub lex_one_way : (a b : List ℕ) → Lex a b → Lex b a → ⊥
lex_one_way a b h g = lex_irreflexive a (lex_trans a b a h g)

abbrev Within : List Reading → List Reading → Type 0
Within xs ys = (r : Reading) → Member r xs → Member r ys

same_first : (x y : Reading) (xs ys : List Reading) → Each (Before x) xs → Each (Before y) ys → Within (x ∷ xs) (y ∷ ys) → Within (y ∷ ys) (x ∷ xs) → x ≡ y
same_first x y xs ys p q f g =
    ⊎_elim (λ e. e)
    (λ m. ⊎_elim (λ e. sym e) (λ n. absurd (lex_one_way (key_of x) (key_of y) (each_member p n) (each_member q m)))
    (Memᴰ.cases_cons (g y (Member.head refl))))
    (Memᴰ.cases_cons (f x (Member.head refl)))

same_rest : (x y : Reading) (xs ys : List Reading) → Each (Before x) xs → x ≡ y → Within (x ∷ xs) (y ∷ ys) → Within xs ys
same_rest x y xs ys p e f r m =
    ⊎_elim (λ z. absurd (lex_irreflexive (key_of x) (subst (λ (w : Reading). Before x w) (z ∙ sym e) (each_member p m)))) (λ n. n)
    (Memᴰ.cases_cons (f r (Member.tail m)))

only_list : (xs ys : List Reading) → Pairwise Before xs → Pairwise Before ys → Within xs ys → Within ys xs → xs ≡ ys
only_list [] [] p q f g = refl
only_list [] (y ∷ ys) p q f g = absurd (Memᴰ.not-nil (g y (Member.head refl)))
only_list (x ∷ xs) [] p q f g = absurd (Memᴰ.not-nil (f x (Member.head refl)))
only_list (x ∷ xs) (y ∷ ys) (first hx px) (first hy py) f g =
    let e = same_first x y xs ys hx hy f g in
    let t = only_list xs ys px py (same_rest x y xs ys hx e f) (same_rest y x ys xs hy (sym e) g) in
    rw (e, t)

module _ (t : List ℕ) (m win : ℕ) where
  one_list : {xs ys : List Reading} → IsAll t m win xs → IsAll t m win ys → xs ≡ ys
  one_list {xs} {ys} a b = only_list xs ys a.order b.order (λ r h. b.every r (a.readings r h)) (λ r h. a.every r (b.readings r h))

  -- what the search lists
  pub readings_all : length t ≡ 34 → IsAll t m win (readings t m win)
  readings_all l = record {
    readings = λ r h. each_member (readings_each t m win l) h;
    every = λ r h. readings_has t m win r l h;
    order = readings_ascend t m win l;
  }

  pub exactly_one_list : length t ≡ 34 → (rs : List Reading) × IsAll t m win rs × ((xs : List Reading) → IsAll t m win xs → xs ≡ rs)
  exactly_one_list l = (readings t m win, readings_all l, λ xs a. one_list a (readings_all l))
