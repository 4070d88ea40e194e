-- Clips chosen from a row by what is the same at each place.
use Rattle.std.specs.Prelude.{◌≡◌, refl, Bool, List, ℕ, zero, suc, ◌+◌, false, length, get_or, take, drop}
use Rattle.std.proofs.Common.{ap, ◌∙◌, arith, get_or-drop, length-drop}
use Rattle.std.proofs.lemmas.List.{take_all}
use Rattle.speech_told.specs.Phrases.{chosen}

chosen_as : (first : ℕ) (p q : ℕ → Bool) (n : ℕ) → ((k : ℕ) → p k ≡ q k) → chosen first p n ≡ chosen first q n
unfolding chosen
chosen_as first p q zero h = refl
chosen_as first p q (suc n) h = rw (chosen_as first p q n h, h n)

-- from the second place of a set on
module _ (first n : ℕ) (set : List Bool) (wide : length set ≡ n + 1) where
  part_all : take n (drop 1 set) ≡ drop 1 set
  part_all = take_all n (drop 1 set) (omega (arith, length-drop 1 set))

  pub chosen_behind_one : chosen first (λ k. get_or (take n (drop 1 set)) k false) (length (take n (drop 1 set))) ≡ chosen first (λ k. get_or set (k + 1) false) n
  chosen_behind_one =
      let long : length (drop 1 set) ≡ n = omega (arith, length-drop 1 set) in
      rw (part_all, long)
      (chosen_as first (λ k. get_or (drop 1 set) k false) (λ k. get_or set (k + 1) false) n
      (λ k. get_or-drop 1 set k false ∙ ap (λ (i : ℕ). get_or set i false) (omega arith)))
