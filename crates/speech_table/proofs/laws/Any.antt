-- Something of a list is true, by its places.
use Rattle.std.specs.Prelude.{◌≡◌, refl, Bool, false, ◌||◌, List, ℕ, zero, suc, ◌+◌, ◌≤◌, length, get_or, take}
use Rattle.std.specs.List.{list_any}
use Rattle.std.proofs.Common.{ap, sym, ◌∙◌, arith, add-one}
use Rattle.std.proofs.lemmas.List.{take_all}
use Rattle.std.proofs.lemmas.List.Folds.{list_any_more}
use Rattle.tiles.specs.Below.{any_below}

module _ (p : Bool → Bool) (same : (b : Bool) → p b ≡ b) (xs : List Bool) where
  any_first : (n : ℕ) → n ≤ length xs → list_any p (take n xs) ≡ any_below n (λ k. get_or xs k false)
  unfolding any_below
  any_first zero h = refl
  any_first (suc n) h =
      let e : n + 1 ≡ suc n = add-one n in
      ap (λ (m : ℕ). list_any p (take m xs)) (sym e) ∙ list_any_more p xs n false (omega arith)
      ∙ ap (λ (b : Bool). b || p (get_or xs n false)) (any_first n (omega arith))
      ∙ ap (λ (b : Bool). any_below n (λ k. get_or xs k false) || b) (same (get_or xs n false))

  pub any_places : (n : ℕ) → length xs ≡ n → list_any p xs ≡ any_below n (λ k. get_or xs k false)
  any_places n e =
      let h : length xs ≤ n = omega arith in
      ap (list_any p) (sym (take_all n xs h)) ∙ any_first n (omega arith)
