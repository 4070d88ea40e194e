-- What a renaming of suits does to the code of a group: it can be undone, and what a test asks of a group stays.
use Rattle.std.specs.Prelude.{ℕ, ◌+◌, ◌-◌, ◌%◌, ◌≤◌, ◌<◌, ◌≡◌, refl, Bool, true, false, cond, ltb, eqb}
use Rattle.std.proofs.Common.{sym, ap, ◌∙◌, arith}
use borrow.Author.Tests.{ltb-true, ltb-false, lt-ltb, le-ltb, lt-leb, le-leb}
use Rattle.tiles.specs.Groups.{is_run, is_triplet, is_group, at_kind, uses}
use Rattle.yaku_basics.specs.Tests.{earns_wait, has_yaochu}
use Rattle.points_fu.specs.Fu.{group_fu}
use Rattle.reading.proofs.laws.Groups.{run_in, run_or}
use Rattle.symmetry.specs.Renamed.{renamed}
use Rattle.symmetry.proofs.laws.Kinds.{Renaming, number_or, renamed_other, number_stays, there_back, test_stays, next_stays, lt_stays, kind_order}
use Rattle.symmetry.proofs.laws.Kinds.{is_yaochu_stays, is_run_start_stays}
use Rattle.tiles.proofs.laws.Below.{same_test}
use Rattle.reading.proofs.laws.Suits.{suit_of, suit_run, suit_triplet}

-- a group renamed: "run: lowest kind; triplet: 34 + kind", and 68, no group, stays
unfoldable pub renamed_code : (ℕ → ℕ) → ℕ → ℕ
renamed_code σ c = cond (is_run c) (renamed σ c) (34 + renamed σ (c - 34))

pub code_run : (σ : ℕ → ℕ) (c : ℕ) → c < 34 → renamed_code σ c ≡ renamed σ c
unfolding renamed_code
code_run σ c h = rw (lt-ltb c 34 h)

pub code_triplet : (σ : ℕ → ℕ) (c : ℕ) → 34 ≤ c → renamed_code σ c ≡ 34 + renamed σ (c - 34)
unfolding renamed_code
code_triplet σ c h = rw (le-ltb c 34 h)

pub code_other : (σ : ℕ → ℕ) (c : ℕ) → 61 ≤ c → renamed_code σ c ≡ c
code_other σ c h = code_triplet σ c (omega arith) ∙ ap (λ (x : ℕ). 34 + x) (renamed_other σ (c - 34) (omega arith)) ∙ (omega arith)

module _ (u : Renaming) where
  abbrev f : ℕ → ℕ
  f = renamed u.to

  abbrev F : ℕ → ℕ
  F = renamed_code u.to

  run_lt : (c : ℕ) → c < 34 → F c < 34
  run_lt c h = rw (code_run u.to c h) (lt_stays u 34 c (omega arith) h)

  triplet_ge : (c : ℕ) → 34 ≤ c → (34 ≤ F c) × (F c - 34 ≡ f (c - 34))
  triplet_ge c h = let e = code_triplet u.to c h in (omega arith, omega arith)

  pub code_back : (c : ℕ) → renamed_code u.from (F c) ≡ c
  code_back c =
      run_or c
      (λ h. code_run u.from (F c) (run_lt c h) ∙ ap (renamed u.from) (code_run u.to c h) ∙ there_back u c)
      (λ h. let g = triplet_ge c h in code_triplet u.from (F c) g.0 ∙ rw (g.1, there_back u (c - 34)) (omega arith))

  pub code_test : (a b : ℕ) → eqb (F a) (F b) ≡ eqb a b
  code_test a b = same_test (F a) (F b) a b (λ e. sym (code_back a) ∙ ap (renamed_code u.from) e ∙ code_back b) (λ e. ap F e)

  pub code_test_other : (a b : ℕ) → 61 ≤ b → eqb (F a) b ≡ eqb a b
  code_test_other a b h = ap (eqb (F a)) (sym (code_other u.to b h)) ∙ code_test a b

  pub is_run_code : (c : ℕ) → is_run (F c) ≡ is_run c
  is_run_code c = run_or c (λ h. rw (lt-ltb (F c) 34 (run_lt c h), lt-ltb c 34 h)) (λ h. rw (le-ltb (F c) 34 (triplet_ge c h).0, le-ltb c 34 h))

  low_code : (c : ℕ) → ltb (F c) 68 ≡ ltb c 68
  low_code c = go (ltb c 68) refl
    where
      go : (b : Bool) → ltb c 68 ≡ b → ltb (F c) 68 ≡ b
      go true e =
          run_or c (λ h. lt-ltb (F c) 68 (omega (arith, run_lt c h)))
          (λ h. let l = lt_stays u 34 (c - 34) (omega arith) (omega (arith, ltb-true c 68 e)) in lt-ltb (F c) 68 (omega (arith, code_triplet u.to c h)))
      go false e = let l = ltb-false c 68 e in le-ltb (F c) 68 (omega (arith, code_other u.to c (omega arith)))

  pub is_triplet_code : (c : ℕ) → is_triplet (F c) ≡ is_triplet c
  is_triplet_code c =
      run_or c (λ h. rw (lt-leb 34 (F c) (run_lt c h), lt-leb 34 c h)) (λ h. rw (le-leb 34 (F c) (triplet_ge c h).0, le-leb 34 c h, low_code c))

  pub is_group_code : (c : ℕ) → is_group (F c) ≡ is_group c
  unfolding is_group
  is_group_code c =
      run_or c
      (λ h. rw (lt-ltb (F c) 34 (run_lt c h), lt-ltb c 34 h, code_run u.to c h) (is_run_start_stays u c))
      (λ h. rw (le-ltb (F c) 34 (triplet_ge c h).0, le-ltb c 34 h, low_code c))

  pub has_yaochu_code : (c : ℕ) → has_yaochu (F c) ≡ has_yaochu c
  unfolding has_yaochu
  has_yaochu_code c =
      run_or c
      (λ h. rw (lt-ltb (F c) 34 (run_lt c h), lt-ltb c 34 h, code_run u.to c h, same_number c))
      (λ h. rw (le-ltb (F c) 34 (triplet_ge c h).0, le-ltb c 34 h, (triplet_ge c h).1) (is_yaochu_stays u (c - 34)))
    where
      same_number : (c : ℕ) → f c % 9 ≡ c % 9
      same_number c = number_or c (λ l. (number_stays u c l).1) (λ l. rw (renamed_other u.to c l))

  pub group_fu_code : (c way : ℕ) → group_fu (F c) way ≡ group_fu c way
  unfolding group_fu
  group_fu_code c way =
      run_or c
      (λ h. rw (lt-leb 34 (F c) (run_lt c h), lt-leb 34 c h))
      (λ h. rw (is_triplet_code c, (triplet_ge c h).1, is_yaochu_stays u (c - 34)))

  -- its three kinds, where it is a run
  run_kinds : (c : ℕ) → is_group c ≡ true → c < 34 → (F c ≡ f c) × (f (c + 1) ≡ f c + 1) × (f (c + 2) ≡ f c + 2) × (f c % 9 ≡ c % 9)
  run_kinds c g h =
      let w = run_in c g h in
      (code_run u.to c h, next_stays u c 1 w.0 (omega arith), next_stays u c 2 w.0 (omega arith), (number_stays u c w.0).1)

  -- ---- tiles of a kind

  pub at_kind_lem : (a n k : ℕ) → at_kind (f a) n (f k) ≡ at_kind a n k
  unfolding at_kind
  at_kind_lem a n k = rw (test_stays u a k)

  pub at_code : (c n d : ℕ) → at_kind (F c) n (F d) ≡ at_kind c n d
  unfolding at_kind
  at_code c n d = rw (code_test c d)

  pub uses_code : (c k : ℕ) → is_group c ≡ true → uses (F c) (f k) ≡ uses c k
  unfolding uses
  uses_code c k g =
      run_or c
      (λ h.
      let w = run_kinds c g h in
      rw (lt-ltb (F c) 34 (run_lt c h), lt-ltb c 34 h, w.0, ← w.1, ← w.2, at_kind_lem c 1 k, at_kind_lem (c + 1) 1 k, at_kind_lem (c + 2) 1 k))
      (λ h. rw (le-ltb (F c) 34 (triplet_ge c h).0, le-ltb c 34 h, (triplet_ge c h).1, at_kind_lem (c - 34) 3 k))

  pub wait_code : (place c win : ℕ) → is_group c ≡ true → earns_wait place (F c) (f win) ≡ earns_wait place c win
  unfolding earns_wait
  wait_code place c win g =
      run_or c
      (λ h.
      let w = run_kinds c g h in
      let t = test_stays u win in
      rw (lt-ltb (F c) 34 (run_lt c h), lt-ltb c 34 h, w.0, ← w.1, ← w.2, t c, t (c + 1), t (c + 2), w.3))
      (λ h. rw (le-ltb (F c) 34 (triplet_ge c h).0, le-ltb c 34 h))

  -- ---- codes of one suit stay in order

  pub code_order : (c d : ℕ) → suit_of c ≡ suit_of d → c < d → F c < F d
  code_order c d e h =
      run_or d
      (λ l.
      let o = kind_order u c d (sym (suit_run c (omega arith)) ∙ e ∙ suit_run d l) h in
      omega (arith, code_run u.to c (omega arith), code_run u.to d l))
      (λ l.
      run_or c
      (λ k. omega (arith, run_lt c k, (triplet_ge d l).0))
      (λ k.
      let o = kind_order u (c - 34) (d - 34) (sym (suit_triplet c k) ∙ e ∙ suit_triplet d l) (omega arith) in
      omega (arith, code_triplet u.to c k, code_triplet u.to d l)))
