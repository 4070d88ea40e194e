-- The rules of a game a second time: by what has happened, after any list of entries from a fresh game, corrections among them; and who pays what, by cases.
use Rattle.std.specs.Prelude.{◌≡◌, true, false, cond, ◌⊎◌, ◌↔◌, List, reverse, ℕ, ◌+◌, ◌-◌, ◌*◌, ◌<◌, ◌≤◌, eqb, pos, neg_ℤ, ◌+ℤ◌, get_or}
use Rattle.std.specs.Int.Signed.{lt_z}
use Rattle.tiles.specs.Below.{any, count}
use Rattle.hand_record.specs.Record.{IsSound}
use Rattle.hand_rons.specs.Records.{records_of, not_on_one_tile, is_winner, discarder_of, turns_after}
use Rattle.reading.specs.declared.Reading.{Reading}
use Rattle.reading.specs.All.{Each}
use Rattle.score.specs.Named.{scored_as}
use Rattle.position.specs.declared.Position.{Position}
use Rattle.position.specs.Booking.{Booking, result, riichi, pao, win, draw, chombo, multi_ron}
use Rattle.position.specs.Ledger.{score_at, is_declared, not_open, hand_for, is_ready, refusal_for, effect_of}
use Rattle.position.specs.Wins.{paid_in, IsBest}
use Rattle.game.specs.declared.Game.{Game}
use Rattle.game.specs.Game.{Entry, booking, fresh_game, game_refusal, game_from, standing}
use Rattle.game_rules.specs.Past.{has_declared, has_named}
use Rattle.game_rules.specs.History.{History, IsOpen, EachWithPast, WinsBy, RiichiDeclared}
use Rattle.game_rules.specs.Payments.{NoneLiable, WhoPays, each_alone, declared_not_ready, bits_by, DrawPays}
use Rattle.game_rules.proofs.laws.Step as step
use Rattle.game_rules.proofs.laws.AcceptedWhen as when
use Rattle.game_rules.proofs.laws.Payments as payments
use Rattle.game_rules.proofs.laws.MultiRon as multi-ron

-- ---- by what has happened

module _ (es : List Entry) where
  -- what has happened: "the bookings left standing" (02, S-10), the latest first
  abbrev past : List Booking
  past = reverse (standing es)

  -- the game then
  abbrev g : Game
  g = game_from fresh_game es

  -- what the position that stands holds, by what has happened
  pub history : History past g.now
  history = step.history es

  -- an accepted win has a riichi field other than 0 exactly when its winner is declared (01, Win, 11)
  pub riichi_declared : EachWithPast RiichiDeclared past
  riichi_declared = step.riichi_declared es

  -- ---- when a booking is accepted then

  -- riichi: neither "8 seat over 3; 9; 10 declared already this hand" (01, The game), nor 21, "under 1,000 points .. ; 1,000 exactly is enough" (02, S-11)
  pub riichi_accepted : (seat : ℕ) → (game_refusal g (booking (riichi seat)) ≡ 0)
      ↔ ((seat ≤ 3) × IsOpen past × (has_declared past seat ≡ false) × (lt_z (score_at g.now seat) (pos 1000) ≡ false))
  riichi_accepted seat = when.in_game es (riichi seat) (when.riichi_when past g.now history seat)

  -- a win: the game open, the record sound, a yaku in a reading, and riichi field and declaration agreeing, which 11 asks for
  pub win_accepted : (s : List ℕ) → (game_refusal g (booking (result (win s))) ≡ 0) ↔ (IsOpen past × WinsBy past g.now s)
  win_accepted s = when.in_game es (result (win s)) (when.win_when past g.now history s)

  -- a multiple ron: the same of each of "one to three win records", and none of what 17 is for, "where a record isn't ron, two have one winner, or they differ
  -- in discarder, winning tile, indicator or situation" (02, S-6)
  pub multi_ron_accepted : (number : ℕ) (s : List ℕ) → let ss = records_of number s in
      (game_refusal g (booking (result (multi_ron number s))) ≡ 0)
      ↔ (IsOpen past × (0 < number) × (number ≤ 3) × Each (WinsBy past g.now) ss × (not_on_one_tile ss ≡ false))
  multi_ron_accepted number s = when.in_game es (result (multi_ron number s)) (when.multi_ron_when past g.now history number s)

  -- a draw: "four bits", and the game open; "12 is never given now" (02, S-7)
  pub draw_accepted : (bits : ℕ) → (game_refusal g (booking (result (draw bits))) ≡ 0) ↔ ((bits ≤ 15) × IsOpen past)
  draw_accepted bits = when.in_game es (result (draw bits)) (when.draw_when past g.now history bits)

  -- a chombo: "8", a seat over 3, and "9" are not met
  pub chombo_accepted : (seat : ℕ) → (game_refusal g (booking (result (chombo seat))) ≡ 0) ↔ ((seat ≤ 3) × IsOpen past)
  chombo_accepted seat = when.in_game es (result (chombo seat)) (when.chombo_when past g.now history seat)

  -- pao: neither "8 (a seat over 3) and 9", nor 18, "a holder who is also the feeder, a yaku other than those two, or the same holder and yaku named twice in
  -- a hand" (02, S-8)
  pub pao_accepted : (holder feeder yaku : ℕ) → (game_refusal g (booking (pao holder feeder yaku)) ≡ 0)
      ↔ ((holder ≤ 3) × (feeder ≤ 3) × IsOpen past × (holder ≡ feeder → ⊥) × ((yaku ≡ 28) ⊎ (yaku ≡ 29))
      × ((f : ℕ) → f ≤ 3 → has_named past holder f yaku ≡ false))
  pao_accepted holder feeder yaku =
      when.in_game es (pao holder feeder yaku) (when.pao_when past g.now history (when.in_form es) holder feeder yaku)

-- ---- who pays what

-- "four bits, seat 0 first, set for ready"
pub seat_0_first : (bits : ℕ) → bits < 16 → bits ≡ bits_by (is_ready bits)
seat_0_first = payments.seat_0_first

module _ (l : Position) where
  -- who pays a win, whatever reading is reported: what `paid_in` gives each seat, which demand 3 has in an accepted win and in each record of a multiple ron
  pub who_pays : (s : List ℕ) (r : Reading) (n : ℕ) → not_open l ≡ false → IsSound s → WhoPays l s r n (paid_in l s r n)
  who_pays = payments.who_pays l

  -- without counters it is "the four changes of the reported reading" (01, Ledger) where nobody is liable, and of the winner always: "The winner's gain is
  -- what it was" (02, S-8)
  pub as_scored : (s : List ℕ) (r : Reading) → not_open l ≡ false → IsSound s → (i : ℕ) → NoneLiable l s r ⊎ (i ≡ (hand_for s).fields.winner)
      → paid_in l s r 0 i ≡ get_or (scored_as (hand_for s) l.dealer l.wind r).changes i (pos 0)
  as_scored = payments.as_scored l

  -- an accepted win is paid so by the reported reading, with the counters, "and the winner 1,000 a stick" (01, Ledger)
  pub win_takes_sticks : (s : List ℕ) → refusal_for l (result (win s)) ≡ 0 → (r : Reading) × IsBest l s r
      × ((i : ℕ) → (effect_of l (result (win s))).gives i
      ≡ paid_in l s r l.counter i +ℤ cond (eqb i (hand_for s).fields.winner) (pos (1000 * l.sticks)) (pos 0))
  win_takes_sticks = payments.win_takes_sticks l

  -- an accepted multiple ron gives what each record gives alone. "Sticks and counters go to the first winner in turn order after the discarder" (02, S-6):
  -- x wins, and no winner y is fewer turns after the discarder d; "A ron payer pays 300 more for each counter" (02, S-5), "the discarder paying the counters"
  -- (02, S-8)
  pub multi_ron_pays : (number : ℕ) (s : List ℕ) → refusal_for l (result (multi_ron number s)) ≡ 0 →
      let ss = records_of number s in
      let d = discarder_of ss in
      (x : ℕ) × (is_winner ss x ≡ true) × ((y : ℕ) → is_winner ss y ≡ true → turns_after d x ≤ turns_after d y)
      × ((i : ℕ) → (effect_of l (result (multi_ron number s))).gives i ≡ each_alone l ss i
      +ℤ cond (eqb i x) (pos (300 * l.counter + 1000 * l.sticks)) (pos 0) +ℤ cond (eqb i d) (neg_ℤ (pos (300 * l.counter))) (pos 0))
  multi_ron_pays = multi-ron.multi_ron_pays l

  -- what a draw gives each seat where every declared seat is ready
  pub draw_pays : (bits i : ℕ) → any 4 (declared_not_ready l bits) ≡ false → DrawPays bits i ((effect_of l (result (draw bits))).gives i)
  draw_pays = payments.draw_pays l

  -- where n declared seats are not ready: "each such seat pays 3,000 to every other seat, two such seats paying each other, and this hand's sticks return"
  -- (02, S-7)
  pub draw_at_fault_pays : (bits i : ℕ) → i < 4 →
      let fined = declared_not_ready l bits in
      let n = count 4 fined in
      any 4 fined ≡ true → (effect_of l (result (draw bits))).gives i
      ≡ cond (fined i) (neg_ℤ (pos (3000 * (4 - n)))) (pos (3000 * n)) +ℤ cond (is_declared l i) (pos 1000) (pos 0)
  draw_at_fault_pays = payments.draw_at_fault_pays l

  -- a chombo "costs the seat 9,000 and gives each other seat 3,000; each declared seat gets 1,000 back" (01, Ledger)
  pub chombo_costs_9000 : (seat i : ℕ) → seat < 4 → i < 4
      → (effect_of l (result (chombo seat))).gives i ≡ cond (eqb i seat) (neg_ℤ (pos 9000)) (pos 3000) +ℤ cond (is_declared l i) (pos 1000) (pos 0)
  chombo_costs_9000 = payments.chombo_costs_9000 l
