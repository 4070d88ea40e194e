-- Each return is the case that its tests say.
use Rattle.std.proofs.Common.{◌≡◌, ℕ, ◌+◌, ◌-◌, ◌*◌, ◌/◌, ◌≤◌, length, take, replicate, sym, ap, ◌∙◌, le_refl, arith}
use Rattle.cards.specs.CardList.{cards_of}
use Rattle.card_counts.proofs.laws.Count.{whole}
use Rattle.card_writer.specs.search.Written.{written}
use Rattle.card_writer.proofs.laws.Call.{count_all, known, kept_suit, kept_size, kept_short, all_drawn, put_all}
use Rattle.card_writer.proofs.try_write.Goals as goal

product : (a b c d : ℕ) → a ≡ c → b ≡ d → a * b ≡ c * d
product a b c d e f = rw (e, f)

-- what is drawn has as many bytes as are asked for: n is the size
bytes : (suit size n : ℕ) → suit ≤ 2 → n ≡ size
    → length (written (take (n - n) (replicate 8 0)) ((size - 2) / 3) n (9 * suit + 9) (9 * suit) (replicate 34 0)) ≡ size * length (cards_of suit size)
bytes suit size n h e = rw e (ap length (all_drawn suit size (replicate 8 0) h) ∙ whole suit size)

pub returns-then-no_suit : goal.returns-then-no_suit
returns-then-no_suit c =
    let k = kept_suit c.args.suit c.args.size c.args.buf.now c.if-no_suit.true in
    record { value = k.0; buf_after = k.1 }

pub returns-then-not-is_size : goal.returns-then-not-is_size
returns-then-not-is_size c =
    let k = kept_size c.args.suit c.args.size c.args.buf.now c.if-no_suit.false (sym c.is_size.ensures ∙ c.if-not-is_size.true) in
    record { value = k.0; buf_after = k.1 }

pub returns-then-buf-tiles : goal.returns-then-buf-tiles
returns-then-buf-tiles c =
    let suited : c.args.suit ≤ 2 = c.if-no_suit.false in
    let sized = sym c.is_size.ensures ∙ c.if-not-is_size.false in
    let number = rw c.from-tiles.ensures at c.count-count.ensures in
    let number = number ∙ count_all c.args.suit c.args.size suited in
    let p = product c.from-tiles.result c.from.result c.args.size _ c.from-tiles.ensures (c.from.ensures ∙ number) in
    let k = kept_short c.args.suit c.args.size c.args.buf.now suited (known c.args.size sized) (omega (arith, c.if-buf-tiles.true, p)) in
    record { value = k.0; buf_after = k.1 }

pub draw-requires : goal.draw-requires
draw-requires c =
    let suited : c.args.suit ≤ 2 = c.if-no_suit.false in
    let sized = sym c.is_size.ensures ∙ c.if-not-is_size.false in
    let number = rw c.from-tiles.ensures at c.count-count.ensures in
    let number = number ∙ count_all c.args.suit c.args.size suited in
    let p = product c.from-tiles.result c.from.result c.args.size _ c.from-tiles.ensures (c.from.ensures ∙ number) in
    let b = bytes c.args.suit c.args.size c.from-tiles.result suited c.from-tiles.ensures in
    let k = known c.args.size sized in
    (le_refl _, omega (arith, k.few, c.from-tiles.ensures), omega (arith, suited), omega (arith, b, p, c.if-buf-tiles.false))

pub returns : goal.returns
returns c =
    let suited : c.args.suit ≤ 2 = c.if-no_suit.false in
    let sized = sym c.is_size.ensures ∙ c.if-not-is_size.false in
    let number = rw c.from-tiles.ensures at c.count-count.ensures in
    let number = number ∙ count_all c.args.suit c.args.size suited in
    let p = product c.from-tiles.result c.from.result c.args.size _ c.from-tiles.ensures (c.from.ensures ∙ number) in
    let e = all_drawn c.args.suit c.args.size (replicate 8 0) suited in
    let put = rw (c.from-tiles.ensures, e) at c.draw.ensures in
    let k = put_all c.args.suit c.args.size c.args.buf.now c.draw.new.buf c.draw.result c.count-count.result suited (known c.args.size sized) (number) (omega (arith, p, c.if-buf-tiles.false)) put in
    record { value = k.0; buf_after = k.1 }
