-- The bit of an index not heard is 0, so the word with the bit added still fits, and is the marked one.
use mathlib.Core.Path.{◌≡◌, ap}
use Prim.Native.Nat.{ℕ, ◌+◌, ◌*◌, ◌/◌, ◌%◌, ◌^◌, ◌<◌}
use mathlib.Core.Bool.{false}
use mathlib.Core.List.{List}
use lib.ListN.{set}
use native.Mathlib.Omega.{arith}
use Rattle.model.specs.Block.{word}
use Rattle.model.specs.Inbox.{heard_at, marked}
use Rattle.model.proofs.block.Bits.{shl_one}
use Rattle.model.proofs.link.Heard.{unheard-bit, bit-room}

module _ (x : List ℕ) (count index : ℕ) where
  -- the heard word with the code's bit added
  abbrev pub bits : ℕ
  bits = word x (2 + index / 32) + 1 * 2 ^ (index % 32) % 4294967296

  pub mark_fits : heard_at x index ≡ false → word x (2 + index / 32) < 2 ^ 32 → bits < 2 ^ 32
  mark_fits new h = rw (shl_one (index % 32) (omega arith)) (bit-room 32 (index % 32) (word x (2 + index / 32)) (omega arith) h (unheard-bit x index new))

  pub mark_is : set (set x 1 count) (2 + index / 32) bits ≡ marked x count index
  unfolding marked
  mark_is = ap (λ y. set (set x 1 count) (2 + index / 32) (word x (2 + index / 32) + y)) (shl_one (index % 32) (omega arith))
