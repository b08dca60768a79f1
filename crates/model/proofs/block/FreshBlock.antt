-- The fresh block is sound, with sixteen empty versions.
use mathlib.Core.Path.{◌≡◌, refl, ap, sym, ◌∙◌}
use Prim.Native.Nat.{ℕ, zero, suc, ◌+◌, ◌*◌, ◌/◌, ◌%◌, ◌^◌, ◌≤◌, ◌<◌}
use mathlib.Core.Bool.{false, true≢false}
use mathlib.Core.List.{List}
use lib.ListN.{length, get_or, replicate, length-replicate}
use borrow.Author.Tests.{lt-ltb, le-ltb}
use native.Mathlib.Omega.{arith}
use native.Mathlib.Nat.{zero-div}
use native.Mathlib.Decide.{dec_lt}
use Rattle.model.specs.Tree.{leaf}
use Rattle.model.specs.Heap.{Occupied, Named, load, tree, version}
use Rattle.model.specs.Block.{word, room, width, node_word, bit, occupied_at, heap, Shaped, SoundBlock}
use Rattle.model.specs.Calls.{Fitting, fresh_block}

pub zeros_at : (n x : ℕ) → get_or {A = ℕ} (replicate n 0) x 0 ≡ 0
zeros_at zero x = refl
zeros_at (suc n) zero = refl
zeros_at (suc n) (suc x) = zeros_at n x

pub fitting_shaped : (b : List ℕ) (n : ℕ) → n ≡ room b → Fitting (length b) n → Shaped b
fitting_shaped b n e F = let G : Fitting (length b) (room b) = rw e at F in record { least = G.least; most = G.most; whole = G.whole; long = G.long }

pub shaped_fitting : (b : List ℕ) (n : ℕ) → n ≡ room b → Shaped b → Fitting (length b) n
shaped_fitting b n e S = rw e (record { least = S.least; most = S.most; whole = S.whole; long = S.long })

pub fresh_room : (n : ℕ) → room (fresh_block n) ≡ n
unfolding fresh_block
fresh_room n = refl

pub fresh_zero : (n i : ℕ) → 1 ≤ i → word (fresh_block n) i ≡ 0
unfolding fresh_block
fresh_zero n zero p = absurd (omega arith)
fresh_zero n (suc i) p = zeros_at (16 + n / 32 + width * n) i

pub fresh_long : (n : ℕ) → length (fresh_block n) ≡ 17 + n / 32 + width * n
unfolding fresh_block
fresh_long n = omega (arith, length-replicate {A = ℕ} (16 + n / 32 + width * n) 0)

-- the fresh block is sound and its versions are empty
module _ (n words : ℕ) (F : Fitting words n) where
  fresh_free : (m : ℕ) → (heap (fresh_block n)).occupied m ≡ false
  fresh_free zero = refl
  fresh_free (suc m) = go (dec_lt m (room (fresh_block n)))
    where
      go : Dec (m < room (fresh_block n)) → occupied_at (fresh_block n) (suc m) ≡ false
      go (yes p) =
          let z : bit (word (fresh_block n) (17 + m / 32)) (m % 32) ≡ 0 = rw (fresh_zero n (17 + m / 32) (omega arith)) (ap (λ x. x % 2) (zero-div (2 ^ (m % 32)))) in
          rw (lt-ltb m (room (fresh_block n)) p, z)
      go (no p) = rw (le-ltb m (room (fresh_block n)) (omega arith))

  none : (m : ℕ) → Occupied (heap (fresh_block n)) m → ⊥
  none m o = true≢false (sym o ∙ fresh_free m)

  fresh_word : (j m : ℕ) → node_word (fresh_block n) j m ≡ 0
  fresh_word j zero = refl
  fresh_word j (suc m) = fresh_zero n (17 + room (fresh_block n) / 32 + width * m + j) (omega arith)

  fresh_named : (v : ℕ) → Named (heap (fresh_block n)) (word (fresh_block n) (1 + v))
  fresh_named v = rw (fresh_zero n (1 + v) (omega arith)) tt

  pub fresh_sound : SoundBlock (fresh_block n)
  fresh_sound = record {
    shaped = fitting_shaped (fresh_block n) n (sym (fresh_room n)) (record { least = F.least; most = F.most; whole = F.whole; long = fresh_long n });
    sound = record {
      kept = record {
        linked = record {
          within = λ m o. absurd (none m o);
          roots = λ v lt. fresh_named v;
          lefts = λ m o. absurd (none m o);
          rights = λ m o. absurd (none m o);
          sizes = λ m o. absurd (none m o);
          sums = λ m o. absurd (none m o);
          blank = λ m p q z. record { key = fresh_word 0 m; value = fresh_word 1 m; left = fresh_word 2 m; right = fresh_word 3 m; size = fresh_word 4 m; count = fresh_word 5 m; sum = omega (arith, fresh_word 6 m, fresh_word 7 m) };
        };
        counts = λ m o. absurd (none m o);
        held = λ m o. absurd (none m o);
      };
      ordered = λ m o. absurd (none m o);
    };
  }

  pub fresh_empty : (v : ℕ) → version (heap (fresh_block n)) v ≡ leaf
  unfolding tree load
  fresh_empty v = rw (fresh_zero n (1 + v) (omega arith)) refl
