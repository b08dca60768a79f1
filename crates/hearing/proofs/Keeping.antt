-- The buffer of 36 bytes: what is kept of a line says what the line says.
use mathlib.Core.Path.{◌≡◌, refl, ap, sym, ◌∙◌}
use Prim.Native.Nat.{ℕ, suc, ◌+◌, ◌<◌, ◌≤◌}
use mathlib.Core.List.{List, [], ◌∷◌, ◌++◌}
use lib.ListN.{length, take, set, length-set, length-take, length-append}
use lib.Seq.{take_all, take-append-le, take-suc-set}
use native.Mathlib.Omega.{arith}
use native.Mathlib.Decide.{dec_le}
use Rattle.model.specs.Frame.{fault, read}
use Rattle.model.specs.Numbers.{FRAME}
use Rattle.model.proofs.link.Lines.{read_open}
use Rattle.hearing.specs.Lines.{Keeps}

-- one of any other length than 35 says nothing
says_nothing : (l : List ℕ) → (length l ≡ 35 → ⊥) → read l ≡ fault FRAME 0
says_nothing l n = read_open l (λ C. n C.long)

-- a line longer than 36 is malformed, and so are its first 36 bytes
pub first_36 : (l : List ℕ) → read (take 36 l) ≡ read l
first_36 l = go (dec_le (length l) 36)
  where
    go : Dec (length l ≤ 36) → read (take 36 l) ≡ read l
    go (yes h) = ap read (take_all 36 l h)
    go (no h) = says_nothing (take 36 l) (λ e. omega (arith, e, length-take 36 l)) ∙ sym (says_nothing l (λ e. omega (arith, e)))

-- nothing is held
pub keeps_none : {line : List ℕ} {len : ℕ} (held : List ℕ) → Keeps line len held → Keeps line 0 []
keeps_none held k = record { room = k.room; size = refl; bytes = refl }

-- a byte more is put behind the others
pub keeps_more : {line held : List ℕ} {len : ℕ} (byte : ℕ) → len < 36 → Keeps line len held → Keeps (set line len byte) (len + 1) (held ++ byte ∷ [])
keeps_more {line = line} {held = held} {len = len} byte lt k =
    let next : len + 1 ≡ suc len = omega arith in
    let n : length held ≡ len = omega (arith, k.size) in
    let m : length (held ++ byte ∷ []) ≡ len + 1 = length-append held (byte ∷ []) ∙ ap (λ (i : ℕ). i + 1) n in
    record {
      room = length-set line len byte ∙ k.room;
      size = omega (arith, m);
      bytes =
          ap (λ (i : ℕ). take i (set line len byte)) next ∙ take-suc-set line len byte (omega (arith, k.room)) ∙ ap (λ (s : List ℕ). s ++ byte ∷ []) (k.bytes ∙ take_all 36 held (omega (arith, n)))
          ∙ sym (take_all 36 (held ++ byte ∷ []) (omega (arith, m)));
    }

-- where 36 are kept, a byte more changes nothing
pub keeps_full : {line held : List ℕ} {len : ℕ} (byte : ℕ) → 36 ≤ len → Keeps line len held → Keeps line len (held ++ byte ∷ [])
keeps_full {line = line} {held = held} {len = len} byte full k =
    let m : length (held ++ byte ∷ []) ≡ length held + 1 = length-append held (byte ∷ []) in
    record {
      room = k.room;
      size = omega (arith, k.size, m);
      bytes = k.bytes ∙ sym (take-append-le 36 held (byte ∷ []) (omega (arith, k.size)));
    }
