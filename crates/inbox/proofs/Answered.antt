-- What begin and the missing question answer, where their checks fail and where they pass.
use mathlib.Core.Path.{◌≡◌, refl, ap, sym, ◌∙◌}
use mathlib.Core.Logic.{◌≢◌}
use Prim.Native.Nat.{ℕ, suc, ◌-◌}
use mathlib.Core.List.{List, [], ◌∷◌}
use lib.ListN.{length, set, take, drop, replicate, length-take}
use borrow.Author.Tests.{eq-eqb, ne_eqb}
use borrow.Rule.Slice.PartMut.{put_mid}
use native.Mathlib.Omega.{arith}
use Rattle.std.proofs.lemmas.List.{drop_all, append-nil}
use Rattle.model.specs.Calls.{passes}
use Rattle.model.specs.Inbox.{count_of, SoundInbox, begun, missing, question}
use Rattle.model.specs.Link.{Begin, Missing}

pub begun-done : {x y : List ℕ} (batch : ℕ) → length x ≡ 130 → y ≡ replicate (length x) 0 → Begin x (set y 0 batch) batch 0
unfolding begun
begun-done batch l e = passes l (refl, ap (λ z. set z 0 batch) (e ∙ ap (λ n. replicate n 0) l))

-- the fill makes every word but the first 0, and the first is the batch
pub begun_filled : (x ys : List ℕ) (batch : ℕ) → length x ≡ 130 → ys ≡ replicate (length (take (length x - 1) (drop 1 x))) 0
    → Begin x (set (put_mid 1 (length x - 1) x ys) 0 batch) batch 0
begun_filled [] ys batch l e = absurd (omega (arith, l))
begun_filled (y ∷ x) ys batch l e =
    let m : length (take (suc (length x) - 1) x) ≡ length x = omega (arith, length-take (suc (length x) - 1) x) in
    let zeros : replicate (length x) 0 ≡ ys = ap (λ k. replicate k 0) (sym m) ∙ sym e in
    rw (drop_all (suc (length x) - 1) x (omega arith), append-nil ys, ← zeros) (begun-done {x = y ∷ x} {y = replicate (length (y ∷ x)) 0} batch l refl)

pub asked_uncounted : {x : List ℕ} → SoundInbox x → count_of x ≡ 0 → Missing x 0 4294967295
unfolding question
asked_uncounted {x} S e = passes S.long (passes S (refl, rw (eq-eqb (count_of x) 0 e, question)))

pub asked-counted : {x : List ℕ} {m : ℕ} → SoundInbox x → count_of x ≢ 0 → m ≡ missing x → Missing x 0 m
unfolding question
asked-counted {x} S ne e = passes S.long (passes S (refl, rw (ne_eqb (count_of x) 0 ne, question) e))
