-- An edit's outcome is one block.
use mathlib.Core.Path.{◌≡◌, refl, ap, sym, ◌∙◌}
use mathlib.Core.Logic.{◌≢◌}
use Prim.Native.Nat.{ℕ, zero, suc, ◌+◌, ◌≤◌, ◌<◌}
use mathlib.Core.Bool.{Bool, true, false}
use mathlib.Core.List.{List, ◌∷◌}
use borrow.Author.Tests.{lt-ltb, le-ltb}
use native.Mathlib.Omega.{arith}
use native.Mathlib.Decide.{ℕ_discrete}
use Rattle.model.specs.Tree.{Tree}
use Rattle.model.specs.Supply.{among}
use Rattle.model.specs.Heap.{version, free_from}
use Rattle.model.specs.Block.{heap, room, Words, SoundBlock}
use Rattle.model.specs.Calls.{Edited}
use Rattle.model.proofs.block.Unique.{unique}

pub edited_once : (b x y : List ℕ) (dst : ℕ) (t : Tree) → Edited b x dst t → Edited b y dst t → Words x → Words y → x ≡ y
edited_once b x y dst t X Y wx wy = unique x y X.sound Y.sound (X.room_kept ∙ sym Y.room_kept) (λ v lt. go v lt (ℕ_discrete v dst)) wx wy
  where
    go : (v : ℕ) → v < 16 → Dec (v ≡ dst) → version (heap x) v ≡ version (heap y) v
    go v lt (yes e) = ap (version (heap x)) e ∙ X.here ∙ sym Y.here ∙ ap (version (heap y)) (sym e)
    go v lt (no e) = X.others v lt e ∙ sym (Y.others v lt e)

-- a call that made nodes and gave all of them up again has the words of entry
pub undone : (b x : List ℕ) → SoundBlock b → SoundBlock x → room x ≡ room b → ((v : ℕ) → v < 16 → version (heap x) v ≡ version (heap b) v)
    → Words b → Words x → x ≡ b
undone b x B X n e wb wx = unique x b X B n e wx wb

-- the first free number, taken
free_same : (occ occ' : ℕ → Bool) (a k : ℕ) → ((m : ℕ) → a ≤ m → occ' m ≡ occ m) → free_from occ' a k ≡ free_from occ a k
unfolding free_from
free_same occ occ' a zero e = refl
free_same occ occ' a (suc k) e = go (occ a) refl (free_same occ occ' (suc a) k (λ m p. e m (omega arith)))
  where
    go : (b : Bool) → occ a ≡ b → free_from occ' (suc a) k ≡ free_from occ (suc a) k → free_from occ' a (suc k) ≡ free_from occ a (suc k)
    go true p ih = rw (e a (omega arith) ∙ p, free_from) (rw (p, free_from) ih)
    go false p ih = rw (e a (omega arith) ∙ p, free_from) (rw (p, free_from) (ap (λ ns. a ∷ ns) ih))

-- every free number of a part is at or above the part's first
free_above : (occ : ℕ → Bool) (a k n : ℕ) → n < a → among n (free_from occ a k) ≡ n ∷ free_from occ a k
unfolding free_from among
free_above occ a zero n p = refl
free_above occ a (suc k) n p = go (occ a) refl (free_above occ (suc a) k n)
  where
    go : (b : Bool) → occ a ≡ b → (n < suc a → among n (free_from occ (suc a) k) ≡ n ∷ free_from occ (suc a) k)
        → among n (free_from occ a (suc k)) ≡ n ∷ free_from occ a (suc k)
    go true e ih = rw (e, free_from) (ih (omega arith))
    go false e ih = rw (e, free_from) (rw (lt-ltb n a p, among) refl)

-- a number that becomes free again comes into its place
pub free_back : (occ occ' : ℕ → Bool) (a k n : ℕ) → occ n ≡ true → occ' n ≡ false → ((m : ℕ) → m ≢ n → occ' m ≡ occ m) → a ≤ n → n < a + k
    → free_from occ' a k ≡ among n (free_from occ a k)
unfolding free_from among
free_back occ occ' a zero n t f o p q = absurd (omega arith)
free_back occ occ' a (suc k) n t f o p q = go (ℕ_discrete a n) (occ a) refl (free_back occ occ' (suc a) k n t f o)
  where
    go : Dec (a ≡ n) → (b : Bool) → occ a ≡ b → (suc a ≤ n → n < suc a + k → free_from occ' (suc a) k ≡ among n (free_from occ (suc a) k))
        → free_from occ' a (suc k) ≡ among n (free_from occ a (suc k))
    go (yes e) b x ih = rw (ap occ' e ∙ f, free_from) (rw (ap occ e ∙ t, free_from) (rw (free_above occ (suc a) k n (omega arith)) (rw e (ap (λ ns. n ∷ ns) (free_same occ occ' (suc n) k (λ m l. o m (omega arith)))))))
    go (no e) true x ih = rw (o a e ∙ x, free_from) (rw (x, free_from) (ih (omega arith) (omega arith)))
    go (no e) false x ih = rw (o a e ∙ x, free_from) (rw (x, free_from) (rw (le-ltb n a (omega arith), among) (ap (λ ns. a ∷ ns) (ih (omega arith) (omega arith)))))

pub record Taken (occ occ' : ℕ → Bool) (a k n : ℕ) (ns : List ℕ) : Type 0 where
  pub free : occ n ≡ false
  pub from : a ≤ n
  pub to : n < a + k
  pub left : free_from occ' a k ≡ ns

pub free_head : (occ occ' : ℕ → Bool) (a k n : ℕ) (ns : List ℕ) → free_from occ a k ≡ n ∷ ns → occ' n ≡ true
    → ((m : ℕ) → m ≢ n → occ' m ≡ occ m) → Taken occ occ' a k n ns
unfolding free_from
free_head occ occ' a zero n ns e t o = let z : ◌≡◌ {A = ℕ} 0 1 = cc e in absurd (omega arith)
free_head occ occ' a (suc k) n ns e t o = go (occ a) refl (free_head occ occ' (suc a) k n ns)
  where
    go : (b : Bool) → occ a ≡ b
        → (free_from occ (suc a) k ≡ n ∷ ns → occ' n ≡ true → ((m : ℕ) → m ≢ n → occ' m ≡ occ m) → Taken occ occ' (suc a) k n ns)
        → Taken occ occ' a (suc k) n ns
    go true p ih =
        let r = ih (rw (p, free_from) at e) t o in
        record { free = r.free; from = omega (arith, r.from); to = omega (arith, r.to); left = rw (o a (omega (arith, r.from)) ∙ p, free_from) r.left }
    go false p ih =
        let e' : a ∷ free_from occ (suc a) k ≡ n ∷ ns = rw (p, free_from) at e in
        let q : a ≡ n = cc e' in
        record {
          free = rw (← q) p;
          from = omega arith;
          to = omega arith;
          left = rw (ap occ' q ∙ t, free_from) (free_same occ occ' (suc a) k (λ m l. o m (omega arith)) ∙ cc e');
        }
