-- Which number ask and resend give: each exactly when document 02 says.
use mathlib.Core.Path.{◌≡◌, refl, ap, sym, ◌∙◌}
use mathlib.Core.Logic.{◌≢◌, ◌↔◌}
use Prim.Native.Nat.{ℕ}
use mathlib.Core.Bool.{true, true≢false}
use mathlib.Core.Option.{Option, none, some}
use mathlib.Core.List.{List, [], ◌∷◌}
use lib.ListN.{length}
use native.Mathlib.Omega.{arith}
use Rattle.model.specs.Delta.{delta_deep}
use Rattle.model.specs.Heap.{version}
use Rattle.model.specs.Block.{heap, Shaped, SoundBlock}
use Rattle.model.specs.Frame.{Frame}
use Rattle.model.specs.Inbox.{SoundInbox}
use Rattle.model.specs.Numbers.{SHAPE, DAMAGED, VERSION, TOO_DEEP, BATCH, REQUEST}
use Rattle.model.specs.Calls.{fails, passes, Versions}
use Rattle.model.specs.Lists.{Report}
use Rattle.model.specs.Request.{read_request, all_of, Ask, Primary, Sends, Resend}
use Rattle.model.proofs.maps.Tests.{not_false}
use Rattle.model.proofs.requests.RequestRules.{Spells, read_spells, read_none}

-- a number that is given, and one that is not
module _ {a : Report} {X : Type 0} {k : ℕ} where
  given : {c : Report} → a ≡ c → c.number ≡ k → X → (a.number ≡ k) ↔ X
  given e z x = ((λ _. x), (λ _. ap (λ (r : Report). r.number) e ∙ z))

  other : {c : Report} → a ≡ c → c.number ≢ k → (X → ⊥) → (a.number ≡ k) ↔ X
  other e ne f = ((λ z. absurd (ne (sym (ap (λ (r : Report). r.number) e) ∙ z))), (λ x. absurd (f x)))

pub record AskNumbers (x : List ℕ) (n : ℕ) : Type 0 where
  pub shape : (n ≡ SHAPE) ↔ (length x ≢ 130)
  pub damaged : (n ≡ DAMAGED) ↔ ((length x ≡ 130) × (SoundInbox x → ⊥))
  pub done : (n ≡ 0) ↔ SoundInbox x

pub ask_numbers : (x out after : List ℕ) (start : ℕ) (a : Report) → Ask x out after start a → AskNumbers x a.number
ask_numbers x out after start a (fails p r) = record { shape = given r.0 refl p; damaged = other r.0 (omega arith) (λ w. p w.0); done = other r.0 (omega arith) (λ w. p w.long) }
ask_numbers x out after start a (passes p (fails q r)) = record { shape = other r.0 (omega arith) (λ w. w p); damaged = given r.0 refl (p, q); done = other r.0 (omega arith) q }
ask_numbers x out after start a (passes p (passes q r)) = record { shape = other r.0 (omega arith) (λ w. w p); damaged = other r.0 (omega arith) (λ w. w.1 q); done = given r.0 refl q }

-- the two versions whose delta is sent
abbrev Deep : Primary → Type 0
Deep p = delta_deep (version (heap p.block) p.from) (version (heap p.block) p.to) ≡ true

-- block and versions are in order
abbrev pub Ready : Primary → Type 0
Ready p = SoundBlock p.block × Versions (p.from ∷ p.to ∷ [])

pub record ResendNumbers (p : Primary) (text : List ℕ) (n : ℕ) : Type 0 where
  pub shape : (n ≡ SHAPE) ↔ (Shaped p.block → ⊥)
  pub damaged : (n ≡ DAMAGED) ↔ (Shaped p.block × (SoundBlock p.block → ⊥))
  pub version : (n ≡ VERSION) ↔ (SoundBlock p.block × (Versions (p.from ∷ p.to ∷ []) → ⊥))
  -- no request that document 02 allows has these bytes
  pub request : (n ≡ REQUEST) ↔ (Ready p × ((fs : List Frame) → Spells text fs → ⊥))
  -- one has, but not all of its lines are of the batch
  pub batch : (n ≡ BATCH) ↔ (Ready p × ((fs : List Frame) × Spells text fs × (all_of p.batch fs ≢ true)))
  -- all are, and a walk of the delta is too deep
  pub too_deep : (n ≡ TOO_DEEP) ↔ (Ready p × ((fs : List Frame) × Spells text fs × (all_of p.batch fs ≡ true)) × Deep p)

module _ (p : Primary) (request out after : List ℕ) (start : ℕ) (a : Report) where
  -- two readings of one text
  same : {fs gs : List Frame} → read_request request ≡ some fs → Spells request gs → fs ≡ gs
  same {fs} {gs} e s = cc (sym e ∙ (read_spells request gs).1 s)

  sends_numbers : Shaped p.block → SoundBlock p.block → Versions (p.from ∷ p.to ∷ []) → (o : Option (List Frame))
      → read_request request ≡ o → Sends p o out after start a → ResendNumbers p request a.number
  sends_numbers h s v none e r = record {
    shape = other r.0 (omega arith) (λ w. w h);
    damaged = other r.0 (omega arith) (λ w. w.1 s);
    version = other r.0 (omega arith) (λ w. w.1 v);
    request = given r.0 refl ((s, v), (read_none request).0 e);
    batch = other r.0 (omega arith) (λ w. (read_none request).0 e w.1.0 w.1.1);
    too_deep = other r.0 (omega arith) (λ w. (read_none request).0 e w.1.0 w.1.1);
  }
  sends_numbers h s v (some fs) e (fails q r) = record {
    shape = other r.0 (omega arith) (λ w. w h);
    damaged = other r.0 (omega arith) (λ w. w.1 s);
    version = other r.0 (omega arith) (λ w. w.1 v);
    request = other r.0 (omega arith) (λ w. w.1 fs ((read_spells request fs).0 e));
    batch = given r.0 refl ((s, v), (fs, (read_spells request fs).0 e, q));
    too_deep = other r.0 (omega arith) (λ w. q (ap (all_of p.batch) (same e w.1.1) ∙ w.1.2));
  }
  sends_numbers h s v (some fs) e (passes q (fails d r)) = record {
    shape = other r.0 (omega arith) (λ w. w h);
    damaged = other r.0 (omega arith) (λ w. w.1 s);
    version = other r.0 (omega arith) (λ w. w.1 v);
    request = other r.0 (omega arith) (λ w. w.1 fs ((read_spells request fs).0 e));
    batch = other r.0 (omega arith) (λ w. w.1.2 (ap (all_of p.batch) (sym (same e w.1.1)) ∙ q));
    too_deep = given r.0 refl ((s, v), (fs, (read_spells request fs).0 e, q), not_false _ d);
  }
  sends_numbers h s v (some fs) e (passes q (passes d r)) = record {
    shape = other r.0 (omega arith) (λ w. w h);
    damaged = other r.0 (omega arith) (λ w. w.1 s);
    version = other r.0 (omega arith) (λ w. w.1 v);
    request = other r.0 (omega arith) (λ w. w.1 fs ((read_spells request fs).0 e));
    batch = other r.0 (omega arith) (λ w. w.1.2 (ap (all_of p.batch) (sym (same e w.1.1)) ∙ q));
    too_deep = other r.0 (omega arith) (λ w. true≢false (sym w.2 ∙ d));
  }

  pub resend_numbers : Resend p request out after start a → ResendNumbers p request a.number
  resend_numbers (fails h r) = record {
    shape = given r.0 refl h;
    damaged = other r.0 (omega arith) (λ w. h w.0);
    version = other r.0 (omega arith) (λ w. h w.0.shaped);
    request = other r.0 (omega arith) (λ w. h w.0.0.shaped);
    batch = other r.0 (omega arith) (λ w. h w.0.0.shaped);
    too_deep = other r.0 (omega arith) (λ w. h w.0.0.shaped);
  }
  resend_numbers (passes h (fails s r)) = record {
    shape = other r.0 (omega arith) (λ w. w h);
    damaged = given r.0 refl (h, s);
    version = other r.0 (omega arith) (λ w. s w.0);
    request = other r.0 (omega arith) (λ w. s w.0.0);
    batch = other r.0 (omega arith) (λ w. s w.0.0);
    too_deep = other r.0 (omega arith) (λ w. s w.0.0);
  }
  resend_numbers (passes h (passes s (fails v r))) = record {
    shape = other r.0 (omega arith) (λ w. w h);
    damaged = other r.0 (omega arith) (λ w. w.1 s);
    version = given r.0 refl (s, v);
    request = other r.0 (omega arith) (λ w. v w.0.1);
    batch = other r.0 (omega arith) (λ w. v w.0.1);
    too_deep = other r.0 (omega arith) (λ w. v w.0.1);
  }
  resend_numbers (passes h (passes s (passes v r))) = sends_numbers h s v (read_request request) refl r
