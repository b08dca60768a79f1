-- The delta from one tree to another.
use Rattle.std.specs.Prelude.{◌≡◌, ◌≢◌, ◌⊎◌, ℕ, ◌<◌, Bool, true, false, not, ◌||◌, List, [], ◌∷◌, ◌++◌, length, get_or, eqb}
use Rattle.std.proofs.Math.Option.{Option, none, some}
use Rattle.model.specs.Tree.{Tree}
use Rattle.model.specs.Listing.{Row, listing, ◌∈◌, Ascending}

-- a key and what it is set to: a value (a put) or nothing (a remove)
pub record Change : Type 0 where
  pub key : ℕ
  pub now : Option ℕ

-- the right side lacks the key or has another value there
unfoldable pub changed : Row → Bool
changed r = elim r.right [ none ↦ true | some w ↦ not (eqb r.left w) ]

-- puts, for the rows that changed
unfoldable pub puts : List Row → List Change
puts [] = []
puts (r ∷ rs) = elim (changed r) [ true ↦ record { key = r.key; now = some r.left } ∷ puts rs | false ↦ puts rs ]

-- removes, for the keys that the right side lacks
unfoldable pub removes : List Row → List Change
removes [] = []
removes (r ∷ rs) = elim r.right [ none ↦ record { key = r.key; now = none } ∷ removes rs | some w ↦ removes rs ]

-- from a to b: b is walked against a, then a against b
unfoldable pub delta : Tree → Tree → List Change
delta a b = puts (listing b a).rows ++ removes (listing a b).rows

-- either walk may be too deep
unfoldable pub delta_deep : Tree → Tree → Bool
delta_deep a b = (listing b a).deep || (listing a b).deep

-- change i of the list
abbrev pub change_at : List Change → ℕ → Change
change_at cs i = get_or cs i (record { key = 0; now = none })

-- the changes carry the map A to the map B: each sets its key to what B holds, and every key where the two differ is changed
pub record Carries (A B : ℕ → Option ℕ) (cs : List Change) : Type 0 where
  pub right : (i : ℕ) → i < length cs → (change_at cs i).now ≡ B (change_at cs i).key
  pub whole : (k : ℕ) → (A k ≡ B k) ⊎ ((i : ℕ) × (i < length cs) × ((change_at cs i).key ≡ k))

-- no key twice
unfoldable pub Distinct : {A : Type 0} → (A → ℕ) → List A → Type 0
Distinct key [] = Unit {0}
Distinct {A} key (x ∷ xs) = ((y : A) → y ∈ xs → key x ≢ key y) × Distinct key xs

-- puts, ascending, for the keys of B absent from A or with another value there; removes, ascending, for the keys of A absent from B; and no others
pub record Exact (A B : ℕ → Option ℕ) (ps rs : List Change) : Type 0 where
  pub puts_ascend : Ascending (λ (c : Change). c.key) ps
  pub put : (c : Change) → c ∈ ps → (v : ℕ) × (c.now ≡ some v) × (B c.key ≡ some v) × (A c.key ≢ some v)
  pub all_puts : (k v : ℕ) → B k ≡ some v → A k ≢ some v → (c : Change) × (c ∈ ps) × (c.key ≡ k)
  pub removes_ascend : Ascending (λ (c : Change). c.key) rs
  pub remove : (c : Change) → c ∈ rs → (v : ℕ) × (c.now ≡ none) × (A c.key ≡ some v) × (B c.key ≡ none)
  pub all_removes : (k v : ℕ) → A k ≡ some v → B k ≡ none → (c : Change) × (c ∈ rs) × (c.key ≡ k)
