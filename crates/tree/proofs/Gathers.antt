-- A sum gathered on the way down is right because at each node one side lies wholly within the bound, or wholly beyond it.
use mathlib.Core.Path.{◌≡◌, refl, ap, sym, ◌∙◌}
use mathlib.Core.Logic.{◌≢◌}
use Prim.Native.Nat.{ℕ, suc, ◌+◌, ◌*◌, ◌≤◌, ◌<◌}
use mathlib.Core.Bool.{Bool}
use mathlib.Core.List.{List}
use native.Mathlib.Omega.{arith}
use Rattle.model.specs.Heap.{Occupied, size_at, sum_at, Linked}
use Rattle.model.specs.Block.{heap}
use Rattle.model.specs.Sums.{from, upto, within, sum_below}
use Rattle.model.proofs.block.Loads.{size_at_occupied}
use Rattle.model.proofs.block.Lookups.{link_occupied}
use Rattle.model.proofs.block.Sums.{sum_none, left_ordered, right_ordered, from_takes, from_passes, upto_takes, upto_passes, within_left, within_right, within_parts}
use Rattle.block.specs.declared.Node.{Node}
use Rattle.block.specs.Outcome.{node_of}
use Rattle.tree.specs.Gathered.{Summable, Parting}

-- sum was gathered on the way from root to n, by the test p
pub record Gather (b : List ℕ) (p : ℕ → Bool) (root n sum : ℕ) : Type 0 where
  pub summable : Summable b n
  pub gathers : sum + sum_below (heap b) p n ≡ sum_below (heap b) p root
  pub small : sum + 4294967295 * size_at (heap b) n ≤ 4294967295 * size_at (heap b) root

pub gather_start : {b : List ℕ} {root : ℕ} (p : ℕ → Bool) → Summable b root → Gather b p root root 0
gather_start p S = record { summable = S; gathers = omega arith; small = omega arith }

pub gather_end : {b : List ℕ} {p : ℕ → Bool} {root n sum : ℕ} → Gather b p root n sum → n ≡ 0
    → (sum ≡ sum_below (heap b) p root) × (sum ≤ 4294967295 * size_at (heap b) root)
gather_end {b} {p} {root} {n} {sum} G e = (omega (arith, G.gathers, sum_none (heap b) G.summable.linked p n e), omega (arith, G.small))

-- the way from root to n passed no key from first to last
pub record Way (b : List ℕ) (root first last n : ℕ) : Type 0 where
  pub summable : Summable b n
  pub same : sum_below (heap b) (within first last) n ≡ sum_below (heap b) (within first last) root

-- node n, read as m
pub record AtNode (b : List ℕ) (n : ℕ) (m : Node) : Type 0 where
  pub summable : Summable b n
  pub there : n ≢ 0
  pub is : m ≡ node_of (heap b) n

module _ {b : List ℕ} {n : ℕ} {m : Node} (A : AtNode b n m) where
  abbrev L : Linked (heap b)
  L = A.summable.linked

  pub at_occupied : Occupied (heap b) n
  at_occupied = link_occupied (heap b) n A.summable.named A.there

  key_is : m.key ≡ (heap b).key n
  key_is = ap (λ z. z.key) A.is

  value_is : m.value ≡ (heap b).value n
  value_is = ap (λ z. z.value) A.is

  left_is : m.left ≡ (heap b).left n
  left_is = ap (λ z. z.left) A.is

  right_is : m.right ≡ (heap b).right n
  right_is = ap (λ z. z.right) A.is

  sizes : size_at (heap b) n ≡ suc (size_at (heap b) m.left + size_at (heap b) m.right)
  sizes = rw (left_is, right_is) (size_at_occupied (heap b) L n at_occupied ∙ L.sizes n at_occupied)

  pub left_summable : Summable b m.left
  left_summable = record { shaped = A.summable.shaped; linked = L; named = rw left_is (L.lefts n at_occupied); ordered = rw left_is (left_ordered (heap b) L n at_occupied A.summable.ordered); small = omega (arith, sizes, A.summable.small) }

  pub right_summable : Summable b m.right
  right_summable = record { shaped = A.summable.shaped; linked = L; named = rw right_is (L.rights n at_occupied); ordered = rw right_is (right_ordered (heap b) L n at_occupied A.summable.ordered); small = omega (arith, sizes, A.summable.small) }

  pub left_less : size_at (heap b) m.left < size_at (heap b) n
  left_less = omega (arith, sizes)

  pub right_less : size_at (heap b) m.right < size_at (heap b) n
  right_less = omega (arith, sizes)

  module _ {p : ℕ → Bool} {root sum : ℕ} (G : Gather b p root n sum) where
    -- the way on, with nothing gathered here
    on_left : sum_below (heap b) p n ≡ sum_below (heap b) p ((heap b).left n) → Gather b p root m.left sum
    on_left e = record { summable = left_summable; gathers = rw left_is (omega (arith, e, G.gathers)); small = omega (arith, sizes, G.small) }

    on_right : sum_below (heap b) p n ≡ sum_below (heap b) p ((heap b).right n) → Gather b p root m.right sum
    on_right e = record { summable = right_summable; gathers = rw right_is (omega (arith, e, G.gathers)); small = omega (arith, sizes, G.small) }

  -- keys from first on
  module _ {root sum : ℕ} (first : ℕ) (G : Gather b (from first) root n sum) where
    pub from_right : m.key < first → Gather b (from first) root m.right sum
    from_right lt = on_right G (from_passes (heap b) L n at_occupied A.summable.ordered first (omega (arith, key_is)))

    pub from_left : (v t : ℕ) → first ≤ m.key → v ≡ m.value → v < 4294967296 → t ≡ sum_at (heap b) m.right
        → t ≤ 4294967295 * size_at (heap b) m.right → Gather b (from first) root m.left (sum + (v + t))
    from_left v t le ev sv et st = record {
      summable = left_summable;
      gathers = rw left_is (omega (arith, from_takes (heap b) L n at_occupied A.summable.ordered first (omega (arith, key_is)), G.gathers, value_is, et ∙ ap (sum_at (heap b)) right_is));
      small = omega (arith, sizes, G.small);
    }

  -- keys up to last
  module _ {root sum : ℕ} (last : ℕ) (G : Gather b (upto last) root n sum) where
    pub upto_left : last < m.key → Gather b (upto last) root m.left sum
    upto_left lt = on_left G (upto_passes (heap b) L n at_occupied A.summable.ordered last (omega (arith, key_is)))

    pub upto_right : (v t : ℕ) → m.key ≤ last → v ≡ m.value → v < 4294967296 → t ≡ sum_at (heap b) m.left
        → t ≤ 4294967295 * size_at (heap b) m.left → Gather b (upto last) root m.right (sum + (v + t))
    upto_right v t le ev sv et st = record {
      summable = right_summable;
      gathers = rw right_is (omega (arith, upto_takes (heap b) L n at_occupied A.summable.ordered last (omega (arith, key_is)), G.gathers, value_is, et ∙ ap (sum_at (heap b)) left_is));
      small = omega (arith, sizes, G.small);
    }

  -- the way to where the paths part
  module _ {root first last : ℕ} (W : Way b root first last n) where
    pub part_right : m.key < first → Way b root first last m.right
    part_right lt = record { summable = right_summable; same = rw right_is (sym (within_right (heap b) L n at_occupied A.summable.ordered first last (omega (arith, key_is))) ∙ W.same) }

    pub part_left : last < m.key → Way b root first last m.left
    part_left lt = record { summable = left_summable; same = rw left_is (sym (within_left (heap b) L n at_occupied A.summable.ordered first last (omega (arith, key_is))) ∙ W.same) }

    pub part_here : first ≤ m.key → m.key ≤ last → Parting b root first last n
    part_here p q = record { summable = A.summable; same = W.same; low = λ _. omega (arith, key_is); high = λ _. omega (arith, key_is) }

  -- and what each side brings there
  pub part-sum : {root first last : ℕ} (v x y : ℕ) → Parting b root first last n → v ≡ m.value
      → x ≡ sum_below (heap b) (from first) m.left → y ≡ sum_below (heap b) (upto last) m.right
      → v + (x + y) ≡ sum_below (heap b) (within first last) root
  part-sum {root} {first} {last} v x y P ev ex ey = omega (
    arith,
    P.same,
    value_is,
    within_parts (heap b) L n at_occupied A.summable.ordered first last (P.low A.there) (P.high A.there),
    ex ∙ ap (sum_below (heap b) (from first)) left_is,
    ey ∙ ap (sum_below (heap b) (upto last)) right_is,
  )

pub way_start : {b : List ℕ} {root : ℕ} (first last : ℕ) → Summable b root → Way b root first last root
way_start first last S = record { summable = S; same = refl }

pub part_none : {b : List ℕ} {root first last n : ℕ} → Way b root first last n → n ≡ 0 → Parting b root first last 0
part_none {b} {root} {first} {last} {n} W z =
    let P : Parting b root first last n = record { summable = W.summable; same = W.same; low = λ ne. absurd (ne z); high = λ ne. absurd (ne z) } in
    rw z at P

pub none_between : {b : List ℕ} {root first last n : ℕ} → Parting b root first last n → n ≡ 0 → 0 ≡ sum_below (heap b) (within first last) root
none_between {b} {root} {first} {last} {n} P z = sym (sum_none (heap b) P.summable.linked (within first last) n z) ∙ P.same
