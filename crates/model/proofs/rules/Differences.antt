-- Difference against maps: the left side is found key by key, by the rule where the right has the key.
use mathlib.Core.Path.{◌≡◌, refl, ap₂, sym, ◌∙◌}
use Prim.Native.Nat.{ℕ, ◌≤◌, ◌<◌}
use mathlib.Core.Bool.{false}
use mathlib.Core.Option.{Option, none, some}
use Rattle.model.specs.Tree.{Tree, leaf, node, entries, cut, find, Ordered, Sorted, less, Is}
use Rattle.model.specs.Supply.{Supply, given}
use Rattle.model.specs.Rules.{join, split, rest, kept, difference}
use Rattle.model.proofs.rules.Entries.{join_keeps}
use Rattle.model.proofs.rules.Splits.{without_key-entries}
use Rattle.model.proofs.maps.Sorts.{ordered_sorted}
use Rattle.model.proofs.maps.Finds.{append_is}
use Rattle.model.proofs.rules.Unions.{join_is, SplitFacts, split_facts, NodeFacts, node_facts}

-- the difference of two trees as a map
abbrev pub Less : (ℕ → ℕ → Option ℕ) → Tree → Tree → ℕ → Option ℕ
Less diff l r k = less diff (find (entries l) k) (find (entries r) k)

less_none_right : (diff : ℕ → ℕ → Option ℕ) (x : Option ℕ) → less diff x none ≡ x
unfolding less
less_none_right diff none = refl
less_none_right diff (some x) = refl

kept_less : (diff : ℕ → ℕ → Option ℕ) (w : ℕ) (y : Option ℕ) → kept diff w y ≡ less diff (some w) y
unfolding less
kept_less diff w none = refl
kept_less diff w (some y) = refl

-- the node's key is kept, or it is not
rest_is : (h : ℕ) (o : Option ℕ) (a b : Tree) (s : Supply) (f g F : ℕ → Option ℕ) → Is (entries a) f → Is (entries b) g
    → ((k : ℕ) → h ≤ k → f k ≡ none) → ((k : ℕ) → k ≤ h → g k ≡ none)
    → ((k : ℕ) → k < h → f k ≡ F k) → o ≡ F h → ((k : ℕ) → h < k → g k ≡ F k) → Is (entries (rest a h o b s).0) F
unfolding rest
rest_is h (some w) a b s f g F A B f0 g0 low at high = join_is h w a b s f g F A B f0 g0 low at high
rest_is h none a b s f g F A B f0 g0 low at high = rw (without_key-entries join join_keeps a b s) (append_is h (entries a) (entries b) f g F A B f0 g0 low at high)

-- each key as the rule has it; nothing is cancelled
pub difference_is : (diff : ℕ → ℕ → Option ℕ) (l r : Tree) (s : Supply) → Ordered l → Ordered r → Is (entries (difference diff false l r s).0) (Less diff l r)
unfolding difference less entries cut Ordered Sorted
difference_is diff leaf r s ol or = record { sorted = tt; finds = λ k. refl }
difference_is diff (node i h w ll lr) leaf s ol or = record { sorted = ordered_sorted (node i h w ll lr) ol; finds = λ k. sym (less_none_right diff _) }
difference_is diff (node i h w ll lr) (node j g u rl rr) s ol or =
    let p = split (node j g u rl rr) h (given i s) in
    let S : SplitFacts (node j g u rl rr) h p.0 = split_facts (node j g u rl rr) h (given i s) or in
    let N : NodeFacts i h w ll lr = node_facts i h w ll lr ol in
    let a = difference diff false ll p.0.left p.1 in
    let b = difference diff false lr p.0.right a.1 in
    rest_is h (kept diff w p.0.found) a.0 b.0 b.1 (Less diff ll p.0.left) (Less diff lr p.0.right) (Less diff (node i h w ll lr) (node j g u rl rr))
    (difference_is diff ll p.0.left p.1 ol.2 S.ordered_left)
    (difference_is diff lr p.0.right a.1 ol.3 S.ordered_right)
    (λ k q. ap₂ (less diff) (N.low_none k q) (S.low_none k q))
    (λ k q. ap₂ (less diff) (N.high_none k q) (S.high_none k q))
    (λ k q. ap₂ (less diff) (N.low k q) (S.low k q))
    (kept_less diff w p.0.found ∙ ap₂ (less diff) (sym N.at) S.found)
    (λ k q. ap₂ (less diff) (N.high k q) (S.high k q))
