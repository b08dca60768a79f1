-- A union by sums holds the minutes of both trees: each split loses none, and a common key's two values go in as their sum.
use mathlib.Core.Path.{◌≡◌, refl, ap, ◌∙◌}
use Prim.Native.Nat.{ℕ, zero, suc, ◌+◌, ◌<◌, compare, Ordering}
use mathlib.Core.Bool.{Bool, true, false}
use mathlib.Core.Option.{Option, none, some}
use mathlib.Core.List.{List, [], ◌∷◌}
use lib.Dec.{leb}
use native.Mathlib.Omega.{arith}
use Rattle.model.specs.Tree.{Tree, leaf, node, Entry, size, entries, cut, Ordered}
use Rattle.model.specs.Supply.{Supply, given}
use Rattle.model.specs.Rules.{join, split, merged_left, merged_right, merge_by, union_by, union}
use Rattle.model.specs.Sums.{minutes}
use Rattle.model.proofs.rules.Entries.{join_keeps}
use Rattle.model.proofs.rules.Splits.{split-entries}
use Rattle.model.proofs.block.Sums.{minutes_mid}
use Rattle.model.proofs.rules.Unions.{SplitFacts, split_facts}

-- the minutes under a key
unfoldable under : Option ℕ → ℕ
under none = 0
under (some v) = v

cut-minutes : (es : List Entry) (k : ℕ) → minutes (cut es k).before + (under (cut es k).found + minutes (cut es k).after) ≡ minutes es
unfolding minutes cut under
cut-minutes [] k = refl
cut-minutes (e ∷ es) k = go (compare k e.0) refl (cut-minutes es k)
  where
    go : (c : Ordering) → compare k e.0 ≡ c → minutes (cut es k).before + (under (cut es k).found + minutes (cut es k).after) ≡ minutes es
        → minutes (cut (e ∷ es) k).before + (under (cut (e ∷ es) k).found + minutes (cut (e ∷ es) k).after) ≡ minutes (e ∷ es)
    go Ordering.lt c ih = rw (c, cut) (omega arith)
    go Ordering.eq c ih = rw (c, cut) (omega arith)
    go Ordering.gt c ih = rw (c, cut) (omega arith)

split-minutes : (t : Tree) (k : ℕ) (s : Supply) → Ordered t
    → let p = (split t k s).0 in minutes (entries p.left) + (under p.found + minutes (entries p.right)) ≡ minutes (entries t)
split-minutes t k s o = ap (λ c. minutes c.before + (under c.found + minutes c.after)) (split-entries t k s o) ∙ cut-minutes (entries t) k

join-minutes : (k v : ℕ) (a b : Tree) (s : Supply) → minutes (entries (join k v a b s).0) ≡ v + (minutes (entries a) + minutes (entries b))
join-minutes k v a b s = ap minutes (join_keeps k v a b s) ∙ minutes_mid (entries a) (entries b) k v

left_sum : (w : ℕ) (o : Option ℕ) → merged_left (merge_by 4) w o ≡ w + under o
unfolding merge_by under
left_sum w none = omega arith
left_sum w (some y) = refl

right_sum : (o : Option ℕ) (w : ℕ) → merged_right (merge_by 4) o w ≡ w + under o
unfolding merge_by under
right_sum none w = omega arith
right_sum (some x) w = omega arith

-- what a tree and a union of it hold
abbrev held : Tree → ℕ
held t = minutes (entries t)

sums : (fuel : ℕ) (l r : Tree) (s : Supply) → size l + size r < fuel → Ordered l → Ordered r → held (union_by (merge_by 4) fuel l r s).0 ≡ held l + held r
unfolding union_by entries minutes size Ordered
sums zero l r s lt ol or = absurd (omega arith)
sums (suc fuel) leaf r s lt ol or = omega arith
sums (suc fuel) (node i h w ll lr) leaf s lt ol or = omega arith
sums (suc fuel) (node i h w ll lr) (node j g u rl rr) s lt ol or = go (leb (size R) (size L)) refl (λ x y s' q p₁ p₂. sums fuel x y s' q p₁ p₂)
  where
    L : Tree
    L = node i h w ll lr

    R : Tree
    R = node j g u rl rr

    go : (b : Bool) → leb (size R) (size L) ≡ b
        → ((x y : Tree) (s' : Supply) → size x + size y < fuel → Ordered x → Ordered y → held (union_by (merge_by 4) fuel x y s').0 ≡ held x + held y)
        → held (union_by (merge_by 4) (suc fuel) L R s).0 ≡ held L + held R
    go true e ih =
        let p = split R h (given i s) in
        let S : SplitFacts R h p.0 = split_facts R h (given i s) or in
        let a = union_by (merge_by 4) fuel ll p.0.left p.1 in
        let b = union_by (merge_by 4) fuel lr p.0.right a.1 in
        rw (e, union_by) (omega (
          arith,
          join-minutes h (merged_left (merge_by 4) w p.0.found) a.0 b.0 b.1,
          left_sum w p.0.found,
          split-minutes R h (given i s) or,
          minutes_mid (entries ll) (entries lr) h w,
          ih ll p.0.left p.1 (omega (arith, S.smaller)) ol.2 S.ordered_left,
          ih lr p.0.right a.1 (omega (arith, S.smaller)) ol.3 S.ordered_right,
        ))
    go false e ih =
        let p = split L g (given j s) in
        let S : SplitFacts L g p.0 = split_facts L g (given j s) ol in
        let a = union_by (merge_by 4) fuel p.0.left rl p.1 in
        let b = union_by (merge_by 4) fuel p.0.right rr a.1 in
        rw (e, union_by) (omega (
          arith,
          join-minutes g (merged_right (merge_by 4) p.0.found u) a.0 b.0 b.1,
          right_sum p.0.found u,
          split-minutes L g (given j s) ol,
          minutes_mid (entries rl) (entries rr) g u,
          ih p.0.left rl p.1 (omega (arith, S.smaller)) S.ordered_left or.2,
          ih p.0.right rr a.1 (omega (arith, S.smaller)) S.ordered_right or.3,
        ))

pub union_sums : (l r : Tree) (s : Supply) → Ordered l → Ordered r → minutes (entries (union (merge_by 4) l r s).0) ≡ minutes (entries l) + minutes (entries r)
unfolding union
union_sums l r s ol or = sums (suc (size l + size r)) l r s (omega arith) ol or
