-- Where every sum fits, the words that a union carries out are its rule's own values.
use Rattle.std.proofs.Common.{◌≡◌, ℕ, ◌+◌, ◌≤◌, true, leb, sym, refl, ◌∙◌, arith, le-leb, leb-true}
use mathlib.Core.Option.{some}
use native.Mathlib.Decide.{ℕ_discrete}
use Rattle.model.specs.Tree.{Tree, entries, find, Ordered}
use Rattle.model.specs.Rules.{union, merge_by, fits}
use Rattle.model.proofs.rules.Unions.{union_agrees}
use Rattle.model.proofs.rules.Fits.{fit_sum, fits_sums}
use Rattle.sets.specs.Words.{word_by}
use Rattle.sets.specs.Numbers.{union_number, difference_number}
use Rattle.sets.specs.declared.values.UnionRule.{UnionRule}
use Rattle.sets.specs.declared.values.UnionRule.TheVariants.{Left, Right, Smaller, Larger, Sum}
use Rattle.sets.specs.declared.values.DifferenceRule.{DifferenceRule}
use Rattle.sets.specs.declared.values.DifferenceRule.TheVariants as differences

-- the word is the rule's value where the rule adds nothing, and where its sum fits
word_kept : (rule x y : ℕ) → rule ≤ 3 → word_by rule x y ≡ merge_by rule x y
unfolding word_by
word_kept rule x y le = rw (le-leb rule 3 le, word_by)

word_sum : (rule x y : ℕ) → rule ≡ 4 → x + y ≤ 4294967295 → word_by rule x y ≡ merge_by rule x y
unfolding word_by merge_by
word_sum rule x y e le = rw e (omega arith)

-- so a union of trees whose sums fit is the rule's own
pub union_exact : (rule : ℕ) (l r : Tree) → leb rule 4 ≡ true → Ordered l → Ordered r → fits rule (entries l) (entries r) ≡ true
    → union (word_by rule) l r ≡ union (merge_by rule) l r
union_exact rule l r legal ol or f = union_agrees (word_by rule) (merge_by rule) l r ol or (λ k x y p q. go k x y p q (ℕ_discrete rule 4))
  where
    go : (k x y : ℕ) → find (entries l) k ≡ some x → find (entries r) k ≡ some y → Dec (rule ≡ 4) → word_by rule x y ≡ merge_by rule x y
    go k x y p q (yes e) = word_sum rule x y e (fit_sum (entries l) (entries r) (sym (fits_sums rule (entries l) (entries r) e) ∙ f) k x y p q)
    go k x y p q (no ne) = word_kept rule x y (omega (arith, leb-true rule 4 legal))

-- a number that names a rule is within range
pub union_legal : {n : ℕ} (rule : UnionRule) → union_number rule ≡ n → leb n 4 ≡ true
union_legal Left e = rw (← e) refl
union_legal Right e = rw (← e) refl
union_legal Smaller e = rw (← e) refl
union_legal Larger e = rw (← e) refl
union_legal Sum e = rw (← e) refl

pub difference_legal : {n : ℕ} (rule : DifferenceRule) → difference_number rule ≡ n → leb n 3 ≡ true
difference_legal differences.Drop e = rw (← e) refl
difference_legal differences.DropEqual e = rw (← e) refl
difference_legal differences.Left e = rw (← e) refl
difference_legal differences.Minus e = rw (← e) refl
