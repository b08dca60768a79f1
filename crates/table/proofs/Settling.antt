-- An edit from its checks to its end, whatever its rule: what the rule made becomes the destination, or every word is as at entry.
use mathlib.Core.Path.{◌≡◌, refl, ap, sym, ◌∙◌}
use mathlib.Core.Logic.{◌≢◌}
use Prim.Native.Nat.{ℕ, zero, suc, ◌+◌, ◌≤◌, ◌<◌}
use mathlib.Core.Bool.{Bool, true, false, not, true≢false}
use mathlib.Core.Option as maybe
use mathlib.Core.List.{List, [], ◌∷◌}
use native.Mathlib.Omega.{arith}
use Rattle.std.specs.Prelude.{Option, Some, None, Result, Ok, Err, IsErrAnd}
use Rattle.model.specs.Tree.{size, entries, lookup, Ordered}
use Rattle.model.specs.Sums.{minutes, those, within, sum_below}
use Rattle.model.specs.Heap.{Named, Linked, size_at, sum_at, tree, version, supply}
use Rattle.model.specs.Block.{heap, Words, Shaped, SoundBlock}
use Rattle.model.specs.Moves.{Running, Holding, FullBelow, HeldBelow}
use Rattle.model.specs.Numbers.{RULE, ZERO, SUM}
use Rattle.model.specs.Calls.{fails, passes, Answer, refusal, giving, Versions, Edit, Edits}
use Rattle.model.proofs.block.Loads.{tree-size, tree-sum}
use Rattle.model.proofs.block.Sums.{total-minutes}
use Rattle.tree.specs.Gathered.{Summable}
use Rattle.model.proofs.running.Pieces.{AllNamed}
use Rattle.model.proofs.block.Versions.{version_named, version_small, version_ordered}
use Rattle.answers.specs.declared.Refusal.{Refusal}
use Rattle.answers.specs.Numbers.{number, code}
use Rattle.answers.specs.Answers.{found_of, done_of}
use Rattle.answers.proofs.NotDone.{some_number}
use Rattle.block.specs.Outcome.{Stands, Outcome, Settled}
use Rattle.block.proofs.EntryToExit.{start, held, carried, refused}
use Rattle.table.specs.Answers.{Source, ended}

module _ {b : List ℕ} {v r : ℕ} (S : Source b v r) where
  pub source_named : Named (heap b) r
  source_named = version_named S.sound v r S.known S.is

  -- what a reading asks of it
  pub read-asks : Shaped b × Linked (heap b) × Named (heap b) r
  read-asks = (S.sound.shaped, S.sound.sound.kept.linked, source_named)

  pub source_small : size_at (heap b) r ≤ 4096
  source_small = version_small S.sound v r S.known S.is

  -- it is the one piece of a rule of one tree
  pub source_pieces : AllNamed (heap b) (r ∷ [])
  unfolding AllNamed
  source_pieces = (source_named, tt)

  -- what such a rule asks of it
  pub rule_asks : Holding b (r ∷ []) × Named (heap b) r × (size_at (heap b) r < 1048575)
  rule_asks = (start S.sound (r ∷ []) source_pieces, source_named, omega (arith, source_small))

  -- what is found from the root is the version's
  pub source_found : {o : maybe.Option ℕ} (key : ℕ) → o ≡ lookup (tree (heap b) r) key → o ≡ lookup (version (heap b) v) key
  source_found key e = e ∙ ap (λ x. lookup (tree (heap b) x) key) S.is

  pub source_size : size_at (heap b) r ≡ size (version (heap b) v)
  source_size = sym (tree-size (heap b) S.sound.sound.kept.linked r source_named) ∙ ap (λ x. size (tree (heap b) x)) S.is

  pub source_held : sum_at (heap b) r ≡ minutes (entries (version (heap b) v))
  source_held = sym (tree-sum (heap b) S.sound.sound.kept.linked r source_named) ∙ total-minutes (tree (heap b) r) ∙ ap (λ x. minutes (entries (tree (heap b) x))) S.is

  -- what a sum between two keys asks of it, and what it says
  pub source_summable : Summable b r
  source_summable = record {
    shaped = S.sound.shaped;
    linked = S.sound.sound.kept.linked;
    named = source_named;
    ordered = rw S.is (version_ordered S.sound.sound v S.known);
    small = omega (arith, source_small);
  }

  pub source_between : {s : ℕ} (first last : ℕ) → s ≡ sum_below (heap b) (within first last) r
      → s ≡ minutes (those (within first last) (entries (version (heap b) v)))
  source_between first last e = e ∙ ap (sum_below (heap b) (within first last)) S.is

-- the pieces of a rule of two trees, and what it asks of them
module _ {b : List ℕ} {v w l r : ℕ} (S : Source b v l) (T : Source b w r) where
  pub pair_pieces : AllNamed (heap b) (l ∷ r ∷ [])
  unfolding AllNamed
  pair_pieces = (source_named S, (source_named T, tt))

  pub pair_asks : Holding b (l ∷ r ∷ []) × Named (heap b) l × Named (heap b) r × (size_at (heap b) l + size_at (heap b) r < 1048576)
  pair_asks = (start S.sound (l ∷ r ∷ []) pair_pieces, source_named S, source_named T, omega (arith, source_small S, source_small T))

-- what an edit answers
pub ended_refused : (n : ℕ) (a : Answer) → n ≢ 0 → refusal n ≡ ended n a
ended_refused zero a ne = absurd (ne refl)
ended_refused (suc n) a ne = refl

pub err_ended : (r : Refusal) (a : Answer) → refusal (number r) ≡ ended (number r) a
err_ended r a = ended_refused (number r) a (some_number r)

-- a call without fields answers that it is done
pub done_ended : {A : Type 0} (r : Result A Refusal) → done_of r ≡ ended (code r) (giving 0)
done_ended (Ok x) = refl
done_ended (Err r) = err_ended r (giving 0)

-- an edit that answers what was found: as it ends, it is done or refused
pub ok_told : {A : Type 0} {q : Result A Refusal} {x : A} {a b : Answer} → q ≡ Ok x → a ≡ b → a ≡ ended (code q) b
ok_told {b = b} e p = p ∙ ap (λ q. ended (code q) b) (sym e)

pub err_told : {A : Type 0} {q : Result A Refusal} (r : Result (Option ℕ) Refusal) {e : Refusal} (a : Answer) → q ≡ Err e → IsErrAnd r (λ f. f ≡ e)
    → found_of r ≡ ended (code q) a
err_told (Ok x) a p t = absurd t
err_told (Err f) {e = e} a p t = rw (p, t) (err_ended e a)

-- an edit whose checks have passed
pub record Begun (b : List ℕ) (e : Edit) : Type 0 where
  pub sound : SoundBlock b
  pub versions : Versions e.versions
  pub legal : e.legal ≡ true
  pub positive : e.positive ≡ true
  pub fits : e.fits ≡ true

-- and whose rule has run, from b to c, of pieces that stood there, making nodes from number `low` on
pub record Run (b c : List ℕ) (low : ℕ) (made : Option ℕ) (e : Edit) : Type 0 where
  pub begun : Begun b e
  pub low_is : (1 ≤ low) × FullBelow (heap b) low
  pub pieces : List ℕ
  pub named : AllNamed (heap b) pieces
  pub out : Outcome b c pieces made e.rule
  pub ordered : Ordered (e.rule (supply (heap b))).0

module _ {b c : List ℕ} {low : ℕ} {made : Option ℕ} {e : Edit} (R : Run b c low made e) where
  -- what the end asks of the block and of what was made
  pub settle_asks : Running c × Stands (heap c) made × (1 ≤ low) × HeldBelow (heap c) low
  settle_asks = (R.out.came.running, R.out.named, R.low_is.0, held R.begun.sound R.pieces R.named R.low_is.1 R.out)

  -- the end of every edit
  pub settled : {after : List ℕ} {a : Answer} (n : ℕ) → Settled c after e.dst made n → a ≡ ended n e.answer → Words b → Words after → Edits b after e a
  settled {after} {a} n S q wb wa = go made R.out S
    where
      go : (m : Option ℕ) → Outcome b c R.pieces m e.rule → Settled c after e.dst m n → Edits b after e a
      go (Some k) O (z, F) =
          let B = R.begun in
          let C = carried B.sound R.pieces R.named O R.ordered F in
          passes B.sound.shaped (passes B.sound (passes B.versions (passes B.legal (passes B.positive (passes B.fits (passes C.enough (q ∙ ap (λ x. ended x e.answer) z, C.edited)))))))
      go None O (z, W) =
          let B = R.begun in
          let X = refused B.sound R.pieces R.named O W wb wa in
          passes B.sound.shaped (passes B.sound (passes B.versions (passes B.legal (passes B.positive (passes B.fits (fails (λ f. true≢false (sym X.short ∙ f)) (q ∙ ap (λ x. ended x e.answer) z, X.same)))))))

-- a rule number that is not known
pub rule_refused : {b : List ℕ} {a : Answer} (e : Edit) → SoundBlock b → Versions e.versions → e.legal ≡ false → a ≡ refusal RULE → Edits b b e a
rule_refused e B u l q = passes B.shaped (passes B (passes u (fails (λ t. true≢false (sym t ∙ l)) (q, refl))))

-- a value of 0
pub zero_refused : {b : List ℕ} {a : Answer} (e : Edit) → SoundBlock b → Versions e.versions → e.legal ≡ true → e.positive ≡ false
    → a ≡ refusal ZERO → Edits b b e a
zero_refused e B u l o q = passes B.shaped (passes B (passes u (passes l (fails (λ t. true≢false (sym t ∙ o)) (q, refl)))))

-- a sum that does not fit
pub sum_refused : {b : List ℕ} {a : Answer} (e : Edit) → SoundBlock b → Versions e.versions → e.legal ≡ true → e.positive ≡ true
    → e.fits ≡ false → a ≡ refusal SUM → Edits b b e a
sum_refused e B u l o f q = passes B.shaped (passes B (passes u (passes l (passes o (fails (λ t. true≢false (sym t ∙ f)) (q, refl))))))
