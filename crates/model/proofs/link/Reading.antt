-- What the calls that list write can be read: cut every 35 bytes it is the lines of a delta, which carry a standby from one version to the other; cut every four words it is the rows of a listing.
use mathlib.Core.Path.{◌≡◌, refl, ap, sym, ◌∙◌}
use mathlib.Core.Logic.{inl, inr, ⊎_elim}
use Prim.Native.Nat.{ℕ, zero, suc, ◌+◌, ◌*◌, ◌^◌, ◌≤◌, ◌<◌, compare, Ordering}
use mathlib.Core.Bool.{false}
use mathlib.Core.Option.{Option, none, some}
use mathlib.Core.List.{List, [], ◌∷◌}
use native.Mathlib.Omega.{arith}
use lib.ListN.{length, get_or, take, drop, length-map}
use Rattle.model.specs.Tree.{Tree, Entry, entries, cut, find}
use Rattle.model.specs.Heap.{Named, Linked, tree, version}
use Rattle.model.specs.Block.{word, heap, node_word, Words, SoundBlock}
use Rattle.model.specs.Listing.{Row, listing, ◌∈◌}
use Rattle.model.specs.Delta.{delta, delta_deep, change_at}
use Rattle.model.specs.Frame.{Frame, line, parse, nothing, frames, frame_at}
use Rattle.model.specs.Calls.{Versions}
use Rattle.model.specs.Lists.{row_words, Report, Lists, listed, framed}
use Rattle.model.specs.Inbox.{begun}
use Rattle.model.specs.Link.{Step}
use Rattle.model.specs.Replica.{NoZeroSent, Elsewhere, Hearing, still, then, Each, Genuine, Replicated}
use Rattle.model.proofs.maps.Compare.{cmp_eq}
use Rattle.model.proofs.block.Loads.{tree_ind}
use Rattle.model.proofs.maps.Members.{in_at, in_either}
use Rattle.model.proofs.listing.Listings.{OneHeap, versions_one-heap}
use Rattle.model.proofs.listing.Deltas.{delta_carries, delta_keys}
use Rattle.model.proofs.listing.DeltaRoom.{delta-room}
use Rattle.model.proofs.link.Frames.{Narrow, frames-parsed}
use Rattle.model.proofs.link.Lines.{line-length}
use Rattle.model.proofs.listing.Cutting.{map_at, wide_map, Listed, Written, lists_done}
use Rattle.model.proofs.link.Standbys.{standby_replicates}

-- key and value are u32
abbrev Small : ℕ → ℕ → Type 0
Small k v = (k < 2 ^ 32) × (v < 2 ^ 32)

-- what is found is small where all entries are
found_small : (es : List Entry) (k v : ℕ) → ((e : Entry) → e ∈ es → Small e.0 e.1) → find es k ≡ some v → Small k v
unfolding cut ◌∈◌
found_small [] k v w e = let z : ◌≡◌ {A = ℕ} 0 1 = cc e in absurd (omega arith)
found_small (x ∷ xs) k v w e = go (compare k x.0) refl (found_small xs k v (λ y m. w y (inr m)))
  where
    go : (o : Ordering) → compare k x.0 ≡ o → (find xs k ≡ some v → Small k v) → Small k v
    go Ordering.lt p ih = let z : ◌≡◌ {A = ℕ} 0 1 = cc (rw (p, find) at e) in absurd (omega arith)
    go Ordering.eq p ih = let z : some x.1 ≡ some v = rw (p, find) at e in let u : x.1 ≡ v = cc z in rw (cmp_eq k x.0 p, ← u) (w x (inl refl))
    go Ordering.gt p ih = ih (rw (p, find) at e)

module _ {b : List ℕ} (B : SoundBlock b) (W : Words b) where
  L : Linked (heap b)
  L = B.sound.kept.linked

  word_small : (j n : ℕ) → node_word b j n < 2 ^ 32
  word_small j zero = omega arith
  word_small j (suc n) = W _

  entry_small : (m : ℕ) → Named (heap b) m → (e : Entry) → e ∈ entries (tree (heap b) m) → Small e.0 e.1
  unfolding entries ◌∈◌
  entry_small = tree_ind (heap b) L (λ m t. (e : Entry) → e ∈ entries t → Small e.0 e.1) (λ e m. absurd m)
      (λ n o l r e m. ⊎_elim (l e) (⊎_elim (λ p. rw p (word_small 0 n, word_small 1 n)) (r e))
      (in_either e (entries (tree (heap b) ((heap b).left n))) (((heap b).key n, (heap b).value n) ∷ entries (tree (heap b) ((heap b).right n))) m))

  module _ (a c : ℕ) (p : a < 16) (q : c < 16) where
    abbrev A : Tree
    A = version (heap b) a

    abbrev C : Tree
    C = version (heap b) c

    find_small : (u k v : ℕ) → u < 16 → find (entries (version (heap b) u)) k ≡ some v → Small k v
    find_small u k v lt e = found_small (entries (version (heap b) u)) k v (entry_small ((heap b).root u) (L.roots u lt)) e

    -- a change's key and value come from words of the block
    pub change_small : delta_deep A C ≡ false → (i : ℕ) → i < length (delta A C) → Narrow (change_at (delta A C) i)
    change_small d i h = go (change_at (delta A C) i).now refl (find (entries A) (change_at (delta A C) i).key) refl
      where
        O : OneHeap A C
        O = versions_one-heap (heap b) B.sound a c p q

        k : ℕ
        k = (change_at (delta A C) i).key

        sets : (change_at (delta A C) i).now ≡ find (entries C) k
        sets = (delta_carries A C O d).right i h

        go : (o : Option ℕ) → (change_at (delta A C) i).now ≡ o → (x : Option ℕ) → find (entries A) k ≡ x → Narrow (change_at (delta A C) i)
        go (some v) e x f = let s = find_small c k v q (sym sets ∙ e) in record { key = s.0; value = λ u g. let z : v ≡ u = cc in rw (← z) s.1 }
        go none e (some v) f = record { key = (find_small a k v p f).0; value = λ u g. let z : ◌≡◌ {A = ℕ} 0 1 = cc in absurd (omega arith) }
        go none e none f = absurd ((delta_keys A C O d k).0 (change_at (delta A C) i, in_at (delta A C) _ i h, refl) (f ∙ sym (sym sets ∙ e)))

-- Lines.

module _ (b : List ℕ) (W : Words b) (batch : ℕ) (fits : batch < 2 ^ 32) (out after : List ℕ) (a c start : ℕ) (r : Report) (L : Lists b out after start (framed b a c batch) r) (z : r.number ≡ 0) where
  abbrev sent : List Frame
  sent = frames batch (version (heap b) a) (version (heap b) c)

  listed_frames : Listed b (framed b a c batch) × Written (framed b a c batch) out after start r
  listed_frames = lists_done b out after start (framed b a c batch) r (wide_map 35 line line-length sent) L z

  -- what a done call of frames says of block and versions
  pub frames-given : SoundBlock b × (a < 16) × (c < 16) × (delta_deep (version (heap b) a) (version (heap b) c) ≡ false) × (r.total ≡ length sent)
  unfolding Versions
  frames-given = let D = listed_frames.0 in (D.sound, D.versions.0, D.versions.1.0, D.shallow, listed_frames.1.total ∙ length-map sent line)

  -- every 35 bytes that are written are the line of one frame of the delta, in order
  pub frames-read : (i : ℕ) → 35 * i < r.written → (start + i < length sent) × (parse (take 35 (drop (35 * i) after)) ≡ some (frame_at sent (start + i)))
  frames-read i h =
      let G = frames-given in
      let x = listed_frames.1.piece i h in
      let n : start + i < length sent = rw (length-map sent line) at x.0 in
      let d = delta (version (heap b) a) (version (heap b) c) in
      let few : length d ≤ 4096 = omega (arith, delta-room (heap b) G.0.sound a c G.1 G.2 G.3, G.0.shaped.most) in
      (n, rw (x.1, map_at line sent (start + i) (nothing 0) [] n) (frames-parsed batch d fits few (change_small G.0 W a c G.1 G.2 G.3) (start + i) n))

-- From primary to standby.

-- the line is 35 bytes of what some done call of frames wrote, on the primary's versions A and B
pub record Sent (primary : List ℕ) (A B batch : ℕ) (line : List ℕ) : Type 0 where
  pub out : List ℕ
  pub after : List ℕ
  pub start : ℕ
  pub report : Report
  pub wrote : Lists primary out after start (framed primary A B batch) report
  pub done : report.number ≡ 0
  pub place : ℕ
  pub within : 35 * place < report.written
  pub is : line ≡ take 35 (drop (35 * place) after)

each_map : {P Q : Step → List ℕ → Type 0} {host : List ℕ → List ℕ → Type 0} {v : ℕ} {b x : List ℕ} {lines : List (List ℕ)} {c y : List ℕ} (run : Hearing host v b x lines c y)
    → ((s : Step) (line : List ℕ) → P s line → Q s line) → Each P run → Each Q run
unfolding Each
each_map still f p = tt
each_map (then answer h r later) f p = (f _ _ p.0, each_map later f p.1)

-- What frames wrote, cut every 35 bytes, lost, repeated and put in any order, among lines of any other kind that receive refuses: the standby is carried from A to B, of which frames
-- gave the number of lines.
pub frames-replicate : (primary out after : List ℕ) (A B batch start : ℕ) (r : Report) → Words primary → batch < 2 ^ 32
    → Lists primary out after start (framed primary A B batch) r → r.number ≡ 0
    → (b : List ℕ) → SoundBlock b → (v : ℕ) → v < 16 → entries (version (heap b) v) ≡ entries (version (heap primary) A)
    → {lines : List (List ℕ)} {c y : List ℕ} (run : Hearing (Elsewhere v) v b (begun batch) lines c y)
    → Each (λ s line. s.answer.number ≡ 0 → Sent primary A B batch line) run
    → NoZeroSent (version (heap primary) A) (version (heap primary) B)
    → Replicated (version (heap primary) A) (version (heap primary) B) batch v run × (r.total ≡ length (frames batch (version (heap primary) A) (version (heap primary) B)))
frames-replicate primary out after A B batch start r W fits L z b S v lt holds run sent worth =
    let G = frames-given primary W batch fits out after A B start r L z in
    (standby_replicates primary G.0 A B batch G.1 G.2 fits G.3 b S v lt holds run (each_map run genuine sent) worth, G.4)
  where
    genuine : (s : Step) (line : List ℕ) → (s.answer.number ≡ 0 → Sent primary A B batch line)
        → Genuine (frames batch (version (heap primary) A) (version (heap primary) B)) s line
    genuine s line f e =
        let w = f e in
        let x = frames-read primary W batch fits w.out w.after A B w.start w.report w.wrote w.done w.place w.within in
        (w.start + w.place, x.0, ap parse w.is ∙ x.1)

-- Entries.

-- four words show a row: key, left value, 1 if common else 0, right value or 0
pub record Shows (ws : List ℕ) (r : Row) : Type 0 where
  pub key : word ws 0 ≡ r.key
  pub left : word ws 1 ≡ r.left
  pub alone : r.right ≡ none → (word ws 2 ≡ 0) × (word ws 3 ≡ 0)
  pub common : (v : ℕ) → r.right ≡ some v → (word ws 2 ≡ 1) × (word ws 3 ≡ v)

row-length : (r : Row) → length (row_words r) ≡ 4
unfolding row_words
row-length r = go r.right refl
  where
    go : (o : Option ℕ) → r.right ≡ o → length (row_words r) ≡ 4
    go none e = rw (e, row_words) refl
    go (some v) e = rw (e, row_words) refl

row_shows : (r : Row) → Shows (row_words r) r
unfolding row_words
row_shows r = go r.right refl
  where
    go : (o : Option ℕ) → r.right ≡ o → Shows (row_words r) r
    go none e = rw (e, row_words) (record { key = refl; left = refl; alone = λ _. (refl, refl); common = λ v d. let u : ◌≡◌ {A = ℕ} 0 1 = cc d in absurd (omega arith) })
    go (some w) e = rw (e, row_words) (record { key = refl; left = refl; alone = λ d. let u : ◌≡◌ {A = ℕ} 0 1 = cc d in absurd (omega arith); common = λ v d. (refl, cc d) })

-- row i of the list
abbrev row_at : List Row → ℕ → Row
row_at rows i = get_or rows i (record { key = 0; left = 0; right = none })

-- every four words that are written show one row of the listing of the left version against the right, in order
pub list_read : (b out after : List ℕ) (left right start : ℕ) (r : Report) → Lists b out after start (listed b left right) r → r.number ≡ 0
    → (i : ℕ) → 4 * i < r.written
    → (start + i < r.total) × Shows (take 4 (drop (4 * i) after)) (row_at (listing (version (heap b) left) (version (heap b) right)).rows (start + i))
list_read b out after left right start r L z i h =
    let rows = (listing (version (heap b) left) (version (heap b) right)).rows in
    let D = (lists_done b out after start (listed b left right) r (wide_map 4 row_words row-length rows) L z).1 in
    let x = D.piece i h in
    let n : start + i < length rows = rw (length-map rows row_words) at x.0 in
    (rw D.total x.0, rw (x.1, map_at row_words rows (start + i) (record { key = 0; left = 0; right = none }) [] n) (row_shows (row_at rows (start + i))))
