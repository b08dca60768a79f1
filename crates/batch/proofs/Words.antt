-- Records read from words, one by one and as a list.
use mathlib.Core.Path.{◌≡◌, refl, ap, ◌∙◌}
use mathlib.Core.Logic.{◌≢◌}
use Prim.Native.Nat.{ℕ, zero, suc, ◌+◌, ◌-◌, ◌*◌, ◌/◌, ◌%◌, ◌≤◌, ◌<◌}
use mathlib.Core.List.{List, [], ◌∷◌}
use lib.ListN.{length, get_or, take, drop, set, length-set, length-replicate, drop_of_length-le}
use lib.Seq.{length-take-le, get_or-take, drop-cons, get_or-set_same, get_or-set_other}
use borrow.Author.Tests.{lt-ltb, le-ltb}
use native.Mathlib.Omega.{arith}
use native.Mathlib.Numerals.{add-one}
use native.Mathlib.Decide.{ℕ_discrete}
use Rattle.model.specs.Batch as batch
use Rattle.model.specs.Batch.{nth, Legal, NoZero, record_at, records_from}
use Rattle.batch.specs.declared.records.Edit.{Edit}
use Rattle.batch.specs.Words.{Whole, record_of, records_of, put_record, flat, no_words}

records_length : (ws : List ℕ) (i k : ℕ) → length (records_from ws i k) ≡ k
unfolding records_from
records_length ws i zero = refl
records_length ws i (suc k) = ap suc (records_length ws (suc i) k)

records_nth : (ws : List ℕ) (i k j : ℕ) → j < k → nth (records_from ws i k) j ≡ record_at ws (i + j)
unfolding records_from
records_nth ws i zero j h = absurd (omega arith)
records_nth ws i (suc k) zero h = ap (record_at ws) (omega arith)
records_nth ws i (suc k) (suc j) h = records_nth ws (suc i) k j (omega arith) ∙ ap (record_at ws) (omega arith)

records_cons : (ws : List ℕ) (i k : ℕ) → records_from ws i (suc k) ≡ record_at ws i ∷ records_from ws (i + 1) k
unfolding records_from
records_cons ws i k = ap (λ j. record_at ws i ∷ records_from ws j k) (omega arith)

-- the first of the records that are left
pub records_step : (ws : List ℕ) (i n : ℕ) → i < n → records_from ws i (n - i) ≡ record_at ws i ∷ records_from ws (i + 1) (n - (i + 1))
records_step ws i n h = let e : n - i ≡ suc (n - (i + 1)) = omega arith in ap (records_from ws i) e ∙ records_cons ws i (n - (i + 1))

pub records_end : (ws : List ℕ) (i n : ℕ) → n ≤ i → records_from ws i (n - i) ≡ []
unfolding records_from
records_end ws i n h = let e : n - i ≡ 0 = omega arith in rw e

-- one more number
pub below_more : {P : ℕ → Type 0} (n : ℕ) → ((j : ℕ) → j < n → P j) → P n → (j : ℕ) → j < n + 1 → P j
below_more {P} n f z j h = go (ℕ_discrete j n)
  where
    go : Dec (j ≡ n) → P j
    go (yes e) = rw e z
    go (no e) = f j (omega arith)

-- a record that puts or removes
abbrev pub KnownAt : List ℕ → ℕ → Type 0
KnownAt ws j = (1 ≤ get_or ws (3 * j) 0) × (get_or ws (3 * j) 0 ≤ 2)

-- a record that does not put the value 0
abbrev pub SparedAt : List ℕ → ℕ → Type 0
SparedAt ws j = get_or ws (3 * j) 0 ≡ 1 → get_or ws (3 * j + 2) 0 ≢ 0

module _ (ws : List ℕ) (n : ℕ) where
  at_nth : (j : ℕ) → j < length (records_from ws 0 n) → nth (records_from ws 0 n) j ≡ record_at ws j
  at_nth j h = records_nth ws 0 n j (omega (arith, records_length ws 0 n)) ∙ ap (record_at ws) (omega arith)

  pub all_known : n ≤ 512 → ((j : ℕ) → j < n → KnownAt ws j) → Legal (records_from ws 0 n)
  all_known few f = record {
    few = omega (arith, records_length ws 0 n);
    known = λ j h. rw (at_nth j h) (f j (omega (arith, records_length ws 0 n)));
  }

  pub known_at : Legal (records_from ws 0 n) → (j : ℕ) → j < n → KnownAt ws j
  known_at L j h = let lt : j < length (records_from ws 0 n) = omega (arith, records_length ws 0 n) in rw (at_nth j lt) at (L.known j lt)

  pub few_records : Legal (records_from ws 0 n) → n ≤ 512
  few_records L = omega (arith, L.few, records_length ws 0 n)

  pub all_spared : ((j : ℕ) → j < n → SparedAt ws j) → NoZero (records_from ws 0 n)
  all_spared f j h = rw (at_nth j h) (f j (omega (arith, records_length ws 0 n)))

  pub spared_at : NoZero (records_from ws 0 n) → (j : ℕ) → j < n → SparedAt ws j
  spared_at Z j h = let lt : j < length (records_from ws 0 n) = omega (arith, records_length ws 0 n) in rw (at_nth j lt) at (Z j lt)

-- a batch's words are whole records
pub whole_only : (ws : List ℕ) → (length ws % 3 ≡ 0) × Legal (batch.records_of ws) → Whole ws
whole_only ws l = (l.0, omega (arith, l.0, few_records ws (length ws / 3) l.1))

-- words cut after n records have those records
records_cut : (ws : List ℕ) (m i k : ℕ) → 3 * (i + k) ≤ m → records_from (take m ws) i k ≡ records_from ws i k
unfolding records_from
records_cut ws m i zero h = refl
records_cut ws m i (suc k) h =
    rw (get_or-take m ws (3 * i) 0 (omega arith), get_or-take m ws (3 * i + 1) 0 (omega arith), get_or-take m ws (3 * i + 2) 0 (omega arith), records_cut ws m (suc i) k (omega arith))

pub words-cut : (ws : List ℕ) (n : ℕ) → 3 * n ≤ length ws → (length (take (3 * n) ws) ≡ 3 * n) × (batch.records_of (take (3 * n) ws) ≡ records_from ws 0 n)
words-cut ws n h =
    let e : length (take (3 * n) ws) ≡ 3 * n = length-take-le (3 * n) ws h in
    let d : length (take (3 * n) ws) / 3 ≡ n = omega (arith, e) in
    (e, ap (records_from (take (3 * n) ws) 0) d ∙ records_cut ws (3 * n) 0 n (omega arith))

-- The slice of records laid out as words.

pub flat_step : (es : List Edit) (i : ℕ) (d : Edit) (ws : List ℕ) → i < length es
    → flat (drop i es) i ws ≡ flat (drop (i + 1) es) (i + 1) (put_record ws i (get_or es i d))
unfolding flat
flat_step es i d ws h = rw (drop-cons es i d h, add-one)

pub flat_end : (es : List Edit) (i : ℕ) (ws : List ℕ) → length es ≤ i → flat (drop i es) i ws ≡ ws
unfolding flat
flat_end es i ws h = rw (drop_of_length-le es h)

-- a record at its words, and none past the 512th
pub put_is : (ws : List ℕ) (i : ℕ) (e : Edit) → i < 512 → put_record ws i e ≡ set (set (set ws (3 * i) e.kind) (3 * i + 1) e.key) (3 * i + 2) e.value
unfolding put_record
put_is ws i e h = rw (lt-ltb i 512 h, put_record) refl

pub put_past : (ws : List ℕ) (i : ℕ) (e : Edit) → 512 ≤ i → put_record ws i e ≡ ws
unfolding put_record
put_past ws i e h = rw (le-ltb i 512 h, put_record) refl

-- words that are not the record's stay, and its own are its fields
put-length : (ws : List ℕ) (i : ℕ) (e : Edit) → i < 512 → length (put_record ws i e) ≡ length ws
put-length ws i e h = ap length (put_is ws i e h) ∙ simp length-set

put_other : (ws : List ℕ) (i : ℕ) (e : Edit) (j : ℕ) → i < 512 → j < 3 * i → get_or (put_record ws i e) j 0 ≡ get_or ws j 0
put_other ws i e j h k =
    ap (λ xs. get_or xs j 0) (put_is ws i e h)
    ∙ get_or-set_other (set (set ws (3 * i) e.kind) (3 * i + 1) e.key) (3 * i + 2) j e.value 0 (λ q. omega arith)
    ∙ get_or-set_other (set ws (3 * i) e.kind) (3 * i + 1) j e.key 0 (λ q. omega arith)
    ∙ get_or-set_other ws (3 * i) j e.kind 0 (λ q. omega arith)

put_record_lem : (ws : List ℕ) (i : ℕ) (e : Edit) → i < 512 → length ws ≡ 1536 → record_at (put_record ws i e) i ≡ record_of e
put_record_lem ws i e h l =
    let a = set ws (3 * i) e.kind in
    let b = set a (3 * i + 1) e.key in
    let la : length a ≡ length ws = length-set ws (3 * i) e.kind in
    let lb : length b ≡ length ws = length-set a (3 * i + 1) e.key ∙ la in
    ap (λ xs. record_at xs i) (put_is ws i e h)
    ∙ rw (
      get_or-set_same b (3 * i + 2) e.value 0 (omega arith),
      get_or-set_other b (3 * i + 2) (3 * i + 1) e.value 0 (λ q. omega arith),
      get_or-set_same a (3 * i + 1) e.key 0 (omega arith),
      get_or-set_other b (3 * i + 2) (3 * i) e.value 0 (λ q. omega arith),
      get_or-set_other a (3 * i + 1) (3 * i) e.key 0 (λ q. omega arith),
      get_or-set_same ws (3 * i) e.kind 0 (omega arith),
    )

-- later records leave the words before theirs alone
flat_before : (es : List Edit) (i : ℕ) (ws : List ℕ) (j : ℕ) → i + length es ≤ 512 → j < 3 * i → get_or (flat es i ws) j 0 ≡ get_or ws j 0
unfolding flat
flat_before [] i ws j h k = refl
flat_before (e ∷ es) i ws j h k = flat_before es (suc i) (put_record ws i e) j (omega arith) (omega arith) ∙ put_other ws i e j (omega arith) k

-- the records that were laid out are read back
flat_records : (es : List Edit) (i : ℕ) (ws : List ℕ) → i + length es ≤ 512 → length ws ≡ 1536 → records_from (flat es i ws) i (length es) ≡ records_of es
unfolding flat records_from records_of
flat_records [] i ws h l = refl
flat_records (e ∷ es) i ws h l =
    let ws' = put_record ws i e in
    rw (
      flat_before es (suc i) ws' (3 * i) (omega arith) (omega arith),
      flat_before es (suc i) ws' (3 * i + 1) (omega arith) (omega arith),
      flat_before es (suc i) ws' (3 * i + 2) (omega arith) (omega arith),
      put_record_lem ws i e (omega arith) l,
      flat_records es (suc i) ws' (omega arith) (put-length ws i e (omega arith) ∙ l),
    )

pub flat-read : (es : List Edit) → length es ≤ 512 → records_from (flat es 0 no_words) 0 (length es) ≡ records_of es
unfolding no_words
flat-read es h = flat_records es 0 no_words (omega arith) (length-replicate {A = ℕ} 1536 0)

-- both are too many together
pub many_records : (ws : List ℕ) (n : ℕ) → 512 < n → Legal (records_from ws 0 n) → ⊥
many_records ws n h L = omega (arith, few_records ws n L)

edits_length : (es : List Edit) → length (records_of es) ≡ length es
unfolding records_of
edits_length [] = refl
edits_length (e ∷ es) = ap suc (edits_length es)

pub many_edits : (es : List Edit) → 512 < length es → Legal (records_of es) → ⊥
many_edits es h L = omega (arith, L.few, edits_length es)
