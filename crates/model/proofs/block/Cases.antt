-- Document 01's small trees worked through: cases 1 to 8 in one table under one claim, by computation. Rows with number 0 hold down what those cases leave open.
use mathlib.Core.Path.{◌≡◌, refl}
use Prim.Native.Nat.{ℕ, ◌*◌}
use mathlib.Core.Bool.{Bool, false, ◌||◌}
use mathlib.Core.Option.{Option, none, some}
use mathlib.Core.List.{List, [], ◌∷◌, ◌++◌, map}
use lib.ListN.{length, take, drop, replicate, set}
use lib.Dec.{eqb}
use Rattle.model.specs.Tree.{Tree, leaf, node, Entry, size, id_of, lookup, entries}
use Rattle.model.specs.Supply.{Supply, first_of, after_first, is_none, among, next, taken, back, given}
use Rattle.model.specs.Rules.{twice, rotate_left, rotate_right, balanced, insert_by, insert, remove_min, without_key, remove_present, remove, edit_by, join, split, union_by, union, rest, difference, merge_by, diff_by}
use Rattle.model.specs.Listing.{Row, turn, too_deep, walk, listing}
use Rattle.model.specs.Delta.{Change, changed, puts, removes, delta}
use Rattle.model.specs.Heap.{load, tree, version, free_from, free}
use Rattle.model.specs.Block.{heap}
use Rattle.model.specs.Frame.{Frame, digit, value, digits, number, line, kind_legal, legal, fields, Reading, fault, first_bad, judged, read, parse, nothing, frame_of, numbered, frames_of, frames}
use Rattle.model.specs.Numbers.{SHAPE, DAMAGED, VERSION, RULE, NO_ROOM, TOO_DEEP, FRAME, BATCH, COUNT, DIGIT, KIND, RANGE, ZERO, SUM, REQUEST, EDIT, LINE, ORDER}
use Rattle.model.specs.Calls.{fresh_block}
use Rattle.model.specs.Batch.{Record, batch_rule}
use Rattle.model.specs.Text.{entry_line, entry_lines, numbers_of, entry_of, line_count, entry_at, entries_from, entries_of}
use Rattle.model.specs.Restore as restore
use Rattle.model.specs.Restore.{ascends, fault_at, restored}
use Rattle.model.specs.Lists.{row_words, laid, part, listed, framed}
use Rattle.model.specs.Inbox.{begun}
use Rattle.model.specs.Request.{run_line, placed, complete_line, request_lines, in_front, unheard, missing_runs, request_of, last_of, asks, asked, in_place, right_kind, ascend, says_complete, well_formed, cutting, six_fields, all_fields, read_request, wanted}
use Rattle.model.proofs.block.Small.{before, amid}

-- a tree's keys as they hang
pub data Shape : Type 0 where
  bare : Shape
  at : ℕ → Shape → Shape → Shape

shape : Tree → Shape
shape leaf = bare
shape (node i k v l r) = at k (shape l) (shape r)

keys : List Entry → List ℕ
keys [] = []
keys (e ∷ es) = e.0 ∷ keys es

-- a key without children
abbrev one : ℕ → Shape
one k = at k bare bare

-- the node n occurs in a tree
occurs : Tree → ℕ → Bool
occurs leaf n = false
occurs (node i k v l r) n = eqb i n || (occurs l n || occurs r n)

-- a call at N = 32 whose block holds the trees a and b, and no other
supply_beside : Tree → Tree → Supply
supply_beside a b = record { free = free_from (λ n. occurs a n || occurs b n) 1 32; stood = λ n. occurs a n || occurs b n; dry = false }

-- entries inserted one after another into a version, beside another version
built : Tree → Tree → List Entry → Tree
built beside t [] = t
built beside t (e ∷ es) = built beside (insert t e.0 e.1 (supply_beside beside t)).0 es

-- from fresh, version 0 throughout, values ten times the key
abbrev three : Tree
three = built leaf leaf ((1, 10) ∷ (2, 20) ∷ (3, 30) ∷ [])

abbrev four : Tree × Supply
four = insert three 4 40 (supply_beside leaf three)

-- case 3's last insert
abbrev turned : Tree × Supply
turned = let t = built leaf leaf ((1, 0) ∷ (4, 0) ∷ (3, 0) ∷ []) in insert t 2 0 (supply_beside leaf t)

-- case 6: copied, and 4→44 put in the copy
abbrev copy : Tree
copy = (insert four.0 4 44 (supply_beside leaf four.0)).0

-- case 7: the same entries built apart
abbrev apart : Tree
apart = built three leaf ((1, 10) ∷ (2, 20) ∷ (3, 30) ∷ [])

-- cases 4 and 5
abbrev united : ℕ → Tree
united rule =
    let l = built leaf leaf ((1, 10) ∷ (2, 20) ∷ []) in
    let r = built l leaf ((2, 25) ∷ (3, 30) ∷ []) in
    (union (merge_by rule) l r (supply_beside l r)).0

abbrev lessened : ℕ → List ℕ
lessened rule =
    let r = built three leaf ((2, 20) ∷ (3, 31) ∷ []) in
    keys (entries (difference (diff_by rule) false three r (supply_beside three r)).0)

-- the heavy child's inner weight is exactly 2 times its outer weight: rotate twice, on either side
abbrev twice_left : Tree
twice_left =
    let r = node 1 5 50 (node 2 3 30 (node 3 2 20 leaf leaf) (node 4 4 40 leaf leaf)) (node 5 6 60 leaf leaf) in
    (balanced 1 10 leaf r (supply_beside leaf r)).0

abbrev twice_right : Tree
twice_right =
    let l = node 1 3 30 (node 2 2 20 leaf leaf) (node 3 5 50 (node 4 4 40 leaf leaf) (node 5 6 60 leaf leaf)) in
    (balanced 7 70 l leaf (supply_beside l leaf)).0

-- 1 to 7 without 2: the minimum of its right side takes its place, and what it leaves there rotates
abbrev seven : Tree
seven = built leaf leaf ((1, 10) ∷ (2, 20) ∷ (3, 30) ∷ (4, 40) ∷ (5, 50) ∷ (6, 60) ∷ (7, 70) ∷ [])

abbrev less_two : Tree
less_two = (remove seven 2 (supply_beside leaf seven)).0

-- a union in which pieces that were made go back
abbrev gathered : Tree
gathered =
    let l = built leaf leaf ((1, 10) ∷ (2, 20) ∷ (3, 30) ∷ (5, 50) ∷ []) in
    let r = built l leaf ((2, 21) ∷ (4, 41) ∷ (6, 61) ∷ []) in
    (union (merge_by 4) l r (supply_beside l r)).0

-- case 2's four inserts in one batch: each takes apart what the one before it made
abbrev together : Tree
together =
    let put : ℕ → Record = λ k. record { kind = 1; key = k; value = 10 * k } in
    (batch_rule (put 1 ∷ put 2 ∷ put 3 ∷ put 4 ∷ []) leaf (supply_beside leaf leaf)).0

-- the same key again, an absent key, and a remove whose value is not read
abbrev again : Tree
again =
    (batch_rule (
    record { kind = 1; key = 1; value = 10 }
    ∷ record { kind = 1; key = 1; value = 11 }
    ∷ record { kind = 2; key = 7; value = 0 }
    ∷ record { kind = 1; key = 2; value = 20 }
    ∷ record { kind = 2; key = 1; value = 5 }
    ∷ []
    ) leaf (supply_beside leaf leaf)).0

-- four entries restored, beside a node that stands: the root is entry 2, and its left side is made first
abbrev loaded : Tree
loaded = (restored (entry_lines ((1, 10) ∷ (2, 20) ∷ (3, 30) ∷ (4, 40) ∷ [])) (supply_beside leaf (node 2 9 90 leaf leaf))).0

-- lines to be restored: one with a value of 0 and a key behind its predecessor, one with its predecessor's key, a short one
abbrev faulty : List ℕ
faulty = entry_lines ((5, 10) ∷ (3, 0) ∷ (3, 7) ∷ (4, 1) ∷ []) ++ 48 ∷ []

-- document 01's example: the line 000000070000000101000000030000001f
abbrev example : Frame
example = record { batch = 7; index = 0; count = 1; kind = 1; key = 3; value = 31 }

abbrev bytes : List ℕ
bytes =
    48 ∷ 48 ∷ 48 ∷ 48 ∷ 48 ∷ 48 ∷ 48 ∷ 55
    ∷ 48 ∷ 48 ∷ 48 ∷ 48
    ∷ 48 ∷ 48 ∷ 48 ∷ 49
    ∷ 48 ∷ 49
    ∷ 48 ∷ 48 ∷ 48 ∷ 48 ∷ 48 ∷ 48 ∷ 48 ∷ 51
    ∷ 48 ∷ 48 ∷ 48 ∷ 48 ∷ 48 ∷ 48 ∷ 49 ∷ 102
    ∷ 10 ∷ []

-- an inbox of batch 7 and 8 frames that has heard 1 and 5
abbrev gaps : List ℕ
gaps = 7 ∷ 8 ∷ 34 ∷ replicate 127 0

-- it lacks 0, which stands alone, and two runs
abbrev lines : List Frame
lines =
    record { batch = 7; index = 0; count = 3; kind = 16; key = 0; value = 0 }
    ∷ record { batch = 7; index = 1; count = 3; kind = 17; key = 2; value = 4 }
    ∷ record { batch = 7; index = 2; count = 3; kind = 17; key = 6; value = 7 }
    ∷ []

-- the example with the bytes at two places changed
abbrev spoilt : (i c j d : ℕ) → List ℕ
spoilt i c j d = set (set bytes i c) j d

-- what a case shows
pub data Shown : Type 0 where
  hangs : Shape → Shown
  leaves : (free root : ℕ) → Shown
  holds : List ℕ → Shown
  finds : Option ℕ → Shown
  lists : List Row → Shown
  carries : List Change → Shown
  sends : List Frame → Shown
  asks_for : Option (List Frame) → Shown
  stands : Tree → Shown
  writes : List ℕ → Shown
  reads : Option Frame → Shown
  gives : Reading → Shown

pub record Case : Type 0 where
  pub number : ℕ
  pub shown : Shown
  pub told : Shown

pub table : List Case
table =
    record { number = 1; shown = hangs (shape three); told = hangs (at 1 bare (at 2 bare (one 3))) }
    ∷ record { number = 2; shown = hangs (shape four.0); told = hangs (at 2 (one 1) (at 3 bare (one 4))) }
    ∷ record { number = 2; shown = leaves (length four.1.free) (id_of four.0); told = leaves 25 7 }
    ∷ record { number = 3; shown = hangs (shape turned.0); told = hangs (at 3 (at 1 bare (one 2)) (one 4)) }
    ∷ record { number = 3; shown = leaves (length turned.1.free) (id_of turned.0); told = leaves 25 7 }
    ∷ record { number = 4; shown = hangs (shape (united 0)); told = hangs (at 2 (one 1) (one 3)) }
    ∷ record { number = 4; shown = finds (lookup (united 0) 2); told = finds (some 20) }
    ∷ record { number = 4; shown = finds (lookup (united 1) 2); told = finds (some 25) }
    ∷ record { number = 4; shown = finds (lookup (united 2) 2); told = finds (some 20) }
    ∷ record { number = 4; shown = finds (lookup (united 3) 2); told = finds (some 25) }
    ∷ record { number = 4; shown = finds (lookup (united 4) 2); told = finds (some 45) }
    ∷ record { number = 5; shown = holds (lessened 0); told = holds (1 ∷ []) }
    ∷ record { number = 5; shown = holds (lessened 1); told = holds (1 ∷ 3 ∷ []) }
    ∷ record { number = 5; shown = holds (lessened 2); told = holds (1 ∷ 2 ∷ 3 ∷ []) }
    ∷ record { number = 5; shown = holds (lessened 3); told = holds (1 ∷ []) }
    ∷ record {
      number = 6;
      shown = lists (listing four.0 copy).rows;
      told = lists (record { key = 2; left = 20; right = some 20 } ∷ record { key = 3; left = 30; right = some 30 } ∷ record { key = 4; left = 40; right = some 44 } ∷ []);
    }
    ∷ record { number = 6; shown = carries (delta four.0 copy); told = carries (record { key = 4; now = some 44 } ∷ []) }
    ∷ record {
      number = 7;
      shown = lists (listing three apart).rows;
      told = lists (record { key = 1; left = 10; right = some 10 } ∷ record { key = 2; left = 20; right = some 20 } ∷ record { key = 3; left = 30; right = some 30 } ∷ []);
    }
    ∷ record { number = 7; shown = sends (frames 7 three apart); told = sends (nothing 7 ∷ []) }
    ∷ record { number = 8; shown = lists (listing three three).rows; told = lists [] }
    ∷ record { number = 8; shown = lists (listing leaf three).rows; told = lists [] }
    ∷ record { number = 0; shown = hangs (shape twice_left); told = hangs (at 3 (at 1 bare (one 2)) (at 5 (one 4) (one 6))) }
    ∷ record { number = 0; shown = hangs (shape twice_right); told = hangs (at 5 (at 3 (one 2) (one 4)) (at 7 (one 6) bare)) }
    ∷ record {
      number = 0;
      shown = stands less_two;
      told = stands (node 9 3 30 (node 6 1 10 leaf leaf) (node 3 5 50 (node 2 4 40 leaf leaf) (node 4 6 60 leaf (node 1 7 70 leaf leaf))));
    }
    ∷ record {
      number = 0;
      shown = stands gathered;
      told = stands (node 12 4 41 (node 11 2 41 (node 6 1 10 leaf leaf) (node 10 3 30 leaf leaf)) (node 5 5 50 leaf (node 4 6 61 leaf leaf)));
    }
    ∷ record { number = 0; shown = stands together; told = stands (node 4 2 20 (node 3 1 10 leaf leaf) (node 2 3 30 leaf (node 1 4 40 leaf leaf))) }
    ∷ record { number = 0; shown = stands again; told = stands (node 1 2 20 leaf leaf) }
    ∷ record { number = 0; shown = stands loaded; told = stands (node 5 3 30 (node 3 2 20 (node 1 1 10 leaf leaf) leaf) (node 4 4 40 leaf leaf)) }
    ∷ record { number = 0; shown = holds (keys (entries_of faulty)); told = holds (5 ∷ 3 ∷ 3 ∷ 4 ∷ []) }
    ∷ record {
      number = 0;
      shown = writes (line_count faulty ∷ fault_at faulty 0 ∷ fault_at faulty 1 ∷ fault_at faulty 2 ∷ fault_at faulty 3 ∷ fault_at faulty 4 ∷ []);
      told = writes (5 ∷ 0 ∷ 13 ∷ 18 ∷ 0 ∷ 17 ∷ []);
    }
    ∷ record { number = 0; shown = writes (fault_at (set faulty 33 13) 1 ∷ fault_at (set faulty 17 65) 1 ∷ fault_at (set faulty 33 13) 2 ∷ []); told = writes (17 ∷ 17 ∷ 0 ∷ []) }
    ∷ record { number = 0; shown = writes (part 4 1 11 (map row_words (listing four.0 copy).rows)); told = writes (3 ∷ 30 ∷ 1 ∷ 30 ∷ 4 ∷ 40 ∷ 1 ∷ 44 ∷ []) }
    ∷ record { number = 0; shown = writes (part 4 2 8 (map row_words (listing three leaf).rows)); told = writes (3 ∷ 30 ∷ 0 ∷ 0 ∷ []) }
    ∷ record { number = 0; shown = writes (laid (listed before 0 1).pieces); told = writes (1 ∷ 10 ∷ 0 ∷ 0 ∷ []) }
    ∷ record {
      number = 0;
      shown = writes (laid (framed before 0 1 7).pieces);
      told = writes (line (record { batch = 7; index = 0; count = 2; kind = 1; key = 2; value = 4294967295 }) ++ line (record { batch = 7; index = 1; count = 2; kind = 2; key = 1; value = 0 }));
    }
    ∷ record { number = 0; shown = writes (line example); told = writes bytes }
    ∷ record { number = 0; shown = reads (parse bytes); told = reads (some example) }
    ∷ record { number = 0; shown = gives (read (bytes ++ 10 ∷ [])); told = gives (fault 7 0) }
    ∷ record { number = 0; shown = gives (read (spoilt 0 71 34 13)); told = gives (fault 7 0) }
    ∷ record { number = 0; shown = gives (read (spoilt 8 65 33 103)); told = gives (fault 10 8) }
    ∷ record { number = 0; shown = gives (read (spoilt 17 51 33 103)); told = gives (fault 10 33) }
    ∷ record { number = 0; shown = gives (read (spoilt 17 51 15 48)); told = gives (fault 11 0) }
    ∷ record { number = 0; shown = gives (read (spoilt 17 50 15 49)); told = gives (fault 12 0) }
    ∷ record { number = 0; shown = sends (request_of gaps); told = sends lines }
    ∷ record { number = 0; shown = sends (request_of (7 ∷ 1 ∷ 1 ∷ replicate 127 0)); told = sends (complete_line 7 ∷ []) }
    ∷ record { number = 0; shown = sends (request_of (begun 7)); told = sends (record { batch = 7; index = 0; count = 1; kind = 17; key = 0; value = 4095 } ∷ []) }
    ∷ record { number = 0; shown = writes (laid (map (λ (f : Frame). take 2 (drop 16 (line f))) (lines ++ complete_line 7 ∷ []))); told = writes (49 ∷ 48 ∷ 49 ∷ 49 ∷ 49 ∷ 49 ∷ 49 ∷ 50 ∷ []) }
    ∷ record { number = 0; shown = asks_for (read_request (laid (map line lines))); told = asks_for (some lines) }
    ∷ record { number = 0; shown = asks_for (read_request (laid (map line lines) ++ 10 ∷ [])); told = asks_for none }
    ∷ record { number = 0; shown = asks_for (read_request []); told = asks_for none }
    ∷ record {
      number = 0;
      shown = sends (wanted (asked lines) 0 (frames 7 (version (heap before) 0) (version (heap before) 1)));
      told = sends (record { batch = 7; index = 0; count = 2; kind = 1; key = 2; value = 4294967295 } ∷ []);
    }
    ∷ record { number = 0; shown = sends (wanted (asked lines) 0 (frames 7 three apart)); told = sends (nothing 7 ∷ []) }
    ∷ record {
      number = 0;
      shown = writes (SHAPE ∷ DAMAGED ∷ VERSION ∷ RULE ∷ NO_ROOM ∷ TOO_DEEP ∷ FRAME ∷ BATCH ∷ COUNT ∷ DIGIT ∷ KIND ∷ RANGE ∷ ZERO ∷ SUM ∷ REQUEST ∷ EDIT ∷ LINE ∷ ORDER ∷ []);
      told = writes (1 ∷ 2 ∷ 3 ∷ 4 ∷ 5 ∷ 6 ∷ 7 ∷ 8 ∷ 9 ∷ 10 ∷ 11 ∷ 12 ∷ 13 ∷ 14 ∷ 15 ∷ 16 ∷ 17 ∷ 18 ∷ []);
    }
    ∷ record { number = 0; shown = writes (fresh_block 32); told = writes (32 ∷ replicate 273 0) }
    ∷ record { number = 0; shown = stands (version (heap amid) 0); told = stands (node 4 1 10 leaf (node 3 2 4294967295 leaf leaf)) }
    ∷ record { number = 0; shown = writes (free (heap amid)); told = writes (1 ∷ free_from (λ n. false) 5 28) }
    ∷ []

-- every case shows what document 01 says
pub worked_cases : map (λ (c : Case). c.shown) table ≡ map (λ (c : Case). c.told) table
unfolding table shape keys occurs supply_beside built size id_of lookup entries first_of after_first is_none among next taken back given free_from twice rotate_left rotate_right balanced insert_by insert remove_min without_key remove_present remove edit_by batch_rule restore.built ascends fault_at join split union_by union rest difference merge_by diff_by turn too_deep walk listing changed puts removes delta digit value digits number entry_line entry_lines numbers_of entry_of entry_at entries_from line kind_legal legal fields first_bad judged read parse frame_of numbered frames_of fresh_block row_words laid begun run_line placed request_lines in_front unheard missing_runs request_of last_of asks asked in_place right_kind ascend says_complete well_formed cutting six_fields all_fields read_request wanted load tree before amid
worked_cases = refl
