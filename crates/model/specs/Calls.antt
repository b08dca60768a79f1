-- What each public call answers, and what the block then is. Checks run in the order of their numbers; a refusal changes nothing.
use Rattle.std.specs.Prelude.{◌≡◌, ◌≢◌, ℕ, ◌+◌, ◌*◌, ◌/◌, ◌%◌, ◌≤◌, ◌<◌, Bool, true, false, ◌&&◌, not, List, [], ◌∷◌, length, replicate, eqb, ltb, leb}
use Rattle.std.proofs.Math.Option.{Option, none, some}
use Rattle.model.specs.Tree.{Tree, leaf, size, entries, lookup}
use Rattle.model.specs.Supply.{Make, done, short}
use Rattle.model.specs.Rules.{insert, remove, union, difference, merge_by, fits, diff_by}
use Rattle.model.specs.Heap.{version, supply}
use Rattle.model.specs.Block.{heap, room, width, Shaped, SoundBlock}
use Rattle.model.specs.Sums.{minutes, those, within}
use Rattle.model.specs.Numbers.{SHAPE, DAMAGED, VERSION, RULE, ZERO, SUM, NO_ROOM}

-- a check: where P fails the call is refused, else it goes on
pub data Check (P refused next : Type 0) : Type 0 where
  fails : (P → ⊥) → refused → Check P refused next
  passes : P → next → Check P refused next

-- the number, 0 for done, and two fields, 0 on refusal
pub record Answer : Type 0 where
  pub number : ℕ
  pub found : ℕ
  pub value : ℕ

-- a refusal returns its number and zeros
abbrev pub refusal : ℕ → Answer
refusal n = record { number = n; found = 0; value = 0 }

-- done, with a value or without: "absent" is a field of its own
abbrev pub finding : Option ℕ → Answer
finding none = record { number = 0; found = 0; value = 0 }
finding (some v) = record { number = 0; found = 1; value = v }

-- done, with one number
abbrev pub giving : ℕ → Answer
giving n = record { number = 0; found = 0; value = n }

-- every version number is at most 15
unfoldable pub Versions : List ℕ → Type 0
Versions [] = Unit {0}
Versions (v ∷ vs) = (v < 16) × Versions vs

-- the checks of a block; n is 0 where they pass
abbrev pub Checked : (b : List ℕ) (n : ℕ) → Type 0
Checked b n = Check (Shaped b) (n ≡ SHAPE) (Check (SoundBlock b) (n ≡ DAMAGED) (n ≡ 0))

-- the checks that every call but fresh begins with: the block, then its versions
abbrev pub Admitted : (b versions : List ℕ) (n : ℕ) → Type 0
Admitted b versions n = Check (Shaped b) (n ≡ SHAPE) (Check (SoundBlock b) (n ≡ DAMAGED) (Check (Versions versions) (n ≡ VERSION) (n ≡ 0)))

-- version dst becomes t, the other versions stay, and the block is sound
pub record Edited (b after : List ℕ) (dst : ℕ) (t : Tree) : Type 0 where
  pub sound : SoundBlock after
  pub room_kept : room after ≡ room b
  pub here : version (heap after) dst ≡ t
  pub others : (v : ℕ) → v < 16 → v ≢ dst → version (heap after) v ≡ version (heap b) v

-- a make of the rule finds no free node, and nothing is changed
pub record Refused (b after : List ℕ) (rule : Make Tree) : Type 0 where
  pub short : short (rule (supply (heap b))).1 ≡ true
  pub same : after ≡ b

-- version dst becomes the rule's tree
pub record Carried (b after : List ℕ) (dst : ℕ) (rule : Make Tree) : Type 0 where
  pub enough : short (rule (supply (heap b))).1 ≡ false
  pub edited : Edited b after dst (rule (supply (heap b))).0

-- an edit from its first make to its end: NO_ROOM and nothing changed, or version dst becomes the rule's tree
abbrev pub Ending : (b after : List ℕ) (dst : ℕ) → Make Tree → ℕ → Type 0
Ending b after dst rule n = Check (short (rule (supply (heap b))).1 ≡ false) ((n ≡ NO_ROOM) × (after ≡ b)) ((n ≡ 0) × Edited b after dst (rule (supply (heap b))).0)

-- a call that only reads: block, versions, then the answer
abbrev pub Reads : List ℕ → List ℕ → Answer → Answer → Type 0
Reads b versions answer a =
    Check (Shaped b) (a ≡ refusal SHAPE)
    (Check (SoundBlock b) (a ≡ refusal DAMAGED)
    (Check (Versions versions) (a ≡ refusal VERSION) (a ≡ answer)))

-- an edit: the versions it names, whether its rule number is known, whether what it puts is not 0, whether all sums fit, its destination, the rule that it runs, and its answer when done
pub record Edit : Type 0 where
  pub versions : List ℕ
  pub legal : Bool
  pub positive : Bool
  pub fits : Bool
  pub dst : ℕ
  pub rule : Make Tree
  pub answer : Answer

-- a call that edits: block, versions, rule number, zeros, sums, then room
abbrev pub Edits : (b after : List ℕ) → Edit → Answer → Type 0
Edits b after e a =
    Check (Shaped b) ((a ≡ refusal SHAPE) × (after ≡ b))
    (Check (SoundBlock b) ((a ≡ refusal DAMAGED) × (after ≡ b))
    (Check (Versions e.versions) ((a ≡ refusal VERSION) × (after ≡ b))
    (Check (e.legal ≡ true) ((a ≡ refusal RULE) × (after ≡ b))
    (Check (e.positive ≡ true) ((a ≡ refusal ZERO) × (after ≡ b))
    (Check (e.fits ≡ true) ((a ≡ refusal SUM) × (after ≡ b))
    (Check (short (e.rule (supply (heap b))).1 ≡ false) ((a ≡ refusal NO_ROOM) × (after ≡ b))
    ((a ≡ e.answer) × Edited b after e.dst (e.rule (supply (heap b))).0)))))))

-- length and N are right for fresh: N is a multiple of 32 from 32 to 4,096, and the block has exactly 17 + N/32 + 8N words
pub record Fitting (words n : ℕ) : Type 0 where
  pub least : 32 ≤ n
  pub most : n ≤ 4096
  pub whole : n % 32 ≡ 0
  pub long : words ≡ 17 + n / 32 + width * n

-- N, and zeros elsewhere
unfoldable pub fresh_block : ℕ → List ℕ
fresh_block n = n ∷ replicate (16 + n / 32 + width * n) 0

-- The calls.

abbrev pub Fresh : (b after : List ℕ) (n : ℕ) → Answer → Type 0
Fresh b after n a = Check (Fitting (length b) n) ((a ≡ refusal SHAPE) × (after ≡ b)) ((a ≡ giving 0) × (after ≡ fresh_block n))

-- the value under a key; an absent key is a plain "absent"
abbrev pub Lookup : (b : List ℕ) (v key : ℕ) → Answer → Type 0
Lookup b v key a = Reads b (v ∷ []) (finding (lookup (version (heap b) v) key)) a

-- the number of entries
abbrev pub Size : (b : List ℕ) (v : ℕ) → Answer → Type 0
Size b v a = Reads b (v ∷ []) (giving (size (version (heap b) v))) a

-- the minutes that a version's entries hold together
abbrev pub Held : (b : List ℕ) (v : ℕ) → Answer → Type 0
Held b v a = Reads b (v ∷ []) (giving (minutes (entries (version (heap b) v)))) a

-- the minutes of the entries with first ≤ key ≤ last
abbrev pub HeldBetween : (b : List ℕ) (v first last : ℕ) → Answer → Type 0
HeldBetween b v first last a = Reads b (v ∷ []) (giving (minutes (those (within first last) (entries (version (heap b) v))))) a

-- insert answers the old value; 0 minutes would later read like a release, and are refused
abbrev pub inserting : (b : List ℕ) (dst src key value : ℕ) → Edit
inserting b dst src key value = record {
  versions = dst ∷ src ∷ [];
  legal = true;
  positive = ltb 0 value;
  fits = true;
  dst = dst;
  rule = insert (version (heap b) src) key value;
  answer = finding (lookup (version (heap b) src) key);
}

-- remove of an absent key acts as copy
abbrev pub removing : (b : List ℕ) (dst src key : ℕ) → Edit
removing b dst src key = record {
  versions = dst ∷ src ∷ [];
  legal = true;
  positive = true;
  fits = true;
  dst = dst;
  rule = remove (version (heap b) src) key;
  answer = finding (lookup (version (heap b) src) key);
}

-- copy makes nothing
abbrev pub copying : (b : List ℕ) (dst src : ℕ) → Edit
copying b dst src = record { versions = dst ∷ src ∷ []; legal = true; positive = true; fits = true; dst = dst; rule = done (version (heap b) src); answer = giving 0 }

-- clear empties a version
abbrev pub clearing : ℕ → Edit
clearing v = record { versions = v ∷ []; legal = true; positive = true; fits = true; dst = v; rule = done leaf; answer = giving 0 }

-- union has rules 0 to 4; under rule 4 the sum of every key that both versions have must fit
abbrev pub uniting : (b : List ℕ) (dst left right rule : ℕ) → Edit
uniting b dst left right rule = record {
  versions = dst ∷ left ∷ right ∷ [];
  legal = leb rule 4;
  positive = true;
  fits = fits rule (entries (version (heap b) left)) (entries (version (heap b) right));
  dst = dst;
  rule = union (merge_by rule) (version (heap b) left) (version (heap b) right);
  answer = giving 0;
}

-- difference has rules 0 to 3; cancelling with rule 2 would lose keys that must stay
abbrev pub lessening : (b : List ℕ) (dst left right rule : ℕ) (cancel : Bool) → Edit
lessening b dst left right rule cancel = record {
  versions = dst ∷ left ∷ right ∷ [];
  legal = leb rule 3 && not (cancel && eqb rule 2);
  positive = true;
  fits = true;
  dst = dst;
  rule = difference (diff_by rule) cancel (version (heap b) left) (version (heap b) right);
  answer = giving 0;
}
