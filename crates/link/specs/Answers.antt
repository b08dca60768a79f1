-- What receive answers as document 01's numbers, and what each of its parts does.
use Rattle.std.specs.Prelude.{◌≡◌, ℕ, ◌<◌, List, length, Result, Ok, Err}
use Rattle.model.specs.Tree.{Tree}
use Rattle.model.specs.Supply.{Make}
use Rattle.model.specs.Heap.{version}
use Rattle.model.specs.Block.{heap, Shaped, SoundBlock}
use Rattle.model.specs.Inbox.{SoundInbox}
use Rattle.model.specs.Numbers.{SHAPE, DAMAGED, VERSION}
use Rattle.model.specs.Calls.{Check, Ending}
use Rattle.model.specs.Frame.{Reading}
use Rattle.model.specs.Link.{frame_rule, Step, Parse}
use Rattle.answers.specs.declared.Fault.{Fault}
use Rattle.answers.specs.Numbers.{fault_number, fault_place}
use Rattle.frame.specs.declared.Frame.{Frame}
use Rattle.frame.specs.Fields.{fields_of}
use Rattle.judge.specs.declared.Heard.{Heard}
use Rattle.judge.specs.Verdicts.{heard_of}

-- block and inbox before and after a line, and the answer
abbrev pub step : (b x b' x' : List ℕ) → Result Heard Fault → Step
step b x b' x' a = record { block = b; inbox = x; block' = b'; inbox' = x'; answer = heard_of a }

-- what a line says: its fields, or what is wrong with it and zeros, and the place of a bad digit
abbrev pub Says : Reading → Result Frame Fault → Type 0
Says said (Ok f) = Parse said 0 (fields_of f) 0
Says said (Err f) = Parse said (fault_number f) (record { batch = 0; index = 0; count = 0; kind = 0; key = 0; value = 0 }) (fault_place f)

-- shape and soundness, block before inbox in each, then the version; n is 0 where the checks pass
abbrev pub Ready : (b x : List ℕ) (v n : ℕ) → Type 0
Ready b x v n =
    Check (Shaped b) (n ≡ SHAPE)
    (Check (length x ≡ 130) (n ≡ SHAPE)
    (Check (SoundBlock b) (n ≡ DAMAGED) (Check (SoundInbox x) (n ≡ DAMAGED) (Check (v < 16) (n ≡ VERSION) (n ≡ 0)))))

-- the rule of a frame on version v
abbrev pub rule_of : (b : List ℕ) (v : ℕ) → Frame → Make Tree
rule_of b v f = frame_rule (fields_of f) (version (heap b) v)

-- the edit of a frame: NO_ROOM and nothing changed, or the version becomes the rule's tree
abbrev pub Editing : (b after : List ℕ) (v : ℕ) → Frame → ℕ → Type 0
Editing b after v f n = Ending b after v (rule_of b v f) n
