-- The kiosk and one version of the table, call by call: as long as neither is refused for room they hold the same entries and give the same answers.
use mathlib.Core.Path.{◌≡◌, refl, ap, sym, subst, ◌∙◌}
use mathlib.Core.Logic.{◌≢◌}
use Prim.Native.Nat.{ℕ, ◌≤◌, ◌<◌}
use mathlib.Core.Bool.{Bool, true, false}
use mathlib.Core.Option.{some}
use mathlib.Core.List.{List, [], ◌∷◌, map}
use lib.ListN.{length}
use borrow.Author.Tests.{ltb-true, lt-ltb}
use native.Mathlib.Omega.{arith}
use native.Mathlib.Decide.{dec_lt}
use Rattle.model.specs.Listing.{listing}
use Rattle.model.specs.Tree as trees
use Rattle.model.specs.Tree.{Tree, leaf, Ordered, Entry, size, entries, find, put, without, set_by}
use Rattle.model.specs.Heap.{version, supply}
use Rattle.model.specs.Block.{heap, Shaped, SoundBlock}
use Rattle.model.specs.Frame.{Frame, Reading, good, fault, read, parse}
use Rattle.model.specs.Inbox.{heard_at, SoundInbox, begun}
use Rattle.model.specs.Numbers.{NO_ROOM}
use Rattle.model.specs.Calls.{Check, fails, passes, Answer, finding, Versions, Edited}
use Rattle.model.specs.Lists.{Report, part, over}
use Rattle.model.specs.Lists as lists
use Rattle.model.specs.Link.{Heard, Step, Heeds, Judges, Takes, refused_at, repeated}
use Rattle.model.specs.Kiosk.{pairs, SoundKiosk, empty_kiosk, Holds, entry_words}
use Rattle.model.specs.Kiosk as kiosk
use Rattle.model.specs.Engines.{Call, lookup, insert, remove, list, receive, missing, Lack, Shown, Reply, number_of, flat, tree, Does, Replies, Runs, Roomy}
use Rattle.model.proofs.calls.Checks.{passed, failed, unless}
use Rattle.model.proofs.rules.Entries.{lookup-entries, insert-entries}
use Rattle.model.proofs.rules.Splits.{size-length, remove-entries}
use Rattle.model.proofs.block.Versions.{version_ordered}
use Rattle.model.proofs.calls.Once.{check_once, missing-once}
use Rattle.model.proofs.link.Heard.{begun_sound, marked_sound}
use Rattle.model.proofs.link.Receiving.{Belongs, line_markable}
use Rattle.model.proofs.link.Replicas.{edited, frame_entries}
use Rattle.model.proofs.link.Lines.{good_parse}
use Rattle.model.proofs.kiosk.Shallow.{listing_few}
use Rattle.model.proofs.kiosk.Pairs.{length_pairs, holds-once, empty_sound, empty_pairs}

-- a sound kiosk, and a sound block with versions that it has, pass their checks
flat_passes : {k : List ℕ} {P Q M : Type 0} → SoundKiosk k → Check (length k ≡ 129) P (Check (SoundKiosk k) Q M) → M
flat_passes S C = passed S (passed S.long C)

tree_passes : {b : List ℕ} {W P Q R M : Type 0} → SoundBlock b → W → Check (Shaped b) P (Check (SoundBlock b) Q (Check W R M)) → M
tree_passes S w C = passed w (passed S (passed S.shaped C))

-- a line judged twice against one inbox is judged alike
module _ (line x : List ℕ) {R T : (number place : ℕ) → Type 0} {A B G : Type 0} {M N : Frame → Type 0}
    (refused : (n p : ℕ) → R n p → T n p → G) (repeat : A → B → G)
    (new : (f : Frame) → parse line ≡ some f → Belongs x f → heard_at x f.index ≡ false → M f → N f → G) where
  heed : (f : Frame) → parse line ≡ some f → Belongs x f → (h : Bool) → heard_at x f.index ≡ h → Heeds A (M f) h → Heeds B (N f) h → G
  heed f e W true d a b = repeat a b
  heed f e W false d a b = new f e W d a b

  judged_alike : (r : Reading) → read line ≡ r → Judges x R A M r → Judges x T B N r → G
  judged_alike (fault n p) e J K = refused n p J K
  judged_alike (good f) e (fails p u) K = refused _ _ u (failed p K)
  judged_alike (good f) e (passes p (fails q u)) K = refused _ _ u (failed q (passed p K))
  judged_alike (good f) e (passes p (passes q (fails w u))) K = refused _ _ u (failed w (passed q (passed p K)))
  judged_alike (good f) e (passes p (passes q (passes w H))) K =
      heed f ((good_parse line f).1 e) (record { batch = p; counts = q; worth = w }) (heard_at x f.index) refl H (passed w (passed q (passed p K)))

lack_ext : (r q : Lack) → r.number ≡ q.number → r.missing ≡ q.missing → r ≡ q
lack_ext r q d e = rw (d, e)

shown_ext : (r q : Shown) → r.report ≡ q.report → r.out ≡ q.out → r ≡ q
shown_ext r q d e = rw (d, e)

pair_ext : {X Y : Type 0} (r q : X × Y) → r.0 ≡ q.0 → r.1 ≡ q.1 → r ≡ q
pair_ext r q d e = rw (d, e)

-- the report on pieces of four words, and the output afterwards
abbrev reported : (start : ℕ) (out : List ℕ) → List (List ℕ) → Report
reported start out ps = record { number = 0; written = length (part 4 start (length out) ps); total = length ps }

abbrev shown_in : (start : ℕ) (out : List ℕ) → List (List ℕ) → List ℕ
shown_in start out ps = over (part 4 start (length out) ps) out

module _ (v e : ℕ) (lv : v < 16) (le : e < 16) (apart : e ≢ v) where
  -- a kiosk and a block whose version v has the same entries, and whose version e has none
  record Alike (k b : List ℕ) : Type 0 where
    kiosk : SoundKiosk k
    block : SoundBlock b
    same : pairs k ≡ entries (version (heap b) v)
    empty : version (heap b) e ≡ leaf

  -- the same answer, and alike again
  record Alikes {X : Type 0} (k b x y : List ℕ) (r q : X) : Type 0 where
    reply : r ≡ q
    alike : Alike k b
    inbox : x ≡ y
    sound : SoundInbox x

  module _ {k b x : List ℕ} (A : Alike k b) (S : SoundInbox x) where
    -- both are as they were
    stayed : {X : Type 0} {k' b' x' y' : List ℕ} {r q : X} → r ≡ q → k' ≡ k → b' ≡ b → x' ≡ x → y' ≡ x → Alikes k' b' x' y' r q
    stayed p ek eb ex ey = record { reply = p; alike = rw (ek, eb) A; inbox = ex ∙ sym ey; sound = subst SoundInbox (sym ex) S }

    -- both were edited alike
    changed : {X : Type 0} {k' b' x' y' : List ℕ} {r q : X} {es : List Entry} (t : Tree) → r ≡ q → Holds k' es → Edited b b' v t
        → entries t ≡ es → x' ≡ y' → SoundInbox x' → Alikes k' b' x' y' r q
    changed t p H E d ex s = record { reply = p; alike = record { kiosk = H.sound; block = E.sound; same = H.is ∙ sym (ap entries E.here ∙ d); empty = E.others e le apart ∙ A.empty }; inbox = ex; sound = s }

    held : Ordered (version (heap b) v)
    held = version_ordered A.block.sound v lv

    found : (key : ℕ) → finding (find (pairs k) key) ≡ finding (trees.lookup (version (heap b) v) key)
    found key = ap finding (ap (λ es. find es key) A.same ∙ sym (lookup-entries (version (heap b) v) key held))

    lookups : (key : ℕ) {a c : Answer} {k' b' x' y' : List ℕ} → Does flat (lookup key) k x k' x' a
        → Does (tree v e) (lookup key) b x b' y' c → Alikes k' b' x' y' a c
    unfolding Versions
    lookups key F T = stayed (flat_passes A.kiosk F.0 ∙ found key ∙ sym (tree_passes A.block (lv, tt) T.0)) F.1 T.1 F.2 T.2

    inserts : (key value : ℕ) {a c : Answer} {k' b' x' y' : List ℕ} → Does flat (insert key value) k x k' x' a → Does (tree v e) (insert key value) b x b' y' c
        → a.number ≢ NO_ROOM → c.number ≢ NO_ROOM → Alikes k' b' x' y' a c
    unfolding Versions
    inserts key value {a} {c} {k'} {b'} {x'} {y'} F T p q = go (dec_lt 0 value)
      where
        go : Dec (0 < value) → Alikes k' b' x' y' a c
        go (yes h) =
            let f = unless (λ r. p (ap (λ (a : Answer). a.number) r.0)) (passed h (flat_passes A.kiosk F.0)) in
            let t = unless (λ r. q (ap (λ (a : Answer). a.number) r.0)) (passed refl (passed (lt-ltb 0 value h) (passed refl (tree_passes A.block (lv, (lv, tt)) T.0)))) in
            changed _ (f.0 ∙ found key ∙ sym t.0) f.1 t.1 (insert-entries (version (heap b) v) key value (supply (heap b)) held ∙ ap (λ es. put es key value) (sym A.same))
            (F.1 ∙ sym T.1) (subst SoundInbox (sym F.1) S)
        go (no h) =
            let f = failed h (flat_passes A.kiosk F.0) in
            let t = failed (λ z. h (ltb-true 0 value z)) (passed refl (tree_passes A.block (lv, (lv, tt)) T.0)) in
            stayed (f.0 ∙ sym t.0) f.1 t.1 F.1 T.1

    removes : (key : ℕ) {a c : Answer} {k' b' x' y' : List ℕ} → Does flat (remove key) k x k' x' a
        → Does (tree v e) (remove key) b x b' y' c → c.number ≢ NO_ROOM → Alikes k' b' x' y' a c
    unfolding Versions
    removes key F T q =
        let f = flat_passes A.kiosk F.0 in
        let t = unless (λ r. q (ap (λ (a : Answer). a.number) r.0)) (passed refl (passed refl (passed refl (tree_passes A.block (lv, (lv, tt)) T.0)))) in
        changed _ (f.0 ∙ found key ∙ sym t.0) f.1 t.1 (remove-entries (version (heap b) v) key (supply (heap b)) held ∙ ap (λ es. without es key) (sym A.same))
        (F.1 ∙ sym T.1) (subst SoundInbox (sym F.1) S)

    -- at most 64 entries, so the tree is not too deep to be listed
    small : size (version (heap b) v) ≤ 64
    small = omega (arith, size-length (version (heap b) v), ap length A.same, length_pairs k 0 (kiosk.count k), A.kiosk.few)

    listings : (start : ℕ) (out : List ℕ) {r q : Shown} {k' b' x' y' : List ℕ} → Does flat (list start out) k x k' x' r
        → Does (tree v e) (list start out) b x b' y' q → Alikes k' b' x' y' r q
    unfolding Versions
    listings start out {r} {q} F T =
        let L = listing_few (heap b) A.block.sound v e lv le A.empty small in
        let f = flat_passes A.kiosk F.0 in
        let t = passed L.0 (tree_passes A.block (lv, (le, tt)) T.0) in
        let d : map lists.row_words (listing (version (heap b) v) (version (heap b) e)).rows ≡ map entry_words (pairs k) = L.1 ∙ ap (map entry_words) (sym A.same) in
        stayed (shown_ext r q (f.0 ∙ sym (t.0 ∙ ap (reported start out) d)) (f.1 ∙ sym (t.1 ∙ ap (shown_in start out) d))) F.1 T.1 F.2 T.2

    receives : (line : List ℕ) {a c : Heard} {k' b' x' y' : List ℕ} → Does flat (receive line) k x k' x' a → Does (tree v e) (receive line) b x b' y' c
        → a.number ≢ NO_ROOM → c.number ≢ NO_ROOM → Alikes k' b' x' y' a c
    unfolding edited
    receives line {a} {c} {k'} {b'} {x'} {y'} F T p q =
        let s : Step = record { block = k; inbox = x; block' = k'; inbox' = x'; answer = a } in
        let u : Step = record { block = b; inbox = x; block' = b'; inbox' = y'; answer = c } in
        judged_alike line x {R = refused_at s} {T = refused_at u} {A = repeated s} {B = repeated u} {M = kiosk.Takes s} {N = λ f. Takes u v f false}
        (λ n i f t. stayed (f.0 ∙ sym t.0) f.1 t.1 f.2 t.2) (λ f t. stayed (f.0 ∙ sym t.0) f.1 t.1 f.2 t.2)
        (λ g d W h f t.
        let f = unless (λ r. p (ap (λ (a : Heard). a.number) r.0)) f in
        let t = unless (λ r. q (ap (λ (a : Heard). a.number) r.0)) t in
        changed _ (f.0 ∙ sym t.0) f.1 t.1
        (frame_entries g (version (heap b) v) (supply (heap b)) held ∙ ap (set_by g.kind g.key g.value) (sym A.same))
        (f.2 ∙ sym t.2) (subst SoundInbox (sym f.2) (marked_sound (line_markable line g S d W h))))
        (read line) refl (passed S (passed A.kiosk (passed S.long (passed A.kiosk.long F))))
        (passed lv (passed S (passed A.block (passed S.long (passed A.block.shaped T)))))

    misses : {r q : Lack} {k' b' x' y' : List ℕ} → Does flat missing k x k' x' r → Does (tree v e) missing b x b' y' q → Alikes k' b' x' y' r q
    misses {r} {q} F T = let w = missing-once x r.number q.number r.missing q.missing F.0 T.0 in stayed (lack_ext r q w.0 w.1) F.1 T.1 F.2 T.2

    -- one call
    both : (c : Call) {r q : Reply c} {k' b' x' y' : List ℕ} → Does flat c k x k' x' r → Does (tree v e) c b x b' y' q
        → number_of c r ≢ NO_ROOM → number_of c q ≢ NO_ROOM → Alikes k' b' x' y' r q
    both (lookup key) F T p q = lookups key F T
    both (insert key value) F T p q = inserts key value F T p q
    both (remove key) F T p q = removes key F T q
    both (list start out) F T p q = listings start out F T
    both (receive line) F T p q = receives line F T p q
    both missing F T p q = misses F T

  -- any calls
  all : (cs : List Call) {k b x y : List ℕ} {rs qs : Replies cs} → Alike k b → SoundInbox x → x ≡ y → Runs flat cs k x rs
      → Runs (tree v e) cs b y qs → Roomy cs rs → Roomy cs qs → rs ≡ qs
  all [] A S d F T p q = refl
  all (c ∷ cs) {b = b} {rs = rs} {qs = qs} A S d F T p q =
      let B = both A S c F.2 (subst (λ x. Does (tree v e) c b x T.0 T.1 qs.0) (sym d) T.2) p.0 q.0 in
      pair_ext rs qs B.reply (all cs B.alike B.sound B.inbox F.3 T.3 p.1 q.1)

  -- From an empty kiosk and from a block whose versions v and e are empty, each with an inbox begun for the same batch, the same calls give the same answers, all fields, listed words and missing
  -- numbers included, as long as neither refuses one for room.
  pub kiosk_as_tree : (batch : ℕ) (b : List ℕ) → SoundBlock b → version (heap b) v ≡ leaf → version (heap b) e ≡ leaf
      → (cs : List Call) (rs qs : Replies cs) → Runs flat cs empty_kiosk (begun batch) rs → Runs (tree v e) cs b (begun batch) qs
      → Roomy cs rs → Roomy cs qs → rs ≡ qs
  unfolding entries
  kiosk_as_tree batch b B bare empty cs rs qs = all cs (record { kiosk = empty_sound; block = B; same = empty_pairs ∙ sym (ap entries bare); empty = empty }) (begun_sound batch) refl

-- For every input of the kiosk's calls there is one possible answer, one possible kiosk and one possible inbox afterwards.
pub kiosk_once : (c : Call) (k x : List ℕ) {k1 k2 x1 x2 : List ℕ} {r q : Reply c} → Does flat c k x k1 x1 r → Does flat c k x k2 x2 q
    → (r ≡ q) × (k1 ≡ k2) × (x1 ≡ x2)
kiosk_once (lookup key) k x {r = r} {q = q} F T = (check_once F.0 T.0 one (λ f t. check_once f t one one), F.1 ∙ sym T.1, F.2 ∙ sym T.2)
  where
    one : {a : Answer} → r ≡ a → q ≡ a → r ≡ q
    one d e = d ∙ sym e
kiosk_once (insert key value) k x {k1 = k1} {k2 = k2} {r = r} {q = q} F T = let w = check_once F.0 T.0 kept (λ f t. check_once f t kept (λ f t. check_once f t kept (λ f t. check_once f t kept done))) in (w.0, w.1, F.1 ∙ sym T.1)
  where
    kept : {a : Answer} {z : List ℕ} → (r ≡ a) × (k1 ≡ z) → (q ≡ a) × (k2 ≡ z) → (r ≡ q) × (k1 ≡ k2)
    kept f t = (f.0 ∙ sym t.0, f.1 ∙ sym t.1)

    done : {a : Answer} {es : List Entry} → (r ≡ a) × Holds k1 es → (q ≡ a) × Holds k2 es → (r ≡ q) × (k1 ≡ k2)
    done f t = (f.0 ∙ sym t.0, holds-once f.1 t.1)
kiosk_once (remove key) k x {k1 = k1} {k2 = k2} {r = r} {q = q} F T = let w = check_once F.0 T.0 kept (λ f t. check_once f t kept done) in (w.0, w.1, F.1 ∙ sym T.1)
  where
    kept : {a : Answer} {z : List ℕ} → (r ≡ a) × (k1 ≡ z) → (q ≡ a) × (k2 ≡ z) → (r ≡ q) × (k1 ≡ k2)
    kept f t = (f.0 ∙ sym t.0, f.1 ∙ sym t.1)

    done : {a : Answer} {es : List Entry} → (r ≡ a) × Holds k1 es → (q ≡ a) × Holds k2 es → (r ≡ q) × (k1 ≡ k2)
    done f t = (f.0 ∙ sym t.0, holds-once f.1 t.1)
kiosk_once (list start out) k x {r = r} {q = q} F T = (check_once F.0 T.0 one (λ f t. check_once f t one one), F.1 ∙ sym T.1, F.2 ∙ sym T.2)
  where
    one : {a : Report} {z : List ℕ} → (r.report ≡ a) × (r.out ≡ z) → (q.report ≡ a) × (q.out ≡ z) → r ≡ q
    one d e = shown_ext r q (d.0 ∙ sym e.0) (d.1 ∙ sym e.1)
kiosk_once (receive line) k x {k1 = k1} {k2 = k2} {x1 = x1} {x2 = x2} {r = r} {q = q} F T =
    check_once F T kept (λ f t. check_once f t kept (λ f t. check_once f t kept (λ f t. check_once f t kept
    (judged_alike line x {R = refused_at one} {T = refused_at two} {A = repeated one} {B = repeated two} {M = kiosk.Takes one} {N = kiosk.Takes two}
    (λ n i. kept) kept (λ g d W h f t. check_once f t kept done) (read line) refl))))
  where
    one : Step
    one = record { block = k; inbox = x; block' = k1; inbox' = x1; answer = r }

    two : Step
    two = record { block = k; inbox = x; block' = k2; inbox' = x2; answer = q }

    kept : {a : Heard} {y z : List ℕ} → (r ≡ a) × (k1 ≡ y) × (x1 ≡ z) → (q ≡ a) × (k2 ≡ y) × (x2 ≡ z) → (r ≡ q) × (k1 ≡ k2) × (x1 ≡ x2)
    kept f t = (f.0 ∙ sym t.0, f.1 ∙ sym t.1, f.2 ∙ sym t.2)

    done : {a : Heard} {es : List Entry} {z : List ℕ} → (r ≡ a) × Holds k1 es × (x1 ≡ z) → (q ≡ a) × Holds k2 es × (x2 ≡ z) → (r ≡ q) × (k1 ≡ k2) × (x1 ≡ x2)
    done f t = (f.0 ∙ sym t.0, holds-once f.1 t.1, f.2 ∙ sym t.2)
kiosk_once missing k x {r = r} {q = q} F T = let w = missing-once x r.number q.number r.missing q.missing F.0 T.0 in (lack_ext r q w.0 w.1, F.1 ∙ sym T.1, F.2 ∙ sym T.2)

pub kiosk_fresh_once : (k a c : List ℕ) (n m : ℕ) → kiosk.Fresh k a n → kiosk.Fresh k c m → (n ≡ m) × (a ≡ c)
kiosk_fresh_once k a c n m F T = check_once F T (λ p q. (p.0 ∙ sym q.0, p.1 ∙ sym q.1)) (λ p q. (p.0 ∙ sym q.0, p.1 ∙ sym q.1))
