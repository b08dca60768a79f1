-- Puts and removes, as picked from the rows of two listings.
use mathlib.Core.Path.{◌≡◌, refl, ap, sym, ◌∙◌}
use mathlib.Core.Logic.{◌≢◌, ◌⊎◌, inl, inr, ◌↔◌}
use Prim.Native.Nat.{ℕ}
use mathlib.Core.Bool.{Bool, true, false, not}
use mathlib.Core.Option.{Option, none, some}
use mathlib.Core.List.{List, [], ◌∷◌}
use lib.Dec.{eqb}
use borrow.Author.Tests.{eqb-true, eqb-false, not-true}
use native.Mathlib.Omega.{arith}
use Rattle.model.specs.Listing.{Row, ◌∈◌, Ascending, Listed}
use Rattle.model.specs.Delta.{Change, changed, puts, removes, Exact}
use Rattle.model.proofs.listing.Rows.{differing_key_listed}

-- the changes are what is picked from the rows, in their order
record Picks (pick : Row → Option Change) (rows : List Row) (cs : List Change) : Type 0 where
  from : (c : Change) → c ∈ cs → (r : Row) × (r ∈ rows) × (pick r ≡ some c) × (c.key ≡ r.key)
  into : (r : Row) (c : Change) → r ∈ rows → pick r ≡ some c → c ∈ cs
  ascends : Ascending (λ (r : Row). r.key) rows → Ascending (λ (c : Change). c.key) cs

picks_nil : (pick : Row → Option Change) → Picks pick [] []
unfolding ◌∈◌ Ascending
picks_nil pick = record { from = λ c m. absurd m; into = λ r c m e. m; ascends = λ a. a }

picks_skip : (pick : Row → Option Change) (r : Row) (rows : List Row) (cs : List Change) → pick r ≡ none → Picks pick rows cs → Picks pick (r ∷ rows) cs
unfolding ◌∈◌ Ascending
picks_skip pick r rows cs n P = record { from = λ c m. let w = P.from c m in (w.0, inr w.1, w.2, w.3); into = into; ascends = λ a. P.ascends a.1 }
  where
    into : (q : Row) (c : Change) → (q ≡ r) ⊎ (q ∈ rows) → pick q ≡ some c → c ∈ cs
    into q c (inl e) p = let z : ◌≡◌ {A = ℕ} 0 1 = cc (ap pick e, n, p) in absurd (omega arith)
    into q c (inr m) p = P.into q c m p

picks_take : (pick : Row → Option Change) (r : Row) (c : Change) (rows : List Row) (cs : List Change)
    → pick r ≡ some c → c.key ≡ r.key → Picks pick rows cs → Picks pick (r ∷ rows) (c ∷ cs)
unfolding ◌∈◌ Ascending
picks_take pick r c rows cs e k P = record { from = from; into = into; ascends = λ a. (λ d m. let w = P.from d m in omega (arith, a.0 w.0 w.1, w.3), P.ascends a.1) }
  where
    from : (d : Change) → (d ≡ c) ⊎ (d ∈ cs) → (q : Row) × ((q ≡ r) ⊎ (q ∈ rows)) × (pick q ≡ some d) × (d.key ≡ q.key)
    from d (inl p) = (r, inl refl, rw p e, rw p k)
    from d (inr m) = let w = P.from d m in (w.0, inr w.1, w.2, w.3)

    into : (q : Row) (d : Change) → (q ≡ r) ⊎ (q ∈ rows) → pick q ≡ some d → (d ≡ c) ⊎ (d ∈ cs)
    into q d (inl p) f = let z : some d ≡ some c = sym f ∙ ap pick p ∙ e in inl (cc z)
    into q d (inr m) f = inr (P.into q d m f)

-- the change that puts a row's value, that removes its key
abbrev setting : Row → Change
setting r = record { key = r.key; now = some r.left }

abbrev dropping : Row → Change
dropping r = record { key = r.key; now = none }

as_put : Row → Option Change
as_put r = elim (changed r) [ true ↦ some (setting r) | false ↦ none ]

as_remove : Row → Option Change
as_remove r = elim r.right [ none ↦ some (dropping r) | some w ↦ none ]

puts_picks : (rows : List Row) → Picks as_put rows (puts rows)
unfolding puts as_put
puts_picks [] = picks_nil as_put
puts_picks (r ∷ rs) = go (changed r) refl (puts_picks rs)
  where
    go : (b : Bool) → changed r ≡ b → Picks as_put rs (puts rs) → Picks as_put (r ∷ rs) (elim b [ true ↦ setting r ∷ puts rs | false ↦ puts rs ])
    go true e P = picks_take as_put r (setting r) rs (puts rs) (rw (e, as_put)) refl P
    go false e P = picks_skip as_put r rs (puts rs) (rw (e, as_put)) P

removes_picks : (rows : List Row) → Picks as_remove rows (removes rows)
unfolding removes as_remove
removes_picks [] = picks_nil as_remove
removes_picks (r ∷ rs) = go r.right refl (removes_picks rs)
  where
    go : (o : Option ℕ) → r.right ≡ o → Picks as_remove rs (removes rs)
        → Picks as_remove (r ∷ rs) (elim o [ none ↦ dropping r ∷ removes rs | some w ↦ removes rs ])
    go none e P = picks_take as_remove r (dropping r) rs (removes rs) (rw (e, as_remove)) refl P
    go (some w) e P = picks_skip as_remove r rs (removes rs) (rw (e, as_remove)) P

-- a row is put exactly when the right side has not its value
pub changed_exactly : (r : Row) → (changed r ≡ true) ↔ (r.right ≢ some r.left)
unfolding changed
changed_exactly r = go r.right refl
  where
    go : (o : Option ℕ) → r.right ≡ o → (changed r ≡ true) ↔ (r.right ≢ some r.left)
    go none e = (λ c p. let z : ◌≡◌ {A = ℕ} 0 1 = cc (e, p) in omega arith, λ n. rw (e, changed))
    go (some w) e = (
      λ c p. let z : w ≡ r.left = cc (e, p) in eqb-false r.left w (not-true (eqb r.left w) (rw (e, changed) at c)) (sym z),
      λ n. rw (e, changed) (by n (eqb r.left w) refl),
    )
      where
        by : r.right ≢ some r.left → (b : Bool) → eqb r.left w ≡ b → not (eqb r.left w) ≡ true
        by n true q = absurd (n (e ∙ ap some (sym (eqb-true r.left w q))))
        by n false q = rw q

as_put_lem : (r : Row) (c : Change) → as_put r ≡ some c → (changed r ≡ true) × (c ≡ setting r)
unfolding as_put
as_put_lem r c e = go (changed r) refl
  where
    go : (b : Bool) → changed r ≡ b → (changed r ≡ true) × (c ≡ setting r)
    go true p = let z : some (setting r) ≡ some c = rw (p, as_put) at e in (p, sym (cc z))
    go false p = let z : ◌≡◌ {A = ℕ} 0 1 = cc (rw (p, as_put) at e) in absurd (omega arith)

as_remove_lem : (r : Row) (c : Change) → as_remove r ≡ some c → (r.right ≡ none) × (c ≡ dropping r)
unfolding as_remove
as_remove_lem r c e = go r.right refl
  where
    go : (o : Option ℕ) → r.right ≡ o → (r.right ≡ none) × (c ≡ dropping r)
    go none p = let z : some (dropping r) ≡ some c = rw (p, as_remove) at e in (p, sym (cc z))
    go (some w) p = let z : ◌≡◌ {A = ℕ} 0 1 = cc (rw (p, as_remove) at e) in absurd (omega arith)

-- two listings, of B against A and of A against B, give exactly the changes from A to B
pub rows_exact : (A B : ℕ → Option ℕ) (ba ab : List Row) → Listed B A ba → Listed A B ab → Exact A B (puts ba) (removes ab)
unfolding as_put as_remove
rows_exact A B ba ab P Q = record {
  puts_ascend = (puts_picks ba).ascends P.ascends;
  put = put;
  all_puts = all_puts;
  removes_ascend = (removes_picks ab).ascends Q.ascends;
  remove = remove;
  all_removes = all_removes;
}
  where
    put : (c : Change) → c ∈ puts ba → (v : ℕ) × (c.now ≡ some v) × (B c.key ≡ some v) × (A c.key ≢ some v)
    put c m =
        let w = (puts_picks ba).from c m in
        let r = w.0 in
        let p = as_put_lem r c w.2 in
        let q = P.right r w.1 in
        (r.left, ap (λ (x : Change). x.now) p.1, ap B w.3 ∙ q.0, λ e. (changed_exactly r).0 p.0 (sym q.1 ∙ ap A (sym w.3) ∙ e))

    all_puts : (k v : ℕ) → B k ≡ some v → A k ≢ some v → (c : Change) × (c ∈ puts ba) × (c.key ≡ k)
    all_puts k v b a =
        let w = differing_key_listed B A ba P k v b a in
        let r = w.0 in
        let q = P.right r w.1 in
        let c = (changed_exactly r).1 (λ e. a (ap A (sym w.2) ∙ q.1 ∙ e ∙ sym q.0 ∙ ap B w.2 ∙ b)) in
        (setting r, (puts_picks ba).into r (setting r) w.1 (rw (c, as_put)), w.2)

    remove : (c : Change) → c ∈ removes ab → (v : ℕ) × (c.now ≡ none) × (A c.key ≡ some v) × (B c.key ≡ none)
    remove c m =
        let w = (removes_picks ab).from c m in
        let r = w.0 in
        let p = as_remove_lem r c w.2 in
        let q = Q.right r w.1 in
        (r.left, ap (λ (x : Change). x.now) p.1, ap A w.3 ∙ q.0, ap B w.3 ∙ q.1 ∙ p.0)

    all_removes : (k v : ℕ) → A k ≡ some v → B k ≡ none → (c : Change) × (c ∈ removes ab) × (c.key ≡ k)
    all_removes k v a b =
        let w = differing_key_listed A B ab Q k v a (λ e. let z : ◌≡◌ {A = ℕ} 0 1 = cc (b, e) in omega arith) in
        let r = w.0 in
        let n : r.right ≡ none = sym (Q.right r w.1).1 ∙ ap B w.2 ∙ b in
        (dropping r, (removes_picks ab).into r (dropping r) w.1 (rw (n, as_remove)), w.2)
