-- What a put and a removal do to the sum of an account's open calls.
use mathlib.Core.Path.{◌≡◌, refl, ap, sym, ◌∙◌}
use Prim.Native.Nat.{ℕ, ◌+◌, compare, Ordering}
use mathlib.Core.Option.{none, some}
use mathlib.Core.List.{List, [], ◌∷◌, ◌++◌}
use native.Mathlib.Omega.{arith}
use Rattle.model.specs.Tree.{Entry, cut, find, put, without}
use Rattle.model.proofs.maps.Compare.{cmp_eq}
use Rattle.ledger.specs.Ledger.{account_of, if_own, reserved}

-- the entries on both sides of a key, and the one under it
cut_none : (es : List Entry) (k : ℕ) → find es k ≡ none → es ≡ without es k
unfolding cut
cut_none [] k e = refl
cut_none (x ∷ xs) k e = go (compare k x.0) refl (cut_none xs k)
  where
    go : (o : Ordering) → compare k x.0 ≡ o → (find xs k ≡ none → xs ≡ without xs k) → x ∷ xs ≡ without (x ∷ xs) k
    go Ordering.lt p ih = rw (p, cut) refl
    go Ordering.eq p ih = let z : ◌≡◌ {A = ℕ} 0 1 = cc (rw (p, find) at e) in absurd (omega arith)
    go Ordering.gt p ih = rw (p, cut) (ap (λ ys. x ∷ ys) (ih (rw (p, find) at e)))

cut_some : (es : List Entry) (k w : ℕ) → find es k ≡ some w → es ≡ put es k w
unfolding cut
cut_some [] k w e = let z : ◌≡◌ {A = ℕ} 0 1 = cc in absurd (omega arith)
cut_some (x ∷ xs) k w e = go (compare k x.0) refl (cut_some xs k w)
  where
    go : (o : Ordering) → compare k x.0 ≡ o → (find xs k ≡ some w → xs ≡ put xs k w) → x ∷ xs ≡ put (x ∷ xs) k w
    go Ordering.lt p ih = let z : ◌≡◌ {A = ℕ} 0 1 = cc (rw (p, find) at e) in absurd (omega arith)
    go Ordering.eq p ih =
        let q : some x.1 ≡ some w = rw (p, find) at e in
        let u : x.1 ≡ w = cc in
        let y : x.0 ≡ k = sym (cmp_eq k x.0 p) in
        rw (p, cut) (ap (λ (z : Entry). z ∷ xs) (pair y u))
      where
        pair : {a b c d : ℕ} → a ≡ c → b ≡ d → ◌≡◌ {A = Entry} (a, b) (c, d)
        pair y u = cc
    go Ordering.gt p ih = rw (p, cut) (ap (λ ys. x ∷ ys) (ih (rw (p, find) at e)))

module _ (a : ℕ) where
  reserved_append : (xs ys : List Entry) → reserved a (xs ++ ys) ≡ reserved a xs + reserved a ys
  unfolding reserved
  reserved_append [] ys = omega arith
  reserved_append (x ∷ xs) ys = omega (arith, reserved_append xs ys)

  -- one entry more
  with_one : (xs ys : List Entry) (k w : ℕ) → reserved a (xs ++ (k, w) ∷ ys) ≡ if_own (account_of k) a w + reserved a (xs ++ ys)
  unfolding reserved
  with_one xs ys k w = omega (arith, reserved_append xs ((k, w) ∷ ys), reserved_append xs ys)

  -- a new call adds its minutes to its own account's sum
  pub reserved-put : (es : List Entry) (k w : ℕ) → find es k ≡ none → reserved a (put es k w) ≡ if_own (account_of k) a w + reserved a es
  reserved-put es k w e = with_one (cut es k).before (cut es k).after k w ∙ ap (λ xs. if_own (account_of k) a w + reserved a xs) (sym (cut_none es k e))

  -- a call that goes takes them along
  pub reserved-without : (es : List Entry) (k w : ℕ) → find es k ≡ some w → reserved a es ≡ if_own (account_of k) a w + reserved a (without es k)
  reserved-without es k w e = ap (reserved a) (cut_some es k w e) ∙ with_one (cut es k).before (cut es k).after k w
