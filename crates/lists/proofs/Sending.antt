-- What was collected and written is what the call answers: the lines of the words are the delta's lines.
use mathlib.Core.Path.{◌≡◌, refl, ap, sym, subst, ◌∙◌}
use Prim.Native.Nat.{ℕ, ◌≤◌}
use mathlib.Core.Bool.{true}
use mathlib.Core.List.{List, [], ◌∷◌, map}
use lib.ListN.{length, length-map}
use Rattle.model.specs.Tree.{Tree}
use Rattle.model.specs.Delta.{delta_deep}
use Rattle.model.specs.Heap.{version}
use Rattle.model.specs.Block.{heap}
use Rattle.model.specs.Frame.{line, frames_of, frames}
use Rattle.model.specs.Lists.{Lists, framed, part, over}
use Rattle.table.proofs.Admitting.{Admission}
use Rattle.std.specs.Prelude.{Result, Ok, Err}
use Rattle.answers.specs.declared.Refusal.{Refusal}
use Rattle.answers.specs.declared.Refusal.TheVariants.{TooDeep}
use Rattle.answers.specs.Answers.{report_of}
use Rattle.lists.specs.declared.changes.Changes.{Changes}
use Rattle.lists.specs.Reports.{Wrote}
use Rattle.lists.specs.Changes.{Collects, at_least_one, changes_in}
use Rattle.lists.proofs.Reporting.{lists_deep, lists_done}
use Rattle.lists.proofs.Framing.{frames_long}

-- the changes from version a to version c, collected in ws
pub record Gathered (b : List ℕ) (a c : ℕ) (ws : List ℕ) (q : Result Changes Refusal) : Type 0 where
  pub admitted : Admission b (a ∷ c ∷ [])
  pub is : Collects (version (heap b) a) (version (heap b) c) ws q

module _ {b ws : List ℕ} {a c : ℕ} {q : Result Changes Refusal} (G : Gathered b a c ws q) where
  abbrev A : Tree
  A = version (heap b) a

  abbrev C : Tree
  C = version (heap b) c

  pub held : {k : Changes} → q ≡ Ok k → Collects A C ws (Ok k)
  held e = subst (λ x. Collects A C ws x) e G.is

  pub too_deep : {r : Refusal} → q ≡ Err r → (r ≡ TooDeep) × (delta_deep A C ≡ true)
  too_deep e = subst (λ x. Collects A C ws x) e G.is

  pub gathered_deep : {out : List ℕ} {r : Refusal} (start batch : ℕ) → q ≡ Err r → Lists b out out start (framed b a c batch) (report_of (Err r))
  gathered_deep start batch e = let d = too_deep e in lists_deep start (framed b a c batch) G.admitted d.1 d.0 refl

  pub gathered_few : {k : Changes} → q ≡ Ok k → k.count ≤ 4096
  gathered_few e = (held e).2

  pub gathered_done : {out after : List ℕ} {k : Changes} (start batch w : ℕ) {m : ℕ} → q ≡ Ok k → Wrote (map line (frames_of batch (changes_in k.puts ws k.count 0))) start out w after
      → m ≡ at_least_one k.count → Lists b out after start (framed b a c batch) (report_of (Ok (record { written = w; total = m })))
  gathered_done {out} {after} {k} start batch w e d h =
      let L : map line (frames_of batch (changes_in k.puts ws k.count 0)) ≡ map line (frames batch A C) = ap (λ cs. map line (frames_of batch cs)) (held e).1 in
      let t : at_least_one k.count ≡ length (map line (frames batch A C)) = sym (length-map (frames_of batch (changes_in k.puts ws k.count 0)) line ∙ frames_long batch k.puts ws k.count) ∙ ap length L in
      let u : w ≡ length (part 35 start (length out) (map line (frames batch A C))) = d.0 ∙ ap (λ ls. length (part 35 start (length out) ls)) L in
      lists_done start (framed b a c batch) G.admitted (held e).0 u (h ∙ t) (d.1 ∙ ap (λ ls. over (part 35 start (length out) ls) out) L)
