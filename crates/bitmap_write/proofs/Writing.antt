-- One container more: where its run ends, its descriptor, its bytes.
-- Assumes nothing.
use mathlib.Core.Path.{◌≡◌, refl, sym, ap, ◌∙◌}
use mathlib.Core.Bool
use mathlib.Core.Bool.{true}
use mathlib.Core.List.{List, map}
use Prim.Native.Nat.{ℕ, ◌+◌, ◌-◌, ◌*◌, ◌≤◌, ◌<◌, min}
use native.Mathlib.Omega.{arith}
use borrow.Author.Tests.{lt-ltb}
use lib.ListN.{length, set, take}
use Rattle.common.specs.Outcome.{need}
use Rattle.common.specs.Lists.{from, mem, rising}
use Rattle.bitmap_spec.specs.Judge.{dense}
use Rattle.bitmap_spec.specs.Form.{form, cut, count_of, descriptor_of, write_container, write_containers}
use Rattle.bitmap_spec.specs.Sets.{IsSet}
use Rattle.bitmap_spec.specs.Output.{written, write, placed, Gives, after, length_of}
use Rattle.std.specs.Prelude.{Result, Err}
use Rattle.common.specs.declared.Refusal.{Refusal}
use Rattle.common.specs.declared.Refusal.TheVariants.{Positions}
use Rattle.bitmap_laws.proofs.Containers.{picked}
use Rattle.bitmap_laws.proofs.Cuts.{cut_up}
use Rattle.bitmap_laws.proofs.Output.{Along, along-step, taken}
use Rattle.blocks.specs.Block.{block}
use Rattle.blocks.proofs.Blocks.{block-members}
use Rattle.form_write.specs.Described.{descs_to, Describes}
use Rattle.form_write.proofs.Cells.{desc-turn, desc-length, cells-step, cell_room}
use Rattle.bitmap_write.specs.Run.{Below, Ends, run}
use Rattle.bitmap_write.proofs.Runs.{below_next, run-cut, run_length}

-- the next run
pub next-below : (ps : List ℕ) (k i j : ℕ) → IsSet ps → Below ps (k * 256) i → Ends ps i ((k + 1) * 256) j
    → Below ps ((k + 1) * 256) j
next-below ps k i j up lo e = below_next ps (k * 256) ((k + 1) * 256) i j up lo (omega arith) e.order e.within e.under
    e.over

-- the next descriptor
pub next-desc : (ps before out : List ℕ) (k i j x : ℕ) → IsSet ps → Below ps (k * 256) i → Ends ps i ((k + 1) * 256) j
    → k < length before → x ≡ min (j - i) 32
    → out ≡ written before 0 (descs_to ps k) → set out k x ≡ written before 0 (descs_to ps (k + 1))
next-desc ps before out k i j x up lo e h q r =
    desc-turn ps before out k x (j - i) h (sym (run_length ps k i j up lo (next-below ps k i j up lo e))) q r

-- a container's bytes from its run
pub run-sparse : (c : List ℕ) → length c < 32 → write_container c ≡ c
unfolding write_container
run-sparse c h = rw (lt-ltb (length c) 32 h)

pub run-block : (c b : List ℕ) → rising 256 0 c ≡ true → b ≡ block (λ p. mem p c) → dense b 0 ≡ c
run-block c b up e = ap (λ (l : List ℕ). dense l 0) e ∙ block-members (λ p. mem p c) ∙ picked c up

pub run-full : (c : List ℕ) → 32 ≤ length c → 32 ≡ descriptor_of c
unfolding descriptor_of
run-full c h = omega arith

-- the next container
module _ (ps : List ℕ) (k i j : ℕ) (up : IsSet ps) (lo : Below ps (k * 256) i) (e : Ends ps i ((k + 1) * 256) j) where
  pub next-cut : cut ps k ≡ run ps i j
  next-cut = run-cut ps k i j up lo (next-below ps k i j up lo e)

  pub next_up : rising 256 0 (run ps i j) ≡ true
  next_up = rw (← next-cut) (cut_up ps k)

  module _ {before out : List ℕ} {at t n : ℕ} {all : List ℕ} (h : k < n)
      (a : Along before out at t (write_containers (map (cut ps) (from k (n - k)))) all)
      (room : at + length all ≤ length before) where
    pub next_fits : at + t + length (write_container (run ps i j)) ≤ length out
    next_fits = rw (← next-cut) (cell_room ps k n a room h)

    pub next-written : (out' : List ℕ) (x : ℕ) → out' ≡ written out (at + t) (write_container (run ps i j))
        → x ≡ length (write_container (run ps i j))
        → Along before out' at (t + x) (write_containers (map (cut ps) (from (k + 1) (n - (k + 1))))) all
    next-written out' x q r = along-step out' (write_container (run ps i j)) _ x a room
        (rw (← next-cut) (cells-step ps k n h)) q r

-- the descriptors in hand describe the list
pub described : (ps a a₀ : List ℕ) (n : ℕ) → IsSet ps → n ≡ count_of ps → a ≡ written a₀ 0 (descs_to ps n)
    → (take n a ≡ descs_to ps n) × Describes ps (length (take n a)) (length ps) (take n a)
described ps a a₀ n up e q =
    let d : take n a ≡ descs_to ps n = taken a a₀ (descs_to ps n) n q (sym (desc-length ps n)) in
    let m : length (take n a) ≡ n = ap length d ∙ desc-length ps n in
    (d, record { is_set = up; count = m ∙ e; cardinality = refl; descs = d ∙ ap (descs_to ps) (sym m) })

-- the outcome of a list that is not a set, and of one that is
pub refuse12 : (ps before : List ℕ) → rising 2097152 0 ps ≡ mathlib.Core.Bool.false
    → Gives (write ps (length before)) before before (Err Positions)
unfolding write need after length_of
refuse12 ps before e = record { says = rw e; holds = rw e }

pub go_on : (ps before rest : List ℕ) (r : Result ℕ Refusal) → rising 2097152 0 ps ≡ true
    → Gives (placed (form ps) (length before)) before rest r → Gives (write ps (length before)) before rest r
unfolding write need
go_on ps before rest r e g = rw e g
