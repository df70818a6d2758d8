-- Both halves saved one behind the other.
-- Why: the saved entries of both are those of the one and then of the other (`saved-cat`).
-- Assumes nothing.
use mathlib.Core.Path.{◌≡◌, sym, ◌∙◌}
use mathlib.Core.Bool.{Bool, true, false}
use mathlib.Core.List.{List, ◌++◌}
use Prim.Native.Nat.{ℕ, ◌+◌, ◌≤◌}
use native.Mathlib.Omega.{arith}
use lib.ListN.{length, drop, length-append}
use Rattle.common.specs.Outcome.{refused, found}
use Rattle.bitmap_spec.specs.Output.{written, placed}
use Rattle.bitmap_spec.proofs.Tally.{tally}
use Rattle.bitmap_laws.proofs.Output.{written-cat, from_start}
use Rattle.store_spec.specs.Store.{sound}
use Rattle.store_spec.specs.Owners.{half, part, own_entries, all_entries}
use Rattle.store_spec.specs.Saved.{saved, save_on}
use Rattle.store_laws.proofs.Slots.{Lies, sound-lies, entries-bad, entries-is}
use Rattle.store_laws.proofs.Halves.{own-42, own_in, part-long, dir-in}
use Rattle.store_laws.proofs.Loads.{saved-cat}
use Rattle.store_laws.proofs.Returns.{own-all}
use Rattle.store_save.specs.Size.{entry_size}
use Rattle.store_save.proofs.Sizes.{saved-size}
use Rattle.store_halves.specs.Half.{held}

-- owner o's half is sound
abbrev pub Good : ℕ → List ℕ → List ℕ → Type 0
Good o dir buf = Lies 32 (part o 64 dir) (part o (half buf) buf)

abbrev judged : ℕ → List ℕ → List ℕ → Bool
judged o dir buf = sound 32 (part o 64 dir) (part o (half buf) buf)

pub good : (o : ℕ) (dir buf : List ℕ) (r : Bool) → r ≡ judged o dir buf → r ≡ true → Good o dir buf
good o dir buf r e q = sound-lies 32 (part o 64 dir) (part o (half buf) buf) (sym e ∙ q)

-- ---- the lengths of both
abbrev pub both : List ℕ → List ℕ → List ℕ
both dir buf = saved (held 0 dir buf) ++ saved (held 1 dir buf)

-- both halves are sound, and x and y are the lengths of what is saved of them
pub record Sizes (dir buf : List ℕ) (x y : ℕ) : Type 0 where
  pub first : Good 0 dir buf
  pub second : Good 1 dir buf
  pub one : x ≡ length (saved (held 0 dir buf))
  pub other : y ≡ length (saved (held 1 dir buf))
  pub all : x + y ≡ length (both dir buf)

pub sizes : (dir buf : List ℕ) (p q : Bool) (x y : ℕ) → p ≡ judged 0 dir buf → p ≡ true → q ≡ judged 1 dir buf
    → q ≡ true → x ≡ tally (entry_size (part 0 64 dir)) 0 32 → y ≡ tally (entry_size (part 1 64 dir)) 0 32
    → Sizes dir buf x y
sizes dir buf p q x y ep tp eq tq ex ey =
    let s0 = good 0 dir buf p ep tp in
    let s1 = good 1 dir buf q eq tq in
    let u = ex ∙ sym (saved-size 32 (part 0 64 dir) (part 0 (half buf) buf) s0) in
    let v = ey ∙ sym (saved-size 32 (part 1 64 dir) (part 1 (half buf) buf) s1) in
    record {
      first = s0;
      second = s1;
      one = u;
      other = v;
      all = omega (arith, u, v, length-append (saved (held 0 dir buf)) (saved (held 1 dir buf)));
    }

-- ---- the call
module _ (room : ℕ) (dir buf : List ℕ) where
  pub save-short : (length dir ≡ 128 → ⊥) → save_on room dir buf ≡ refused 42
  unfolding save_on all_entries
  save-short h = rw (own-42 0 dir buf h)

  module _ (len : length dir ≡ 128) where
    own-bad : (o : ℕ) → o ≤ 1 → (r : Bool) → r ≡ judged o dir buf → r ≡ false → own_entries o dir buf ≡ refused 42
    own-bad o l r e q =
        own_in o dir buf len
        ∙ entries-bad 32 (part o 64 dir) (part o (half buf) buf) (part-long o 64 dir (dir-in o dir l len)) (sym e ∙ q)

    own-good : (o : ℕ) → o ≤ 1 → Good o dir buf → own_entries o dir buf ≡ found (held o dir buf)
    own-good o l s =
        own_in o dir buf len
        ∙ entries-is 32 (part o 64 dir) (part o (half buf) buf) (part-long o 64 dir (dir-in o dir l len)) s

    pub save-first : (r : Bool) → r ≡ judged 0 dir buf → r ≡ false → save_on room dir buf ≡ refused 42
    unfolding save_on all_entries
    save-first r e q = rw (own-bad 0 (omega arith) r e q)

    pub save-second : Good 0 dir buf → (r : Bool) → r ≡ judged 1 dir buf → r ≡ false → save_on room dir buf ≡ refused 42
    unfolding save_on all_entries
    save-second s r e q = rw (own-good 0 (omega arith) s, own-bad 1 (omega arith) r e q)

    pub save-is : Good 0 dir buf → Good 1 dir buf → save_on room dir buf ≡ placed (both dir buf) room
    unfolding save_on
    save-is s0 s1 =
        let all = own-all dir buf (held 0 dir buf) (held 1 dir buf) (own-good 0 (omega arith) s0)
        (own-good 1 (omega arith) s1) in
        rw (all, saved-cat (held 0 dir buf) (held 1 dir buf))

-- ---- the two written
pub both-written : (out o1 o2 u v : List ℕ) (t : ℕ) → t ≡ length u → length u + length v ≤ length out
    → o1 ≡ written out 0 u → o2 ≡ written o1 t v → o2 ≡ (u ++ v) ++ drop (length (u ++ v)) out
both-written out o1 o2 u v t e room p q =
    q ∙ rw p (written-cat out u v 0 t (omega arith) (omega arith)) ∙ from_start out (u ++ v)
