-- A length in groups of seven bits: what is written is read back, and what is read and shortest was written so.
-- Assumes nothing.
use mathlib.Core.Path.{◌≡◌, refl, sym, ap, ◌∙◌}
use mathlib.Core.Bool.{Bool, true}
use mathlib.Core.List.{List, ◌++◌}
use Prim.Native.Nat.{ℕ, zero, suc, ◌+◌, ◌-◌, ◌^◌, ◌≤◌, ◌<◌}
use native.Mathlib.Omega.{arith}
use borrow.Author.Tests.{eq-eqb}
use lib.ListN.{length, take, drop, length-append, length-drop, length-take, take-append-drop}
use lib.Seq.{drop-drop, drop-append_seam, take-append_seam}
use Rattle.row_spec.specs.Varint.{varint, varint_at, padded, groups_of, shortest}
use Rattle.std.specs.Prelude.{Ok}
use Rattle.row_laws.specs.Forms.{Bytes, Form}
use Rattle.row_laws.proofs.Forms.{groups-least, form-read, read-form, shortest-form}

-- ---- a list from a place on
pub past : (s a rest : List ℕ) (at : ℕ) → drop at s ≡ a ++ rest → drop (at + length a) s ≡ rest
past s a rest at e = sym (drop-drop (length a) at s) ∙ ap (drop (length a)) e ∙ drop-append_seam a rest

pub left-long : (s a rest : List ℕ) (at : ℕ) → drop at s ≡ a ++ rest → length s - at ≡ length a + length rest
left-long s a rest at e = sym (length-drop at s) ∙ ap length e ∙ length-append a rest

-- ---- how long a shortest length is
padded-long : (k n : ℕ) → length (padded k n) ≡ k
unfolding padded
padded-long zero n = refl
padded-long (suc zero) n = refl
padded-long (suc (suc k)) n = ap suc (padded-long (suc k) _)

pub shortest-long : (n : ℕ) → length (shortest n) ≡ groups_of n
unfolding shortest
shortest-long n = padded-long (groups_of n) n

five-hold : (n : ℕ) → n ≤ 4294967295 → n < 128 ^ 5
five-hold n h = omega arith

pub shortest-some : (n : ℕ) → n ≤ 4294967295 → 0 < length (shortest n)
shortest-some n h = omega (arith, shortest-long n, (groups-least n (five-hold n h)).0)

-- ---- what is written is read back
pub length_back : (s : List ℕ) (at n : ℕ) (rest : List ℕ) → n ≤ 4294967295 → drop at s ≡ shortest n ++ rest
    → varint_at s at ≡ Ok (varint n (at + length (shortest n)) true)
unfolding shortest
length_back s at n rest h e =
    let least = groups-least n (five-hold n h) in
    let long : length (padded (groups_of n) n) ≡ groups_of n = padded-long (groups_of n) n in
    let bytes : take (groups_of n) (drop at s) ≡ padded (groups_of n) n =
    ap (λ (k : ℕ). take k (drop at s)) (sym long) ∙ ap (take (length (padded (groups_of n) n))) e
    ∙ take-append_seam (padded (groups_of n) n) rest in
    let f : Form s at (groups_of n) n true = record {
      some = least.0;
      few = least.2 5 (omega arith) (five-hold n h);
      holds = least.1;
      most = h;
      bytes = bytes;
      mark = sym (eq-eqb (groups_of n) (groups_of n) refl);
    } in
    form-read s at (groups_of n) n true f ∙ ap (λ (k : ℕ). Ok (varint n (at + k) true)) (sym long)

-- ---- what is read and shortest was written so
pub length-on : (s : List ℕ) → Bytes s → (at n next : ℕ) → varint_at s at ≡ Ok (varint n next true)
    → drop at s ≡ shortest n ++ drop next s
length-on s byte at n next e =
    let place = (read-form s byte at n true next e).0 in
    sym (take-append-drop (next - at) (drop at s))
    ∙ ap (λ (l : List ℕ). l ++ drop (next - at) (drop at s)) (shortest-form s byte at n next e)
    ∙ ap (λ (l : List ℕ). shortest n ++ l)
    (drop-drop (next - at) at s ∙ ap (λ (k : ℕ). drop k s) (sym place))

-- a number that is read ends within the bytes
pub length-within : (s : List ℕ) → Bytes s → (at n next : ℕ) (short : Bool) → varint_at s at ≡ Ok (varint n next short)
    → next ≤ length s
length-within s byte at n next short e =
    let r = read-form s byte at n short next e in
    let long = padded-long (next - at) n in
    let taken = ap length r.1.bytes in
    let left = length-drop at s in
    omega (arith, r.0, r.1.some, long, taken, left, length-take (next - at) (drop at s))
