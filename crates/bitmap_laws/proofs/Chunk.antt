-- A chunk that is written is read back: its descriptors, and where it ends.
-- Assumes nothing.
use mathlib.Core.Path.{◌≡◌, refl, ap, ◌∙◌}
use mathlib.Core.Bool.{Bool, true, false}
use mathlib.Core.List.{List, [], ◌∷◌, ◌++◌, append_assoc}
use Prim.Native.Nat.{ℕ, zero, suc, ◌+◌, ◌*◌, ◌/◌, ◌%◌, ◌^◌, ◌≤◌, ◌<◌}
use native.Mathlib.Nat.{zero-add, add_comm, zero-mul, mod-lt, mod-eq_of_lt, not-suc-le-zero, le_of_suc-le-suc}
use native.Mathlib.Omega.{arith}
use borrow.Author.Tests.{le-leb, ne_eqb, ltb-true, ltb-false}
use lib.Dec.{ltb}
use lib.ListN.{length, get_or, length-append}
use lib.Seq.{get_or-append-add, get_or-append_seam}
use lib.Pow.{pow_pos, shr_lt, split}
use Rattle.common.proofs.Lists.{rising-range}
use Rattle.common.specs.Bytes.{ceil8}
use Rattle.common.specs.Lists.{from, keep, rising, table}
use Rattle.common.specs.Outcome.{found, need, pick}
use Rattle.bitmap_spec.specs.Bits.{pack_values}
use Rattle.bitmap_spec.specs.Form.{width, chunk_at}
use Rattle.bitmap_spec.specs.Judge.{chunk, chunk_with, widths_ok, head_at, head_with}
use Rattle.bitmap_laws.proofs.Back.{laid, with-back, part_of, table_same}
use Rattle.bitmap_laws.proofs.Except.{part-of-kept, narrow}
use Rattle.bitmap_laws.proofs.Members.{rising-keep}

keep-holds : (F : ℕ → Bool) (k n j : ℕ) → j < length (keep F (from k n)) → F (get_or (keep F (from k n)) j 0) ≡ true
unfolding keep from
keep-holds F k zero j l = absurd (not-suc-le-zero l)
keep-holds F k (suc n) j l = go (F k) refl j l (λ i m. keep-holds F (suc k) n i m)
  where
    go : (t : Bool) → F k ≡ t → (j : ℕ) → j < length (pick t (k ∷ keep F (from (suc k) n)) (keep F (from (suc k) n)))
        → ((i : ℕ) → i < length (keep F (from (suc k) n)) → F (get_or (keep F (from (suc k) n)) i 0) ≡ true)
        → F (get_or (pick t (k ∷ keep F (from (suc k) n)) (keep F (from (suc k) n))) j 0) ≡ true
    go true e zero m ih = e
    go true e (suc j) m ih = ih j (le_of_suc-le-suc m)
    go false e j m ih = ih j m

-- the three bytes of a chunk
pub opened : (s : List ℕ) (at n b b2 e m : ℕ) → at + 3 ≤ length s → get_or s at 0 ≡ b + 16 * b2 → get_or s (at + 1) 0 ≡ e → get_or s (at + 2) 0 ≡ m → b + b2 ≤ 8 → b < 8
    → chunk s at n ≡ chunk_with s n (head_with at n b b2 e m)
unfolding chunk need widths_ok head_at head_with
opened s at n b b2 e m room p q r h h8 =
    let x : get_or s at 0 % 16 ≡ b = omega arith in
    let y : get_or s at 0 / 16 ≡ b2 = omega arith in
    rw (le-leb _ _ room, x, y, q, r, le-leb _ _ h, ne_eqb b 8 (λ z. omega arith))

-- values vs, all below 2 ^ (b + b2); those wider than b are the exceptions
module _ (pre post vs : List ℕ) (m b b2 : ℕ) (h : b + b2 ≤ 8) (h8 : b < 8) (few : length vs ≤ 256) (m-fits : m < 256)
    (small : (i : ℕ) → i < length vs → m + get_or vs i 0 ≤ 63) (fits : (i : ℕ) → i < length vs → b < width (get_or vs i 0) → get_or vs i 0 < 2 ^ (b + b2)) where
  unfoldable pub F : ℕ → Bool
  F i = ltb b (width (get_or vs i 0))

  unfoldable pub offs : List ℕ
  offs = keep F (from 0 (length vs))

  f : ℕ → ℕ
  f i = get_or vs i 0 % 2 ^ b

  g : ℕ → ℕ
  g j = get_or vs (get_or offs j 0) 0 / 2 ^ b

  A : List ℕ
  A = pre ++ ((b + 16 * b2) ∷ length offs ∷ m ∷ [])

  -- an offset that is kept is that of an exception
  kept : (j : ℕ) → j < length offs → b < width (get_or vs (get_or offs j 0) 0)
  unfolding offs F
  kept j l = ltb-true b (width (get_or vs (get_or (keep F (from 0 (length vs))) j 0) 0)) (keep-holds F 0 (length vs) j l)

  up : rising (length vs) 0 offs ≡ true
  unfolding offs
  up = rising-keep F (length vs) 0 (length vs) (omega arith)

  -- what is added up is the value again
  whole : (i : ℕ) → i < length vs → m + f i + part_of offs g (length offs) i * 2 ^ b ≡ m + get_or vs i 0
  unfolding f g offs F
  whole i l =
      rw (part-of-kept F (λ x. get_or vs x 0 / 2 ^ b) (length vs) i l) (go (F i) refl)
    where
      go : (t : Bool) → F i ≡ t → m + get_or vs i 0 % 2 ^ b + pick t (get_or vs i 0 / 2 ^ b) 0 * 2 ^ b ≡ m + get_or vs i 0
      go true e = omega (arith, split (get_or vs i 0) b)
      go false e =
          let w : width (get_or vs i 0) ≤ b = ltb-false b (width (get_or vs i 0)) e in
          omega (arith, mod-eq_of_lt (narrow (get_or vs i 0) b (omega (arith, small i l)) w), zero-mul (2 ^ b))

  s-laid : pre ++ (chunk_at vs m b b2 offs ++ post) ≡ laid A offs post m b b2 (length vs) f g
  unfolding laid A f g chunk_at
  s-laid =
      rw (
        append_assoc pre ((b + 16 * b2) ∷ length offs ∷ m ∷ []) (pack_values (λ i. get_or vs i 0 % 2 ^ b) b (length vs) ++ (offs ++ (pack_values (λ j. get_or vs (get_or offs j 0) 0 / 2 ^ b) b2 (length offs) ++ post))),
        append_assoc (pack_values (λ i. get_or vs i 0 % 2 ^ b) b (length vs)) (offs ++ pack_values (λ j. get_or vs (get_or offs j 0) 0 / 2 ^ b) b2 (length offs)) post,
        append_assoc offs (pack_values (λ j. get_or vs (get_or offs j 0) 0 / 2 ^ b) b2 (length offs)) post,
      )

  len-A : length A ≡ length pre + 3
  unfolding A
  len-A = length-append pre ((b + 16 * b2) ∷ length offs ∷ m ∷ [])

  f_lt : (i : ℕ) → i < length vs → f i < 2 ^ b
  unfolding f
  f_lt i l = mod-lt (get_or vs i 0) (pow_pos b)

  g-lt : (j : ℕ) → j < length offs → g j < 2 ^ b2
  unfolding g
  g-lt j l =
      let r = rising-range (length vs) 0 offs j up l in
      shr_lt b2 b (rw (add_comm b2 b) (fits (get_or offs j 0) r.1 (kept j l)))

  sum-small : (i : ℕ) → i < length vs → m + f i + part_of offs g (length offs) i * 2 ^ b ≤ 63
  sum-small i l = rw (whole i l) (small i l)

  byte0 : get_or (laid A offs post m b b2 (length vs) f g) (length pre) 0 ≡ b + 16 * b2
  unfolding chunk_at
  byte0 = rw (← s-laid) (get_or-append_seam pre (b + 16 * b2) _ 0)

  byte1 : get_or (laid A offs post m b b2 (length vs) f g) (length pre + 1) 0 ≡ length offs
  unfolding chunk_at
  byte1 = rw (← s-laid) (get_or-append-add pre _ 1 0)

  byte2 : get_or (laid A offs post m b b2 (length vs) f g) (length pre + 2) 0 ≡ m
  unfolding chunk_at
  byte2 = rw (← s-laid) (get_or-append-add pre _ 2 0)

  room : length pre + 3 ≤ length (laid A offs post m b b2 (length vs) f g)
  unfolding chunk_at
  room = rw (← s-laid, length-append pre (chunk_at vs m b b2 offs ++ post)) (omega arith)

  pub back : chunk (pre ++ (chunk_at vs m b b2 offs ++ post)) (length pre) (length vs)
      ≡ found (record { descs = table (λ i. m + get_or vs i 0) 0 (length vs); next = length pre + 3 + ceil8 (length vs * b) + length offs + ceil8 (length offs * b2) })
  unfolding head_with
  back =
      rw s-laid (opened (laid A offs post m b b2 (length vs) f g) (length pre) (length vs) b b2 (length offs) m room byte0 byte1 byte2 h h8
      ∙ (rw len-A at (with-back A offs post m b b2 (length vs) f g f_lt g-lt up sum-small))
      ∙ ap (λ (l : List ℕ). found (record { descs = l; next = length pre + 3 + ceil8 (length vs * b) + length offs + ceil8 (length offs * b2) }))
      (table_same (λ i. m + f i + part_of offs g (length offs) i * 2 ^ b) (λ i. m + get_or vs i 0) 0 (length vs) (λ i l. rw (zero-add i) (whole i l))))
