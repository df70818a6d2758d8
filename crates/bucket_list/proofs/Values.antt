-- Rows whose values stand one after the other are a run: each starts where the values of the rows before it end, and a
-- null row takes no bytes.
-- Assumes nothing.
use mathlib.Core.Path.{◌≡◌, refl, sym, ◌∙◌}
use mathlib.Core.Bool.{Bool, true, false, not}
use mir.Val.{bool_byte}
use mathlib.Core.List.{List, [], flat_map}
use Prim.Native.Nat.{ℕ, suc, ◌+◌, ◌*◌, ◌≤◌}
use native.Mathlib.Nat.{add-suc}
use native.Mathlib.Numerals.{add-one}
use native.Mathlib.Omega.{arith}
use lib.ListN.{get_or}
use Rattle.common.specs.Outcome.{pick, both, Outcome}
use Rattle.row_spec.specs.Page.{written}
use Rattle.row_spec.specs.Value.{storage_of, stored_at, value_at}
use Rattle.row_spec.specs.declared.ColumnType.{ColumnType}
use Rattle.row_spec.specs.declared.Field.{Field}
use Rattle.row_spec.specs.declared.Field.TheVariants.{Null}
use Rattle.row_spec.specs.declared.Storage.{Storage}
use Rattle.row_spec.specs.declared.Storage.TheVariants.{Boolean}
use Rattle.std.specs.Prelude.{Option, Some, None, Result, Ok, Err}
use Rattle.std.specs.Result.{result_unwrap_or}
use Rattle.common.specs.Refusal.{outcome}
use Rattle.common.specs.declared.Refusal.{Refusal}
use lib.Dec.{eqb}
use Rattle.common.specs.Bytes.{low_bit}
use Rattle.row_spec.specs.Read.{read}
use Rattle.value_list.specs.declared.Run.{Run}
use Rattle.value_list.specs.Cell.{null_bit, Ran}
use Rattle.bucket_spec.specs.Read.{is_mapped, bitmap_start}
use Rattle.bucket_spec.specs.Piece.{values}
use Rattle.row_laws.proofs.Varints.{prod}
use Rattle.bucket_laws.proofs.Live.{live-le, live-turn}
use Rattle.bucket_laws.proofs.Runs.{nth-stands}
use Rattle.bucket_list.specs.declared.Rows.{Rows}
use Rattle.bucket_list.specs.Listed.{end_of, null_at, live_at, RowIs, RowsListed, ValueIs}

null-both : (s : List ℕ) (nulls : Option ℕ) (i : ℕ)
    → null_bit s nulls i ≡ both (is_mapped nulls) (eqb (low_bit s (bitmap_start nulls) i) 1)
null-both s None i = refl
null-both s (Some p) i = refl

-- ---- how many rows before row m are not null
live_more : (s : List ℕ) (x : Rows) (m : ℕ) (null : Bool) → null ≡ null_at s x m
    → live_at s x (suc m) ≡ pick null (live_at s x m) (suc (live_at s x m))
live_more s x m null e =
    rw (add-suc x.place m, e, null-both) (live-turn s (bitmap_start x.nulls) (is_mapped x.nulls) (x.place + m))

module _ (s : List ℕ) (x : Rows) (m j : ℕ) (at : j ≡ live_at s x m) where
  pub live-few : x.place + m ≤ 65536 → j ≤ 65536
  live-few h = omega (arith, live-le s (bitmap_start x.nulls) (is_mapped x.nulls) (x.place + m))

  pub bits-few : (w : ℕ) → w ≤ 8 → x.place + m ≤ 65536 → j * w ≤ 65536 * 8
  bits-few w narrow h = prod 65536 8 {m = j} {n = w} (live-few h) narrow

  pub live-next : (null : Bool) → null ≡ null_at s x m → (r : ℕ) → r ≡ pick null j (j + 1) → r ≡ live_at s x (m + 1)
  live-next null is r e = rw (add-one m, live_more s x m null is, e, at, add-one (live_at s x m))

-- a row that is not null takes an index
pub byte-small : (b : Bool) → bool_byte b ≤ 1
byte-small true = omega arith
byte-small false = omega arith

pub step-byte : (null : Bool) (j : ℕ) → j + bool_byte (not null) ≡ pick null j (j + 1)
step-byte true j = omega arith
step-byte false j = refl

-- ---- rows that are a run
pub end-unwrapped : (r : Result ℕ Refusal) (o : Outcome ℕ) → outcome r ≡ o → result_unwrap_or r 0 ≡ end_of o
end-unwrapped (Ok p) o e = rw (← e)
end-unwrapped (Err f) o e = rw (← e)

abbrev run_of : Rows → Run
run_of x = record { big = true; same = true; nulls = x.nulls; bit = x.place }

module _ (s : List ℕ) (t : ColumnType) (at : ℕ) (x : Rows) (sts : List Storage)
    (stored : get_or sts 0 Boolean ≡ storage_of true t) where
  -- where row m starts: after the values of the rows before it
  abbrev start_of : ℕ → ℕ
  start_of m = end_of (values s t (live_at s x m) at)

  -- its value ends where the next row starts
  stands : (m : ℕ) (f : Field) → RowIs (ValueIs s t at) s x m f
      → pick (null_at s x m) (Ok (read Null (start_of m))) (stored_at true s (start_of m) (get_or sts 0 Boolean))
      ≡ Ok (read f (start_of (suc m)))
  unfolding value_at
  stands m f is = by-null (null_at s x m) refl
    where
      by-null : (null : Bool) → null_at s x m ≡ null
          → pick null (Ok (read Null (start_of m))) (stored_at true s (start_of m) (get_or sts 0 Boolean))
          ≡ Ok (read f (start_of (suc m)))
      by-null true e = rw (live_more s x m true (sym e), is.0 e)
      by-null false e =
          let y = nth-stands s t at (live_at s x m) f (is.1 e) in
          rw (live_more s x m false (sym e), y.more, y.before, stored) y.reads

  pub values_listed : (n from : ℕ) (before after : List ℕ) (end : ℕ) → from ≡ start_of 0 → n ≡ x.given
      → Ran s sts (run_of x) n from 0 before after end → RowsListed (ValueIs s t at) s x before after
  unfolding written flat_map
  values_listed n from before after end start many ran =
      record {
        says = λ fs len is.
            (ran.says start_of fs [] before (len ∙ sym many) (sym start)
            (λ m less. stands m (get_or fs m Null) (is m (rw (← len) less))) refl refl).1;
      }
