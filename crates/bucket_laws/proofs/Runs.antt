-- Value j of a run that was read to its end is there: the values before it end at its place, and it is read there.
-- Assumes nothing.
use mathlib.Core.Path.{◌≡◌, refl, sym, ap, ◌∙◌}
use mathlib.Core.Bool.{true}
use mathlib.Core.List.{List}
use Prim.Native.Nat.{ℕ, zero, suc, ◌<◌}
use native.Mathlib.Nat.{not-suc-le-zero, le_of_suc-le-suc}
use Rattle.common.specs.Outcome.{refused, found}
use Rattle.common.proofs.Outcomes.{clash, same-found, then_found}
use Rattle.row_spec.specs.Value.{Value, value_at, on_value}
use Rattle.row_spec.specs.declared.ColumnType.{ColumnType}
use Rattle.row_spec.specs.declared.Field.{Field}
use Rattle.row_spec.specs.Read.{read}
use Rattle.std.specs.Prelude.{Ok, Err}
use Rattle.row_spec.specs.declared.ReadFault.TheVariants.{CutShort, IllFormed}
use Rattle.bucket_spec.specs.Piece.{values, here_of, nth}
use Rattle.bucket_laws.specs.Shown.{Among}

module _ (s : List ℕ) (t : ColumnType) where
  -- one value, then the rest
  values-read : (m at end : ℕ) → values s t (suc m) at ≡ found end
      → (f : Field) × ((next : ℕ) × ((value_at true s at t ≡ Ok (read f next)) × (values s t m next ≡ found end)))
  unfolding values
  values-read m at end e = by_value (value_at true s at t) refl e
    where
      by_value : (v : Value) → value_at true s at t ≡ v
          → on_value v (refused 31) (refused 32) (λ f next. values s t m next) ≡ found end
          → (f : Field) × ((next : ℕ) × ((value_at true s at t ≡ Ok (read f next)) × (values s t m next ≡ found end)))
      by_value (Err CutShort) p q = clash (cc)
      by_value (Err IllFormed) p q = clash (cc)
      by_value (Ok x) p q = (x.value, (x.next, (p, q)))

  values_one : (m at : ℕ) (f : Field) (next : ℕ) → value_at true s at t ≡ Ok (read f next)
      → values s t (suc m) at ≡ values s t m next
  unfolding values
  values_one m at f next p = rw p

  values-none : (at : ℕ) → values s t 0 at ≡ found at
  unfolding values
  values-none at = refl

  split : (m j at end : ℕ) → j < m → values s t m at ≡ found end
      → (p : ℕ) × ((values s t j at ≡ found p) × ((f : Field) × ((next : ℕ) × (value_at true s p t ≡ Ok (read f next)))))
  split zero j at end h e = absurd (not-suc-le-zero h)
  split (suc m) zero at end h e =
      let x = values-read m at end e in
      (at, (values-none at, (x.0, (x.1.0, x.1.1.0))))
  split (suc m) (suc j) at end h e =
      let x = values-read m at end e in
      let y = split m j x.1.0 end (le_of_suc-le-suc h) x.1.1.1 in
      (y.0, (values_one j at x.0 x.1.0 x.1.1.0 ∙ y.1.0, y.1.1))

  -- the value that was read there
  pub run_value : (m j at end : ℕ) → j < m → values s t m at ≡ found end → (f : Field) × Among s t at m j f
  run_value m j at end h e =
      let x = split m j at end h e in (
        x.1.1.0,
        record {
          end = end;
          all = e;
          below = h;
          place = x.0;
          before = x.1.0;
          next = x.1.1.1.0;
          reads = x.1.1.1.1;
        },
      )

  -- and the question for it is answered so
  pub run-nth : (m j at : ℕ) (f : Field) → Among s t at m j f → nth s t at j ≡ found f
  unfolding nth here_of
  run-nth m j at f a = rw (a.before, a.reads)

  -- one value more, where those before it end
  values-more : (j at p : ℕ) (f : Field) (next : ℕ) → values s t j at ≡ found p → value_at true s p t ≡ Ok (read f next)
      → values s t (suc j) at ≡ found next
  values-more zero at p f next e r =
      let here : at ≡ p = same-found (sym (values-none at) ∙ e) in
      rw here (values_one 0 p f next r ∙ values-none next)
  values-more (suc j) at p f next e r =
      let x = values-read j at p e in
      values_one (suc j) at x.0 x.1.0 x.1.1.0 ∙ values-more j x.1.0 p f next x.1.1.1 r

  -- A value that is answered stands where those before it end, and ends where with it one more ends.
  pub record Stands (at j : ℕ) (f : Field) : Type 0 where
    pub place : ℕ
    pub next : ℕ
    pub before : values s t j at ≡ found place
    pub reads : value_at true s place t ≡ Ok (read f next)
    pub more : values s t (suc j) at ≡ found next

  pub nth-stands : (at j : ℕ) (f : Field) → nth s t at j ≡ found f → Stands at j f
  unfolding nth here_of
  nth-stands at j f e =
      let x = then_found (values s t j at) (here_of s t) f e in
      by_value x.0 x.1.0 (value_at true s x.0 t) refl x.1.1
    where
      by_value : (p : ℕ) → values s t j at ≡ found p → (v : Value) → value_at true s p t ≡ v
          → on_value v (refused 31) (refused 32) (λ g next. found g) ≡ found f → Stands at j f
      by_value p b (Err CutShort) r q = clash (cc)
      by_value p b (Err IllFormed) r q = clash (cc)
      by_value p b (Ok x) r q =
          let reads : value_at true s p t ≡ Ok (read f x.next) =
          r ∙ ap (λ (h : Field). Ok (read h x.next)) (same-found q) in
          record { place = p; next = x.next; before = b; reads = reads; more = values-more j at p f x.next b reads }
