-- A question for a row and a column that an accepted bucket has is answered, and the answer is the stored value: each
-- piece of the column was read where it starts, and the row's number among those that are not null is below how many
-- values or indexes there are.
-- Assumes nothing.
use mathlib.Core.Path.{◌≡◌, refl, sym, ◌∙◌}
use mathlib.Core.Bool.{Bool, true, false, not}
use mathlib.Core.Logic.{◌⊎◌, inl, inr, ⊎_elim}
use mathlib.Core.List.{List, []}
use Prim.Native.Nat.{ℕ, zero, suc, ◌+◌, ◌*◌, ◌<◌}
use native.Mathlib.Omega.{arith}
use borrow.Author.Tests.{eqb-true, eqb-false, ne_eqb, lt-ltb, ltb-true}
use lib.ListN.{length}
use lib.Dec.{ltb, eqb}
use Rattle.common.specs.Outcome.{pick, both, either, found, need}
use Rattle.common.specs.Bytes.{ceil8, low_bit}
use Rattle.common.proofs.Lists.{both_left, both_right}
use Rattle.common.proofs.Outcomes.{clash, same-found, then_found}
use Rattle.common.proofs.LowBits.{bits_small}
use Rattle.row_spec.specs.Schema.{schema}
use Rattle.row_spec.specs.Answer.{inside}
use Rattle.row_spec.specs.declared.Column.{Column}
use Rattle.row_spec.specs.declared.Field.{Field}
use Rattle.row_spec.specs.declared.Field.TheVariants.{Null}
use Rattle.row_laws.proofs.Read.{need-found}
use Rattle.row_laws.proofs.Values.{value-inside, value-some}
use Rattle.bucket_spec.specs.Piece.{value_of}
use Rattle.bucket_spec.specs.Bucket.{Judged, col_of, tag_of, mapped, piece_of, tag_allowed, is_null, answer, bucket}
use Rattle.bucket_spec.specs.Bucket.{bucket_field}
use Rattle.bucket_laws.specs.Shown.{Among, column_at, tag_at, has_nulls, const_at, table_at, nulls_at, cells_at, NullAt}
use Rattle.bucket_laws.specs.Shown.{reply_at, live_before}
use Rattle.bucket_laws.specs.Shown.{PlainAt, ConstAt, DictAt, Counts, Answered, Stored}
use Rattle.bucket_laws.proofs.Runs.{run_value, run-nth}
use Rattle.bucket_laws.proofs.Width.{index-width}
use Rattle.bucket_laws.proofs.Live.{live-none, live-next, live_same, live-less}
use Rattle.bucket_laws.specs.Laid.{LaidOut}
use Rattle.bucket_laws.proofs.Laid.{order-reads, bucket-allowed, bucket-laid}
use Rattle.bucket_laws.proofs.Pieces.{const-read, table-read, nulls-read, plain-read, dict-read}
use Rattle.bucket_laws.proofs.Pieces.{value-const, value-plain, value-dict}

-- ---- tests on numbers
-- a set null bit counts where there is a bitmap
null-cases : (tag : ℕ) (m : Bool) (bit : ℕ) → either (eqb tag 3) (both m (eqb bit 1)) ≡ true
    → (tag ≡ 3) ⊎ ((m ≡ true) × (bit ≡ 1))
null-cases tag m bit e = by-tag (eqb tag 3) refl e
  where
    by_map : (t : Bool) → both t (eqb bit 1) ≡ true → (t ≡ true) × (bit ≡ 1)
    by_map true q = (refl, eqb-true bit 1 q)
    by_map false q = clash (cc)

    by-tag : (t : Bool) → eqb tag 3 ≡ t → either t (both m (eqb bit 1)) ≡ true → (tag ≡ 3) ⊎ ((m ≡ true) × (bit ≡ 1))
    by-tag true h q = inl (eqb-true tag 3 h)
    by-tag false h q = inr (by_map m q)

null-never : (tag has bit : ℕ) → either (eqb tag 3) (both (both (eqb has 1) (not (eqb tag 3))) (eqb bit 1)) ≡ false
    → (tag ≡ 3) ⊎ ((has ≡ 1) × (bit ≡ 1)) → ⊥
null-never tag has bit e w = by-tag (eqb tag 3) refl e
  where
    by-tag : (t : Bool) → eqb tag 3 ≡ t → either t (both (both (eqb has 1) (not t)) (eqb bit 1)) ≡ false → ⊥
    by-tag true h q = clash (cc)
    by-tag false h q =
        ⊎_elim (λ v. eqb-false tag 3 h v) (λ v. clash (cc (rw (v.0, v.1) at q))) w

tag-allowed : (nullable : Bool) (n tag : ℕ) → either nullable (either (eqb n 0) (not (eqb tag 3))) ≡ true → 0 < n
    → tag ≡ 3 → nullable ≡ true
tag-allowed true n tag e h q = refl
tag-allowed false n tag e h q =
    clash (cc (rw (ne_eqb n 0 (λ p. omega arith), q) at e))

one_of_three : (t : ℕ) → t < 4 → (t ≡ 3 → ⊥) → (t ≡ 0) ⊎ ((t ≡ 1) ⊎ (t ≡ 2))
one_of_three zero h g = inl refl
one_of_three (suc zero) h g = inr (inl refl)
one_of_three (suc (suc zero)) h g = inr (inr refl)
one_of_three (suc (suc (suc t))) h g = absurd (g (omega arith))

-- ---- rows that are not null
module _ (cols : List Column) (n : ℕ) (s : List ℕ) (b : Judged) (i : ℕ) where
  abbrev mapped_at : Bool
  mapped_at = mapped cols n s b.tags (b.tags + ceil8 (2 * length cols)) i

  mapped-has : mapped_at ≡ true → has_nulls cols n s b i ≡ 1
  unfolding mapped
  mapped-has e = eqb-true (has_nulls cols n s b i) 1 (both_left (eqb (has_nulls cols n s b i) 1) _ e)

  has-mapped : has_nulls cols n s b i ≡ 1 → (tag_at cols n s b i ≡ 3 → ⊥) → mapped_at ≡ true
  unfolding mapped tag_of
  has-mapped e h = rw (e, ne_eqb (tag_at cols n s b i) 3 h)

  -- the test of a row, where the column is not ALL_NULL
  pub null-true : (r : ℕ) → both mapped_at (eqb (low_bit s (nulls_at cols n s b i) r) 1) ≡ true → NullAt cols n s b i r
  null-true r e =
      let bit = low_bit s (nulls_at cols n s b i) r in
      inr (mapped-has (both_left mapped_at (eqb bit 1) e), eqb-true bit 1 (both_right mapped_at (eqb bit 1) e))

  pub null-false : (r : ℕ) → (tag_at cols n s b i ≡ 3 → ⊥)
      → both mapped_at (eqb (low_bit s (nulls_at cols n s b i) r) 1) ≡ false → NullAt cols n s b i r → ⊥
  null-false r h e w = ⊎_elim h (λ v. clash (cc (rw (has-mapped v.0 h, v.1) at e))) w

  pub counts : Counts cols n s b i
  counts =
      record {
        none = live-none s (nulls_at cols n s b i) mapped_at;
        some = λ r h. live-next s (nulls_at cols n s b i) mapped_at r (λ m q. h (inr (mapped-has m, q)));
        null = λ r h w. ⊎_elim (λ v. absurd (h v)) (λ v. by_map r (has-mapped v.0 h) v.1) w;
      }
    where
      by_map : (r : ℕ) → mapped_at ≡ true → low_bit s (nulls_at cols n s b i) r ≡ 1
          → live_before cols n s b i (suc r) ≡ live_before cols n s b i r
      by_map r m q = rw m (live_same s (nulls_at cols n s b i) r q)

-- ---- one row and one column of an accepted bucket
module _ (cols : List Column) (n : ℕ) (s : List ℕ) (b : Judged) (r i : ℕ) (accepted : bucket cols n s ≡ found b)
    (row : r < n) (column : i < length cols) where
  abbrev col : Column
  col = column_at cols n s b i

  abbrev tag : ℕ
  tag = tag_at cols n s b i

  abbrev map : Bool
  map = mapped_at cols n s b i

  abbrev const : ℕ
  const = const_at cols n s b i

  abbrev table : ℕ
  table = table_at cols n s b i

  abbrev nulls : ℕ
  nulls = nulls_at cols n s b i

  abbrev cells : ℕ
  cells = cells_at cols n s b i

  abbrev is_null_here : Bool
  is_null_here = is_null cols n s b.tags (b.tags + ceil8 (2 * length cols)) b.layout r i

  abbrev Value : Field → Type 0
  Value f = value_of s col.ty tag map r const table nulls cells ≡ found f

  laid : LaidOut cols n s b
  laid = bucket-laid cols n s b accepted

  -- the column's four pieces were read where they start
  abbrev Read : ℕ → List ℕ → List ℕ → ℕ → Type 0
  Read part tables nulls at =
      (next : ℕ) × (piece_of cols n s b.tags (b.tags + ceil8 (2 * length cols)) part tables nulls i at ≡ found next)

  const-here : Read 0 [] [] const
  const-here = order-reads _ _ _ _ _ laid.consts i column

  table_here : Read 1 [] [] table
  table_here = order-reads _ _ _ _ _ laid.tables i column

  nulls-here : Read 2 [] [] nulls
  nulls-here = order-reads _ _ _ _ _ laid.nulls i column

  cells-here : Read 3 b.layout.tables b.layout.nulls cells
  cells-here = order-reads _ _ _ _ _ laid.cells i column

  -- what the question comes to
  asked : reply_at cols n s b i r ≡ pick is_null_here (found Null) (value_of s col.ty tag map r const table nulls cells)
  unfolding answer need col_of tag_of
  asked = rw (lt-ltb r n row, lt-ltb i (length cols) column)

  abbrev Replied : Type 0
  Replied = Answered (reply_at cols n s b i r) cols n s b r i

  -- ---- a null row
  module _ (e : is_null_here ≡ true) where
    why : (tag ≡ 3) ⊎ ((map ≡ true) × (low_bit s nulls r ≡ 1))
    unfolding is_null tag_of
    why = null-cases tag map (low_bit s nulls r) e

    nullable : col.nullable ≡ true
    unfolding tag_allowed piece_of col_of tag_of
    nullable =
        let allowed = bucket-allowed cols n s b accepted i column in
        ⊎_elim (λ w. tag-allowed col.nullable n tag allowed (omega arith) w)
        (λ w. nulls-read s col tag map n _ _ nulls _ nulls-here.1 w.0 r row w.1) why

    is-null : NullAt cols n s b i r
    is-null = ⊎_elim (λ w. inl w) (λ w. inr (mapped-has cols n s b i w.0, w.1)) why

    answered-null : Replied
    unfolding inside
    answered-null =
        record {
          field = Null;
          given = asked ∙ rw e;
          shows = record {
            null = λ w. refl;
            only = λ q. is-null;
            allowed = λ q. nullable;
            tag = bits_small s b.tags (2 * i) 2;
            plain = λ w. absurd (w is-null);
            const = λ w. absurd (w is-null);
            dict = λ w. absurd (w is-null);
            within = refl;
          };
        }

  -- ---- a row that is not null
  module _ (e : is_null_here ≡ false) where
    not_null : NullAt cols n s b i r → ⊥
    unfolding is_null tag_of mapped
    not_null w = null-never tag (has_nulls cols n s b i) (low_bit s nulls r) e w

    less : live_before cols n s b i r < live_before cols n s b i n
    less = live-less s nulls map r n row (λ m q. not_null (inr (mapped-has cols n s b i m, q)))

    -- the value that was read, and what its tag says of it
    answer-with : (f : Field) (at m j : ℕ) → Among s col.ty at m j f → Value f → (tag ≡ 0 → PlainAt cols n s b i r f)
        → (tag ≡ 1 → ConstAt cols n s b i f) → (tag ≡ 2 → DictAt cols n s b i r f) → Replied
    answer-with f at m j a v p c x =
        let some : f ≡ Null → ⊥ = value-some s f a.next true a.place col.ty a.reads in
        record {
          field = f;
          given = asked ∙ rw e v;
          shows = record {
            null = λ w. absurd (not_null w);
            only = λ q. absurd (some q);
            allowed = λ q. absurd (some q);
            tag = bits_small s b.tags (2 * i) 2;
            plain = λ w. p;
            const = λ w. c;
            dict = λ w. x;
            within = value-inside s f a.next true a.place col.ty a.reads;
          };
        }

    answered-plain : tag ≡ 0 → Replied
    unfolding piece_of col_of tag_of
    answered-plain q =
        let all = plain-read s col tag map n table nulls cells _ cells-here.1 q in
        let x = run_value s col.ty (live_before cols n s b i n) (live_before cols n s b i r) cells _ less all in
        let v = value-plain s col.ty tag map r const table nulls cells x.0 q (run-nth s _ _ _ _ x.0 x.1) in
        answer-with x.0 _ _ _ x.1 v (λ p. x.1) (λ p. absurd (omega arith)) (λ p. absurd (omega arith))

    answered-const : tag ≡ 1 → Replied
    unfolding piece_of col_of tag_of
    answered-const q =
        let all = const-read s col tag map n _ _ const _ const-here.1 q in
        let x = run_value s col.ty 1 0 const _ (omega arith) all in
        let v = value-const s col.ty tag map r const table nulls cells x.0 q (run-nth s _ _ _ _ x.0 x.1) in
        answer-with x.0 _ _ _ x.1 v (λ p. absurd (omega arith)) (λ p. x.1) (λ p. absurd (omega arith))

    answered-dict : tag ≡ 2 → Replied
    unfolding piece_of col_of tag_of
    answered-dict q =
        let t = table-read s col tag map n _ _ table _ table_here.1 q in
        let k = dict-read s col tag map n table nulls cells _ t cells-here.1 q in
        let below = k.below (live_before cols n s b i r) less in
        let x = run_value s col.ty t.entries _ t.first t.end below t.all in
        let nth = run-nth s _ _ _ _ x.0 x.1 in
        let v =
        value-dict s col.ty tag map r const table nulls cells x.0 q t.entries t.first t.short t.count nth in
        answer-with x.0 _ _ _ x.1 v (λ p. absurd (omega arith)) (λ p. absurd (omega arith)) (λ p.
        record {
          entries = t.entries;
          first = t.first;
          short = t.short;
          count = t.count;
          least = t.least;
          most = t.most;
          width = index-width t.entries t.least t.most;
          below = less;
          room = k.room;
          entry = x.1;
        })

    answered-some : Replied
    answered-some =
        let few = bits_small s b.tags (2 * i) 2 in
        ⊎_elim answered-plain (λ w. ⊎_elim answered-const answered-dict w)
        (one_of_three tag few (λ q. not_null (inl q)))

  -- The answer of an accepted bucket to a row and a column that it has is the stored field.
  pub replied : Replied
  replied = by-null is_null_here refl
    where
      by-null : (t : Bool) → is_null_here ≡ t → Replied
      by-null true e = answered-null e
      by-null false e = answered-some e

-- So is the answer to the question, by the schema's bytes.
pub answered : (d : List ℕ) (cols : List Column) (n : ℕ) (s : List ℕ) (b : Judged) (r i : ℕ) → schema d ≡ found cols
    → bucket cols n s ≡ found b → r < n → i < length cols → Answered (bucket_field d n s r i) cols n s b r i
unfolding bucket_field
answered d cols n s b r i read accepted row column =
    let x = replied cols n s b r i accepted row column in
    record { field = x.field; given = rw (read, accepted) x.given; shows = x.shows }

-- Every answer is the stored field of a row and a column that an accepted bucket has.
pub stored : (d : List ℕ) (n : ℕ) (s : List ℕ) (r i : ℕ) (f : Field) → bucket_field d n s r i ≡ found f
    → Stored d n s r i f
unfolding bucket_field answer
stored d n s r i f e =
    let c = then_found (schema d) _ f e in
    let b = then_found (bucket c.0 n s) _ f c.1.1 in
    let h = (need-found (both (ltb r n) (ltb i (length c.0))) 25 _ f b.1.1).0 in
    let row = ltb-true r n (both_left (ltb r n) (ltb i (length c.0)) h) in
    let column = ltb-true i (length c.0) (both_right (ltb r n) (ltb i (length c.0)) h) in
    let a = answered d c.0 n s b.0 r i c.1.0 b.1.0 row column in
    record {
      cols = c.0;
      read = c.1.0;
      judged = b.0;
      accepted = b.1.0;
      row = row;
      column = column;
      shows = rw (same-found (sym a.given ∙ e)) at a.shows;
    }
