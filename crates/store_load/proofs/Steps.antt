-- The steps of loading: one entry read, one entry given, and all of a share.
-- Assumes nothing.
use mathlib.Core.Path.{◌≡◌, refl, sym, ap, ap₂, ◌∙◌}
use mathlib.Core.Logic.{⊎_elim}
use mathlib.Core.Bool.{Bool, true, false}
use mathlib.Core.List.{List, [], ◌∷◌, ◌++◌}
use Prim.Native.Nat.{ℕ, zero, suc, ◌+◌, ◌-◌, ◌*◌, ◌≤◌, ◌<◌}
use native.Mathlib.Nat.{eq-or-lt_of_le}
use native.Mathlib.Omega.{arith}
use borrow.Author.Tests.{le-leb, lt-leb}
use lib.ListN.{length, get_or, set, take, drop, length-append, length-set, get_or-append, get_or-eq_default}
use lib.Seq.{ext_get_or, get_or-append_seam, get_or-set_same, get_or-set_other}
use Rattle.common.specs.Outcome.{Outcome, refused, found, need}
use Rattle.bitmap_spec.specs.Output.{written}
use Rattle.bitmap_spec.proofs.Window.{below_or}
use Rattle.std.specs.Prelude.{Option, Some, None, Ok, Err}
use Rattle.row_spec.specs.Varint.{varint, varint_at}
use Rattle.row_spec.specs.declared.ReadFault.{ReadFault}
use Rattle.row_spec.specs.declared.Varint.{Varint}
use Rattle.store_spec.specs.Store.{is_form, length_at, end_at, entry_at, entries_of, total, Left}
use Rattle.bitmap_laws.proofs.Parts.{part_length}
use Rattle.store_laws.proofs.Slots.{same_or, Lies, form-few, entry-is, many-entries, entries-is}
use Rattle.store_laws.proofs.Changes.{laid-lies, laid-entries, length-kept, length-same, start-kept}
use Rattle.store_laws.proofs.Changes.{start-other, start-new, length-new, end_is, entry-none}
use Rattle.store_spec.specs.Saved.{is_entry, Taken, entry_from, Scan, scan}
use Rattle.bitmap_spec.proofs.Reading.{need-found}
use Rattle.store_laws.proofs.Scans.{empty-entry, some-entry, scan_step, scan-bad, scan-took, scan-over}
use Rattle.store_load.specs.Loading.{Given, Frames, Takes, Scans, Loading}
use Rattle.store_load.specs.declared.Entry.{Entry}
use Rattle.store_load.specs.declared.Scanned.{Scanned}

-- ---- an entry by its length
module _ (s : List ℕ) (at : ℕ) where
  pub unread : (f : ReadFault) → Err f ≡ varint_at s at → Frames s at None
  unfolding Frames entry_from
  unread f e = rw (← e)

  module _ (r : Varint) (e : Ok r ≡ varint_at s at) where
    pub padded-bad : r.shortest ≡ false → Frames s at None
    unfolding Frames entry_from
    padded-bad p = rw (← e, p)

    pub long-bad : r.shortest ≡ true → length s < r.next + r.number → Frames s at None
    unfolding Frames entry_from need
    long-bad p h = rw (← e, p, lt-leb _ _ h)

    pub framed : r.shortest ≡ true → r.next + r.number ≤ length s
        → Frames s at (Some (record { start = r.next; length = r.number }))
    unfolding Frames
    framed p h = (sym e ∙ ap (λ (b : Bool). Ok (varint r.number r.next b)) p, h)

pub frame-bad : (s : List ℕ) (at : ℕ) → Frames s at None → entry_from s at ≡ refused 42
unfolding Frames
frame-bad s at f = f

pub frame : (s : List ℕ) (at : ℕ) (e : Entry) → Frames s at (Some e)
    → (varint_at s at ≡ Ok (varint e.length e.start true)) × (e.start + e.length ≤ length s)
unfolding Frames
frame s at e f = f

-- ---- one entry read
module _ (s : List ℕ) (at a m : ℕ) (v : varint_at s at ≡ Ok (varint m a true)) (h : a + m ≤ length s) where
  is : entry_from s at
      ≡ need (is_entry (take m (drop a s))) 42 (found (record { entry = take m (drop a s); next = a + m }))
  unfolding entry_from need
  is = rw (v, le-leb _ _ h)

  form-is : (m ≡ 0 → ⊥) → is_entry (take m (drop a s)) ≡ is_form (take m (drop a s))
  form-is z = some-entry (take m (drop a s)) (λ q. z (sym (part_length s a m h) ∙ q))

  part : take (a + m - a) (drop a s) ≡ take m (drop a s)
  part = let p : a + m - a ≡ m = omega arith in rw p

  pub form-bad : (m ≡ 0 → ⊥) → false ≡ is_form (take (a + m - a) (drop a s)) → Takes s at None
  unfolding Takes need
  form-bad z f = is ∙ rw (form-is z, ← part, ← f)

  pub none-good : m ≡ 0 → Takes s at (Some (record { start = a; length = m }))
  unfolding Takes need
  none-good z = (
    is ∙ rw (empty-entry (take m (drop a s)) (part_length s a m h ∙ z)),
    record { inside = h; is_f = λ l. absurd (omega arith) },
  )

  pub form-good : (m ≡ 0 → ⊥) → true ≡ is_form (take (a + m - a) (drop a s)) → Takes s at (Some (record { start = a; length = m }))
  unfolding Takes need
  form-good z f = (is ∙ rw (form-is z, ← part, ← f), record { inside = h; is_f = λ l. sym (rw part at f) })

  -- where an entry is found, it is this one
  pub entry-there : (t : Taken) → entry_from s at ≡ found t
      → (entry_from s at ≡ found (record { entry = take m (drop a s); next = a + m })) × Given s a m
  unfolding need
  entry-there t e =
      let n = need-found (is_entry (take m (drop a s))) 42 _ t (sym is ∙ e) in (
        is ∙ rw n.0,
        record { inside = h; is_f = λ l. sym (form-is (λ z. omega arith)) ∙ n.0 },
      )

pub take-bad : (s : List ℕ) (at : ℕ) → entry_from s at ≡ refused 42 → Takes s at None
unfolding Takes
take-bad s at e = e

pub took-bad : (s : List ℕ) (at : ℕ) → Takes s at None → entry_from s at ≡ refused 42
unfolding Takes
took-bad s at t = t

pub took : (s : List ℕ) (at : ℕ) (e : Entry) → Takes s at (Some e)
    → (entry_from s at ≡ found (record { entry = take e.length (drop e.start s); next = e.start + e.length }))
    × Given s e.start e.length
unfolding Takes
took s at e t = t

-- ---- all entries read
pub scan-none : (s : List ℕ) (at : ℕ) (acc : List (List ℕ)) (n : ℕ) → n ≡ 0
    → scan s at acc n ≡ found (record { held = acc; next = at })
unfolding scan
scan-none s at acc n e = rw e

pub total-snoc : (acc : List (List ℕ)) (w : List ℕ) → total (acc ++ (w ∷ [])) ≡ total acc + length w
unfolding total
total-snoc [] w = omega arith
total-snoc (e ∷ es) w = omega (arith, total-snoc es w)

-- k of n read from `first` on: acc, ending at `at`
pub record Reading (s : List ℕ) (first n k at : ℕ) (acc : List (List ℕ)) : Type 0 where
  pub rest : scan s at acc (n - k) ≡ scan s first [] n
  pub many : length acc ≡ k

pub read-start : (s : List ℕ) (first n : ℕ) → Reading s first n 0 first []
read-start s first n = record { rest = ap (scan s first []) (let e : n - 0 ≡ n = omega arith in e); many = refl }

pub read-bad : (s : List ℕ) (first n k at : ℕ) (acc : List (List ℕ)) → Reading s first n k at acc → k < n
    → entry_from s at ≡ refused 42 → scan s first [] n ≡ refused 42
read-bad s first n k at acc g h e =
    let q : n - k ≡ suc (n - (k + 1)) = omega arith in
    sym g.rest ∙ ap (scan s at acc) q ∙ scan-bad s at acc (n - (k + 1)) e

pub read_more : (s : List ℕ) (first n k at a m : ℕ) (acc : List (List ℕ)) → Reading s first n k at acc → k < n
    → entry_from s at ≡ found (record { entry = take m (drop a s); next = a + m })
    → Reading s first n (k + 1) (a + m) (acc ++ (take m (drop a s) ∷ []))
read_more s first n k at a m acc g h e =
    let q : n - k ≡ suc (n - (k + 1)) = omega arith in
    record {
      rest =
          sym (scan_step s at acc (n - (k + 1)) (record { entry = take m (drop a s); next = a + m }) e)
          ∙ ap (scan s at acc) (sym q) ∙ g.rest;
      many = length-append acc (take m (drop a s) ∷ []) ∙ omega (arith, g.many);
    }

-- the next entry of those that were found
pub read_next : (s : List ℕ) (first n k at : ℕ) (acc : List (List ℕ)) (r : Scan) → Reading s first n k at acc → k < n
    → scan s first [] n ≡ found r → (t : Taken) × (entry_from s at ≡ found t)
read_next s first n k at acc r g h e =
    let q : n - k ≡ suc (n - (k + 1)) = omega arith in
    let t = scan-took s at acc (n - (k + 1)) r (ap (scan s at acc) (sym q) ∙ g.rest ∙ e) in
    (t.0, t.1)

pub read-end : (s : List ℕ) (first n k at : ℕ) (acc : List (List ℕ)) → Reading s first n k at acc → n ≤ k
    → scan s first [] n ≡ found (record { held = acc; next = at })
read-end s first n k at acc g h = sym g.rest ∙ scan-none s at acc (n - k) (omega arith)

-- the entries so far are no longer than all
scan-more : (s : List ℕ) (at : ℕ) (acc : List (List ℕ)) (n : ℕ) (r : Scan) → scan s at acc n ≡ found r
    → total acc ≤ total r.held
scan-more s at acc zero r e = omega (arith, ap (λ (y : Scan). total y.held) (scan-over s at acc r e))
scan-more s at acc (suc n) r e =
    let t = scan-took s at acc n r e in
    omega (arith, scan-more s t.0.next (acc ++ (t.0.entry ∷ [])) n r t.2, total-snoc acc t.0.entry)

pub read-room : (s : List ℕ) (first n k at : ℕ) (acc : List (List ℕ)) (r : Scan) → Reading s first n k at acc
    → scan s first [] n ≡ found r → total acc ≤ total r.held
read-room s first n k at acc r g e = scan-more s at acc (n - k) r (g.rest ∙ e)

-- ---- answers
pub scans-bad : (s : List ℕ) (first n : ℕ) → scan s first [] n ≡ refused 42 → Scans s first n None
unfolding Scans
scans-bad s first n e = e

pub scans-good : (s : List ℕ) (first n at t : ℕ) (acc : List (List ℕ))
    → scan s first [] n ≡ found (record { held = acc; next = at }) → t ≡ total acc
    → Scans s first n (Some (record { end = at; total = t }))
unfolding Scans
scans-good s first n at t acc e q = (record { held = acc; next = at }, e, refl, q)

pub scanned-bad : (s : List ℕ) (first n : ℕ) → Scans s first n None → scan s first [] n ≡ refused 42
unfolding Scans
scanned-bad s first n g = g

pub scanned : (s : List ℕ) (first n : ℕ) (e : Scanned) → Scans s first n (Some e)
    → (x : Scan) × (scan s first [] n ≡ found x) × (e.end ≡ x.next) × (e.total ≡ total x.held)
unfolding Scans
scanned s first n e g = g

pub total-none : 0 ≡ total []
unfolding total
total-none = refl

pub given-few : (s : List ℕ) (a m : ℕ) → Given s a m → m ≤ 268390
given-few s a m g =
    ⊎_elim (λ l. omega (arith, form-few (take m (drop a s)) (g.is_f l), part_length s a m g.inside))
    (λ l. omega arith) (below_or 0 m)

pub more-total : (s : List ℕ) (a m t : ℕ) (acc : List (List ℕ)) → Given s a m → t ≡ total acc
    → t + m ≡ total (acc ++ (take m (drop a s) ∷ []))
more-total s a m t acc g e = omega (arith, total-snoc acc (take m (drop a s)), part_length s a m g.inside)

-- ---- one entry given
snoc-none : (acc : List (List ℕ)) (j : ℕ) → get_or (acc ++ ([] ∷ [])) j [] ≡ get_or acc j []
snoc-none [] zero = refl
snoc-none [] (suc j) = refl
snoc-none (e ∷ es) zero = refl
snoc-none (e ∷ es) (suc j) = snoc-none es j

pub load-start : (n : ℕ) (dir buf : List ℕ) → ((j : ℕ) → j < n → length_at dir j ≡ 0) → Loading n dir buf 0 0 []
load-start n dir buf h = record {
  lies = record {
    inside = λ k l p. absurd (omega (arith, h k l));
    forms = λ k l p. absurd (omega (arith, h k l));
    clear = λ k j l m d p q. absurd (omega (arith, h k l));
  };
  empty = λ j p l. h j l;
  ends = λ j l p. absurd (omega (arith, h j l));
  held = λ j l. entry-none dir buf j (h j l);
  many = refl;
  sum = total-none;
  few = omega arith;
}

pub give-none : (n : ℕ) (dir buf s : List ℕ) (k a m to : ℕ) → m ≡ 0 → (acc : List (List ℕ)) → Loading n dir buf k to acc
    → Loading n dir buf (k + 1) (to + m) (acc ++ (take m (drop a s) ∷ []))
give-none n dir buf s k a m to z acc g = rw z (record {
  lies = g.lies;
  empty = λ j p l. g.empty j (omega arith) l;
  ends = λ j l p. omega (arith, g.ends j l p);
  held = λ j l. g.held j l ∙ sym (snoc-none acc j);
  many = length-append acc ([] ∷ []) ∙ omega (arith, g.many);
  sum = omega (arith, g.sum, total-snoc acc []);
  few = omega (arith, g.few);
})

module _ (n : ℕ) (dir buf s : List ℕ) (k a m to : ℕ) (acc : List (List ℕ)) (g : Loading n dir buf k to acc)
    (len : length dir ≡ 2 * n) (h : k < n) (v : Given s a m) (some : m ≡ 0 → ⊥) (room : to + m ≤ length buf) where
  w-long : m ≡ length (take m (drop a s))
  w-long = sym (part_length s a m v.inside)

  w-form : is_form (take m (drop a s)) ≡ true
  w-form = v.is_f (⊎_elim (λ l. l) (λ l. absurd (some (omega arith))) (below_or 0 m))

  D : List ℕ
  D = set (set dir (2 * k) to) (2 * k + 1) m

  old-length : (j : ℕ) → (j ≡ k → ⊥) → length_at (set (set dir (2 * k) to) (2 * k + 1) m) j ≡ length_at dir j
  old-length j d = length-kept (set dir (2 * k) to) k m j d ∙ length-same dir k to j

  entry : (j : ℕ) → j < n
      → entry_at (set (set dir (2 * k) to) (2 * k + 1) m) (written buf to (take m (drop a s))) j
      ≡ get_or (set (entries_of n dir buf) k (take m (drop a s))) j []
  entry j l = sym (entry-is n (set (set dir (2 * k) to) (2 * k + 1) m) (written buf to (take m (drop a s))) j l)
      ∙ ap (λ (es : List (List ℕ)). get_or es j [])
      (laid-entries n dir buf k to m (take m (drop a s)) g.lies len h g.ends w-long room w-form
      (g.empty k (omega arith) h))

  new-end : (j : ℕ) → j ≡ k → end_at (set (set dir (2 * k) to) (2 * k + 1) m) j ≡ to + m
  new-end j q =
      ap (λ (y : ℕ). end_at (set (set dir (2 * k) to) (2 * k + 1) m) y) q
      ∙ end_is (set (set dir (2 * k) to) (2 * k + 1) m) k
      ∙ ap₂ (λ (x y : ℕ). x + y) (start-kept (set dir (2 * k) to) k m k ∙ start-new dir k to (omega arith))
      (length-new (set dir (2 * k) to) k m (rw length-set (omega arith)))

  old-end : (j : ℕ) → (j ≡ k → ⊥) → end_at (set (set dir (2 * k) to) (2 * k + 1) m) j ≡ end_at dir j
  old-end j d =
      end_is (set (set dir (2 * k) to) (2 * k + 1) m) j
      ∙ ap₂ (λ (x y : ℕ). x + y) (start-kept (set dir (2 * k) to) k m j ∙ start-other dir k to j d) (old-length j d)
      ∙ sym (end_is dir j)

  placed : (j : ℕ) → j < n
      → get_or (set (entries_of n dir buf) k (take m (drop a s))) j [] ≡ get_or (acc ++ (take m (drop a s) ∷ [])) j []
  placed j l = ⊎_elim
      (λ q. ap (get_d_at) q
      ∙ get_or-set_same (entries_of n dir buf) k (take m (drop a s)) [] (rw (many-entries n dir buf) h)
      ∙ sym (get_or-append_seam acc (take m (drop a s)) [] [])
      ∙ ap (λ (y : ℕ). get_or (acc ++ (take m (drop a s) ∷ [])) y []) (g.many ∙ sym q))
      (λ q. get_or-set_other (entries_of n dir buf) k j (take m (drop a s)) [] q ∙ entry-is n dir buf j l ∙ g.held j l
      ∙ ⊎_elim (λ p. sym (get_or-append acc (take m (drop a s) ∷ []) [] j (omega (arith, g.many))))
      (λ p. get_or-eq_default acc [] {n = j} (omega (arith, g.many))
      ∙ sym (get_or-eq_default (acc ++ (take m (drop a s) ∷ [])) [] {n = j}
      (omega (arith, g.many, length-append acc (take m (drop a s) ∷ []), after p q))))
      (below_or j k)) (same_or j k)
    where
      get_d_at : ℕ → List ℕ
      get_d_at y = get_or (set (entries_of n dir buf) k (take m (drop a s))) y []

      after : k ≤ j → (j ≡ k → ⊥) → k < j
      after p q = ⊎_elim (λ e. absurd (q (sym e))) (λ e. e) (eq-or-lt_of_le p)

  pub give-some : (dir' buf' : List ℕ) → dir' ≡ set (set dir (2 * k) to) (2 * k + 1) m
      → buf' ≡ written buf to (take m (drop a s))
      → Loading n dir' buf' (k + 1) (to + m) (acc ++ (take m (drop a s) ∷ []))
  give-some dir' buf' ed eb =
      rw (ed, eb) (record {
        lies =
            laid-lies n dir buf k to m (take m (drop a s)) g.lies len h g.ends w-long room w-form
            (g.empty k (omega arith) h);
        empty = λ j p l. old-length j (λ q. omega arith) ∙ g.empty j (omega arith) l;
        ends =
            λ j l p.
            ⊎_elim (λ q. omega (arith, new-end j q))
            (λ q. omega (arith, old-end j q, g.ends j l (rw (old-length j q) at p))) (same_or j k);
        held = λ j l. entry j l ∙ placed j l;
        many = length-append acc (take m (drop a s) ∷ []) ∙ omega (arith, g.many);
        sum = more-total s a m to acc v g.sum;
        few = omega (arith, g.few, given-few s a m v);
      })

-- ---- the whole call
pub not-both : {A : Type 0} (o : Outcome Scan) (x : Scan) → o ≡ found x → o ≡ refused 42 → A
not-both o x p q = absurd (let z : ◌≡◌ {A = ℕ} 0 1 = cc in omega arith)

pub same_entries : (o : Outcome Scan) (acc : List (List ℕ)) (at : ℕ) (x : Scan)
    → o ≡ found (record { held = acc; next = at }) → o ≡ found x → acc ≡ x.held
same_entries o acc at x p q =
    let e : ◌≡◌ {A = Scan} (record { held = acc; next = at }) x = cc in
    ap (λ (y : Scan). y.held) e

-- slots that were given the entries es mean them
pub given-left : (n : ℕ) (dir buf dir' buf' : List ℕ) (es : List (List ℕ)) → length dir' ≡ length dir
    → length buf' ≡ length buf → length dir ≡ 2 * n → length es ≡ n → Lies n dir' buf'
    → ((j : ℕ) → j < n → entry_at dir' buf' j ≡ get_or es j []) → Left (found es) n dir buf dir' buf'
unfolding Left
given-left n dir buf dir' buf' es d b len m l g = (d, b, entries-is n dir' buf' (d ∙ len) l ∙ ap found entries)
  where
    entries : entries_of n dir' buf' ≡ es
    entries =
        ext_get_or [] (entries_of n dir' buf') es (many-entries n dir' buf' ∙ sym m)
        (λ j p. let r : j < n = rw (many-entries n dir' buf') at p in entry-is n dir' buf' j r ∙ g j r)
