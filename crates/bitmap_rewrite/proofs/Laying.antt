-- The parts of a form laid one behind the other, and a bitmap whose form is laid so.
-- Assumes nothing.
use mathlib.Core.Path.{◌≡◌, sym, ap, ◌∙◌}
use mathlib.Core.List.{List, ◌++◌, append_assoc}
use Prim.Native.Nat.{ℕ, ◌+◌, ◌-◌, ◌/◌, ◌≤◌, ◌<◌}
use native.Mathlib.Omega.{arith}
use lib.ListN.{length, get_or, take, drop, length-append, length-drop}
use lib.Seq.{length-take-le}
use Rattle.common.specs.Outcome.{refused, found}
use Rattle.bitmap_spec.specs.Judge.{judge}
use Rattle.bitmap_spec.specs.Form.{form, write_chunks}
use Rattle.bitmap_spec.specs.Output.{written}
use Rattle.bitmap_laws.proofs.Length.{sum-le}
use Rattle.bitmap_laws.proofs.Output.{written-cat}
use Rattle.bitmap_laws.proofs.Round.{header, six-is}
use Rattle.bitmap_laws.proofs.Values.{AllLe}
use Rattle.form_write.proofs.Whole as whole
use Rattle.judge.specs.Post.{SliceView, View}
use Rattle.bitmap_rewrite.specs.Settled.{Settled, laid, Ready, Prepares}
use Rattle.bitmap_rewrite.specs.declared.Prepared.{Prepared}
use Rattle.std.specs.Prelude.{Ok, Err}
use Rattle.common.specs.declared.Refusal.{Refusal}
use Rattle.common.specs.Refusal.{number}
use Rattle.bitmap_rewrite.proofs.Settling.{describes, form-laid, settled-many}

pub length-laid : (s : List ℕ) (start : ℕ) (ds : List ℕ) (card : ℕ) → start ≤ length s
    → length (laid s start ds card) ≡ 6 + length (write_chunks (length ds / 256) ds) + (length s - start)
unfolding laid
length-laid s start ds card h = rw (length-append, six-is card (length ds), length-append, length-drop) (omega arith)

pub head-long : (ds : List ℕ) (card : ℕ)
    → length (header card (length ds) ++ write_chunks (length ds / 256) ds)
    ≡ 6 + length (write_chunks (length ds / 256) ds)
head-long ds card = rw (length-append, six-is card (length ds))

-- head, then the rest of s
pub both-laid : (s : List ℕ) (start : ℕ) (ds before o1 o2 : List ℕ) (card to : ℕ) → start ≤ length s
    → length (laid s start ds card) ≤ length before → to ≡ 6 + length (write_chunks (length ds / 256) ds)
    → o1 ≡ written before 0 (header card (length ds) ++ write_chunks (length ds / 256) ds)
    → o2 ≡ written o1 to (drop start s) → o2 ≡ written before 0 (laid s start ds card)
unfolding laid
both-laid s start ds before o1 o2 card to h room e p q =
    let n = head-long ds card in
    let m = length-laid s start ds card h in
    let d : length (drop start s) ≡ length s - start = length-drop start s in
    q
    ∙ rw p
    (written-cat before (header card (length ds) ++ write_chunks (length ds / 256) ds) (drop start s) 0 to
    (omega arith) (omega arith))
    ∙ ap (written before 0) (append_assoc (header card (length ds)) (write_chunks (length ds / 256) ds) (drop start s))

-- ---- a judged bitmap made ready
module _ (s d d' l : List ℕ) (n start m card size : ℕ) (j : judge s ≡ found l) (v : SliceView s d n start l)
    (small : (k : ℕ) → get_or s k 0 < 256) (ec : card ≡ length l) (len : length d' ≡ length d) (t : Settled d d' n m)
  where
    pub ready-many : length (take m d') ≡ m
    ready-many = settled-many s d d' l n start m card j v small ec len t

    pub ready-fine : AllLe 63 (take m d')
    ready-fine = whole.fine l m card (take m d') (describes s d d' l n start m card j v small ec len t)

    pub ready-few : m ≤ 8192
    ready-few = whole.few l m card (take m d') (describes s d d' l n start m card j v small ec len t)

    pub ready : length d' ≡ 8192 → size ≡ length (laid s start (take m d') 0) → Ready s d' l m start card size
    ready room e =
        let f : form l ≡ laid s start (take m d') card = form-laid s d d' l n start m card j v small ec len t in
        let h : start ≤ length s = omega (arith, v.ends) in
        record {
          few = ready-few;
          long = room;
          inside = h;
          fine = ready-fine;
          whole = f;
          sized = e ∙ length-laid s start (take m d') 0 h ∙ sym (ap length f ∙ length-laid s start (take m d') card h);
        }

pub prepares-refused : (s d : List ℕ) (r : Refusal) → judge s ≡ refused (number r) → Prepares s d (Err r)
unfolding Prepares
prepares-refused s d r e = e

pub prepares-form : (s d l : List ℕ) (p : Prepared) → judge s ≡ found l → Ready s d l p.count p.start p.cardinality p.size
    → Prepares s d (Ok p)
unfolding Prepares
prepares-form s d l p e r = (l, e, r)

pub told-refused : (s d : List ℕ) (r : Refusal) → Prepares s d (Err r) → judge s ≡ refused (number r)
unfolding Prepares
told-refused s d r p = p

pub told-ready : (s d : List ℕ) (p : Prepared) → Prepares s d (Ok p)
    → (l : List ℕ) × (judge s ≡ found l) × Ready s d l p.count p.start p.cardinality p.size
unfolding Prepares
told-ready s d p r = r

-- ---- the containers of few descriptors take few bytes
pub tail-few : (s d l : List ℕ) (n start : ℕ) → SliceView s d n start l
    → (start ≤ length s) × (length s ≤ start + 262144) × (n ≤ length d)
tail-few s d l n start v = (
  omega (arith, v.ends),
  omega
      (arith, v.ends, v.few, v.long, sum-le (take n d), length-take-le n d v.long),
  v.long,
)

-- of an array for all descriptors
pub array_view : (s d l : List ℕ) (n start : ℕ) → View s d n start l → SliceView s d n start l
array_view s d l n start v = record {
  few = v.few;
  long = omega (arith, v.few, v.long);
  ends = v.ends;
  sound = v.sound;
  members = v.members;
}
