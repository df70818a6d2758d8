-- The written form of a set is accepted as that set, and so is any other that differs from it in widths alone.
-- Assumes nothing.
use mathlib.Core.Path.{◌≡◌, refl, sym, ap, ◌∙◌}
use mathlib.Core.Bool.{true}
use mathlib.Core.List.{List, [], ◌∷◌, ◌++◌, map, append_assoc, append-nil}
use Prim.Native.Nat.{ℕ, ◌+◌, ◌*◌, ◌/◌, ◌%◌, ◌≤◌, ◌<◌}
use native.Mathlib.Omega.{arith}
use borrow.Author.Tests.{le-leb, eq-eqb}
use lib.ListN.{length, get_or, length-append, length-map}
use Rattle.common.specs.Bytes.{little_at}
use Rattle.common.specs.Lists.{from, sum}
use Rattle.common.specs.Outcome.{found, need}
use Rattle.bitmap_spec.specs.Form.{form, form_of, cut, count_of, descriptor_of, width, largest, cost, write_chunks}
use Rattle.bitmap_spec.specs.Form.{write_containers, little}
use Rattle.bitmap_spec.specs.Judge.{chunks, size_of, containers_ok, members_from, judge, judge_body}
use Rattle.bitmap_spec.specs.Sets.{IsSet}
use Rattle.bitmap_laws.proofs.Bodies.{descs-le, sizes-are, all-ok, members-back}
use Rattle.bitmap_laws.proofs.Cuts.{AllUp, joined, joined-form, cuts-up, length-cuts}
use Rattle.bitmap_laws.proofs.Rise.{count-bound, rising-length}
use Rattle.bitmap_laws.proofs.Values.{chosen-le}
use Rattle.bitmap_laws.proofs.Written.{chunks-back, chunks-by}
use Rattle.bitmap_laws.specs.Widths.{chunks_by, chosen_by, form_of_by, form_by}

-- the header's six bytes
unfoldable pub header : ℕ → ℕ → List ℕ
header card n = 1 ∷ (card % 256) ∷ (card / 256 % 256) ∷ (card / 256 / 256 % 256) ∷ (n % 256) ∷ (n / 256 % 256) ∷ []

pub form-is : (card : ℕ) (cs : List (List ℕ)) → form_of card cs
    ≡ header card (length cs) ++ (write_chunks (length cs / 256) (map descriptor_of cs) ++ write_containers cs)
unfolding form_of little header
form-is card cs = refl

pub form_by-is : (b : ℕ → List ℕ → ℕ) (card : ℕ) (cs : List (List ℕ)) → form_of_by b card cs
    ≡ header card (length cs) ++ (chunks_by b (length cs / 256) (map descriptor_of cs) ++ write_containers cs)
unfolding form_of_by little header
form_by-is b card cs = refl

card-is : (card n : ℕ) (t : List ℕ) → card < 16777216 → little_at (header card n ++ t) 1 3 ≡ card
unfolding little_at header
card-is card n t h = omega arith

pub count-is : (card n : ℕ) (t : List ℕ) → n < 65536 → little_at (header card n ++ t) 4 2 ≡ n
unfolding little_at header
count-is card n t h = omega arith

six : (card n : ℕ) (t : List ℕ) → 6 ≤ length (header card n ++ t)
unfolding header
six card n t = omega arith

version : (card n : ℕ) (t : List ℕ) → get_or (header card n ++ t) 0 0 ≡ 1
unfolding header
version card n t = refl

pub six-is : (card n : ℕ) → length (header card n) ≡ 6
unfolding header
six-is card n = refl

-- a judgement from its parts, over plain variables
judged : (s ds : List ℕ) (n next : ℕ) (l : List ℕ) → 6 ≤ length s → get_or s 0 0 ≡ 1 → little_at s 4 2 ≡ n → n ≤ 8192
    → chunks s 6 [] (n / 256) (n % 256) ≡ found (record { descs = ds; next = next }) → next + sum size_of ds ≡ length s
    → containers_ok s next ds ≡ true → members_from s 0 next ds ≡ l → little_at s 1 3 ≡ length l → judge s ≡ found l
unfolding judge judge_body need
judged s ds n next l h6 v e h8 c9 size ok mem e3 =
    rw (le-leb 6 (length s) h6, eq-eqb _ _ v, e, le-leb n 8192 h8, c9, eq-eqb _ _ size, ok, mem, eq-eqb _ _ e3)

-- header, the bytes w of descriptors that are read back, and the containers
laid-back : (card : ℕ) (cs : List (List ℕ)) (w : List ℕ) → AllUp cs → length cs ≤ 8192 → card < 16777216
    → card ≡ length (joined 0 cs)
    → chunks (header card (length cs) ++ (w ++ write_containers cs)) 6 [] (length cs / 256) (length cs % 256)
    ≡ found (record { descs = map descriptor_of cs; next = 6 + length w })
    → judge (header card (length cs) ++ (w ++ write_containers cs)) ≡ found (joined 0 cs)
laid-back card cs w a few small e c =
    let h : List ℕ = header card (length cs) in
    let six-bytes = six-is card (length cs) in
    let front : length (header card (length cs) ++ w) ≡ 6 + length w =
    length-append (header card (length cs)) w ∙ rw six-bytes in
    let turned : (header card (length cs) ++ w) ++ (write_containers cs ++ []) ≡ h ++ (w ++ write_containers cs) =
    rw (append-nil (write_containers cs)) (append_assoc (header card (length cs)) w (write_containers cs)) in
    let size : 6 + length w + sum size_of (map descriptor_of cs) ≡ length (h ++ (w ++ write_containers cs)) =
    rw (sizes-are cs, length-append h, length-append w (write_containers cs), six-bytes) (omega arith) in
    let ok = rw (turned, front) at (all-ok (header card (length cs) ++ w) [] cs a) in
    let members = rw (turned, front) at (members-back (header card (length cs) ++ w) [] 0 cs a) in
    judged (h ++ (w ++ write_containers cs)) (map descriptor_of cs) (length cs) (6 + length w) (joined 0 cs)
    (six card (length cs) _) (version card (length cs) _) (count-is card (length cs) _ (omega arith)) few c size ok
    members (card-is card (length cs) _ small ∙ e)

module _ (b : ℕ → List ℕ → ℕ) (b-le : (k : ℕ) (vs : List ℕ) → b k vs ≤ largest (map width vs)) where
  form_of-back : (card : ℕ) (cs : List (List ℕ)) → AllUp cs → length cs ≤ 8192 → card < 16777216
      → card ≡ length (joined 0 cs) → judge (form_of_by b card cs) ≡ found (joined 0 cs)
  form_of-back card cs a few small e =
      let k : ℕ = length cs / 256 in
      let many : length (map descriptor_of cs) ≡ length cs / 256 * 256 + length cs % 256 =
      length-map cs descriptor_of ∙ omega arith in
      let back = chunks-back b b-le (header card (length cs)) (write_containers cs) [] k (length cs % 256) in
      let c = rw (six-is card (length cs)) at (back (map descriptor_of cs) (descs-le cs) many (omega arith)) in
      rw (form_by-is b card cs) (laid-back card cs (chunks_by b k (map descriptor_of cs)) a few small e c)

  -- a set is accepted whatever width up to its largest each chunk has
  pub any-widths : (l : List ℕ) → IsSet l → judge (form_by b l) ≡ found l
  unfolding form_by
  any-widths l s =
      let j = joined-form l s in
      let small : length l < 16777216 = omega (arith, rising-length 2097152 0 l (omega arith) s) in
      let cs : List (List ℕ) = map (cut l) (from 0 (count_of l)) in
      let few : length (map (cut l) (from 0 (count_of l))) ≤ 8192 = rw (length-cuts l) (count-bound l s) in
      form_of-back (length l) cs (cuts-up l (from 0 (count_of l))) few small (ap length (sym j))
      ∙ ap found j

-- the form is by its cost
pub form-by : (l : List ℕ) → form l ≡ form_by (λ k. chosen_by cost) l
unfolding form form_by
form-by l =
    let cs : List (List ℕ) = map (cut l) (from 0 (count_of l)) in
    let same = chunks-by (length cs / 256) (map descriptor_of cs) in
    rw (form-is (length l) cs, form_by-is (λ k. chosen_by cost) (length l) cs, same)

pub round : (l : List ℕ) → IsSet l → judge (form l) ≡ found l
round l s = rw (form-by l) (any-widths (λ k. chosen_by cost) (λ k. chosen-le cost) l s)
