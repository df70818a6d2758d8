-- What is accepted is a set: the members are strictly rising and below 2,097,152.
-- Assumes nothing.
use mathlib.Core.Path.{◌≡◌, refl, sym}
use mathlib.Core.Bool.{Bool, true, false}
use mathlib.Core.List.{List, [], ◌∷◌, ◌++◌, map}
use Prim.Native.Nat.{ℕ, zero, suc, ◌+◌, ◌*◌, ◌/◌, ◌%◌, ◌≤◌}
use native.Mathlib.Nat.{add-zero, zero-add}
use native.Mathlib.Omega.{arith}
use borrow.Author.Tests.{leb-true}
use lib.Dec.{leb, ltb, eqb}
use lib.ListN.{length, take, drop, length-append}
use Rattle.common.proofs.Lists.{both_left, both_right}
use Rattle.common.specs.Bytes.{little_at}
use Rattle.common.specs.Lists.{rising}
use Rattle.common.specs.Outcome.{Outcome, refused, found, then, pick}
use Rattle.bitmap_spec.proofs.Reading.{need-found, chunk-sound}
use Rattle.bitmap_spec.specs.Bits.{bit}
use Rattle.bitmap_spec.specs.Judge.{Chunk, chunk, last_chunk, chunks, dense, container, container_ok, containers_ok, members_from, size_of, judge, judge_body}
use Rattle.bitmap_spec.specs.Sets.{IsSet}
use Rattle.bitmap_laws.proofs.Members.{rising-keep}
use Rattle.bitmap_laws.proofs.Rise.{rising-cat, rising-shift, weaker}

pub then_found : {A B : Type 0} (o : Outcome A) (f : A → Outcome B) (b : B) → then o f ≡ found b → (a : A) × (o ≡ found a) × (f a ≡ found b)
then_found (refused n) f b e = absurd (let z : ◌≡◌ {A = ℕ} 0 1 = cc in omega arith)
then_found (found a) f b e = (a, refl, e)

-- an accepted container's members rise, below 256
container-up : (s : List ℕ) (at d : ℕ) → container_ok s at d ≡ true → rising 256 0 (container s at d) ≡ true
unfolding container_ok container dense
container-up s at d e = go (ltb d 32) e
  where
    go : (b : Bool) → pick b (rising 256 0 (pick b (take d (drop at s)) (dense s at))) (leb 32 (length (pick b (take d (drop at s)) (dense s at)))) ≡ true
        → rising 256 0 (pick b (take d (drop at s)) (dense s at)) ≡ true
    go true e = e
    go false e = rising-keep (λ j. eqb (bit s (at * 8 + j)) 1) 256 0 256 (omega arith)

pub members-up : (s : List ℕ) (k at : ℕ) (ds : List ℕ) → containers_ok s at ds ≡ true → rising ((k + length ds) * 256) (k * 256) (members_from s k at ds) ≡ true
unfolding containers_ok members_from rising
members-up s k at [] e = refl
members-up s k at (d ∷ ds) e =
    rising-cat ((k + suc (length ds)) * 256) (k * 256) (k * 256 + 256) (map (λ j. k * 256 + j) (container s at d)) (members_from s (suc k) (at + size_of d) ds) (omega arith) (omega arith)
    (rw (add-zero (k * 256)) at (rising-shift (k * 256) 256 0 (container s at d) (container-up s at d (both_left (container_ok s at d) _ e))))
    (weaker ((k + suc (length ds)) * 256) ((suc k + length ds) * 256) (k * 256 + 256) (suc k * 256) (members_from s (suc k) (at + size_of d) ds) (omega arith) (omega arith) (members-up s (suc k) (at + size_of d) ds (both_right (container_ok s at d) _ e)))

last-many : (s : List ℕ) (at : ℕ) (acc : List ℕ) (r : ℕ) (c : Chunk) → last_chunk s at acc r ≡ found c → length c.descs ≡ length acc + r
unfolding last_chunk
last-many s at acc zero c e = let z : record { descs = acc; next = at } ≡ c = cc in rw (← z) (sym (add-zero (length acc)))
last-many s at acc (suc r) c e =
    let t = then_found (chunk s at (suc r)) _ c e in
    let z : record { descs = acc ++ t.0.descs; next = t.0.next } ≡ c = found-is _ c t.2 in
    rw (← z, length-append acc t.0.descs, (chunk-sound s at (suc r) t.0 t.1).many)
  where
    found-is : (c d : Chunk) → found c ≡ found d → c ≡ d
    found-is c d e = cc

pub chunks-many : (s : List ℕ) (at : ℕ) (acc : List ℕ) (k r : ℕ) (c : Chunk) → chunks s at acc k r ≡ found c → length c.descs ≡ length acc + (k * 256 + r)
unfolding chunks
chunks-many s at acc zero r c e = rw (zero-add r) (last-many s at acc r c e)
chunks-many s at acc (suc k) r c e =
    let t = then_found (chunk s at 256) _ c e in
    let ih = chunks-many s t.0.next (acc ++ t.0.descs) k r c t.2 in
    omega (arith, ih, length-append acc t.0.descs, (chunk-sound s at 256 t.0 t.1).many)

pub judge-set : (b l : List ℕ) → judge b ≡ found l → IsSet l
unfolding judge judge_body
judge-set b l e =
    let t = need-found _ _ _ l (need-found _ _ _ l (need-found _ _ _ l e).1).1 in
    let u = then_found {A = Chunk} _ (judge_body b) l t.1 in
    let v = need-found _ _ _ l (need-found _ _ _ l u.2).1 in
    let w = need-found _ _ _ l v.1 in
    let c = u.0 in
    let z : members_from b 0 c.next c.descs ≡ l = found-is _ l w.1 in
    let n : little_at b 4 2 ≤ 8192 = leb-true _ _ t.0 in
    let m : length c.descs ≡ 0 + (little_at b 4 2 / 256 * 256 + little_at b 4 2 % 256) = chunks-many b 6 [] _ _ c u.1 in
    rw (← z) (weaker 2097152 ((0 + length c.descs) * 256) 0 (0 * 256) (members_from b 0 c.next c.descs) (omega arith) (omega arith) (members-up b 0 c.next c.descs v.0))
  where
    found-is : (c d : List ℕ) → found c ≡ found d → c ≡ d
    found-is c d e = cc
