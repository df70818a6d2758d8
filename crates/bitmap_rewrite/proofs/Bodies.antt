-- The containers of a judged bitmap: they are those cut out of its set, and their bytes are those of its form.
-- Assumes nothing.
use mathlib.Core.Path.{◌≡◌, refl, sym, ap, ◌∙◌}
use mathlib.Core.Logic.{⊎_elim}
use mathlib.Core.Bool.{true}
use mathlib.Core.List.{List, [], ◌∷◌, map}
use Prim.Native.Nat.{ℕ, suc, ◌+◌, ◌*◌, ◌≤◌, ◌<◌, min}
use native.Mathlib.Nat.{add-zero, add-suc, suc-add, add_assoc}
use native.Mathlib.Omega.{arith}
use borrow.Author.Tests.{leb-true, le-ltb}
use lib.ListN.{length, get_or, take, drop, take-append-drop}
use lib.Seq.{drop-drop, drop-length}
use Rattle.common.specs.Lists.{from, mem, sum}
use Rattle.bitmap_spec.specs.Judge.{container, container_ok, containers_ok, size_of}
use Rattle.bitmap_spec.specs.Form.{cut, descriptor_of, write_container, write_containers}
use Rattle.bitmap_spec.proofs.Window.{below_or}
use Rattle.bitmap_laws.proofs.Containers.{keep_same, picked}
use Rattle.bitmap_laws.proofs.Cuts.{from_cons, from-none}
use Rattle.bitmap_laws.proofs.Stored.{size_low, bytes-are}
use Rattle.bitmap_read.proofs.Containers.{container-up, sparse-count}
use Rattle.bitmap_read.proofs.Held.{ok-first, ok-rest}

-- ---- one container
module _ (s : List ℕ) (at d : ℕ) (room : at + size_of d ≤ length s) (ok : container_ok s at d ≡ true) where
  full : 32 ≤ d → 32 ≤ length (container s at d)
  unfolding container_ok
  full h = leb-true 32 _ (rw (le-ltb d 32 h) at ok)

  pub desc-is : descriptor_of (container s at d) ≡ min d 32
  unfolding descriptor_of
  desc-is =
      ⊎_elim (λ h. omega (arith, sparse-count s at d h (omega (arith, size_low d h)))) (λ h. omega (arith, full h))
      (below_or d 32)

-- ---- all containers
unfoldable pub conts : List ℕ → ℕ → List ℕ → List (List ℕ)
conts s at [] = []
conts s at (d ∷ ds) = container s at d ∷ conts s (at + size_of d) ds

pub body_bytes : (s : List ℕ) (at : ℕ) (ds : List ℕ) → ((k : ℕ) → get_or s k 0 < 256) → containers_ok s at ds ≡ true
    → at + sum size_of ds ≡ length s → write_containers (conts s at ds) ≡ drop at s
unfolding conts write_containers sum
body_bytes s at [] small ok e = let z : at ≡ length s = omega arith in rw z (sym (drop-length s))
body_bytes s at (d ∷ ds) small ok e =
    let z : at + size_of d + sum size_of ds ≡ length s = omega arith in
    let one : write_container (container s at d) ≡ take (size_of d) (drop at s) =
    bytes-are s at d (omega arith) (ok-first s 0 at d ds 0 ok) small in
    let rest : write_containers (conts s (at + size_of d) ds) ≡ drop (at + size_of d) s =
    body_bytes s (at + size_of d) ds small (ok-rest s 0 at d ds 0 ok) z in
    rw (one, rest, ← drop-drop (size_of d) at s) (take-append-drop (size_of d) (drop at s))

pub conts-length : (s : List ℕ) (at : ℕ) (ds : List ℕ) → length (conts s at ds) ≡ length ds
unfolding conts
conts-length s at [] = refl
conts-length s at (d ∷ ds) = ap suc (conts-length s (at + size_of d) ds)

-- ---- the containers cut out of the set
cut-is : (l s : List ℕ) (k at d : ℕ) → container_ok s at d ≡ true
    → ((j : ℕ) → j < 256 → mem (k * 256 + j) l ≡ mem j (container s at d)) → cut l k ≡ container s at d
unfolding cut
cut-is l s k at d ok h =
    keep_same (λ j. mem (k * 256 + j) l) (λ j. mem j (container s at d)) 0 256 (λ i m. h (0 + i) (omega arith))
    ∙ picked (container s at d) (container-up s at d ok)

pub cuts_are : (l s : List ℕ) (k at : ℕ) (ds : List ℕ) → containers_ok s at ds ≡ true
    → ((i j : ℕ) → i < length ds → j < 256 → mem ((k + i) * 256 + j) l
    ≡ mem j (container s (at + sum size_of (take i ds)) (get_or ds i 0)))
    → map (cut l) (from k (length ds)) ≡ conts s at ds
unfolding conts sum
cuts_are l s k at [] ok h = rw (from-none k)
cuts_are l s k at (d ∷ ds) ok h =
    let one : cut l k ≡ container s at d =
    cut-is l s k at d (ok-first s 0 at d ds 0 ok) (λ j m. rw (add-zero k, add-zero at) at (h 0 j (omega arith) m)) in
    let rest : map (cut l) (from (suc k) (length ds)) ≡ conts s (at + size_of d) ds =
    cuts_are l s (suc k) (at + size_of d) ds (ok-rest s 0 at d ds 0 ok)
    (λ i j m q.
    rw (add_assoc at (size_of d) (sum size_of (take i ds)), suc-add k i, ← add-suc k i)
    (h (suc i) j (omega arith) q))
    in
    rw (from_cons k (length ds), one, rest)

pub descs-are : (s : List ℕ) (at : ℕ) (ds : List ℕ) → containers_ok s at ds ≡ true → at + sum size_of ds ≤ length s
    → map descriptor_of (conts s at ds) ≡ map (λ d. min d 32) ds
unfolding conts sum
descs-are s at [] ok e = refl
descs-are s at (d ∷ ds) ok e =
    rw (
      desc-is s at d (omega arith) (ok-first s 0 at d ds 0 ok),
      descs-are s (at + size_of d) ds (ok-rest s 0 at d ds 0 ok) (omega arith),
    )
