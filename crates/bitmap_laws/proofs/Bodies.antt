-- Containers in the written form are read back.
-- Assumes nothing.
use mathlib.Core.Path.{◌≡◌, refl, sym, ap}
use mathlib.Core.Logic.{⊎_elim}
use mathlib.Core.Bool.{true}
use mathlib.Core.List.{List, [], ◌∷◌, ◌++◌, map, append_assoc}
use Prim.Native.Nat.{ℕ, suc, ◌+◌, ◌*◌, ◌≤◌, ◌<◌, min}
use native.Mathlib.Omega.{arith}
use borrow.Author.Tests.{le-leb, lt-ltb, le-ltb}
use lib.Dec.{ltb}
use lib.ListN.{length, length-append}
use Rattle.common.specs.Lists.{mem, rising, sum}
use Rattle.common.specs.Outcome.{pick, one}
use Rattle.bitmap_spec.proofs.Window.{below_or}
use Rattle.bitmap_spec.specs.Bits.{bytes_of}
use Rattle.bitmap_spec.specs.Form.{descriptor_of, write_container, write_containers}
use Rattle.bitmap_spec.specs.Judge.{size_of, container_ok, containers_ok, members_from}
use Rattle.bitmap_laws.proofs.Containers.{container-back}
use Rattle.bitmap_laws.proofs.Cuts.{AllUp, joined}
use Rattle.bitmap_laws.proofs.Pack.{length-bytes_of}
use Rattle.bitmap_laws.proofs.Values.{AllLe}

pub descs-le : (cs : List (List ℕ)) → AllLe 63 (map descriptor_of cs)
unfolding AllLe descriptor_of
descs-le [] = tt
descs-le (c ∷ cs) = (omega arith, descs-le cs)

-- a container's descriptor says how many bytes it has
pub size_is : (c : List ℕ) → size_of (descriptor_of c) ≡ length (write_container c)
unfolding size_of descriptor_of write_container
size_is c = ⊎_elim low high (below_or (length c) 32)
  where
    low : length c < 32 → pick (ltb (min (length c) 32) 32) (min (length c) 32) 32 ≡ length (pick (ltb (length c) 32) c (bytes_of (λ j. one (mem j c)) 32))
    low h =
        let e : min (length c) 32 ≡ length c = omega arith in
        rw (e, lt-ltb _ _ h)

    high : 32 ≤ length c → pick (ltb (min (length c) 32) 32) (min (length c) 32) 32 ≡ length (pick (ltb (length c) 32) c (bytes_of (λ j. one (mem j c)) 32))
    high h =
        let e : min (length c) 32 ≡ 32 = omega arith in
        rw (e, le-ltb _ _ h) (sym (length-bytes_of (λ j. one (mem j c)) 32))

pub sizes-are : (cs : List (List ℕ)) → sum size_of (map descriptor_of cs) ≡ length (write_containers cs)
unfolding sum write_containers
sizes-are [] = refl
sizes-are (c ∷ cs) = rw (size_is c, sizes-are cs) (sym (length-append (write_container c) (write_containers cs)))

desc-low : (c : List ℕ) → length c < 32 → descriptor_of c < 32
unfolding descriptor_of
desc-low c h = omega arith

desc-high : (c : List ℕ) → 32 ≤ length c → 32 ≤ descriptor_of c
unfolding descriptor_of
desc-high c h = omega arith

ok-back : (c pre post : List ℕ) → rising 256 0 c ≡ true → container_ok (pre ++ (write_container c ++ post)) (length pre) (descriptor_of c) ≡ true
unfolding container_ok
ok-back c pre post up =
    rw (container-back c up pre post)
    (⊎_elim (λ h. rw (lt-ltb (descriptor_of c) 32 (desc-low c h)) up) (λ h. rw (le-ltb (descriptor_of c) 32 (desc-high c h)) (le-leb _ _ h)) (below_or (length c) 32))

-- the first of several containers, and what follows it
unfold-containers : (c : List ℕ) (cs : List (List ℕ)) (post : List ℕ) → write_containers (c ∷ cs) ++ post ≡ write_container c ++ (write_containers cs ++ post)
unfolding write_containers
unfold-containers c cs post = append_assoc (write_container c) (write_containers cs) post

one-ok : (c pre rest ds : List ℕ) → rising 256 0 c ≡ true → containers_ok ((pre ++ write_container c) ++ rest) (length (pre ++ write_container c)) ds ≡ true → containers_ok (pre ++ (write_container c ++ rest)) (length pre) (descriptor_of c ∷ ds) ≡ true
unfolding containers_ok
one-ok c pre rest ds up two =
    rw (ok-back c pre rest up, size_is c) (rw (append_assoc pre (write_container c) rest, length-append pre (write_container c)) at two)

none-ok : (s : List ℕ) (at : ℕ) → containers_ok s at [] ≡ true
unfolding containers_ok
none-ok s at = refl

pub all-ok : (pre post : List ℕ) (cs : List (List ℕ)) → AllUp cs → containers_ok (pre ++ (write_containers cs ++ post)) (length pre) (map descriptor_of cs) ≡ true
unfolding AllUp
all-ok pre post [] a = none-ok (pre ++ (write_containers [] ++ post)) (length pre)
all-ok pre post (c ∷ cs) a =
    rw (unfold-containers c cs post) (one-ok c pre (write_containers cs ++ post) (map descriptor_of cs) a.0 (all-ok (pre ++ write_container c) post cs a.1))

one-back : (c pre rest ds : List ℕ) (k : ℕ) (l : List ℕ) → rising 256 0 c ≡ true → members_from ((pre ++ write_container c) ++ rest) (suc k) (length (pre ++ write_container c)) ds ≡ l → members_from (pre ++ (write_container c ++ rest)) k (length pre) (descriptor_of c ∷ ds) ≡ map (λ j. k * 256 + j) c ++ l
unfolding members_from
one-back c pre rest ds k l up two =
    rw (container-back c up pre rest, size_is c)
    (ap (λ (l' : List ℕ). map (λ j. k * 256 + j) c ++ l') (rw (append_assoc pre (write_container c) rest, length-append pre (write_container c)) at two))

none-back : (s : List ℕ) (k at : ℕ) → members_from s k at [] ≡ []
unfolding members_from
none-back s k at = refl

pub members-back : (pre post : List ℕ) (k : ℕ) (cs : List (List ℕ)) → AllUp cs → members_from (pre ++ (write_containers cs ++ post)) k (length pre) (map descriptor_of cs) ≡ joined k cs
unfolding joined AllUp
members-back pre post k [] a = none-back (pre ++ (write_containers [] ++ post)) k (length pre)
members-back pre post k (c ∷ cs) a =
    rw (unfold-containers c cs post) (one-back c pre (write_containers cs ++ post) (map descriptor_of cs) k (joined (suc k) cs) a.0 (members-back (pre ++ write_container c) post (suc k) cs a.1))
