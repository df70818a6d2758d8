-- Two containers of which one is empty: nothing is left, or the other as it stands, whose bytes are those of its
-- written form.
-- Assumes nothing.
use mathlib.Core.Path.{◌≡◌, ap, ◌∙◌}
use mathlib.Core.Bool.{Bool, true, false}
use mathlib.Core.List.{List, [], ◌++◌}
use Prim.Native.Nat.{ℕ, ◌+◌, ◌≤◌, ◌<◌}
use lib.ListN.{length, get_or, take, drop}
use Rattle.common.specs.Lists.{mem}
use Rattle.bitmap_spec.specs.Judge.{container, container_ok, size_of, dense}
use Rattle.bitmap_spec.specs.Form.{write_container}
use Rattle.bitmap_spec.specs.Output.{written}
use Rattle.bitmap_spec.specs.Sets.{holds}
use Rattle.bitmap_spec.specs.declared.Operation.{Operation}
use Rattle.bitmap_laws.proofs.Containers.{keep_same, picked}
use Rattle.bitmap_laws.proofs.Sets.{neither}
use Rattle.bitmap_laws.proofs.Stored.{bytes-are}
use Rattle.bitmap_read.proofs.Containers.{container-up, dense-is, sparse-count}
use Rattle.pair_write.specs.Sides.{pair_holds, pair_members}
use Rattle.pair_write.proofs.Joined.{low-room, take-written}
use Rattle.pair_write.proofs.Pairs.{empty-mem}
use Rattle.pair_write.proofs.Result.{keep-nothing}

-- ---- an accepted container
module _ (s : List ℕ) (at d : ℕ) (room : at + size_of d ≤ length s) where
  pub members-low : d < 32 → d ≡ length (container s at d)
  members-low h = sparse-count s at d h (low-room (length s) at d room h)

  pub members-high : (r : ℕ) → 32 ≤ d → r ≡ length (dense s at) → r ≡ length (container s at d)
  members-high r h e = e ∙ ap length (dense-is s at d h)

  -- copied, it is the container
  pub put_copy : container_ok s at d ≡ true → ((k : ℕ) → get_or s k 0 < 256) → (before out : List ℕ) (to n : ℕ)
      → to ≤ length before → n ≡ size_of d
      → out ≡ written before to (take n (drop at s))
      → take (to + length (write_container (container s at d))) out ≡ take to before ++ write_container (container s at d)
  put_copy ok small before out to n h e q =
      rw (bytes-are s at d room ok small, q, e) (take-written before (take (size_of d) (drop at s)) to h)

-- ---- the members of such a pair
first-kept : (o : Operation) (t : Bool) → holds o true false ≡ true → holds o t false ≡ t
first-kept o true h = h
first-kept o false h = neither o

second-kept : (o : Operation) (t : Bool) → holds o false true ≡ true → holds o false t ≡ t
second-kept o true h = h
second-kept o false h = neither o

first-lost : (o : Operation) (t : Bool) → holds o true false ≡ false → holds o t false ≡ false
first-lost o true h = h
first-lost o false h = neither o

pub second-lost : (o : Operation) (t : Bool) → holds o false true ≡ false → holds o false t ≡ false
second-lost o true h = h
second-lost o false h = neither o

module _ (o : Operation) (a : List ℕ) (at d : ℕ) (b : List ℕ) (bt e : ℕ) where
  pub only-first : holds o true false ≡ true → container_ok a at d ≡ true → e ≡ 0
      → pair_members o a at d b bt e ≡ container a at d
  unfolding pair_members pair_holds
  only-first h ok z =
      keep_same (λ j. holds o (mem j (container a at d)) (mem j (container b bt e))) (λ j. mem j (container a at d)) 0
      256
      (λ i l. rw (z, empty-mem b bt (0 + i)) (first-kept o (mem (0 + i) (container a at d)) h))
      ∙ picked (container a at d) (container-up a at d ok)

  pub only-second : holds o false true ≡ true → container_ok b bt e ≡ true → d ≡ 0
      → pair_members o a at d b bt e ≡ container b bt e
  unfolding pair_members pair_holds
  only-second h ok z =
      keep_same (λ j. holds o (mem j (container a at d)) (mem j (container b bt e))) (λ j. mem j (container b bt e)) 0
      256
      (λ i l. rw (z, empty-mem a at (0 + i)) (second-kept o (mem (0 + i) (container b bt e)) h))
      ∙ picked (container b bt e) (container-up b bt e ok)

  pub not_first : holds o true false ≡ false → e ≡ 0 → pair_members o a at d b bt e ≡ []
  unfolding pair_members pair_holds
  not_first h z =
      keep-nothing (λ j. holds o (mem j (container a at d)) (mem j (container b bt e))) 0 256
      (λ j. rw (z, empty-mem b bt j) (first-lost o (mem j (container a at d)) h))

  pub not-second : holds o false true ≡ false → d ≡ 0 → pair_members o a at d b bt e ≡ []
  unfolding pair_members pair_holds
  not-second h z =
      keep-nothing (λ j. holds o (mem j (container a at d)) (mem j (container b bt e))) 0 256
      (λ j. rw (z, empty-mem a at j) (second-lost o (mem j (container b bt e)) h))

-- what is said of the container is said of the pair
pub said_of : (p c before out : List ℕ) (to r : ℕ) → p ≡ c
    → (r ≡ length c) × (r ≤ 256) × (take (to + length (write_container c)) out ≡ take to before ++ write_container c)
    → (r ≡ length p) × (r ≤ 256) × (take (to + length (write_container p)) out ≡ take to before ++ write_container p)
said_of p c before out to r e q = rw e q
