-- Two judged bitmaps side by side, and their containers combined.
use Rattle.std.specs.Prelude.{ℕ, ◌+◌, ◌-◌, ◌*◌, ◌≤◌, ◌<◌, ◌≡◌, Bool, true, false, List, ◌++◌, map, length, get_or, take}
use Rattle.std.specs.Prelude.{drop, eqb}
use Rattle.common.specs.Outcome.{pick, one}
use Rattle.common.specs.Lists.{keep, from, mem, sum}
use Rattle.bitmap_spec.specs.Bits.{bit}
use Rattle.bitmap_spec.specs.Judge.{container, dense, size_of}
use Rattle.bitmap_spec.specs.Form.{cut, write_containers}
use Rattle.bitmap_spec.specs.Output.{written}
use Rattle.bitmap_spec.specs.Sets.{holds, combine}
use Rattle.bitmap_spec.specs.declared.Operation.{Operation}
use Rattle.bitmap_spec.specs.declared.Operation.TheVariants.{Union, Intersection, Difference, SymmetricDifference}
use Rattle.form_write.specs.Described.{descs_to}
use Rattle.pair_write.specs.declared.Reached.{Reached}
use Rattle.judge.specs.Asking.{members}
use Rattle.judge.specs.declared.set.Set.{Set}

-- descriptor k, 0 past the last
unfoldable pub desc_at : List ℕ → ℕ → ℕ
desc_at d k = get_or d k 0

-- where container k starts
unfoldable pub place_at : Set → ℕ → ℕ
place_at x k = x.start + sum size_of (take k x.descriptors.now)

-- whether j is a member of the block of a at at, combined with a container of b
unfoldable pub half_holds : Operation → List ℕ → ℕ → List ℕ → ℕ → ℕ → ℕ → Bool
half_holds o a at b bt e j = holds o (mem j (dense a at)) (mem j (container b bt e))

-- whether j is a member of two containers combined
unfoldable pub pair_holds : Operation → List ℕ → ℕ → ℕ → List ℕ → ℕ → ℕ → ℕ → Bool
pair_holds o a at d b bt e j = holds o (mem j (container a at d)) (mem j (container b bt e))

-- the members of two containers combined
unfoldable pub pair_members : Operation → List ℕ → ℕ → ℕ → List ℕ → ℕ → ℕ → List ℕ
pair_members o a at d b bt e = keep (pair_holds o a at d b bt e) (from 0 256)

-- the bit in the second that a member of the first must have where an operation keeps no other members
abbrev pub want_of : Operation → ℕ
want_of o = one (holds o true true)

-- those of the n bytes of s at at whose bit in the block of t at start is want
unfoldable pub kept : List ℕ → ℕ → ℕ → List ℕ → ℕ → ℕ → List ℕ
kept s at n t start want = keep (λ x. eqb (bit t (start * 8 + x)) want) (take n (drop at s))

-- how many members two sets of p and q members, c of them in both, have combined
abbrev pub joined_count : Operation → ℕ → ℕ → ℕ → ℕ
joined_count Union p q c = p + q - c
joined_count Intersection p q c = c
joined_count Difference p q c = p - c
joined_count SymmetricDifference p q c = p + q - 2 * c

abbrev pub is_union : Operation → Bool
is_union Union = true
is_union Intersection = false
is_union Difference = false
is_union SymmetricDifference = false

-- the numbers in l have the stamp as their mark, all others the mark that they had before
pub record Marks (l : List ℕ) (stamp : ℕ) (before after : List ℕ) : Type 0 where
  pub at : (x : ℕ) → x < 256 → get_or after x 0 ≡ pick (mem x l) stamp (get_or before x 0)

-- there is a mark for each of 256 numbers, and none has the stamp or a later one
pub record Fresh (marks : List ℕ) (stamp : ℕ) : Type 0 where
  pub long : 256 ≤ length marks
  pub below : (x : ℕ) → x < 256 → get_or marks x 0 < stamp

-- the set of the result
unfoldable pub result_of : Operation → Set → Set → List ℕ
result_of o x y = combine o (members x) (members y)

-- the pass over the containers of the set l stands at container k
pub record Reaches (l : List ℕ) (x y : Set) (k : ℕ) (p : Reached) : Type 0 where
  pub members : p.card ≡ length (keep (λ z. mem z l) (from 0 (k * 256)))
  pub few : p.card ≤ k * 256
  pub bytes : p.size ≡ length (write_containers (map (cut l) (from 0 k)))
  pub first : p.at ≡ place_at x k
  pub second : p.bt ≡ place_at y k

-- room and what is done have, before each of the containers from k to n, 32 bytes more than those before it take
pub record Roomy (l : List ℕ) (k n done room : ℕ) : Type 0 where
  pub roomy : (j : ℕ) → k ≤ j → j < n → length (write_containers (map (cut l) (from 0 j))) + 32 ≤ done + room

-- it went on from k to n: the descriptors, behind those before them, and the bytes in body
pub record Gathers (l : List ℕ) (x y : Set) (k n : ℕ) (p : Reached) (before ds body : List ℕ)
    (r : Reached) : Type 0 where
  pub reached : Reaches l x y n r
  pub descs : (first : List ℕ) → n ≤ length first → before ≡ written first 0 (descs_to l k)
      → ds ≡ written first 0 (descs_to l n)
  pub grown : p.size ≤ r.size
  pub within : r.size - p.size ≤ length body
  pub bytes : write_containers (map (cut l) (from 0 k)) ++ take (r.size - p.size) body
      ≡ write_containers (map (cut l) (from 0 n))
