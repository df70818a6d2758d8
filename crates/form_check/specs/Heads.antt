-- What is compared to tell the written form from other accepted bytes: the descriptors, and what each chunk begins with.
use Rattle.std.specs.Prelude.{ℕ, zero, suc, ◌-◌, Bool, true, List, [], ◌∷◌, map, length, get_or, take, drop, leb, ltb, eqb}
use Rattle.common.specs.Outcome.{pick, both}
use Rattle.common.specs.Lists.{every}
use Rattle.bitmap_spec.specs.Judge.{head_at, chunk_end}
use Rattle.bitmap_spec.specs.Form.{least, largest, width, wider, cheapest}
use Rattle.bitmap_spec.specs.declared.ChunkHead.{ChunkHead}

-- whether descriptors are those of a written form: none is over 32, and the last, if any, is not 0
unfoldable pub is_settled : List ℕ → Bool
is_settled ds = both (every (λ d. leb d 32) ds) (pick (eqb (length ds) 0) true (ltb 0 (get_or ds (length ds - 1) 0)))

-- whether a chunk's head has the least value m, the widths and the number of exceptions of the chunk that is written of
-- the values vs, the descriptors less m, at the width b
unfoldable pub head_of : ChunkHead → List ℕ → ℕ → ℕ → Bool
head_of h vs m b =
    both (eqb h.m m)
    (both (eqb h.b1 b)
    (both (eqb h.e (length (wider b vs)))
    (eqb h.b2 (pick (eqb (length (wider b vs)) 0) 0 (largest (map width vs) - b)))))

-- of the written chunk of the descriptors ds
unfoldable pub head_is : ChunkHead → List ℕ → Bool
head_is h ds =
    head_of h (map (λ d. d - least ds) ds) (least ds)
    (cheapest (map (λ d. d - least ds) ds) (largest (map width (map (λ d. d - least ds) ds))))

-- the same of k whole chunks of 256 from byte at on, and of the remainder behind them
unfoldable pub heads_are : List ℕ → ℕ → ℕ → List ℕ → Bool
heads_are s at zero [] = true
heads_are s at zero (d ∷ ds) = head_is (head_at s at (length (d ∷ ds))) (d ∷ ds)
heads_are s at (suc k) ds =
    both (head_is (head_at s at 256) (take 256 ds)) (heads_are s (chunk_end (head_at s at 256)) k (drop 256 ds))
