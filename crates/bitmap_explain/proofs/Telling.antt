-- The header's rules, then the chunks, then what follows them.
-- Assumes nothing.
use mathlib.Core.Path.{◌≡◌, sym, ◌∙◌}
use mathlib.Core.List.{List, []}
use Prim.Native.Nat.{ℕ, ◌+◌, ◌*◌, ◌/◌, ◌%◌, ◌≤◌, ◌<◌}
use borrow.Author.Tests.{eq-eqb, ne_eqb, lt-leb, le-leb}
use lib.ListN.{length, get_or}
use Rattle.common.specs.Bytes.{little_at}
use Rattle.common.specs.Outcome.{found}
use Rattle.bitmap_spec.specs.Judge.{Chunk, judge}
use Rattle.bitmap_explain_laws.proofs.Number.{explain-accepts}
use Rattle.judge.proofs.Judging.{two}
use Rattle.bitmap_explain_spec.specs.Explain.{Fault}
use Rattle.bitmap_explain_spec.specs.Explain.{fault, Told, faulty, fine, then_told, need_at, fault_of, explained_chunks}
use Rattle.bitmap_explain_spec.specs.Explain.{explained_body, explained}
use Rattle.bitmap_explain_spec.specs.declared.Fault as code
use Rattle.bitmap_explain_spec.specs.Told.{told, Finds}
use Rattle.std.specs.Prelude.{Result, Ok, Err}
use Rattle.std.specs.Result.{result_err}

-- accepted bytes have no fault
pub accepted-told : (s l : List ℕ) → judge s ≡ found l → fault 0 0 0 0 0 ≡ fault_of (explained s)
accepted-told s l e = rw ((explain-accepts s l).1 e)

-- the fault found is the one told
pub told-found : {A B : Type 0} (t : Told A) (r : Result B code.Fault) → Finds t r → told (result_err r) ≡ fault_of t
told-found t (Err f) e = rw e
told-found t (Ok b) (a, e) = rw e

module _ (s : List ℕ) where
  pub told1 : length s < 6 → explained s ≡ faulty (fault 1 0 0 (length s) 6)
  unfolding explained need_at
  told1 h = rw (lt-leb _ _ h)

  module _ (long : 6 ≤ length s) where
    pub told2 : (get_or s 0 0 ≡ 1 → ⊥) → explained s ≡ faulty (fault 2 0 0 (get_or s 0 0) 1)
    unfolding explained need_at
    told2 h = rw (le-leb _ _ long, ne_eqb _ _ h)

    module _ (version : get_or s 0 0 ≡ 1) (count : ℕ) (is : count ≡ get_or s 4 0 + 256 * get_or s 5 0) where
      pub told3 : 8192 < count → explained s ≡ faulty (fault 3 0 4 count 8192)
      unfolding explained need_at
      told3 h =
          let e : little_at s 4 2 ≡ count = two s ∙ sym is in
          rw (le-leb _ _ long, eq-eqb _ _ version, e, lt-leb _ _ h)

      module _ (few : count ≤ 8192) where
        told-on : explained s ≡ then_told (explained_chunks s 0 6 [] (count / 256) (count % 256)) (explained_body s)
        unfolding explained need_at
        told-on =
            let e : little_at s 4 2 ≡ count = two s ∙ sym is in
            rw (le-leb _ _ long, eq-eqb _ _ version, e, le-leb _ _ few)

        pub told-chunk : (f : Fault) → explained_chunks s 0 6 [] (count / 256) (count % 256) ≡ faulty f
            → explained s ≡ faulty f
        told-chunk f e = rw (told-on, e)

        pub told-body : {B : Type 0} (c : Chunk) (r : Result B code.Fault)
            → explained_chunks s 0 6 [] (count / 256) (count % 256) ≡ fine c
            → Finds (explained_body s c) r → Finds (explained s) r
        told-body c r e h = rw (told-on, e) h
