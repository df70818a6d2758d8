-- The rest of the groups is the varint of the whole; the weight is 128 to the groups read. Assumes nothing.
use native.Mathlib.Nat.{mul-le-mul_right, pow-suc, pow-le-pow_right, zero-lt-suc}
use native.Mathlib.Numerals.{add-one}
use mathlib.Core.Path.{◌≡◌, refl, sym, ◌∙◌}
use Prim.Native.Nat.{ℕ, ◌+◌, ◌-◌, ◌*◌, ◌^◌, ◌≤◌, ◌<◌}
use native.Mathlib.Omega.{arith}
use Rattle.row_spec.specs.Varint.{varint_at, groups}
use Rattle.row_laws.proofs.Varints.{prod, groups-cut, groups-last, groups-more}
use Rattle.numbers.proofs.varint.Goals as goal

-- the weight of group i
weight-fits : (i w : ℕ) → i < 5 → w ≡ 128 ^ i → w ≤ 268435456
weight-fits i w h e =
    let l : i ≤ 4 = omega arith in omega (arith, pow-le-pow_right {n = 128} (zero-lt-suc 127) l)

pub loop-i-init : goal.loop-i-init
unfolding varint_at
loop-i-init c =
    let z : c.args.at + 0 ≡ c.args.at = omega arith in
    record { within = λ h. omega arith; weight = refl; below = omega arith; rest = rw z }

pub returns-then-s-p : goal.returns-then-s-p
returns-then-s-p c =
    sym (sym c.loop-i.invariant.rest ∙ groups-cut _ _ _ _ _ (omega arith) c.if-s-p.true)

pub last_group-requires : goal.last_group-requires
last_group-requires c =
    let l = c.loop-i in (omega arith, weight-fits l.i l.w c.loop-i-test.true l.invariant.weight, omega arith)

pub returns-then-b-lt128 : goal.returns-then-b-lt128
returns-then-b-lt128 c =
    let l = c.loop-i in
    let e = c.wide-b.ensures.0 in
    let g = groups-last c.args.s.now (5 - l.i) (c.args.at + l.i) l.w l.v (omega arith) c.if-s-p.false
    (rw e at c.if-b-lt128.true) in
    c.last_group.ensures ∙ cc

pub overflow_mul-v : goal.overflow_mul-v
overflow_mul-v c =
    let l = c.loop-i in
    let w = weight-fits l.i l.w c.loop-i-test.true l.invariant.weight in
    omega (arith, prod 127 268435456 {m = c.wide-b.result - 128} {n = l.w} (omega arith) w)

pub overflow_add-v : goal.overflow_add-v
overflow_add-v c =
    let l = c.loop-i in
    let w = weight-fits l.i l.w c.loop-i-test.true l.invariant.weight in
    omega (arith, prod 127 268435456 {m = c.wide-b.result - 128} {n = l.w} (omega arith) w)

pub overflow_mul-w : goal.overflow_mul-w
overflow_mul-w c =
    let l = c.loop-i in omega (arith, weight-fits l.i l.w c.loop-i-test.true l.invariant.weight)

pub loop-i-preserved : goal.loop-i-preserved
loop-i-preserved c =
    let l = c.loop-i in
    let at = c.args.at in
    let e = c.wide-b.ensures.0 in
    let m : (c.wide-b.result - 128) * l.w ≤ 127 * l.w = mul-le-mul_right l.w (omega (arith, c.wide-b.ensures.1)) in
    let g = groups-more c.args.s.now (5 - l.i) (at + l.i) l.w l.v (omega arith) c.if-s-p.false (omega arith) in
    let k : 5 - (l.i + 1) ≡ 5 - l.i - 1 = omega arith in
    let p : at + (l.i + 1) ≡ at + l.i + 1 = omega arith in
    record {
      within = λ h. omega arith;
      weight = rw (add-one, l.invariant.weight) (sym (pow-suc 128 l.i));
      below = omega arith;
      rest = rw (k, p, e) (sym g ∙ l.invariant.rest);
    }

pub returns : goal.returns
unfolding groups
returns c = let z : 5 - c.loop-i.i ≡ 0 = omega arith in
    sym (sym c.loop-i.invariant.rest ∙ rw z)
