-- The one claim about every plan, by induction on the plan: a step's inputs are accepted as their sets, and a form reads back as its set.
-- What follows from it: plans of one set write the same bytes.
-- Assumes nothing.
use mathlib.Core.Path.{◌≡◌, refl, sym, ap, ◌∙◌}
use mathlib.Core.Bool.{Bool, true, false}
use mathlib.Core.List.{List}
use Prim.Native.Nat.{ℕ}
use lib.Dec.{leb}
use lib.ListN.{length, drop}
use lib.Seq.{take_at}
use Rattle.common.specs.Outcome.{found, then, need, both}
use Rattle.common.specs.Lists.{mem}
use Rattle.bitmap_spec.specs.Judge.{judge}
use Rattle.bitmap_spec.specs.Form.{form}
use Rattle.bitmap_spec.specs.Sets.{IsSet, holds, combine}
use Rattle.bitmap_spec.specs.Output.{placed, called, after}
use Rattle.bitmap_spec.specs.Plan.{Plan, call, Input, bitmap, wrote, Ran, ran, wrote_bytes, set_of, in_set, member, member_in, run, input, fits, fits_in}
use Rattle.bitmap_spec.specs.declared.Operation.{Operation}
use Rattle.bitmap_spec.specs.declared.Operation.TheVariants.{Intersection, SymmetricDifference}
use Rattle.bitmap_spec.proofs.Reading.{need-found}
use Rattle.bitmap_laws.specs.Claim.{Holds, output_of, wrote_form}
use Rattle.bitmap_laws.proofs.Members.{ext}
use Rattle.bitmap_laws.proofs.Sets.{mem-combine, set-combine}
use Rattle.bitmap_laws.proofs.Rise.{count-bound}
use Rattle.bitmap_laws.proofs.Accept.{judge-set}
use Rattle.bitmap_laws.proofs.Round.{round}

-- the bytes that an input stands for
unfoldable bytes_in : Input → List ℕ
bytes_in (bitmap bytes set e) = bytes
bytes_in (wrote p) = form (set_of p)

-- what a plan that wrote its form has written
pub wrote-form : (p : Plan) → wrote_bytes (wrote_form p) ≡ form (set_of p)
unfolding wrote_bytes wrote_form after
wrote-form p = take_at (form (set_of p)) (drop (length (form (set_of p))) (output_of p)) (length (form (set_of p))) refl

record Sound (a : Input) : Type 0 where
  accepted : judge (bytes_in a) ≡ found (in_set a)
  is_set : IsSet (in_set a)
  members : (x : ℕ) → mem x (in_set a) ≡ member_in a x
  gives : input a ≡ need (fits_in a) 13 (found (bytes_in a))

-- the last step, with its form in hand
last : (t : Bool) (w out : List ℕ) → ran (need t 13 (found w)) out ≡ need t 13 (found (record { size = length w; output = after (found w) out }))
unfolding ran need
last true w out = refl
last false w out = refl

step : (o : Operation) (a b : Input) (out : List ℕ) → Sound a → Sound b → Holds (call o a b out)
unfolding run set_of fits called placed need member wrote_form output_of
step o a b out sa sb =
    let set : IsSet (combine o (in_set a) (in_set b)) = set-combine o (in_set a) (in_set b) (count-bound (in_set a) sa.is_set) (count-bound (in_set b) sb.is_set) in
    record {
      is_set = set;
      members = λ z. rw (mem-combine o (in_set a) (in_set b) z, sa.members z, sb.members z);
      accepted = round (combine o (in_set a) (in_set b)) set;
      gives = rw (sa.gives, sb.gives) (go (fits_in a) (fits_in b));
    }
  where
    w : List ℕ
    w = form (combine o (in_set a) (in_set b))

    go : (s t : Bool) → then (need s 13 (found (bytes_in a))) (λ x. then (need t 13 (found (bytes_in b))) (λ y.
        ran (then (judge x) (λ u. then (judge y) (λ v. need (leb (length (form (combine o u v))) (length out)) 13 (found (form (combine o u v)))))) out))
        ≡ need (both s (both t (leb (length w) (length out)))) 13 (found (record { size = length w; output = after (found w) out }))
    go false t = refl
    go true false = refl
    go true true = rw (sa.accepted, sb.accepted) (last (leb (length w) (length out)) w out)

-- what a smaller plan hands on
handed : (t : Bool) (p : Plan) → then (need t 13 (found (wrote_form p))) (λ r. found (wrote_bytes r)) ≡ need t 13 (found (form (set_of p)))
unfolding need
handed true p = ap found (wrote-form p)
handed false p = refl

mutual
  unfolding run input set_of in_set fits fits_in bytes_in need member member_in

  -- THE CLAIM
  pub every-plan : (p : Plan) → Holds p
  every-plan (call o a b out) = step o a b out (sound a) (sound b)

  sound : (a : Input) → Sound a
  sound (bitmap bytes set q) = record { accepted = q; is_set = judge-set bytes set q; members = λ x. refl; gives = refl }
  sound (wrote p) =
      let t = every-plan p in
      record { accepted = t.accepted; is_set = t.is_set; members = t.members; gives = rw t.gives (handed (fits p) p) }

-- a plan that is not refused has written the form of its set
pub writes : (p : Plan) (r : Ran) → run p ≡ found r → wrote_bytes r ≡ form (set_of p)
writes p r e =
    let z : wrote_form p ≡ r = found-is (wrote_form p) r (need-found (fits p) 13 (found (wrote_form p)) r (sym (every-plan p).gives ∙ e)).1 in
    rw (← z) (wrote-form p)
  where
    found-is : (v w : Ran) → found v ≡ found w → v ≡ w
    found-is v w e = cc

-- two plans whose operations say the same of every position have the same set ..
pub same_set : (p q : Plan) → ((x : ℕ) → member p x ≡ member q x) → set_of p ≡ set_of q
same_set p q h =
    let c = every-plan p in
    let d = every-plan q in
    ext 2097152 0 (set_of p) (set_of q) c.is_set d.is_set (λ x. c.members x ∙ h x ∙ sym (d.members x))

-- .. and two plans of one set write the same bytes
pub one_set : (p q : Plan) (r t : Ran) → run p ≡ found r → run q ≡ found t → set_of p ≡ set_of q → wrote_bytes r ≡ wrote_bytes t
one_set p q r t e f h = writes p r e ∙ ap form h ∙ sym (writes q t f)

pub same_bytes : (p q : Plan) (r t : Ran) → run p ≡ found r → run q ≡ found t → ((x : ℕ) → member p x ≡ member q x) → wrote_bytes r ≡ wrote_bytes t
same_bytes p q r t e f h = one_set p q r t e f (same_set p q h)

-- intersection distributes over either-but-not-both
pub distributes : (a b c : Input) (o₁ o₂ o₃ o₄ o₅ : List ℕ) (r t : Ran)
    → run (call Intersection a (wrote (call SymmetricDifference b c o₁)) o₂) ≡ found r
    → run (call SymmetricDifference (wrote (call Intersection a b o₃)) (wrote (call Intersection a c o₄)) o₅) ≡ found t
    → wrote_bytes r ≡ wrote_bytes t
unfolding member member_in
distributes a b c o₁ o₂ o₃ o₄ o₅ r t e f = same_bytes _ _ r t e f (λ x. law (member_in a x) (member_in b x) (member_in c x))
  where
    law : (x y z : Bool) → holds Intersection x (holds SymmetricDifference y z) ≡ holds SymmetricDifference (holds Intersection x y) (holds Intersection x z)
    law true y z = refl
    law false y z = refl

-- .. and from the other side
pub distributes-right : (a b c : Input) (o₁ o₂ o₃ o₄ o₅ : List ℕ) (r t : Ran)
    → run (call Intersection (wrote (call SymmetricDifference b c o₁)) a o₂) ≡ found r
    → run (call SymmetricDifference (wrote (call Intersection b a o₃)) (wrote (call Intersection c a o₄)) o₅) ≡ found t
    → wrote_bytes r ≡ wrote_bytes t
unfolding member member_in
distributes-right a b c o₁ o₂ o₃ o₄ o₅ r t e f = same_bytes _ _ r t e f (λ x. law (member_in a x) (member_in b x) (member_in c x))
  where
    law : (x y z : Bool) → holds Intersection (holds SymmetricDifference y z) x ≡ holds SymmetricDifference (holds Intersection y x) (holds Intersection z x)
    law true true true = refl
    law true true false = refl
    law true false z = refl
    law false true true = refl
    law false true false = refl
    law false false true = refl
    law false false false = refl

-- one bitmap applied twice to another by either-but-not-both gives the other's written form
pub twice : (a b : Input) (o₁ o₂ : List ℕ) (r : Ran) → run (call SymmetricDifference (wrote (call SymmetricDifference a b o₁)) b o₂) ≡ found r → wrote_bytes r ≡ form (in_set a)
unfolding member member_in
twice a b o₁ o₂ r e =
    let c = every-plan (call SymmetricDifference (wrote (call SymmetricDifference a b o₁)) b o₂) in
    let d = sound a in
    writes (call SymmetricDifference (wrote (call SymmetricDifference a b o₁)) b o₂) r e
    ∙ ap form (ext 2097152 0 _ (in_set a) c.is_set d.is_set (λ x. c.members x ∙ undone x ∙ sym (d.members x)))
  where
    law : (x y : Bool) → holds SymmetricDifference (holds SymmetricDifference x y) y ≡ x
    law true true = refl
    law true false = refl
    law false true = refl
    law false false = refl

    undone : (x : ℕ) → member (call SymmetricDifference (wrote (call SymmetricDifference a b o₁)) b o₂) x ≡ member_in a x
    undone x = law (member_in a x) (member_in b x)

-- .. and applied from the other side
pub twice-left : (a b : Input) (o₁ o₂ : List ℕ) (r : Ran) → run (call SymmetricDifference b (wrote (call SymmetricDifference b a o₁)) o₂) ≡ found r → wrote_bytes r ≡ form (in_set a)
unfolding member member_in
twice-left a b o₁ o₂ r e =
    let c = every-plan (call SymmetricDifference b (wrote (call SymmetricDifference b a o₁)) o₂) in
    let d = sound a in
    writes (call SymmetricDifference b (wrote (call SymmetricDifference b a o₁)) o₂) r e
    ∙ ap form (ext 2097152 0 _ (in_set a) c.is_set d.is_set (λ x. c.members x ∙ law (member_in a x) (member_in b x) ∙ sym (d.members x)))
  where
    law : (x y : Bool) → holds SymmetricDifference y (holds SymmetricDifference y x) ≡ x
    law true true = refl
    law true false = refl
    law false true = refl
    law false false = refl

-- accepted bytes, rewritten from their set, come back unchanged exactly if they were in the written form
pub unchanged : (b l : List ℕ) → judge b ≡ found l → (form l ≡ b → (k : List ℕ) × IsSet k × (b ≡ form k)) × (((k : List ℕ) × IsSet k × (b ≡ form k)) → form l ≡ b)
unchanged b l e = (λ h. (l, judge-set b l e, sym h), λ k. back k.0 k.1 k.2)
  where
    back : (k : List ℕ) → IsSet k → b ≡ form k → form l ≡ b
    back k s q =
        let z : found k ≡ found l = sym (round k s) ∙ sym (ap judge q) ∙ e in
        let y : k ≡ l = cc in
        ap form (sym y) ∙ sym q
