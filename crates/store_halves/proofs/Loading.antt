-- Both halves loaded one after the other: 32 entries and 32 entries are the 64, judged half by half, and what the
-- second half is given leaves the first.
-- Assumes nothing.
use mathlib.Core.Path.{◌≡◌, refl, sym, ap, ◌∙◌}
use mathlib.Core.Logic.{◌⊎◌, inl, inr, ⊎_elim}
use mathlib.Core.Bool.{Bool, true, false}
use mathlib.Core.List.{List, [], ◌++◌}
use Prim.Native.Nat.{ℕ, ◌+◌, ◌-◌, ◌*◌, ◌/◌, ◌≤◌, ◌<◌}
use native.Mathlib.Omega.{arith}
use borrow.Author.Tests.{eq-eqb, ne_eqb, le-leb, lt-leb}
use borrow.Rule.Slice.PartMut.{put_mid}
use lib.ListN.{length, get_or, take, drop}
use lib.Dec.{leb, eqb}
use lib.Seq.{take_at, drop_at, drop-drop}
use Rattle.common.specs.Outcome.{Outcome, refused, found, need}
use Rattle.store_spec.specs.Store.{entry_at, total, done_of}
use Rattle.store_spec.specs.Owners.{half, part, own_entries, all_entries, Beside, OwnLeft, AllLeft, AllChanges}
use Rattle.store_spec.specs.Saved.{Scan, scan, fitting, load_on}
use Rattle.std.specs.Prelude.{Result, Ok, Err, Option, Some, None}
use Rattle.common.specs.declared.Refusal.{Refusal}
use Rattle.common.specs.Refusal.{number}
use Rattle.store_laws.proofs.Slots.{Lies}
use Rattle.store_laws.proofs.Halves.{half-same, own-left, other-left}
use Rattle.store_laws.proofs.Returns.{own-all}
use Rattle.store_laws.proofs.Scans.{all-many, Known, scan-or, first-bad, second-bad, both-good}
use Rattle.store_load.proofs.Steps.{given-left}
use Rattle.store_halves.proofs.Parts.{dir-is, buf-is, dir-many}
use Rattle.store_halves.specs.Half.{Ends}

-- ---- behind both halves
odd-stays : (h k : ℕ) (b b₁ b₂ : List ℕ) → k ≡ h → Beside 0 h b b₁ → Beside 1 k b₁ b₂ → drop (2 * h) b₂ ≡ drop (2 * h) b
unfolding Beside
odd-stays h k b b₁ b₂ e p q =
    let z : 1 * k + k ≡ 2 * h = omega arith in
    let y : 0 * h + h + h ≡ 2 * h = omega arith in
    ap (λ (n : ℕ). drop n b₂) (sym z) ∙ q.1 ∙ ap (λ (n : ℕ). drop n b₁) (z ∙ sym y)
    ∙ sym (drop-drop h (0 * h + h) b₁) ∙ ap (drop h) p.1 ∙ drop-drop h (0 * h + h) b ∙ ap (λ (n : ℕ). drop n b) y

-- ---- one half judged
module _ (s : List ℕ) (first h : ℕ) where
  pub ends-bad : scan s first [] 32 ≡ refused 42 → Ends s first h None
  unfolding Ends
  ends-bad e = inl e

  module _ (x : Scan) (ex : scan s first [] 32 ≡ found x) (t : ℕ) (et : t ≡ total x.held) where
    pub ends-over : h < t → Ends s first h None
    unfolding Ends
    ends-over l = inr (x, ex, omega arith)

    pub ends_at : (next : ℕ) → next ≡ x.next → t ≤ h → Ends s first h (Some next)
    unfolding Ends
    ends_at next en l = (x, ex, en, omega arith)

  ended-bad : Ends s first h None
      → (scan s first [] 32 ≡ refused 42) ⊎ ((x : Scan) × (scan s first [] 32 ≡ found x) × (h < total x.held))
  unfolding Ends
  ended-bad g = g

  pub ended : (next : ℕ) → Ends s first h (Some next)
      → (x : Scan) × (scan s first [] 32 ≡ found x) × (next ≡ x.next) × (total x.held ≤ h)
  unfolding Ends
  ended next g = g

-- ---- one half given its entries
pub gave : (o : ℕ) → o ≤ 1 → (dir buf dir' buf' D B : List ℕ) → length dir ≡ 128
    → length D ≡ length (take (o * 64 + 64 - o * 64) (drop (o * 64) dir))
    → length B
    ≡ length (take (o * (length buf / 2) + length buf / 2 - o * (length buf / 2)) (drop (o * (length buf / 2)) buf))
    → dir' ≡ put_mid (o * 64) (o * 64 + 64 - o * 64) dir D
    → buf' ≡ put_mid (o * (length buf / 2)) (o * (length buf / 2) + length buf / 2 - o * (length buf / 2)) buf B
    → (es : List (List ℕ)) → length es ≡ 32 → Lies 32 D B → ((j : ℕ) → j < 32 → entry_at D B j ≡ get_or es j [])
    → OwnLeft o (found es) dir buf dir' buf'
unfolding half
gave o small dir buf dir' buf' D B len lD lB ed eb es many lies at =
    let eD = lD ∙ ap length (dir-is dir o) in
    let eB = lB ∙ ap length (buf-is buf o) in
    own-left o small dir buf D B dir' buf' len eD eB ed eb (found es)
    (given-left 32 (part o 64 dir) (part o (half buf) buf) D B es eD eB (sym eD ∙ lD ∙ dir-many dir o small len) many
    lies at)

-- ---- both halves judged
module _ (room : ℕ) (s : List ℕ) (r : Scan) where
  over_first : room < total (take 32 r.held) → fitting room s r ≡ refused 42
  unfolding fitting need
  over_first h = rw (lt-leb (total (take 32 r.held)) room h) (go (eqb r.next (length s)))
    where
      go : (a : Bool) → ◌≡◌ {A = Outcome (List (List ℕ))} (need a 42 (refused 42)) (refused 42)
      go true = refl
      go false = refl

  over-second : room < total (drop 32 r.held) → fitting room s r ≡ refused 42
  unfolding fitting need
  over-second h =
      rw (lt-leb (total (drop 32 r.held)) room h)
      (go (eqb r.next (length s)) (leb (total (take 32 r.held)) room))
    where
      go : (a b : Bool) → ◌≡◌ {A = Outcome (List (List ℕ))} (need a 42 (need b 42 (refused 42))) (refused 42)
      go true true = refl
      go true false = refl
      go false b = refl

  behind : (r.next ≡ length s → ⊥) → fitting room s r ≡ refused 42
  unfolding fitting need
  behind h = rw (ne_eqb r.next (length s) h)

  fits : r.next ≡ length s → total (take 32 r.held) ≤ room → total (drop 32 r.held) ≤ room
      → fitting room s r ≡ found r.held
  unfolding fitting need
  fits e h g =
      rw (
        eq-eqb r.next (length s) e,
        le-leb (total (take 32 r.held)) room h,
        le-leb (total (drop 32 r.held)) room g,
      )

module _ (dir : List ℕ) (room : ℕ) (s : List ℕ) where
  pub load-short : (length dir ≡ 128 → ⊥) → load_on dir room s ≡ refused 42
  unfolding load_on need
  load-short h = rw (ne_eqb _ _ h)

  module _ (len : length dir ≡ 128) where
    no-scan : scan s 0 [] 64 ≡ refused 42 → load_on dir room s ≡ refused 42
    unfolding load_on need
    no-scan e = rw (eq-eqb _ _ len, e)

    a-scan : (r : Scan) → scan s 0 [] 64 ≡ found r → load_on dir room s ≡ fitting room s r
    unfolding load_on need
    a-scan r e = rw (eq-eqb _ _ len, e)

    module _ (x : Scan) (ex : scan s 0 [] 32 ≡ found x) where
      full-first : room < total x.held → load_on dir room s ≡ refused 42
      full-first h = go (scan-or s x.next [] 32)
        where
          go : Known (scan s x.next [] 32) → load_on dir room s ≡ refused 42
          go (inl y) =
              a-scan _ (both-good s x ex y.0 y.1)
              ∙ over_first room s _ (rw (take_at x.held y.0.held 32 (all-many s 0 32 x ex)) h)
          go (inr e) = no-scan (second-bad s x ex e)

      module _ (y : Scan) (ey : scan s x.next [] 32 ≡ found y) where
        first-32 : take 32 (x.held ++ y.held) ≡ x.held
        first-32 = take_at x.held y.held 32 (all-many s 0 32 x ex)

        last-32 : drop 32 (x.held ++ y.held) ≡ y.held
        last-32 = drop_at x.held y.held 32 (all-many s 0 32 x ex)

        full-second : room < total y.held → load_on dir room s ≡ refused 42
        full-second h = a-scan _ (both-good s x ex y ey) ∙ over-second room s _ (rw last-32 h)

        not_end : (y.next ≡ length s → ⊥) → load_on dir room s ≡ refused 42
        not_end h = a-scan _ (both-good s x ex y ey) ∙ behind room s _ h

        both-fit : y.next ≡ length s → total x.held ≤ room → total y.held ≤ room
            → load_on dir room s ≡ found (x.held ++ y.held)
        both-fit e h g = a-scan _ (both-good s x ex y ey) ∙ fits room s _ e (rw first-32 h) (rw last-32 g)

    pub load-first : Ends s 0 room None → load_on dir room s ≡ refused 42
    load-first g =
        ⊎_elim (λ q. no-scan (first-bad s q)) (λ x. full-first x.0 x.1 x.2) (ended-bad s 0 room g)

    module _ (p : ℕ) (x : (x : Scan) × (scan s 0 [] 32 ≡ found x) × (p ≡ x.next) × (total x.held ≤ room)) where
      pub load-second : Ends s p room None → load_on dir room s ≡ refused 42
      load-second g =
          ⊎_elim (λ q. no-scan (second-bad s x.0 x.1 (rw x.2 at q)))
          (λ y. full-second x.0 x.1 y.0 (rw x.2 at y.1) y.2) (ended-bad s p room g)

      module _ (q : ℕ) (y : (y : Scan) × (scan s p [] 32 ≡ found y) × (q ≡ y.next) × (total y.held ≤ room)) where
        pub load-behind : (q ≡ length s → ⊥) → load_on dir room s ≡ refused 42
        load-behind h = not_end x.0 x.1 y.0 (rw x.2 at y.1) (λ e. h (y.2 ∙ e))

        load_is : q ≡ length s → load_on dir room s ≡ found (x.0.held ++ y.0.held)
        load_is e = both-fit x.0 x.1 y.0 (rw x.2 at y.1) (sym y.2 ∙ e) x.3 y.3

        pub load-done : (buf dir₁ buf₁ dir' buf' : List ℕ) → q ≡ length s
            → OwnLeft 0 (found x.0.held) dir buf dir₁ buf₁ → OwnLeft 1 (found y.0.held) dir₁ buf₁ dir' buf'
            → AllChanges (load_on dir room s) dir buf dir' buf' (Ok tt)
        unfolding done_of AllLeft OwnLeft
        load-done buf dir₁ buf₁ dir' buf' e u v = record {
          says = rw (load_is e);
          left = rw (load_is e) (v.0 ∙ u.0, v.1 ∙ u.1, both, odd);
        }
          where
            stays : own_entries 0 dir' buf' ≡ found x.0.held
            stays = other-left 1 0 (found y.0.held) dir₁ buf₁ dir' buf' (λ q. omega arith) v ∙ u.2

            both : all_entries dir' buf' ≡ found (x.0.held ++ y.0.held)
            both = own-all dir' buf' x.0.held y.0.held stays v.2

            odd : drop (2 * half buf) buf' ≡ drop (2 * half buf) buf
            odd = odd-stays (half buf) (half buf₁) buf buf₁ buf' (half-same buf buf₁ u.1) u.4 v.4

-- ---- refused
pub all-refused : (x : Outcome (List (List ℕ))) (dir buf : List ℕ) (m : Refusal) → x ≡ refused (number m)
    → AllChanges x dir buf dir buf (Err m)
unfolding done_of AllLeft
all-refused x dir buf m e = record { says = rw e; left = rw e (refl, refl) }
